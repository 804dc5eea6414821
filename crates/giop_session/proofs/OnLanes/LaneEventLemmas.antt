-- What a message does to a call at an end is the event of its lane.
use Rattle.std.proofs.Common.{◌≡◌, Bool, true, false, not, List, [], ◌∷◌, ◌++◌, Some, refl, sym, ap, ◌∙◌}
use Rattle.giop_cdr.specs.declared.order.Order.{Order}
use Rattle.giop_cdr.specs.declared.order.Order.TheVariants.{Big, Little}
use Rattle.giop_types.specs.declared.interfaces.interface.Interface.{Interface}
use Rattle.giop_msg.specs.declared.kind.Kind.TheVariants as message
use Rattle.giop_msg.specs.declared.msg.Msg.{Msg}
use Rattle.giop_msg.specs.declared.version.Version.{Version}
use Rattle.giop_calls.specs.Lane.{Continues, Cut, Opens, Piece, Standing, client_event, in_order, pieces_of, server_event}
use Rattle.giop_calls.specs.Lane as lanes
use Rattle.giop_calls.specs.Messages.{is_same_order}
use Rattle.giop_calls.specs.declared.client.call.Call.{Call as Asked}
use Rattle.giop_calls.specs.declared.client.entry.ClientEntry.{ClientEntry}
use Rattle.giop_calls.specs.declared.client.entry.ClientEntry.TheVariants as client_entry
use Rattle.giop_calls.specs.declared.client.event.ClientEvent.{ClientEvent}
use Rattle.giop_calls.specs.declared.client.event.ClientEvent.TheVariants as at_client
use Rattle.giop_calls.specs.declared.kind.CallKind.{CallKind}
use Rattle.giop_calls.specs.declared.kind.CallKind.TheVariants as kind
use Rattle.giop_calls.specs.declared.server.entry.ServerEntry.{ServerEntry}
use Rattle.giop_calls.specs.declared.server.entry.ServerEntry.TheVariants as server_entry
use Rattle.giop_calls.specs.declared.server.event.ServerEvent.TheVariants as at_server
use Rattle.giop_table.specs.CallTable.{Brings, Call, First, Hears, More, Nothing}
use Rattle.giop_session.specs.Items.ClientCarries.{replies}
use Rattle.giop_end.specs.Hearing.ClientHears.{awaited, client_act}
use Rattle.giop_session.specs.Worlds.Coding.{coding}
use Rattle.giop_end.specs.Hearing.Heard.{behind_id, silently}
use Rattle.giop_session.specs.Worlds.LaneAtEnds.{gathers, seen, seen_as}
use Rattle.giop_session.specs.Items.ServerCarries.{asks}
use Rattle.giop_end.specs.Hearing.ServerHears.{server_act}
use Rattle.giop_session.proofs.OnLanes.LaneAtEndsLemmas as ends

-- ---- a message as its lane has it

asks_seen : (k : CallKind) (version : Version) (more : Bool) (m : Msg) → seen_as (asks k) version more m ≡ Opens k version (not more) m
asks_seen kind.Request version more m = refl
asks_seen kind.Locate version more m = refl

replies_seen : (k : CallKind) (version : Version) (more : Bool) (m : Msg) → seen_as (replies k) version more m ≡ Opens k version (not more) m
replies_seen kind.Request version more m = refl
replies_seen kind.Locate version more m = refl

pub asked_seen : (k : CallKind) (m : Msg) (more : Bool) → m.kind ≡ asks k → m.more ≡ more → seen m ≡ Opens k m.version (not more) m
asked_seen k m more is there = (λ i. seen_as (is i) m.version (there i) m) ∙ asks_seen k m.version more m

pub replied_seen : (k : CallKind) (m : Msg) (more : Bool) → m.kind ≡ replies k → m.more ≡ more → seen m ≡ Opens k m.version (not more) m
replied_seen k m more is there = (λ i. seen_as (is i) m.version (there i) m) ∙ replies_seen k m.version more m

pub fragment_seen : (m : Msg) (more : Bool) → m.kind ≡ message.Fragment → m.more ≡ more → seen m ≡ Continues (not more) m
fragment_seen m more is there = λ i. seen_as (is i) m.version (there i) m

own_order : (order : Order) → is_same_order order order ≡ true
own_order Big = refl
own_order Little = refl

ordered : (cut : Cut) (m : Msg) → m.order ≡ cut.first.order → in_order (pieces_of cut) m ≡ true
ordered cut m is = ap (λ order. is_same_order order cut.first.order) is ∙ own_order cut.first.order

-- ---- at a server

pub server_opens : (interface : Interface) (k : CallKind) (m : Msg) (call : Call ServerEntry) (pieces : List Piece) → m.kind ≡ asks k
    → (brings : Brings) × (server_act interface m call ≡ Hears (silently (server_event (coding interface) pieces (seen m))) brings)
server_opens interface k m call pieces is = by_more m.more refl
  where
    by_more : (more : Bool) → m.more ≡ more
        → (brings : Brings) × (server_act interface m call ≡ Hears (silently (server_event (coding interface) pieces (seen m))) brings)
    by_more true there = (
      First m.order m.payload,
      ends.first_call interface k m call is there
          ∙ ap (λ one. Hears (silently (server_event (coding interface) pieces one)) (First m.order m.payload)) (sym (asked_seen k m true is there)),
    )
    by_more false there = (
      Nothing,
      ends.whole_call interface k m call is there
          ∙ ap (λ one. Hears (silently (server_event (coding interface) pieces one)) Nothing) (sym (asked_seen k m false is there)),
    )

pub server_continues : (interface : Interface) (k : CallKind) (cut : Cut) (m : Msg) (unsent : List Msg) → cut.first.kind ≡ asks k
    → m.kind ≡ message.Fragment → m.order ≡ cut.first.order
    → server_act interface m (gathers (server_entry.Gathering k) unsent cut)
    ≡ Hears (silently (server_event (coding interface) (pieces_of cut) (seen m))) (More (behind_id m))
server_continues interface k cut m unsent begins is order = by_more m.more refl
  where
    by_more : (more : Bool) → m.more ≡ more
        → server_act interface m (gathers (server_entry.Gathering k) unsent cut)
        ≡ Hears (silently (server_event (coding interface) (pieces_of cut) (seen m))) (More (behind_id m))
    by_more true there =
        ends.more_call interface k cut m unsent is there order
        ∙ ap (λ same. Hears (silently (at_server.More same)) (More (behind_id m))) (sym (ordered cut m order))
        ∙ ap (λ one. Hears (silently (server_event (coding interface) (pieces_of cut) one)) (More (behind_id m))) (sym (fragment_seen m true is there))
    by_more false there =
        ends.last_call interface k cut m unsent begins is there order
        ∙ ap (λ same. Hears (silently (at_server.Last same ((coding interface).read_call (pieces_of cut ++ m ∷ [])))) (More (behind_id m)))
        (sym (ordered cut m order))
        ∙ ap (λ one. Hears (silently (server_event (coding interface) (pieces_of cut) one)) (More (behind_id m))) (sym (fragment_seen m false is there))

pub server_stops : (interface : Interface) (m : Msg) (call : Call ServerEntry) (pieces : List Piece) → m.kind ≡ message.CancelRequest
    → server_act interface m call ≡ Hears (silently (server_event (coding interface) pieces (seen m))) Nothing
server_stops interface m call pieces is = rw is refl

-- ---- at a client

pub client_opens : (interface : Interface) (k : CallKind) (q : Asked) (m : Msg) (call : Call ClientEntry) (c : Standing ClientEntry)
    → m.kind ≡ replies k → awaited k m.version call.slot ≡ Some q → c.entry ≡ Some (client_entry.Waiting q)
    → (event : ClientEvent) × (brings : Brings) × (client_event (coding interface) c (seen m) ≡ Some event)
    × (client_act interface m call ≡ Hears (silently event) brings)
client_opens interface k q m call c is waits stands = by_more m.more refl
  where
    by_more : (more : Bool) → m.more ≡ more
        → (event : ClientEvent) × (brings : Brings) × (client_event (coding interface) c (seen m) ≡ Some event)
        × (client_act interface m call ≡ Hears (silently event) brings)
    by_more true there = (
      at_client.First k m.version,
      First m.order m.payload,
      ap (client_event (coding interface) c) (replied_seen k m true is there),
      ends.first_reply interface k q m call is there waits,
    )
    by_more false there = (
      at_client.Whole k m.version ((coding interface).read_reply q (m ∷ [])),
      Nothing,
      ap (client_event (coding interface) c) (replied_seen k m false is there)
          ∙ ap (λ entry. Some (at_client.Whole k m.version (lanes.reading (coding interface) entry (m ∷ [])))) stands,
      ends.whole_reply interface k q m call is there waits,
    )

pub client_continues : (interface : Interface) (q : Asked) (cut : Cut) (m : Msg) (unsent : List Msg) (c : Standing ClientEntry)
    → m.kind ≡ message.Fragment → m.order ≡ cut.first.order → c.entry ≡ Some (client_entry.Gathering q) → c.pieces ≡ pieces_of cut
    → (event : ClientEvent) × (client_event (coding interface) c (seen m) ≡ Some event)
    × (client_act interface m (gathers (client_entry.Gathering q) unsent cut) ≡ Hears (silently event) (More (behind_id m)))
client_continues interface q cut m unsent c is order stands came = by_more m.more refl
  where
    same : in_order c.pieces m ≡ true
    same = ap (λ pieces. in_order pieces m) came ∙ ordered cut m order

    by_more : (more : Bool) → m.more ≡ more
        → (event : ClientEvent) × (client_event (coding interface) c (seen m) ≡ Some event)
        × (client_act interface m (gathers (client_entry.Gathering q) unsent cut) ≡ Hears (silently event) (More (behind_id m)))
    by_more true there = (
      at_client.More true,
      ap (client_event (coding interface) c) (fragment_seen m true is there) ∙ ap (λ same. Some (at_client.More same)) same,
      ends.more_reply interface q cut m unsent is there order,
    )
    by_more false there = (
      at_client.Last true ((coding interface).read_reply q (pieces_of cut ++ m ∷ [])),
      ap (client_event (coding interface) c) (fragment_seen m false is there)
          ∙ (λ i. Some (at_client.Last (same i) (lanes.reading (coding interface) (stands i) (came i ++ m ∷ [])))),
      ends.last_reply interface q cut m unsent is there order,
    )
