-- An end reads the pieces of a message as `coding` does, and they are on a lane as their headers say.
use Rattle.std.proofs.Common.{◌≡◌, ℕ, Bool, true, false, not, if◌then◌else◌, List, [], ◌∷◌, ◌++◌, map, Option, Some, None, refl, sym, ap, subst, ◌∙◌, append-nil, append_assoc}
use Rattle.std.specs.List.{flat_map}
use Rattle.std.proofs.lemmas.Grind.{flat_map-append}
use Rattle.giop_cdr.specs.declared.order.Order.{Order}
use Rattle.giop_cdr.specs.declared.order.Order.TheVariants.{Big, Little}
use Rattle.giop_types.specs.declared.interfaces.interface.Interface.{Interface}
use Rattle.giop_frag.specs.Gathered.{Pieces, same_order}
use Rattle.giop_msg.specs.Cut.{IsCut, continued, joined}
use Rattle.giop_msg.specs.declared.kind.Kind.{Kind}
use Rattle.giop_msg.specs.declared.kind.Kind.TheVariants as message
use Rattle.giop_msg.specs.declared.messages.reply.Reply.{Reply}
use Rattle.giop_msg.specs.declared.messages.request.Request.{Request}
use Rattle.giop_msg.specs.declared.msg.Msg.{Msg}
use Rattle.giop_msg.specs.declared.version.Version.{Version}
use Rattle.giop_msg.specs.Locate.{AnyLocateRequest}
use Rattle.giop_calls.specs.Lane.{Continues, Cut, Opens, fragments, is_last, kind_of, pieces_of, version_of}
use Rattle.giop_calls.specs.declared.client.call.Call.{Call as Asked}
use Rattle.giop_calls.specs.declared.client.call.Call.TheVariants as asked
use Rattle.giop_calls.specs.declared.client.entry.ClientEntry.{ClientEntry}
use Rattle.giop_calls.specs.declared.client.entry.ClientEntry.TheVariants as client_entry
use Rattle.giop_calls.specs.declared.client.event.ClientEvent.TheVariants as at_client
use Rattle.giop_calls.specs.declared.kind.CallKind.{CallKind}
use Rattle.giop_calls.specs.declared.kind.CallKind.TheVariants as kind
use Rattle.giop_calls.specs.declared.server.entry.ServerEntry.{ServerEntry}
use Rattle.giop_calls.specs.declared.server.entry.ServerEntry.TheVariants as server_entry
use Rattle.giop_calls.specs.declared.server.event.ServerEvent.TheVariants as at_server
use Rattle.giop_end.specs.declared.acts.form.Form.{Form}
use Rattle.giop_table.specs.declared.plan.Planned.{Planned}
use Rattle.giop_table.specs.CallTable.{Call, First, Hears, More, Nothing, brought}
use Rattle.giop_session.specs.Items.Carries.{IsSeries}
use Rattle.giop_session.specs.Items.ClientCarries.{replies}
use Rattle.giop_end.specs.Hearing.ClientHears as client
use Rattle.giop_end.specs.Hearing.Pieces as joining
use Rattle.giop_end.specs.Hearing.ClientHears.{awaited, client_act, heard_reply}
use Rattle.giop_session.specs.Worlds.Coding.{coding, kind_asked, last_piece, read_call, read_reply}
use Rattle.giop_end.specs.Hearing.Decoding.{heard_call}
use Rattle.giop_end.specs.Hearing.Heard.{behind_id, silently}
use Rattle.giop_session.specs.Worlds.LaneAtEnds.{carried, gathered_in, gathers, seen, seen_as}
use Rattle.giop_session.specs.Worlds.OwnLane.{PlansCall, PlansLocated, PlansReply, sends_cut}
use Rattle.giop_end.specs.Acts.Sent.{IsSent, sends_one}
use Rattle.giop_end.specs.Acts.ServerAnswers.{located}
use Rattle.giop_session.specs.Items.ServerCarries.{asks}
use Rattle.giop_end.specs.Hearing.ServerHears as server
use Rattle.giop_end.specs.Hearing.ServerHears.{server_act}
use Rattle.giop_session.proofs.OnLanes.CodingLemmas.{put_of, same_piece}
use Rattle.giop_session.proofs.OnItems.CutItemLemmas.{series}

-- ---- the joined octets of pieces, and of one more behind them

last_is : (first m : Msg) (rest : List Msg) → last_piece first (rest ++ m ∷ []) ≡ m
last_is first m [] = refl
last_is first m (n ∷ rest) = last_is n m rest

joined_is : (first m : Msg) (rest : List Msg) → joined (first ∷ rest) ++ behind_id m ≡ joined (first ∷ rest ++ m ∷ [])
joined_is first m rest =
    let others = flat_map continued rest in
    append_assoc first.payload others (behind_id m)
    ∙ ap (λ octets. first.payload ++ octets)
    (ap (λ octets. others ++ octets) (sym (append-nil (continued m))) ∙ sym (flat_map-append continued rest (m ∷ [])))

asked_as : (k : CallKind) → kind_asked (asks k) ≡ k
asked_as kind.Request = refl
asked_as kind.Locate = refl

same_is : (order : Order) → same_order order order ≡ true
same_is Big = refl
same_is Little = refl

pub not_more : {A : Type 0} (more : Bool) (one other : A) → more ≡ false → (if more then one else other) ≡ other
not_more true one other is = absurd cc
not_more false one other is = refl

pub more_is : {A : Type 0} (more : Bool) (one other : A) → more ≡ true → (if more then one else other) ≡ one
more_is true one other is = refl
more_is false one other is = absurd cc

-- what has come of a message by its first piece, and by one more
pub begun : (m : Msg) (pieces : Option Pieces) → brought (First m.order m.payload) pieces ≡ gathered_in (record { first = m; rest = [] })
begun m pieces = ap (λ octets. Some (record { order = m.order; octets = octets })) (sym (append-nil m.payload))

pub longer : (cut : Cut) (m : Msg) → brought (More (behind_id m)) (gathered_in cut) ≡ gathered_in (record cut { rest = cut.rest ++ m ∷ [] })
longer cut m = ap (λ octets. Some (record { order = cut.first.order; octets = octets })) (joined_is cut.first m cut.rest)

-- ---- a server's end

whole_read : (interface : Interface) (k : CallKind) (m : Msg) → m.kind ≡ asks k
    → heard_call interface k m.version m.order m.payload ≡ read_call interface (m ∷ [])
whole_read interface k m is = sym (λ i. heard_call interface ((ap kind_asked is ∙ asked_as k) i) m.version m.order (append-nil m.payload i))

whole_act : (interface : Interface) (k : CallKind) (m : Msg) (call : Call ServerEntry)
    → server.act_by_kind interface m call (asks k) ≡ server.comes interface k m
whole_act interface kind.Request m call = refl
whole_act interface kind.Locate m call = refl

pub whole_call : (interface : Interface) (k : CallKind) (m : Msg) (call : Call ServerEntry) → m.kind ≡ asks k → m.more ≡ false
    → server_act interface m call ≡ Hears (silently (at_server.Whole ((coding interface).read_call (m ∷ [])))) Nothing
whole_call interface k m call is more =
    ap (server.act_by_kind interface m call) is
    ∙ whole_act interface k m call
    ∙ not_more m.more _ _ more
    ∙ ap (λ heard. Hears (silently (at_server.Whole heard)) Nothing) (whole_read interface k m is)

pub first_call : (interface : Interface) (k : CallKind) (m : Msg) (call : Call ServerEntry) → m.kind ≡ asks k → m.more ≡ true
    → server_act interface m call ≡ Hears (silently (at_server.First k)) (First m.order m.payload)
first_call interface k m call is more =
    ap (server.act_by_kind interface m call) is ∙ whole_act interface k m call ∙ more_is m.more _ _ more

pub more_call : (interface : Interface) (k : CallKind) (cut : Cut) (m : Msg) (unsent : List Msg) → m.kind ≡ message.Fragment → m.more ≡ true
    → m.order ≡ cut.first.order
    → server_act interface m (gathers (server_entry.Gathering k) unsent cut) ≡ Hears (silently (at_server.More true)) (More (behind_id m))
more_call interface k cut m unsent fragment more order =
    ap (server.act_by_kind interface m (gathers (server_entry.Gathering k) unsent cut)) fragment
    ∙ ap (λ same. joining.continues server.server_pieces interface m (if same then Some (k, joined (pieces_of cut)) else None))
    (ap (λ one. same_order one cut.first.order) order ∙ same_is cut.first.order)
    ∙ more_is m.more _ _ more

pub last_call : (interface : Interface) (k : CallKind) (cut : Cut) (m : Msg) (unsent : List Msg) → cut.first.kind ≡ asks k
    → m.kind ≡ message.Fragment → m.more ≡ false → m.order ≡ cut.first.order
    → server_act interface m (gathers (server_entry.Gathering k) unsent cut)
    ≡ Hears (silently (at_server.Last true ((coding interface).read_call (pieces_of cut ++ m ∷ [])))) (More (behind_id m))
last_call interface k cut m unsent is fragment more order =
    let read : heard_call interface k m.version m.order (joined (pieces_of cut) ++ behind_id m) ≡ read_call interface (pieces_of cut ++ m ∷ []) =
    (λ i. heard_call interface (sym (ap kind_asked is ∙ asked_as k) i) (sym (last_is cut.first m cut.rest) i).version
    (sym (last_is cut.first m cut.rest) i).order (joined_is cut.first m cut.rest i)) in
    ap (server.act_by_kind interface m (gathers (server_entry.Gathering k) unsent cut)) fragment
    ∙ ap (λ same. joining.continues server.server_pieces interface m (if same then Some (k, joined (pieces_of cut)) else None))
    (ap (λ one. same_order one cut.first.order) order ∙ same_is cut.first.order)
    ∙ not_more m.more _ _ more
    ∙ ap (λ heard. Hears (silently (at_server.Last true heard)) (More (behind_id m))) read

-- ---- a client's end

pub answer_act : (interface : Interface) (k : CallKind) (m : Msg) (call : Call ClientEntry)
    → client.act_by_kind interface m call (replies k) ≡ client.comes interface k m (awaited k m.version call.slot)
answer_act interface kind.Request m call = refl
answer_act interface kind.Locate m call = refl

pub whole_reply : (interface : Interface) (k : CallKind) (q : Asked) (m : Msg) (call : Call ClientEntry) → m.kind ≡ replies k → m.more ≡ false
    → awaited k m.version call.slot ≡ Some q
    → client_act interface m call ≡ Hears (silently (at_client.Whole k m.version ((coding interface).read_reply q (m ∷ [])))) Nothing
whole_reply interface k q m call is more waits =
    ap (client.act_by_kind interface m call) is
    ∙ answer_act interface k m call
    ∙ ap (client.comes interface k m) waits
    ∙ not_more m.more _ _ more
    ∙ ap (λ octets. Hears (silently (at_client.Whole k m.version (heard_reply interface q m.version m.order octets))) Nothing) (sym (append-nil m.payload))

pub first_reply : (interface : Interface) (k : CallKind) (q : Asked) (m : Msg) (call : Call ClientEntry) → m.kind ≡ replies k → m.more ≡ true
    → awaited k m.version call.slot ≡ Some q
    → client_act interface m call ≡ Hears (silently (at_client.First k m.version)) (First m.order m.payload)
first_reply interface k q m call is more waits =
    ap (client.act_by_kind interface m call) is ∙ answer_act interface k m call ∙ ap (client.comes interface k m) waits ∙ more_is m.more _ _ more

pub more_reply : (interface : Interface) (q : Asked) (cut : Cut) (m : Msg) (unsent : List Msg) → m.kind ≡ message.Fragment → m.more ≡ true
    → m.order ≡ cut.first.order
    → client_act interface m (gathers (client_entry.Gathering q) unsent cut) ≡ Hears (silently (at_client.More true)) (More (behind_id m))
more_reply interface q cut m unsent fragment more order =
    ap (client.act_by_kind interface m (gathers (client_entry.Gathering q) unsent cut)) fragment
    ∙ ap (λ same. joining.continues client.client_pieces interface m (if same then Some (q, joined (pieces_of cut)) else None))
    (ap (λ one. same_order one cut.first.order) order ∙ same_is cut.first.order)
    ∙ more_is m.more _ _ more

pub last_reply : (interface : Interface) (q : Asked) (cut : Cut) (m : Msg) (unsent : List Msg) → m.kind ≡ message.Fragment → m.more ≡ false
    → m.order ≡ cut.first.order
    → client_act interface m (gathers (client_entry.Gathering q) unsent cut)
    ≡ Hears (silently (at_client.Last true ((coding interface).read_reply q (pieces_of cut ++ m ∷ [])))) (More (behind_id m))
last_reply interface q cut m unsent fragment more order =
    let read : heard_reply interface q m.version m.order (joined (pieces_of cut) ++ behind_id m) ≡ read_reply interface q (pieces_of cut ++ m ∷ []) =
    (λ i. heard_reply interface q (sym (last_is cut.first m cut.rest) i).version (sym (last_is cut.first m cut.rest) i).order
    (joined_is cut.first m cut.rest i)) in
    ap (client.act_by_kind interface m (gathers (client_entry.Gathering q) unsent cut)) fragment
    ∙ ap (λ same. joining.continues client.client_pieces interface m (if same then Some (q, joined (pieces_of cut)) else None))
    (ap (λ one. same_order one cut.first.order) order ∙ same_is cut.first.order)
    ∙ not_more m.more _ _ more
    ∙ ap (λ heard. Hears (silently (at_client.Last true heard)) (More (behind_id m))) read

-- ---- what is cut, as a lane carries it

seen_is : (m : Msg) (k : Kind) (version : Version) (more : Bool) → m.kind ≡ k → m.version ≡ version → m.more ≡ more
    → seen m ≡ seen_as k version more m
seen_is m k version more kinds versions mores = λ i. seen_as (kinds i) (versions i) (mores i) m

fragments_seen : (m : Msg) (messages : List Msg) (version : Version) (order : Order)
    → IsSeries message.Fragment version order false (m ∷ messages) → map seen (m ∷ messages) ≡ fragments (m ∷ messages)
fragments_seen m [] version order is =
    ap (λ one. one ∷ []) (seen_is m message.Fragment version false (ap (λ n. n.kind) is) (ap (λ n. n.version) is) (ap (λ n. n.more) is))
fragments_seen m (n ∷ messages) version order (is, are) =
    ap (λ one. one ∷ map seen (n ∷ messages))
    (seen_is m message.Fragment version true (ap (λ n. n.kind) is) (ap (λ n. n.version) is) (ap (λ n. n.more) is))
    ∙ ap (λ more. Continues false m ∷ more) (fragments_seen n messages version order are)

series_seen : (m : Msg) (messages : List Msg) (k : Kind) (version : Version) (order : Order) → IsSeries k version order false (m ∷ messages)
    → map seen (m ∷ messages) ≡ seen_as k version (not (is_last messages)) m ∷ fragments messages
series_seen m [] k version order is =
    ap (λ one. one ∷ []) (seen_is m k version false (ap (λ n. n.kind) is) (ap (λ n. n.version) is) (ap (λ n. n.more) is))
series_seen m (n ∷ messages) k version order (is, are) =
    ap (λ one. one ∷ map seen (n ∷ messages))
    (seen_is m k version true (ap (λ n. n.kind) is) (ap (λ n. n.version) is) (ap (λ n. n.more) is))
    ∙ ap (λ more. seen_as k version true m ∷ more) (fragments_seen n messages version order are)

not_not : (last : Bool) → not (not last) ≡ last
not_not true = refl
not_not false = refl

-- which message opens a lane of a kind
opens_seen : (k : CallKind) (of : Kind) (version : Version) (cut : Cut) (order : Order)
    → ((more : Bool) (m : Msg) → seen_as of version more m ≡ Opens k version (not more) m)
    → IsSeries of version order false (pieces_of cut) → map seen (pieces_of cut) ≡ carried k version cut
opens_seen k of version cut order opens are =
    series_seen cut.first cut.rest of version order are
    ∙ ap (λ one. one ∷ fragments cut.rest)
    (opens (not (is_last cut.rest)) cut.first ∙ ap (λ last. Opens k version last cut.first) (not_not (is_last cut.rest)))

-- what is sent is what was cut
sent_seen : {V : Type 0} (k : CallKind) (of : Kind) (version : Version) (form : Form) (octets : List ℕ) (event : ℕ → V) (cut : Cut)
    → ((more : Bool) (m : Msg) → seen_as of version more m ≡ Opens k version (not more) m)
    → IsSent version of form octets event (sends_cut event cut) → map seen (pieces_of cut) ≡ carried k version cut
sent_seen {V} k of version form octets event cut opens (messages, is, planned) =
    opens_seen k of version cut form.order opens
    (series (pieces_of cut) version of form.order octets form.piece
    (subst (IsCut version of form.order octets form.piece) (sym (ap (λ (one : Planned V). put_of one.plan) planned)) is))

pub call_seen : (interface : Interface) (entry : Option ClientEntry) (call : Asked) (cut : Cut)
    → PlansCall interface entry call (sends_cut (at_client.Call call) cut) → map seen (pieces_of cut) ≡ carried (kind_of call) (version_of call) cut
call_seen interface entry (asked.Request q) cut is =
    sent_seen kind.Request message.Request q.head.version is.form _ (at_client.Call (asked.Request q)) cut (λ more m. refl) is.plans.sent
call_seen interface entry (asked.Locate q) cut is =
    sent_seen kind.Locate message.LocateRequest q.version is.form _ (at_client.Call (asked.Locate q)) cut (λ more m. refl) is.plans.sent

pub reply_seen : (interface : Interface) (q : Request) (r : Reply) (cut : Cut) → PlansReply interface q r (sends_cut (at_server.Answer r) cut)
    → map seen (pieces_of cut) ≡ carried kind.Request r.version cut
reply_seen interface q r cut is = sent_seen kind.Request message.Reply r.version is.form _ (at_server.Answer r) cut (λ more m. refl) is.plans.sent

pub located_seen : (interface : Interface) (q : AnyLocateRequest) (here : Bool) (piece : Msg)
    → PlansLocated q here (sends_one (at_server.AnswerLocate here) piece) → seen piece ≡ Opens kind.Locate q.version true piece
located_seen interface q here piece (id, order, (small, plans)) =
    subst (λ one. seen one ≡ Opens kind.Locate q.version true one)
    (same_piece (at_server.AnswerLocate here) piece (located q.version order id here) plans) refl
