-- What the session's own ends plan to send is read back: `coding` is a codec of the lane's law.
use Rattle.std.proofs.Common.{◌≡◌, ℕ, ◌<◌, ◌≤◌, ◌^◌, ◌&&◌, nat_lt, not, if◌then◌else◌, Bool, true, false, List, [], ◌∷◌, length, Option, Some, None, refl, sym, ap, subst, ◌∙◌, append-nil, arith}
use Rattle.std.proofs.lemmas.Bool.{and_parts}
use Rattle.std.proofs.lemmas.Bool.Decides.{nat_tests}
use Rattle.std.specs.Option.{option_or}
use Rattle.giop_cdr.specs.Ending.{ended, leads, made_of, remainder}
use Rattle.giop_cdr.specs.Layout.{field, gives, such, number}
use Rattle.giop_cdr.specs.declared.order.Order.{Order}
use Rattle.giop_types.specs.declared.interfaces.interface.Interface.{Interface}
use Rattle.giop_msg.specs.Cut.{CanCut, IsCut, is_continued}
use Rattle.giop_msg.specs.Joined.{AreWhole}
use Rattle.giop_msg.specs.Locate.{AnyLocateRequest, locate_reply_head, locate_request, locate_status}
use Rattle.giop_msg.specs.Messages.LocateReply.{locate_reply}
use Rattle.giop_msg.specs.Messages.Outcome.{joined_into}
use Rattle.giop_msg.specs.Messages.Reply.{reply}
use Rattle.giop_msg.specs.Messages.Request.{request}
use Rattle.giop_msg.specs.declared.kind.Kind.{Kind}
use Rattle.giop_msg.specs.declared.kind.Kind.TheVariants as message
use Rattle.giop_msg.specs.declared.messages.locate_reply.LocateReply.{LocateReply}
use Rattle.giop_msg.specs.declared.messages.reply.Reply.{Reply}
use Rattle.giop_msg.specs.declared.messages.request.Request.{Request}
use Rattle.giop_msg.specs.declared.msg.Msg.{Msg}
use Rattle.giop_msg.specs.declared.version.Version.{Version}
use Rattle.giop_msg.specs.declared.version.Version.TheVariants.{V10, V11, V12}
use Rattle.giop_msg.proofs.JoinedLemmas.{whole_only}
use Rattle.giop_msg.proofs.LocateLemmas.{locate_request_is}
use Rattle.giop_msg.proofs.WholeMessages.LawLemmas.{read_back, whole_of}
use Rattle.giop_msg.proofs.WholeMessages.LocateReplyLemmas.{locate_reply_is}
use Rattle.giop_msg.proofs.WholeMessages.ReplyLemmas.{reply_is}
use Rattle.giop_calls.specs.Lane.{Act, AreIn, Cut, CutsCall, CutsLocated, CutsReply, Lane, Piece, Runs, Suits, pieces_of}
use Rattle.giop_calls.specs.Lane as acts
use Rattle.giop_calls.specs.ClientTable.{is_free}
use Rattle.giop_calls.specs.declared.client.call.Call.{Call}
use Rattle.giop_calls.specs.declared.client.call.Call.TheVariants as asked
use Rattle.giop_calls.specs.declared.client.entry.ClientEntry.{ClientEntry}
use Rattle.giop_calls.specs.declared.client.event.ClientEvent.{ClientEvent}
use Rattle.giop_calls.specs.declared.client.event.ClientEvent.TheVariants as at_client
use Rattle.giop_calls.specs.declared.client.heard.HeardReply.TheVariants as answer
use Rattle.giop_calls.specs.declared.fault.CallFault.TheVariants.{IdInUse}
use Rattle.giop_calls.specs.declared.kind.CallKind.TheVariants as kind
use Rattle.giop_calls.specs.declared.server.event.ServerEvent.{ServerEvent}
use Rattle.giop_calls.specs.declared.server.event.ServerEvent.TheVariants as at_server
use Rattle.giop_calls.specs.declared.server.heard.HeardCall.TheVariants as heard
use Rattle.giop_end.specs.declared.acts.form.Form.{Form}
use Rattle.giop_table.specs.declared.plan.Plan.{Plan}
use Rattle.giop_table.specs.declared.plan.Plan.TheVariants.{Put, Next, Leave}
use Rattle.giop_table.specs.declared.plan.Planned.{Planned}
use Rattle.giop_session.specs.Items.Carries.{IsSeries}
use Rattle.giop_end.specs.Acts.ClientCalls.{begin_fault, is_locate_sendable, is_request_sendable, locate_octets, request_octets}
use Rattle.giop_end.specs.Hearing.ClientHears.{heard_reply}
use Rattle.giop_session.specs.Worlds.Coding.{coding, kind_asked, last_piece, read_call, read_reply}
use Rattle.giop_end.specs.Hearing.Decoding.{heard_call}
use Rattle.giop_end.specs.Acts.Form.{IsForm, is_sendable, largest}
use Rattle.giop_session.specs.Worlds.OwnLane.{IsOwn, OwnRuns, PlansCall, PlansLocated, PlansReply, sends_cut}
use Rattle.giop_end.specs.Acts.Refused.{unfit_unless}
use Rattle.giop_end.specs.Acts.Sent.{IsSent, sends_one}
use Rattle.giop_end.specs.Acts.ServerAnswers.{is_reply_sendable, located, reply_octets}
use Rattle.giop_session.proofs.OnItems.CutItemLemmas.{cut_series}

-- ---- the pieces of a series

-- they are in one byte order
series_in_order : (messages : List Msg) (kind : Kind) (version : Version) (order : Order) (more : Bool)
    → IsSeries kind version order more messages → AreIn order messages
series_in_order [] kind version order more are = absurd are
series_in_order (m ∷ []) kind version order more is = (ap (λ n. n.order) is, tt)
series_in_order (m ∷ n ∷ messages) kind version order more are =
    (ap (λ n. n.order) are.0, series_in_order (n ∷ messages) message.Fragment version order more are.1)

-- the last is in their version and byte order
record EndsIn (version : Version) (order : Order) (m : Msg) : Type 0 where
  version_is : m.version ≡ version
  order_is : m.order ≡ order

series_ends : (m : Msg) (messages : List Msg) (kind : Kind) (version : Version) (order : Order) (more : Bool)
    → IsSeries kind version order more (m ∷ messages) → EndsIn version order (last_piece m messages)
series_ends m [] kind version order more is = record { version_is = ap (λ n. n.version) is; order_is = ap (λ n. n.order) is }
series_ends m (n ∷ messages) kind version order more are = series_ends n messages message.Fragment version order more are.1

-- the first is of their kind
series_begins : (m : Msg) (messages : List Msg) (kind : Kind) (version : Version) (order : Order) (more : Bool)
    → IsSeries kind version order more (m ∷ messages) → m.kind ≡ kind
series_begins m [] kind version order more is = ap (λ n. n.kind) is
series_begins m (n ∷ messages) kind version order more are = ap (λ n. n.kind) are.0

-- ---- what is cut

-- the pieces of octets that are cut: a first one and others, in one byte order, which a server reads
-- as these octets, and a client too
record AreRead (interface : Interface) (version : Version) (kind : Kind) (order : Order) (octets : List ℕ) (cut : Cut) : Type 0 where
  one_order : AreIn order (pieces_of cut)
  as_call : read_call interface (pieces_of cut) ≡ heard_call interface (kind_asked kind) version order octets
  as_reply : (call : Call) → read_reply interface call (pieces_of cut) ≡ heard_reply interface call version order octets

are_read : (interface : Interface) (version : Version) (kind : Kind) (order : Order) (octets : List ℕ) (piece : ℕ) (cut : Cut)
    → CanCut kind octets piece → IsCut version kind order octets piece (pieces_of cut)
    → AreRead interface version kind order octets cut
are_read interface version kind order octets piece cut can is =
    let series = cut_series version kind order octets piece (pieces_of cut) can is in
    let begins = series_begins cut.first cut.rest kind version order false series.0 in
    let ends = series_ends cut.first cut.rest kind version order false series.0 in record {
      one_order = series_in_order (pieces_of cut) kind version order false series.0;
      as_call = λ i. heard_call interface (kind_asked (begins i)) (ends.version_is i) (ends.order_is i) (series.1 i);
      as_reply = λ call. λ i. heard_reply interface call (ends.version_is i) (ends.order_is i) (series.1 i);
    }

-- ---- what nothing refuses can be cut

none_of_either : {F : Type 0} (one other : Option F) → option_or one other ≡ None → other ≡ None
none_of_either None other none = none
none_of_either (Some fault) other none = absurd cc

none_is_fit : (fit : Bool) → unfit_unless fit ≡ None → fit ≡ true
none_is_fit true none = refl
none_is_fit false none = absurd cc

record IsSendable (fits : Bool) (octets : List ℕ) : Type 0 where
  fit : fits ≡ true
  id : 4 ≤ length octets
  short : length octets < 2 ^ 32

no_less : (n m : ℕ) → not (nat_lt n m) ≡ true → m ≤ n
no_less n m is = grind (arith, nat_tests)

pub less : (n m : ℕ) → nat_lt n m ≡ true → n < m
less n m is = grind (arith, nat_tests)

sendable : (room size : ℕ) (version : Version) (octets : List ℕ) (piece : ℕ) (fits : Bool)
    → (fits && is_sendable room size version (length octets) piece) ≡ true → IsSendable fits octets
sendable room size version octets piece fits is =
    let n = length octets in
    let whole = and_parts fits (is_sendable room size version n piece) is in
    let sized = and_parts (not (nat_lt n 4) && nat_lt n (2 ^ 32) && not (nat_lt room n)) (not (nat_lt size (largest version n piece))) whole.1 in
    let gathered = and_parts (not (nat_lt n 4) && nat_lt n (2 ^ 32)) (not (nat_lt room n)) sized.0 in
    let counted = and_parts (not (nat_lt n 4)) (nat_lt n (2 ^ 32)) gathered.0 in record {
      fit = whole.0;
      id = no_less n 4 counted.0;
      short = less n (2 ^ 32) counted.1;
    }

can_cut : (kind : Kind) (octets : List ℕ) (form : Form) (fits : Bool) → is_continued kind ≡ true → IsSendable fits octets → IsForm form
    → form.piece < 2 ^ 32 → CanCut kind octets form.piece
can_cut kind octets form fits continued is sized below = record {
  continued = continued;
  id = is.id;
  short = is.short;
  large = sized.large;
  fits = below;
  multiple = sized.multiple;
}

-- what is sent is a cut of octets that can be cut
pub record IsSentIn {V : Type 0} (version : Version) (kind : Kind) (form : Form) (octets : List ℕ) (fits : Bool) (event : ℕ → V)
    (planned : Planned V) : Type 0 where
  pub fit : fits ≡ true
  pub cut : Cut
  pub can : CanCut kind octets form.piece
  pub is_cut : IsCut version kind form.order octets form.piece (pieces_of cut)
  pub sent : planned ≡ sends_cut event cut

sent_in : {V : Type 0} (version : Version) (kind : Kind) (form : Form) (octets : List ℕ) (fits : Bool) (event : ℕ → V) (planned : Planned V)
    → is_continued kind ≡ true → IsSendable fits octets → IsForm form → form.piece < 2 ^ 32
    → IsSent version kind form octets event planned → IsSentIn version kind form octets fits event planned
sent_in version kind form octets fits event planned continued fit sized below ([], is, planned_so) = absurd is
sent_in version kind form octets fits event planned continued fit sized below (m ∷ messages, is, planned_so) = record {
  fit = fit.fit;
  cut = record { first = m; rest = messages };
  can = can_cut kind octets form fits continued fit sized below;
  is_cut = is;
  sent = planned_so;
}

pub request_sent : (interface : Interface) (entry : Option ClientEntry) (q : Request) (planned : Planned ClientEvent)
    (is : PlansCall interface entry (asked.Request q) planned)
    → IsSentIn q.head.version message.Request is.form (request_octets interface q is.form.order) ((request interface q.head.version).fits q)
    (at_client.Call (asked.Request q)) planned
request_sent interface entry q planned is =
    let version = q.head.version in
    let octets = request_octets interface q is.form.order in
    let fits = (request interface version).fits q in
    let whole = none_of_either (begin_fault interface entry q)
    (unfit_unless (is_request_sendable interface is.limits q is.form)) is.unrefused in
    let fit = sendable is.limits.gathered is.limits.message version octets is.form.piece fits
    (none_is_fit (is_request_sendable interface is.limits q is.form) whole) in
    sent_in version message.Request is.form octets fits (at_client.Call (asked.Request q)) planned refl fit is.is_form is.plans.in_range.piece is.plans.sent

pub locate_sent : (interface : Interface) (entry : Option ClientEntry) (q : AnyLocateRequest) (planned : Planned ClientEvent)
    (is : PlansCall interface entry (asked.Locate q) planned)
    → IsSentIn q.version message.LocateRequest is.form (locate_octets q is.form.order) ((locate_request q.version).fits q)
    (at_client.Call (asked.Locate q)) planned
locate_sent interface entry q planned is =
    let version = q.version in
    let octets = locate_octets q is.form.order in
    let fits = (locate_request version).fits q in
    let whole = none_of_either (if is_free entry then None else Some IdInUse)
    (unfit_unless (is_locate_sendable is.limits q is.form)) is.unrefused in
    let fit = sendable is.limits.gathered is.limits.message version octets is.form.piece fits
    (none_is_fit (is_locate_sendable is.limits q is.form) whole) in
    sent_in version message.LocateRequest is.form octets fits (at_client.Call (asked.Locate q)) planned refl fit is.is_form is.plans.in_range.piece
    is.plans.sent

pub reply_sent : (interface : Interface) (q : Request) (r : Reply) (planned : Planned ServerEvent) (is : PlansReply interface q r planned)
    → IsSentIn r.version message.Reply is.form (reply_octets interface (Some q) r is.form.order) ((reply interface (Some q) r.version).fits r)
    (at_server.Answer r) planned
reply_sent interface q r planned is =
    let version = r.version in
    let octets = reply_octets interface (Some q) r is.form.order in
    let fits = (reply interface (Some q) version).fits r in
    let fit = sendable is.limits.gathered is.limits.message version octets is.form.piece fits
    (none_is_fit (is_reply_sendable interface is.limits (Some q) r is.form) is.unrefused) in
    sent_in version message.Reply is.form octets fits (at_server.Answer r) planned refl fit is.is_form is.plans.in_range.piece is.plans.sent

-- ---- calls

-- what was written of a Request is heard as it
request_heard : (interface : Interface) (version : Version) (order : Order) (q : Request)
    → (request interface version).fits q ≡ true → (request interface version).holds q
    → heard_call interface kind.Request version order ((request interface version).written q (joined_into order)).octets ≡ heard.Request q
request_heard interface version order q fits holds = rw (read_back interface version order q fits holds) refl

-- and of a LocateRequest
locate_heard : (interface : Interface) (version : Version) (order : Order) (q : AnyLocateRequest)
    → (locate_request version).fits q ≡ true → (locate_request version).holds q
    → heard_call interface kind.Locate version order ((locate_request version).written q (joined_into order)).octets ≡ heard.Locate q
locate_heard interface version order q fits holds =
    let octets = ((locate_request version).written q (joined_into order)).octets in
    let written = (locate_request_is version).written q (joined_into order) fits holds in
    let whole : AreWhole (locate_request version) order octets q =
    record { spells = subst (λ l. (locate_request version).spells order 12 q l) (sym written.octets) written.spells } in
    rw (whole_only (locate_request_is version) order octets q whole) refl

-- a call is planned to be sent in pieces that are read back as it
abbrev CallIsRead : Interface → Call → Planned ClientEvent → Type 0
CallIsRead interface call planned = (cut : Cut) × (planned ≡ sends_cut (at_client.Call call) cut)
    × CutsCall (coding interface) call (pieces_of cut)

request_read : (interface : Interface) (entry : Option ClientEntry) (q : Request) (planned : Planned ClientEvent)
    → PlansCall interface entry (asked.Request q) planned → CallIsRead interface (asked.Request q) planned
request_read interface entry q planned is =
    let version = q.head.version in
    let octets = request_octets interface q is.form.order in
    let sent = request_sent interface entry q planned is in
    let read = are_read interface version message.Request is.form.order octets is.form.piece sent.cut sent.can sent.is_cut in (
      sent.cut,
      sent.sent,
      record {
        order = is.form.order;
        one_order = read.one_order;
        read = read.as_call ∙ request_heard interface version is.form.order q sent.fit is.plans.in_range.holds;
      },
    )

locate_read : (interface : Interface) (entry : Option ClientEntry) (q : AnyLocateRequest) (planned : Planned ClientEvent)
    → PlansCall interface entry (asked.Locate q) planned → CallIsRead interface (asked.Locate q) planned
unfolding ended
locate_read interface entry q planned is =
    let version = q.version in
    let octets = locate_octets q is.form.order in
    let sent = locate_sent interface entry q planned is in
    let read = are_read interface version message.LocateRequest is.form.order octets is.form.piece sent.cut sent.can sent.is_cut in (
      sent.cut,
      sent.sent,
      record {
        order = is.form.order;
        one_order = read.one_order;
        read = read.as_call ∙ locate_heard interface version is.form.order q sent.fit is.plans.in_range.holds;
      },
    )

pub call_read : (interface : Interface) (entry : Option ClientEntry) (call : Call) (planned : Planned ClientEvent)
    → PlansCall interface entry call planned
    → (cut : Cut) × (planned ≡ sends_cut (at_client.Call call) cut) × CutsCall (coding interface) call (pieces_of cut)
call_read interface entry (asked.Request q) planned is = request_read interface entry q planned is
call_read interface entry (asked.Locate q) planned is = locate_read interface entry q planned is

-- ---- answers

-- what was written of a Reply is heard as it, by a client that asked so
reply_heard : (interface : Interface) (q : Request) (version : Version) (order : Order) (r : Reply)
    → (reply interface (Some q) version).fits r ≡ true → (reply interface (Some q) version).holds r
    → heard_reply interface (asked.Request q) version order ((reply interface (Some q) version).written r (joined_into order)).octets
    ≡ answer.Reply r
reply_heard interface q version order r fits holds = rw ((whole_of (reply_is interface (Some q) version)).back order r fits holds) refl

-- and of a LocateReply
located_heard : (interface : Interface) (q : AnyLocateRequest) (version : Version) (order : Order) (told : LocateReply)
    → (locate_reply version).fits told ≡ true → (locate_reply version).holds told
    → heard_reply interface (asked.Locate q) version order ((locate_reply version).written told (joined_into order)).octets ≡ answer.Locate told
located_heard interface q version order told fits holds = rw ((whole_of (locate_reply_is version)).back order told fits holds) refl

pub reply_read : (interface : Interface) (q : Request) (r : Reply) (planned : Planned ServerEvent)
    → PlansReply interface q r planned
    → (cut : Cut) × (planned ≡ sends_cut (at_server.Answer r) cut) × CutsReply (coding interface) q r (pieces_of cut)
reply_read interface q r planned is =
    let version = r.version in
    let octets = reply_octets interface (Some q) r is.form.order in
    let sent = reply_sent interface q r planned is in
    let read = are_read interface version message.Reply is.form.order octets is.form.piece sent.cut sent.can sent.is_cut in (
      sent.cut,
      sent.sent,
      record {
        order = is.form.order;
        one_order = read.one_order;
        read = read.as_reply (asked.Request q) ∙ reply_heard interface q version is.form.order r sent.fit is.plans.in_range.holds;
      },
    )

-- the LocateReply of an id, which says whether the target is here and no more
abbrev pub result_of : Version → ℕ → Bool → LocateReply
result_of version id here = record {
  head = record { version = version; id = id; status = if here then 1 else 0 };
  rest = [];
}

pub told_fits : (version : Version) (id : ℕ) (here : Bool) → (locate_reply version).fits (result_of version id here) ≡ true
told_fits V10 id true = unfold locate_reply leads made_of remainder locate_reply_head field gives locate_status such number in refl
told_fits V10 id false = unfold locate_reply leads made_of remainder locate_reply_head field gives locate_status such number in refl
told_fits V11 id true = unfold locate_reply leads made_of remainder locate_reply_head field gives locate_status such number in refl
told_fits V11 id false = unfold locate_reply leads made_of remainder locate_reply_head field gives locate_status such number in refl
told_fits V12 id true = unfold locate_reply leads made_of remainder locate_reply_head field gives locate_status such number in refl
told_fits V12 id false = unfold locate_reply leads made_of remainder locate_reply_head field gives locate_status such number in refl

status_small : (here : Bool) → (if here then 1 else 0) < 2 ^ 32
status_small true = omega arith
status_small false = omega arith

pub told_holds : (version : Version) (id : ℕ) (here : Bool) → id < 2 ^ 32 → (locate_reply version).holds (result_of version id here)
told_holds version id here small =
    unfold locate_reply leads made_of remainder locate_reply_head field gives locate_status such number in
    ((small, (status_small here, refl)), (refl, tt))

pub located_read : (interface : Interface) (q : AnyLocateRequest) (here : Bool) (planned : Planned ServerEvent)
    → PlansLocated q here planned
    → (piece : Piece) × (told : LocateReply) × (planned ≡ sends_one (at_server.AnswerLocate here) piece)
    × CutsLocated (coding interface) q here piece told
located_read interface q here planned (id, order, (small, plans)) =
    let version = q.version in
    let told = result_of version id here in
    let octets = ((locate_reply version).written told (joined_into order)).octets in (
      located version order id here,
      told,
      plans,
      record {
        read = ap (heard_reply interface (asked.Locate q) version order) (append-nil octets)
            ∙ located_heard interface q version order told (told_fits version id here) (told_holds version id here small);
        status = refl;
        no_rest = refl;
      },
    )

-- ---- a lane of the session's own acts is one that the lane's law speaks of

-- the messages that a plan puts out
abbrev pub put_of : Plan → List Msg
put_of (Put messages) = messages
put_of Next = []
put_of Leave = []

-- plans that send the same are of the same pieces
pub same_pieces : {V : Type 0} (event : ℕ → V) (one other : Cut) → sends_cut event one ≡ sends_cut event other → pieces_of other ≡ pieces_of one
same_pieces event one other same = sym (ap (λ (p : Planned _). put_of p.plan) same)

abbrev first_or : Msg → List Msg → Msg
first_or m [] = m
first_or m (n ∷ messages) = n

pub same_piece : {V : Type 0} (event : V) (one other : Msg) → sends_one event one ≡ sends_one event other → other ≡ one
same_piece event one other same = sym (ap (λ (p : Planned _). first_or one (put_of p.plan)) same)

pub own_suits : (interface : Interface) (lane : Lane) (act : Act) → IsOwn interface lane act → Suits (coding interface) lane act
own_suits interface lane (acts.Calls call cut) own =
    let event = at_client.Call call in
    let r = call_read interface lane.client.entry call (sends_cut event cut) own in
    subst (CutsCall (coding interface) call) (same_pieces event cut r.0 r.1) r.2
own_suits interface lane (acts.Answers told cut) own = λ q is.
    let event = at_server.Answer told in
    let r = reply_read interface q told (sends_cut event cut) (own q is) in
    subst (CutsReply (coding interface) q told) (same_pieces event cut r.0 r.1) r.2
own_suits interface lane (acts.Locates here piece) own = λ q is.
    let event = at_server.AnswerLocate here in
    let r = located_read interface q here (sends_one event piece) (own q is) in
    (r.1, subst (λ p. CutsLocated (coding interface) q here p r.1) (same_piece event piece r.0 r.2) r.3)
own_suits interface lane acts.Sends own = tt
own_suits interface lane acts.Cancels own = tt
own_suits interface lane acts.SendsReply own = tt
own_suits interface lane acts.ToServer own = tt
own_suits interface lane acts.ToClient own = tt

pub own_runs : (interface : Interface) (lane : Lane) (done : List Act) (end : Lane) → OwnRuns interface lane done end
    → Runs (coding interface) lane done end
own_runs interface lane [] end runs = runs
own_runs interface lane (act ∷ done) end (own, (after, steps, rest)) =
    (own_suits interface lane act own, (after, steps, own_runs interface after done end rest))
