-- Each message that an end sends names its id: a Fragment by its first octets, and what opens a call or
-- an answer by the first field of its head, or before 1.2 the field behind its service contexts.
use Rattle.std.proofs.Common.{◌≡◌, ℕ, ◌+◌, ◌-◌, ◌<◌, ◌≤◌, ◌^◌, Bool, true, false, List, [], ◌∷◌, ◌++◌, length, take, drop, Option, Some, None, refl, sym, ap, subst, ◌∙◌, append-nil, append_assoc, length-append, arith}
use Rattle.std.proofs.Math.Seq.{take-append-add}
use Rattle.std.proofs.lemmas.List.{take_at}
use Rattle.std.specs.Int.{w32}
use Rattle.std.specs.List.{AllByRecursion}
use Rattle.giop_cdr.specs.Ending.{ended, leads, made_of, nothing}
use Rattle.giop_cdr.specs.Layout.{Layout, chosen, field, gives, number, reserved}
use Rattle.giop_cdr.specs.declared.order.Order.{Order}
use Rattle.giop_cdr.specs.declared.order.Order.TheVariants.{Big, Little}
use Rattle.giop_ior.specs.ServiceContext.{service_contexts}
use Rattle.giop_ior.specs.declared.references.service_context.ServiceContext.{ServiceContext}
use Rattle.giop_types.specs.declared.interfaces.interface.Interface.{Interface}
use Rattle.giop_types.specs.declared.interfaces.interface.Operation.{Operation}
use Rattle.giop_msg.specs.Cut.{AreFragments, CanCut, IsCut, message_of}
use Rattle.giop_msg.specs.Header.{ulong_octets}
use Rattle.giop_msg.specs.Joined.{joined_from}
use Rattle.giop_msg.specs.Kind.{has_request_id}
use Rattle.giop_msg.specs.Locate.{AnyLocateRequest, locate_reply_head, locate_request}
use Rattle.giop_msg.specs.Messages.LocateReply.{locate_reply}
use Rattle.giop_msg.specs.Messages.Outcome.{joined_into}
use Rattle.giop_msg.specs.Messages.Reply.{reply}
use Rattle.giop_msg.specs.Messages.Request.{operation_asked, request, request_body}
use Rattle.giop_msg.specs.ReplyHead.{AnyReplyHead, early_reply_head, reply_head, reply_head_1_2}
use Rattle.giop_msg.specs.RequestHead.{Head, early_request_head, request_head, request_head_1_2}
use Rattle.giop_msg.specs.RequestId.{begins_with_contexts, id_behind_contexts, passed_contexts, request_id_layout, request_id_of}
use Rattle.giop_msg.specs.declared.kind.Kind.{Kind}
use Rattle.giop_msg.specs.declared.kind.Kind.TheVariants as message
use Rattle.giop_msg.specs.declared.locate_reply_head.LocateReplyHead.{LocateReplyHead}
use Rattle.giop_msg.specs.declared.messages.locate_reply.LocateReply.{LocateReply}
use Rattle.giop_msg.specs.declared.messages.reply.Reply.{Reply}
use Rattle.giop_msg.specs.declared.messages.request.Request.{Request}
use Rattle.giop_msg.specs.declared.msg.Msg.{Msg}
use Rattle.giop_msg.specs.declared.version.Version.{Version}
use Rattle.giop_msg.specs.declared.version.Version.TheVariants.{V10, V11, V12}
use Rattle.giop_msg.proofs.HeaderLemmas.{ulong_of-ulong_octets}
use Rattle.giop_msg.proofs.LocateLemmas.{locate_request_is}
use Rattle.giop_msg.proofs.RequestIdLemmas.{request_id_is}
use Rattle.giop_msg.proofs.WholeMessages.LawLemmas.{whole_of}
use Rattle.giop_msg.proofs.WholeMessages.LocateReplyLemmas.{locate_reply_is}
use Rattle.giop_msg.proofs.WholeMessages.ReplyLemmas.{reply_is}
use Rattle.giop_msg.proofs.WholeMessages.RequestLemmas.{request_is}
use Rattle.giop_calls.specs.Lane.{Cut, pieces_of}
use Rattle.giop_calls.specs.declared.client.call.Call.{Call}
use Rattle.giop_calls.specs.declared.client.call.Call.TheVariants as asked
use Rattle.giop_calls.specs.declared.client.entry.ClientEntry.{ClientEntry}
use Rattle.giop_calls.specs.declared.client.event.ClientEvent.TheVariants as at_client
use Rattle.giop_calls.specs.declared.server.event.ServerEvent.TheVariants as at_server
use Rattle.giop_end.specs.Acts.ClientCalls.{IsCancel, locate_octets, request_octets}
use Rattle.giop_session.specs.Worlds.OnTheWay.{Names, id_of}
use Rattle.giop_session.specs.Worlds.OwnLane.{PlansCall, PlansReply, sends_cut}
use Rattle.giop_end.specs.Acts.Sent.{cancel_request, sends_one}
use Rattle.giop_end.specs.Acts.ServerAnswers.{IsLocateAnswer, located, reply_octets}
use Rattle.giop_session.proofs.OnActs.WrittenLemmas.{locate_written, reply_written, request_written}
use Rattle.giop_session.proofs.OnLanes.CodingLemmas.{same_piece, told_fits, told_holds, result_of}

-- ---- octets that begin with the fields up to an id

record BeginsWithId (version : Version) (kind : Kind) (order : Order) (id : ℕ) (octets : List ℕ) : Type 0 where
  front : List ℕ
  rest : List ℕ
  whole : octets ≡ front ++ rest
  spells : (request_id_layout version kind).spells order 12 id front

-- a message of them names the id
named : (version : Version) (kind : Kind) (order : Order) (more : Bool) (octets : List ℕ) (id : ℕ) → has_request_id kind ≡ true
    → BeginsWithId version kind order id octets → Names id (message_of version kind order more octets)
named version kind order more octets id has begins =
    let read = ((request_id_is version kind).exact (joined_from order octets)).only id
    (record { order = order; at = 12 + length begins.front; rest = begins.rest })
    (record { octets = begins.front; front = begins.whole; at = refl; order = refl; spells = begins.spells }) in
    rw (has, read) refl

-- ---- where the id is the first field: four octets

first_layout : (version : Version) (kind : Kind) → begins_with_contexts version kind ≡ false → request_id_layout version kind ≡ number w32
unfolding request_id_layout chosen
first_layout version kind first = rw first refl

first_begins : (version : Version) (kind : Kind) (order : Order) (id : ℕ) (octets front rest : List ℕ) → begins_with_contexts version kind ≡ false
    → (number w32).spells order 12 id front → octets ≡ front ++ rest → BeginsWithId version kind order id octets
first_begins version kind order id octets front rest first spells whole = record {
  front = front;
  rest = rest;
  whole = whole;
  spells = subst (λ (layout : Layout ℕ). layout.spells order 12 id front) (sym (first_layout version kind first)) spells;
}

at_front : (kind : Kind) (order : Order) (id : ℕ) (front rest : List ℕ) → (number w32).spells order 12 id front
    → BeginsWithId V12 kind order id (front ++ rest)
at_front kind order id front rest spells = first_begins V12 kind order id (front ++ rest) front rest refl spells refl

as_number : (kind : Kind) (order : Order) (id : ℕ) (front : List ℕ) → (request_id_layout V12 kind).spells order 12 id front
    → (number w32).spells order 12 id front
as_number kind order id front spells = subst (λ (layout : Layout ℕ). layout.spells order 12 id front) (first_layout V12 kind refl) spells

four : (order : Order) (id : ℕ) (front : List ℕ) → (number w32).spells order 12 id front → length front ≡ 4
unfolding number
four order id front spells = ap length spells.whole ∙ length-append spells.pads spells.octets ∙ (λ i. spells.padded i + spells.few i)

fragments_named : (order : Order) (front : List ℕ) (id piece : ℕ) (octets : List ℕ) (messages : List Msg) → (number w32).spells order 12 id front
    → AreFragments order front piece octets messages → AllByRecursion (Names id) messages
fragments_named order front id piece octets [] spells are = absurd are
fragments_named order front id piece octets (m ∷ []) spells are = (
  ap request_id_of are.0
      ∙ named V12 message.Fragment order false (front ++ octets) id refl (at_front message.Fragment order id front octets spells),
  tt,
)
fragments_named order front id piece octets (m ∷ n ∷ messages) spells are = (
  ap request_id_of are.0
      ∙ named V12 message.Fragment order true (front ++ take (piece - 16) octets) id refl
      (at_front message.Fragment order id front (take (piece - 16) octets) spells),
  fragments_named order front id piece (drop (piece - 16) octets) (n ∷ messages) spells are.2,
)

-- the first octets are those that the pieces begin with
first_octets : (piece : ℕ) (front rest : List ℕ) → length front ≡ 4 → 24 ≤ piece
    → take (piece - 12) (front ++ rest) ≡ front ++ take (piece - 16) rest
first_octets piece front rest short large =
    let count : piece - 12 ≡ length front + (piece - 16) = omega (arith, short, large) in
    ap (λ n. take n (front ++ rest)) count ∙ take-append-add front rest (piece - 16)

-- the pieces of what is cut
cut_named : (version : Version) (kind : Kind) (order : Order) (octets : List ℕ) (piece : ℕ) (messages : List Msg) (id : ℕ)
    → has_request_id kind ≡ true → CanCut kind octets piece → BeginsWithId version kind order id octets
    → IsCut version kind order octets piece messages → AllByRecursion (Names id) messages
cut_named version kind order octets piece [] id has can begins cut = absurd cut
cut_named version kind order octets piece (m ∷ []) id has can begins cut =
    (ap request_id_of cut.0 ∙ named version kind order false octets id has begins, tt)
cut_named version kind order octets piece (m ∷ n ∷ messages) id has can begins cut =
    let spells = as_number kind order id begins.front
    (subst (λ version. (request_id_layout version kind).spells order 12 id begins.front) cut.1 begins.spells) in
    let short = four order id begins.front spells in
    let taken = ap (take (piece - 12)) begins.whole ∙ first_octets piece begins.front begins.rest short can.large in
    let first = ap (take 4) begins.whole ∙ take_at begins.front begins.rest 4 short in (
      ap request_id_of cut.0
          ∙ (λ i. request_id_of (message_of (cut.1 i) kind order true (taken i)))
          ∙ named V12 kind order true (begins.front ++ take (piece - 16) begins.rest) id has
          (at_front kind order id begins.front (take (piece - 16) begins.rest) spells),
      fragments_named order begins.front id piece (drop (piece - 12) octets) (n ∷ messages) spells
          (subst (λ front. AreFragments order front piece (drop (piece - 12) octets) (n ∷ messages)) first cut.3),
    )

-- ---- what the layouts begin with

longer : (version : Version) (kind : Kind) (order : Order) (id : ℕ) (one more octets : List ℕ) → BeginsWithId version kind order id one
    → octets ≡ one ++ more → BeginsWithId version kind order id octets
longer version kind order id one more octets begins is = record {
  front = begins.front;
  rest = begins.rest ++ more;
  whole = is ∙ ap (λ l. l ++ more) begins.whole ∙ append_assoc begins.front begins.rest more;
  spells = begins.spells;
}

-- the head that a body stands behind is that of its Request
body_head : (version : Version) (head : Head) (operation : Option Operation) (order : Order) (at : ℕ) (q : Request) (octets : List ℕ)
    → (request_body version head operation).spells order at q octets → q.head ≡ head
unfolding request_body nothing made_of
body_head version head None order at q octets spells = absurd spells
body_head version head (Some operation) order at q octets (body, (is, spells)) = ap (λ (x : Request). x.head) is

-- an id behind service contexts
early_layout : (version : Version) (kind : Kind) → begins_with_contexts version kind ≡ true → request_id_layout version kind ≡ id_behind_contexts
unfolding request_id_layout chosen
early_layout version kind early = rw early refl

behind_contexts : (order : Order) (contexts : List ServiceContext) (id : ℕ) (front back : List ℕ) → service_contexts.spells order 12 contexts front
    → (number w32).spells order (12 + length front) id back → id_behind_contexts.spells order 12 id (front ++ back)
unfolding id_behind_contexts passed_contexts field gives reserved
behind_contexts order contexts id front back passed spells = record {
  first = [];
  front = front;
  back = back;
  whole = refl;
  spells_front = (refl, (contexts, passed));
  spells_back = record { first = id; front = back; back = []; whole = sym (append-nil back); spells_front = spells; spells_back = (refl, refl) };
}

early_begins : (version : Version) (kind : Kind) (order : Order) (contexts : List ServiceContext) (id : ℕ) (octets front back behind rest : List ℕ)
    → begins_with_contexts version kind ≡ true → service_contexts.spells order 12 contexts front → (number w32).spells order (12 + length front) id back
    → octets ≡ front ++ behind → behind ≡ back ++ rest → BeginsWithId version kind order id octets
early_begins version kind order contexts id octets front back behind rest early passed spells whole splits = record {
  front = front ++ back;
  rest = rest;
  whole = whole ∙ ap (λ l. front ++ l) splits ∙ sym (append_assoc front back rest);
  spells = subst (λ (layout : Layout ℕ). layout.spells order 12 id (front ++ back)) (sym (early_layout version kind early))
      (behind_contexts order contexts id front back passed spells);
}

-- ---- a Request

early_head : (version : Version) (order : Order) (head : Head) (octets : List ℕ) → begins_with_contexts version message.Request ≡ true
    → (early_request_head version).spells order 12 head octets → BeginsWithId version message.Request order head.id octets
unfolding early_request_head field gives
early_head version order head octets early spells =
    let back = spells.spells_back in
    let known = back.spells_back.spells_back.spells_back.spells_back.spells_back.spells_back in
    let is : head.id ≡ back.first = ap (λ (one : Head). one.id) known.0 in
    early_begins version message.Request order spells.first head.id octets spells.front back.front spells.back back.back early spells.spells_front
    (subst (λ id. (number w32).spells order (12 + length spells.front) id back.front) (sym is) back.spells_front) spells.whole back.whole

head_begins : (version : Version) (order : Order) (head : Head) (octets : List ℕ) → (request_head version).spells order 12 head octets
    → BeginsWithId version message.Request order head.id octets
unfolding request_head request_head_1_2 field gives
head_begins V10 order head octets spells = early_head V10 order head octets refl spells
head_begins V11 order head octets spells = early_head V11 order head octets refl spells
head_begins V12 order head octets spells =
    let known = spells.spells_back.spells_back.spells_back.spells_back.spells_back.spells_back in
    let is : head.id ≡ spells.first = ap (λ (one : Head). one.id) known.0 in
    first_begins V12 message.Request order head.id octets spells.front spells.back refl
    (subst (λ id. (number w32).spells order 12 id spells.front) (sym is) spells.spells_front) spells.whole

request_begins : (interface : Interface) (version : Version) (order : Order) (q : Request) (octets : List ℕ)
    → (request interface version).spells order 12 q octets → BeginsWithId version message.Request order q.head.id octets
unfolding request leads
request_begins interface version order q octets spells =
    let head = spells.first in
    let is : q.head.id ≡ head.id =
    ap (λ (one : Head). one.id)
    (body_head version head (operation_asked interface head) order (12 + length spells.front) q spells.back spells.spells_back) in
    subst (λ id. BeginsWithId version message.Request order id octets) (sym is)
    (longer version message.Request order head.id spells.front spells.back octets (head_begins version order head spells.front spells.spells_front)
    spells.whole)

-- ---- a LocateRequest

locates_first : (version : Version) → begins_with_contexts version message.LocateRequest ≡ false
locates_first V10 = refl
locates_first V11 = refl
locates_first V12 = refl

locate_begins : (version : Version) (order : Order) (q : AnyLocateRequest) (octets : List ℕ) → (locate_request version).spells order 12 q octets
    → BeginsWithId version message.LocateRequest order q.id octets
unfolding locate_request field gives
locate_begins version order q octets spells =
    let is : q.id ≡ spells.first = ap (λ (one : AnyLocateRequest). one.id) spells.spells_back.spells_back.0 in
    first_begins version message.LocateRequest order q.id octets spells.front spells.back (locates_first version)
    (subst (λ id. (number w32).spells order 12 id spells.front) (sym is) spells.spells_front) spells.whole

-- ---- a Reply

early_answer : (version : Version) (order : Order) (head : AnyReplyHead) (octets : List ℕ) → begins_with_contexts version message.Reply ≡ true
    → (early_reply_head version).spells order 12 head octets → BeginsWithId version message.Reply order head.id octets
unfolding early_reply_head field gives
early_answer version order head octets early spells =
    let back = spells.spells_back in
    let is : head.id ≡ back.first = ap (λ (one : AnyReplyHead). one.id) back.spells_back.spells_back.0 in
    early_begins version message.Reply order spells.first head.id octets spells.front back.front spells.back back.back early spells.spells_front
    (subst (λ id. (number w32).spells order (12 + length spells.front) id back.front) (sym is) back.spells_front) spells.whole back.whole

answer_begins : (version : Version) (order : Order) (head : AnyReplyHead) (octets : List ℕ) → (reply_head version).spells order 12 head octets
    → BeginsWithId version message.Reply order head.id octets
unfolding reply_head reply_head_1_2 field gives
answer_begins V10 order head octets spells = early_answer V10 order head octets refl spells
answer_begins V11 order head octets spells = early_answer V11 order head octets refl spells
answer_begins V12 order head octets spells =
    let is : head.id ≡ spells.first = ap (λ (one : AnyReplyHead). one.id) spells.spells_back.spells_back.spells_back.0 in
    first_begins V12 message.Reply order head.id octets spells.front spells.back refl
    (subst (λ id. (number w32).spells order 12 id spells.front) (sym is) spells.spells_front) spells.whole

reply_begins : (interface : Interface) (q : Option Request) (version : Version) (order : Order) (r : Reply) (octets : List ℕ)
    → (reply interface q version).spells order 12 r octets → BeginsWithId version message.Reply order r.id octets
unfolding reply leads made_of
reply_begins interface q version order r octets spells =
    let head = spells.first in
    let is : r.id ≡ head.id = ap (λ (one : Reply). one.id) spells.spells_back.1.0 in
    subst (λ id. BeginsWithId version message.Reply order id octets) (sym is)
    (longer version message.Reply order head.id spells.front spells.back octets (answer_begins version order head spells.front spells.spells_front)
    spells.whole)

-- ---- a LocateReply

answers_first : (version : Version) → begins_with_contexts version message.LocateReply ≡ false
answers_first V10 = refl
answers_first V11 = refl
answers_first V12 = refl

located_begins : (version : Version) (order : Order) (told : LocateReply) (octets : List ℕ) → (locate_reply version).spells order 12 told octets
    → BeginsWithId version message.LocateReply order told.head.id octets
unfolding locate_reply leads made_of locate_reply_head field gives
located_begins version order told octets spells =
    let head = spells.spells_front in
    let is : told.head.id ≡ head.first =
    ap (λ (one : LocateReply). one.head.id) spells.spells_back.1.0 ∙ ap (λ (one : LocateReplyHead). one.id) head.spells_back.spells_back.0 in
    first_begins version message.LocateReply order told.head.id octets head.front (head.back ++ spells.back) (answers_first version)
    (subst (λ id. (number w32).spells order 12 id head.front) (sym is) head.spells_front)
    (spells.whole ∙ ap (λ l. l ++ spells.back) head.whole ∙ append_assoc head.front head.back spells.back)

-- ---- what is sent

pub call_named : (interface : Interface) (entry : Option ClientEntry) (call : Call) (cut : Cut)
    → PlansCall interface entry call (sends_cut (at_client.Call call) cut) → AllByRecursion (Names (id_of call)) (pieces_of cut)
unfolding ended
call_named interface entry (asked.Request q) cut is =
    let version = q.head.version in
    let order = is.form.order in
    let octets = request_octets interface q order in
    let written = request_written interface entry q cut is in
    let whole = whole_of (request_is interface version) in
    let begins = request_begins interface version order q octets
    ((whole.exact (joined_from order octets)).found q (whole.back order q written.fits written.holds)) in
    cut_named version message.Request order octets is.form.piece (pieces_of cut) q.head.id refl written.can_cut begins written.is_cut
call_named interface entry (asked.Locate q) cut is =
    let version = q.version in
    let order = is.form.order in
    let octets = locate_octets q order in
    let written = locate_written interface entry q cut is in
    let spelled = (locate_request_is version).written q (joined_into order) written.fits written.holds in
    let begins = locate_begins version order q octets
    (subst (λ l. (locate_request version).spells order 12 q l) (sym spelled.octets) spelled.spells) in
    cut_named version message.LocateRequest order octets is.form.piece (pieces_of cut) q.id refl written.can_cut begins written.is_cut

pub reply_named : (interface : Interface) (q : Request) (r : Reply) (cut : Cut) → PlansReply interface q r (sends_cut (at_server.Answer r) cut)
    → AllByRecursion (Names r.id) (pieces_of cut)
reply_named interface q r cut is =
    let version = r.version in
    let order = is.form.order in
    let octets = reply_octets interface (Some q) r order in
    let written = reply_written interface q r cut is in
    let whole = whole_of (reply_is interface (Some q) version) in
    let begins = reply_begins interface (Some q) version order r octets
    ((whole.exact (joined_from order octets)).found r (whole.back order r written.fits written.holds)) in
    cut_named version message.Reply order octets is.form.piece (pieces_of cut) r.id refl written.can_cut begins written.is_cut

pub located_named : (id : ℕ) (here : Bool) (order : Order) (version : Version) (piece : Msg)
    → IsLocateAnswer id here order (Some version) (sends_one (at_server.AnswerLocate here) piece) → Names id piece
located_named id here order version piece (small, is) =
    let told = result_of version id here in
    let octets = ((locate_reply version).written told (joined_into order)).octets in
    let whole = whole_of (locate_reply_is version) in
    let begins = located_begins version order told octets
    ((whole.exact (joined_from order octets)).found told
    (whole.back order told (told_fits version id here) (told_holds version id here small))) in
    subst (Names id) (same_piece (at_server.AnswerLocate here) piece (located version order id here) is)
    (named version message.LocateReply order false octets id refl begins)

cancels_first : (version : Version) → begins_with_contexts version message.CancelRequest ≡ false
cancels_first V10 = refl
cancels_first V11 = refl
cancels_first V12 = refl

four_octets : (order : Order) (n : ℕ) → length (ulong_octets order n) ≡ 4
four_octets Big n = refl
four_octets Little n = refl

id_spelled : (order : Order) (id : ℕ) → id < 2 ^ 32 → (number w32).spells order 12 id (ulong_octets order id)
unfolding number
id_spelled order id small = record {
  pads = [];
  octets = ulong_octets order id;
  padded = refl;
  few = four_octets order id;
  whole = refl;
  value = sym (ulong_of-ulong_octets order id small);
}

pub cancel_named : (id : ℕ) (order : Order) (version : Version) (m : Msg)
    → IsCancel id order (Some version) (sends_one at_client.Cancel m) → Names id m
cancel_named id order version m (small, is) =
    let octets = ulong_octets order id in
    subst (Names id) (same_piece at_client.Cancel m (cancel_request version order id) is)
    (named version message.CancelRequest order false octets id refl
    (first_begins version message.CancelRequest order id octets octets [] (cancels_first version) (id_spelled order id small) (sym (append-nil octets))))
