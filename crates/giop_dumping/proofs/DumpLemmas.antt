-- How far a dump has come, and that it goes on and ends as it should.
use Rattle.std.proofs.Common.{◌≡◌, ◌≢◌, ℕ, ◌+◌, ◌≤◌, ◌==◌, List, [], ◌∷◌, ◌++◌, length, Option, Some, None, refl, sym, ◌∙◌, ap, subst, arith, append_assoc, length-append, zero-add, inl, inr, if◌then◌else◌, Result, Ok, Err, OnOk, IfOk}
use Rattle.std.specs.Bool.{⊤}
use Rattle.std.proofs.lemmas.Grind.{common_steps, flat_map-append}
use Rattle.std.proofs.lemmas.List.{append-nil}
use Rattle.std.proofs.lemmas.List.Elements.{All-append, All-cons, All-nil}
use Rattle.std.proofs.lemmas.Bool.Decides.{eqb_tells}
use Rattle.std.specs.List.{All, flat_map}
use Rattle.std.specs.Io.KnownBytes.{Appends, Consumes, IsAtEnd, Keeps}
use Rattle.giop_frag.specs.Gathered.{Lists}
use Rattle.giop_msg.specs.declared.msg.Msg.{Msg}
use Rattle.giop_msg.specs.declared.fault.WireFault.{WireFault}
use Rattle.giop_msg.specs.declared.fault.WireKind.{WireKind}
use Rattle.giop_msg.specs.declared.fault.WireKind.TheVariants.{BadMagic, BadVersion, ReservedFlags, BadKind, TooLarge, BadSize, FragmentSize, NotFragmentable, NoMemory}
use Rattle.giop_msg.specs.Msg.{message_octets, IsMessage}
use Rattle.giop_msg.specs.Stream.{Unread, IsRefusal, Waits, TakesMessage, BeginsWithMessage, BeginsWithFault}
use Rattle.giop_msg.proofs.StreamLemmas.{length-message_octets, message_or_fault, fault_stands}
use Rattle.giop_show.specs.declared.failure.Failure.{Failure}
use Rattle.giop_show.specs.declared.status.Status.{Status}
use Rattle.giop_show.specs.declared.status.Status.TheVariants.{Done, Refused}
use Rattle.giop_dumping.specs.Dump.Text.{Dumps, DumpsKnown, Leaves, Prints, Telling, messages_text, lists_behind, no_lists, end_line}
use Rattle.giop_show.specs.Rest.{rest_fault}
use Rattle.giop_show.specs.Forms.{ended}
use Rattle.giop_show.specs.Status.{header_status}
use Rattle.giop_show.proofs.AppendsLemmas.{Appends-append, Appends-nil, Appends-kept}
use Rattle.giop_show.proofs.RestLemmas.{nothing_left, rest_fault-none, rest_fault-stands}

-- how many octets some messages and one more are
pub octets-more : (ms : List Msg) (m : Msg) → flat_map message_octets (ms ++ m ∷ []) ≡ flat_map message_octets ms ++ message_octets m
octets-more ms m = grind (arith, common_steps, flat_map-append)

-- what is gathered behind some messages and one more
pub lists_behind-more : (telling : Telling) (lists : Lists) (ms : List Msg) (m : Msg)
    → lists_behind telling lists (ms ++ m ∷ []) ≡ telling.after (lists_behind telling lists ms) m
lists_behind-more telling lists [] m = refl
lists_behind-more telling lists (x ∷ ms) m = lists_behind-more telling (telling.after lists x) ms m

-- the lines of some messages and one more
pub messages_text-more : (telling : Telling) (lists : Lists) (at : ℕ) (ms : List Msg) (m : Msg)
    → messages_text telling lists at (ms ++ m ∷ [])
    ≡ messages_text telling lists at ms ++ telling.lines (lists_behind telling lists ms) (at + length (flat_map message_octets ms)) m
messages_text-more telling lists at [] m =
    let here : at ≡ at + 0 = omega arith in
    append-nil (telling.lines lists at m) ∙ ap (λ n. telling.lines lists n m) here
messages_text-more telling lists at (x ∷ ms) m =
    let behind = telling.after lists x in
    let place : at + length (message_octets x) + length (flat_map message_octets ms) ≡ at + length (message_octets x ++ flat_map message_octets ms) =
    omega (arith, length-append (message_octets x) (flat_map message_octets ms)) in
    ap (λ u. telling.lines lists at x ++ u)
    (messages_text-more telling behind (at + length (message_octets x)) ms m
    ∙ ap (λ n. messages_text telling behind (at + length (message_octets x)) ms ++ telling.lines (lists_behind telling behind ms) n m) place)
    ∙ sym (append_assoc (telling.lines lists at x) (messages_text telling behind (at + length (message_octets x)) ms)
    (telling.lines (lists_behind telling behind ms) (at + length (message_octets x ++ flat_map message_octets ms)) m))

-- so much of the octets was shown: these messages; after them stand the unread octets and those
-- that are not fed yet
pub record Shown (telling : Telling) (lists : Lists) (limit : ℕ) (octets : List ℕ) (start now : Option (List ℕ)) (unread left : List ℕ) (at : ℕ)
    (messages : List Msg) : Type 0 where
  pub whole : octets ≡ flat_map message_octets messages ++ (unread ++ left)
  pub each : All (IsMessage limit) messages
  pub place : at ≡ length (flat_map message_octets messages)
  pub text : Appends start now (messages_text telling no_lists 0 messages)
  pub gathered : lists ≡ lists_behind telling no_lists messages

-- at the beginning nothing was
pub none_shown : (telling : Telling) (limit : ℕ) (octets : List ℕ) (start : Option (List ℕ))
    → Shown telling no_lists limit octets start start [] octets 0 []
none_shown telling limit octets start =
    record { whole = refl; each = All-nil (IsMessage limit); place = refl; text = Appends-nil start; gathered = refl }

-- one message more is
pub shows_message : {telling : Telling} {lists : Lists} {limit : ℕ} {octets : List ℕ} {start now : Option (List ℕ)} {left : List ℕ} {at : ℕ}
    {messages : List Msg} (old new : Unread) (next : Option (List ℕ)) (behind : Lists) (m : Msg)
    → Shown telling lists limit octets start now old.octets left at messages → old.limit ≡ limit
    → TakesMessage old m new → Appends now next (telling.lines lists at m) → behind ≡ telling.after lists m
    → Shown telling behind limit octets start next new.octets left (at + (12 + length m.payload)) (messages ++ m ∷ [])
shows_message {telling} {lists} {limit} {octets} {start} {now} {left} {at} {messages} old new next behind m shown same takes more goes =
    let is : IsMessage limit m = subst (λ n. IsMessage n m) same takes.is_message in
    let before = flat_map message_octets messages in
    let text = messages_text telling no_lists 0 messages in
    record {
      whole =
          shown.whole ∙ ap (λ u. before ++ (u ++ left)) takes.octets
          ∙ ap (λ u. before ++ u) (append_assoc (message_octets m) new.octets left)
          ∙ sym (append_assoc before (message_octets m) (new.octets ++ left))
          ∙ ap (λ u. u ++ (new.octets ++ left)) (sym (octets-more messages m));
      each = All-append (IsMessage limit) messages (m ∷ []) shown.each (All-cons (IsMessage limit) m [] is (All-nil (IsMessage limit)));
      place = omega (arith, shown.place, ap length (octets-more messages m), length-append before (message_octets m), length-message_octets m);
      text =
          subst (Appends start next)
          (ap (λ n. text ++ telling.lines lists n m) (shown.place ∙ sym (zero-add _))
          ∙ ap (λ l. text ++ telling.lines l (0 + length before) m) shown.gathered
          ∙ sym (messages_text-more telling no_lists 0 messages m))
          (Appends-append start now next text (telling.lines lists at m) shown.text more);
      gathered = goes ∙ ap (λ l. telling.after l m) shown.gathered ∙ sym (lists_behind-more telling no_lists messages m);
    }

-- a piece more is read and fed
pub shows_piece : {telling : Telling} {lists : Lists} {limit : ℕ} {octets : List ℕ} {start now : Option (List ℕ)} {unread : List ℕ} {at : ℕ}
    {messages : List Msg}
    (piece left more : List ℕ) → left ≡ piece ++ more
    → Shown telling lists limit octets start now unread left at messages
    → Shown telling lists limit octets start now (unread ++ piece) more at messages
shows_piece {telling} {lists} {limit} {octets} {start} {now} {unread} {at} {messages} piece left more parts shown = record {
  whole =
      shown.whole ∙ ap (λ u. flat_map message_octets messages ++ (unread ++ u)) parts
      ∙ ap (λ u. flat_map message_octets messages ++ u) (sym (append_assoc unread piece more));
  each = shown.each;
  place = shown.place;
  text = shown.text;
  gathered = shown.gathered;
}

-- what is shown is kept, as when the writer is flushed
pub shows_kept : {telling : Telling} {lists : Lists} {limit : ℕ} {octets : List ℕ} {start now : Option (List ℕ)} {unread left : List ℕ} {at : ℕ}
    {messages : List Msg}
    (next : Option (List ℕ)) → Shown telling lists limit octets start now unread left at messages → Keeps now next
    → Shown telling lists limit octets start next unread left at messages
shows_kept {telling} {lists} {limit} {octets} {start} {now} {unread} {left} {at} {messages} next shown kept = record {
  whole = shown.whole;
  each = shown.each;
  place = shown.place;
  text = Appends-kept start now next (messages_text telling no_lists 0 messages) shown.text kept;
  gathered = shown.gathered;
}

-- the last line, behind the lines of all messages
pub prints_end : {telling : Telling} {lists : Lists} {limit : ℕ} {octets : List ℕ} {start now : Option (List ℕ)} {unread left : List ℕ} {at : ℕ}
    {messages : List Msg}
    (rest : List ℕ) (next : Option (List ℕ)) (end : Option WireFault) → Shown telling lists limit octets start now unread left at messages
    → rest ≡ unread ++ left → (BeginsWithMessage limit rest → ⊥) → rest_fault limit rest ≡ end
    → Appends now next (ended (end_line telling at rest end))
    → Prints telling limit octets start next messages rest
prints_end {telling} {lists} {limit} {octets} {start} {now} {unread} {left} {at} {messages} rest next end shown is_rest no_message same more = record {
  split = record { whole = shown.whole ∙ ap (λ u. flat_map message_octets messages ++ u) (sym is_rest); each = shown.each; partial = no_message };
  text =
      subst (λ u. Appends start next (messages_text telling no_lists 0 messages ++ ended u))
      (ap (λ n. end_line telling n rest end) shown.place ∙ ap (λ e. end_line telling (length (flat_map message_octets messages)) rest e) (sym same))
      (Appends-append start now next (messages_text telling no_lists 0 messages) (ended (end_line telling at rest end)) shown.text more);
}

-- the status tells whether something is left
pub dumps_rest : (telling : Telling) (limit : ℕ) (octets : List ℕ) (start next : Option (List ℕ)) (messages : List Msg) (rest : List ℕ)
    → Prints telling limit octets start next messages rest → rest_fault limit rest ≡ None
    → Dumps telling limit octets start next (if length rest == 0 then Done else Refused)
dumps_rest telling limit octets start next messages rest prints none =
    elim (eqb_tells (length rest) 0) as (λ _. Dumps telling limit octets start next (if length rest == 0 then Done else Refused)) [
      | inl h ↦ rw h.0 (messages, subst (Prints telling limit octets start next messages) (nothing_left rest h.1) prints)
      | inr h ↦ rw h.0 (messages, rest, prints, λ empty. h.1 (ap length empty), rw none refl)
    ]

-- where nothing more is fed and no message and no fault stands at the front, the rest is told
pub ends_at_rest : {telling : Telling} {lists : Lists} {limit : ℕ} {octets : List ℕ} {start now : Option (List ℕ)} {at : ℕ} {messages : List Msg}
    (unread : Unread) (left : List ℕ) (next : Option (List ℕ)) (r : Result Status Failure)
    → Shown telling lists limit octets start now unread.octets left at messages → unread.limit ≡ limit → length left ≡ 0 → Waits unread
    → OnOk r (Appends now next (ended (telling.rest (length unread.octets))))
    → IfOk r (λ s. s ≡ (if length unread.octets == 0 then Done else Refused))
    → IfOk r (Dumps telling limit octets start next)
ends_at_rest {telling} {lists} {limit} {octets} {start} {now} {at} {messages} unread left next (Err e) shown same empty waits text status = tt
ends_at_rest {telling} {lists} {limit} {octets} {start} {now} {at} {messages} unread left next (Ok s) shown same empty waits text status =
    let whole : unread.octets ≡ unread.octets ++ left =
    sym (ap (λ u. unread.octets ++ u) (nothing_left left empty) ∙ append-nil unread.octets) in
    let no_message : BeginsWithMessage limit unread.octets → ⊥ = subst (λ n. BeginsWithMessage n unread.octets → ⊥) same waits.no_message in
    let no_fault : (e : WireFault) → BeginsWithFault limit unread.octets e → ⊥ =
    subst (λ n. (e : WireFault) → BeginsWithFault n unread.octets e → ⊥) same waits.no_fault in
    let sound = rest_fault-none limit unread.octets no_fault in
    let prints = prints_end unread.octets next None shown whole no_message sound text in
    subst (Dumps telling limit octets start next) (sym status) (dumps_rest telling limit octets start next messages unread.octets prints sound)

-- where octets are left at a header with a fault, the status is one of two
dumps_left : (telling : Telling) (limit : ℕ) (octets : List ℕ) (start next : Option (List ℕ)) (kind : WireKind)
    → Leaves telling limit octets start next (header_status kind) → Dumps telling limit octets start next (header_status kind)
dumps_left telling limit octets start next BadMagic leaves = leaves
dumps_left telling limit octets start next BadVersion leaves = leaves
dumps_left telling limit octets start next ReservedFlags leaves = leaves
dumps_left telling limit octets start next BadKind leaves = leaves
dumps_left telling limit octets start next TooLarge leaves = leaves
dumps_left telling limit octets start next BadSize leaves = leaves
dumps_left telling limit octets start next FragmentSize leaves = leaves
dumps_left telling limit octets start next NotFragmentable leaves = leaves
dumps_left telling limit octets start next NoMemory leaves = leaves

-- a fault at the front is told, and something is left
pub ends_at_fault : {telling : Telling} {lists : Lists} {limit : ℕ} {octets : List ℕ} {start now : Option (List ℕ)} {at : ℕ} {messages : List Msg}
    (unread : Unread) (left : List ℕ) (next : Option (List ℕ)) (e : WireFault) (r : Result Status Failure)
    → Shown telling lists limit octets start now unread.octets left at messages → unread.limit ≡ limit → IsRefusal unread e
    → OnOk r (Appends now next (ended (telling.fault at e)))
    → IfOk r (λ s. (s ≡ header_status e.kind) × (e.kind ≢ NoMemory))
    → IfOk r (Dumps telling limit octets start next)
ends_at_fault {telling} {lists} {limit} {octets} {start} {now} {at} {messages} unread left next e (Err f) shown same refusal text status = tt
ends_at_fault {telling} {lists} {limit} {octets} {start} {now} {at} {messages} unread left next e (Ok s) shown same (inr memory) text status =
    absurd (status.1 (ap (λ (w : WireFault). w.kind) memory.0))
ends_at_fault {telling} {lists} {limit} {octets} {start} {now} {at} {messages} unread left next e (Ok s) shown same (inl stands) text status =
    let front : BeginsWithFault limit unread.octets e = subst (λ n. BeginsWithFault n unread.octets e) same stands in
    let rest = unread.octets ++ left in
    let there : BeginsWithFault limit rest e = fault_stands limit unread.octets left e front in
    let wrong = rest_fault-stands limit rest e there in
    let prints = prints_end rest next (Some e) shown refl (λ m. message_or_fault limit rest e m there) wrong text in
    subst (Dumps telling limit octets start next) (sym status.0)
    (dumps_left telling limit octets start next e.kind
    (messages, rest, prints, (λ none. let twelve : 12 ≤ length rest = there.0 in absurd (omega (arith, twelve, ap length none))), rw wrong refl))

-- the same of a reader whose octets may be known, from the octets that it had at first to those that
-- it has left
unfoldable pub Known : Telling → Lists → ℕ → Option (List ℕ) → Option (List ℕ) → Option (List ℕ) → Option (List ℕ) → List ℕ → ℕ → Type 0
Known telling lists limit None left start now unread at = ⊤
Known telling lists limit (Some octets) None start now unread at = ⊥
Known telling lists limit (Some octets) (Some left) start now unread at =
    (messages : List Msg) × Shown telling lists limit octets start now unread left at messages

pub record ShownOf (telling : Telling) (lists : Lists) (limit : ℕ) (all left start now : Option (List ℕ)) (unread : List ℕ) (at : ℕ) : Type 0 where
  pub known : Known telling lists limit all left start now unread at

known_none : (telling : Telling) (limit : ℕ) (all start : Option (List ℕ)) → Known telling no_lists limit all all start start [] 0
unfolding Known
known_none telling limit None start = tt
known_none telling limit (Some octets) start = ([], none_shown telling limit octets start)

pub of_none : (telling : Telling) (limit : ℕ) (all start : Option (List ℕ)) → ShownOf telling no_lists limit all all start start [] 0
of_none telling limit all start = record { known = known_none telling limit all start }

known_message : (telling : Telling) (lists : Lists) (limit : ℕ) (start now : Option (List ℕ)) (at : ℕ) (all left : Option (List ℕ)) (old new : Unread)
    (next : Option (List ℕ)) (behind : Lists) (m : Msg)
    → Known telling lists limit all left start now old.octets at → old.limit ≡ limit → TakesMessage old m new
    → Appends now next (telling.lines lists at m) → behind ≡ telling.after lists m
    → Known telling behind limit all left start next new.octets (at + (12 + length m.payload))
unfolding Known
known_message telling lists limit start now at None left old new next behind m shown same takes more goes = tt
known_message telling lists limit start now at (Some octets) None old new next behind m shown same takes more goes = absurd shown
known_message telling lists limit start now at (Some octets) (Some left) old new next behind m shown same takes more goes =
    (shown.0 ++ m ∷ [], shows_message old new next behind m shown.1 same takes more goes)

pub of_message : {telling : Telling} {lists : Lists} {limit : ℕ} {all left start now : Option (List ℕ)} {at : ℕ} (old new : Unread)
    (next : Option (List ℕ)) (behind : Lists) (m : Msg)
    → ShownOf telling lists limit all left start now old.octets at → old.limit ≡ limit → TakesMessage old m new
    → Appends now next (telling.lines lists at m) → behind ≡ telling.after lists m
    → ShownOf telling behind limit all left start next new.octets (at + (12 + length m.payload))
of_message {telling} {lists} {limit} {all} {left} {start} {now} {at} old new next behind m shown same takes more goes =
    record { known = known_message telling lists limit start now at all left old new next behind m shown.known same takes more goes }

known_piece : (telling : Telling) (lists : Lists) (limit : ℕ) (start now : Option (List ℕ)) (unread : List ℕ) (at : ℕ) (all left rest : Option (List ℕ))
    (piece : List ℕ)
    → Known telling lists limit all left start now unread at → Consumes left rest piece → Known telling lists limit all rest start now (unread ++ piece) at
unfolding Known
known_piece telling lists limit start now unread at None left rest piece shown takes = tt
known_piece telling lists limit start now unread at (Some octets) None rest piece shown takes = absurd shown
known_piece telling lists limit start now unread at (Some octets) (Some left) None piece shown takes = absurd takes
known_piece telling lists limit start now unread at (Some octets) (Some left) (Some rest) piece shown takes =
    (shown.0, shows_piece piece left rest takes shown.1)

pub of_piece : {telling : Telling} {lists : Lists} {limit : ℕ} {all left start now : Option (List ℕ)} {unread : List ℕ} {at : ℕ} (rest : Option (List ℕ))
    (piece : List ℕ)
    → ShownOf telling lists limit all left start now unread at → Consumes left rest piece → ShownOf telling lists limit all rest start now (unread ++ piece) at
of_piece {telling} {lists} {limit} {all} {left} {start} {now} {unread} {at} rest piece shown takes =
    record { known = known_piece telling lists limit start now unread at all left rest piece shown.known takes }

known_kept : (telling : Telling) (lists : Lists) (limit : ℕ) (start now : Option (List ℕ)) (unread : List ℕ) (at : ℕ) (all left next : Option (List ℕ))
    → Known telling lists limit all left start now unread at → Keeps now next → Known telling lists limit all left start next unread at
unfolding Known
known_kept telling lists limit start now unread at None left next shown kept = tt
known_kept telling lists limit start now unread at (Some octets) None next shown kept = absurd shown
known_kept telling lists limit start now unread at (Some octets) (Some left) next shown kept =
    (shown.0, shows_kept next shown.1 kept)

-- the writer keeps what it has, as when it is flushed
pub of_kept : {telling : Telling} {lists : Lists} {limit : ℕ} {all left start now : Option (List ℕ)} {unread : List ℕ} {at : ℕ} (next : Option (List ℕ))
    → ShownOf telling lists limit all left start now unread at → Keeps now next → ShownOf telling lists limit all left start next unread at
of_kept {telling} {lists} {limit} {all} {left} {start} {now} {unread} {at} next shown kept =
    record { known = known_kept telling lists limit start now unread at all left next shown.known kept }

known_rest : (telling : Telling) (lists : Lists) (limit : ℕ) (start now : Option (List ℕ)) (at : ℕ) (all left : Option (List ℕ)) (unread : Unread)
    (next : Option (List ℕ)) (s : Status)
    → Known telling lists limit all left start now unread.octets at → unread.limit ≡ limit → IsAtEnd left → Waits unread
    → Appends now next (ended (telling.rest (length unread.octets)))
    → s ≡ (if length unread.octets == 0 then Done else Refused)
    → DumpsKnown telling limit all start next s
unfolding Known
known_rest telling lists limit start now at None left unread next s shown same end waits text status = tt
known_rest telling lists limit start now at (Some octets) None unread next s shown same end waits text status = absurd shown
known_rest telling lists limit start now at (Some octets) (Some left) unread next s shown same end waits text status =
    ends_at_rest unread left next (Ok s) shown.1 same (ap length end) waits text status

-- at the end of the input the rest is told
pub of_rest : {telling : Telling} {lists : Lists} {limit : ℕ} {all left start now : Option (List ℕ)} {at : ℕ} (unread : Unread) (next : Option (List ℕ))
    (r : Result Status Failure)
    → ShownOf telling lists limit all left start now unread.octets at → unread.limit ≡ limit → IsAtEnd left → Waits unread
    → OnOk r (Appends now next (ended (telling.rest (length unread.octets))))
    → IfOk r (λ s. s ≡ (if length unread.octets == 0 then Done else Refused))
    → IfOk r (DumpsKnown telling limit all start next)
of_rest unread next (Err e) shown same end waits text status = tt
of_rest {telling} {lists} {limit} {all} {left} {start} {now} {at} unread next (Ok s) shown same end waits text status =
    known_rest telling lists limit start now at all left unread next s shown.known same end waits text status

known_fault : (telling : Telling) (lists : Lists) (limit : ℕ) (start now : Option (List ℕ)) (at : ℕ) (all left : Option (List ℕ)) (unread : Unread)
    (next : Option (List ℕ)) (e : WireFault)
    (s : Status)
    → Known telling lists limit all left start now unread.octets at → unread.limit ≡ limit → IsRefusal unread e
    → Appends now next (ended (telling.fault at e)) → (s ≡ header_status e.kind) × (e.kind ≢ NoMemory)
    → DumpsKnown telling limit all start next s
unfolding Known
known_fault telling lists limit start now at None left unread next e s shown same refusal text status = tt
known_fault telling lists limit start now at (Some octets) None unread next e s shown same refusal text status = absurd shown
known_fault telling lists limit start now at (Some octets) (Some left) unread next e s shown same refusal text status =
    ends_at_fault unread left next e (Ok s) shown.1 same refusal text status

-- at a fault the fault is
pub of_fault : {telling : Telling} {lists : Lists} {limit : ℕ} {all left start now : Option (List ℕ)} {at : ℕ} (unread : Unread) (next : Option (List ℕ))
    (e : WireFault)
    (r : Result Status Failure)
    → ShownOf telling lists limit all left start now unread.octets at → unread.limit ≡ limit → IsRefusal unread e
    → OnOk r (Appends now next (ended (telling.fault at e))) → IfOk r (λ s. (s ≡ header_status e.kind) × (e.kind ≢ NoMemory))
    → IfOk r (DumpsKnown telling limit all start next)
of_fault unread next e (Err f) shown same refusal text status = tt
of_fault {telling} {lists} {limit} {all} {left} {start} {now} {at} unread next e (Ok s) shown same refusal text status =
    known_fault telling lists limit start now at all left unread next e s shown.known same refusal text status
