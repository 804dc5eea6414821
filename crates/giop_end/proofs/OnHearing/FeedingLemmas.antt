-- Messages that are heard one after another.
use Rattle.std.proofs.Common.{◌≡◌, ℕ, List, [], ◌∷◌, ◌++◌, Result, Ok, Err, refl, sym, ap, subst, ◌∙◌, inl, inr}
use Rattle.std.specs.Result.{IsErrAnd}
use Rattle.giop_msg.specs.declared.fault.WireFault.{WireFault}
use Rattle.giop_msg.specs.declared.fault.WireKind.TheVariants as wire
use Rattle.giop_msg.specs.declared.msg.Msg.{Msg}
use Rattle.std.proofs.Common.{All, append_assoc}
use Rattle.std.specs.List.{flat_map}
use Rattle.std.proofs.lemmas.Grind.{flat_map-append}
use Rattle.std.proofs.lemmas.List.Elements.{All-append}
use Rattle.giop_msg.specs.Msg.{IsMessage, message_octets}
use Rattle.giop_msg.specs.Stream.{AppendsTaken, TakesMessage, TakesMessages, Unread}
use Rattle.giop_msg.proofs.FramerLemmas.{taken_none, taken_more}
use Rattle.giop_end.specs.declared.session_fault.SessionFault.{SessionFault}
use Rattle.giop_end.specs.Ends.SessionFaults.{of_wire}
use Rattle.giop_end.specs.Hearing.Feeding.{Through, Stops, Fed, with_octets}
use Rattle.giop_end.specs.declared.session_fault.SessionFault.TheVariants.{NoMemory}

module _ {S : Type 0} (Hears : Msg → S → Result (Unit {0}) SessionFault → S → Type 0) where
  -- these messages are taken from what was unread, and heard
  pub record SoFar (unread : Unread) (h : S) (left : Unread) (k : S) : Type 0 where
    pub messages : List Msg
    pub taken : TakesMessages unread messages left
    pub heard : Through Hears h messages k

  pub so_far_none : (unread : Unread) (h : S) → SoFar unread h unread h
  so_far_none unread h =
      let none = taken_none unread [] in
      record { messages = []; taken = subst (λ messages. TakesMessages unread messages unread) (sym none.appended) none.takes; heard = refl }

  through_more : (messages : List Msg) (h mid k : S) (m : Msg) → Through Hears h messages mid → Hears m mid (Ok tt) k
      → Through Hears h (messages ++ m ∷ []) k
  through_more [] h mid k m heard next = (k, subst (λ s. Hears m s (Ok tt) k) heard next, refl)
  through_more (one ∷ messages) h mid k m heard next = (heard.0, heard.1, through_more messages heard.0 mid k m heard.2 next)

  pub so_far_more : (unread middle left : Unread) (h mid k : S) (m : Msg) → SoFar unread h middle mid → TakesMessage middle m left
      → Hears m mid (Ok tt) k → SoFar unread h left k
  so_far_more unread middle left h mid k m so_far takes next =
      let before : AppendsTaken unread [] middle so_far.messages = record { taken = so_far.messages; appended = refl; takes = so_far.taken } in
      let more = taken_more unread middle left [] so_far.messages m before takes in
      record {
        messages = so_far.messages ++ m ∷ [];
        taken = subst (λ messages. TakesMessages unread messages left) (sym more.appended) more.takes;
        heard = through_more so_far.messages h mid k m so_far.heard next;
      }

  pub fed_by : (unread rest left : Unread) (h k : S) (result : Result (Unit {0}) SessionFault) → SoFar unread h rest k
      → Stops Hears rest k result left → Fed Hears unread h result left k
  fed_by unread rest left h k result so_far stops = record {
    messages = so_far.messages;
    rest = rest;
    taken = so_far.taken;
    heard = so_far.heard;
    stops = stops;
  }

  -- an end that stops for want of memory has heard what it heard
  pub wanting : (unread rest left : Unread) (h k : S) (result : Result (Unit {0}) SessionFault) → SoFar unread h rest k
      → result ≡ Err NoMemory → Fed Hears unread h result left k
  wanting unread rest left h k result so_far want =
      fed_by unread rest left h k result so_far (subst (λ result. Stops Hears rest k result left) (sym want) (inl refl))

  -- an end that stops at a message that is refused, which changes nothing
  pub refused_fed : (unread rest left : Unread) (h mid k : S) (m : Msg) (why : SessionFault) (result : Result (Unit {0}) SessionFault)
      → SoFar unread h rest mid → TakesMessage rest m left → k ≡ mid → Hears m k (Err why) k → result ≡ Err why → Fed Hears unread h result left k
  refused_fed unread rest left h mid k m why result so_far takes same refused is =
      fed_by unread rest left h k result (subst (λ s. SoFar unread h rest s) (sym same) so_far)
      (subst (λ result. Stops Hears rest k result left) (sym is) (inr (inr (m, takes, refused))))

  through_join : (one other : List Msg) (h mid k : S) → Through Hears h one mid → Through Hears mid other k → Through Hears h (one ++ other) k
  through_join [] other h mid k heard next = subst (λ s. Through Hears s other k) heard next
  through_join (m ∷ one) other h mid k heard next = (heard.0, heard.1, through_join one other heard.0 mid k heard.2 next)

  -- what octets and then more come to is what both come to at once
  pub fed_in_turn : (unread left last : Unread) (h mid k : S) (more : List ℕ) (result : Result (Unit {0}) SessionFault)
      → Fed Hears unread h (Ok tt) left mid → Fed Hears (with_octets left more) mid result last k
      → Fed Hears (with_octets unread more) h result last k
  fed_in_turn unread left last h mid k more result first second =
      let behind : left ≡ first.rest = first.stops.1 in
      let limit = ap (λ u. u.limit) behind ∙ first.taken.limit in
      record {
        messages = first.messages ++ second.messages;
        rest = second.rest;
        taken = record {
          each = All-append (IsMessage unread.limit) first.messages second.messages first.taken.each
              (subst (λ n. All (IsMessage n) second.messages) limit second.taken.each);
          octets =
              ap (λ octets. octets ++ more) first.taken.octets
              ∙ append_assoc (flat_map message_octets first.messages) first.rest.octets more
              ∙ ap (λ (u : Unread). flat_map message_octets first.messages ++ (u.octets ++ more)) (sym behind)
              ∙ ap (λ octets. flat_map message_octets first.messages ++ octets) second.taken.octets
              ∙ sym (append_assoc (flat_map message_octets first.messages) (flat_map message_octets second.messages) second.rest.octets)
              ∙ ap (λ octets. octets ++ second.rest.octets) (sym (flat_map-append message_octets first.messages second.messages));
          limit = second.taken.limit ∙ limit;
        };
        heard = through_join first.messages second.messages h mid k first.heard second.heard;
        stops = second.stops;
      }

-- a framer's want of memory is the end's
pub of_want : (result : Result (Unit {0}) SessionFault) (fault : WireFault) → fault ≡ record { at = 0; kind = wire.NoMemory }
    → IsErrAnd result (λ why. why ≡ of_wire fault) → result ≡ Err NoMemory
of_want (Ok done) fault want is = absurd is
of_want (Err why) fault want is = ap Err (is ∙ ap of_wire want)

-- what is passed on is the same fault
pub passed_on : (result : Result (Unit {0}) SessionFault) (why : SessionFault) → IsErrAnd result (λ other. other ≡ why) → result ≡ Err why
passed_on (Ok done) why is = absurd is
passed_on (Err other) why is = ap Err is
