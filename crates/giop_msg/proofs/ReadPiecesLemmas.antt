-- A stream that is read in pieces: what was read so far is the split of what came so far.
use Rattle.std.proofs.Common.{◌≡◌, ◌≢◌, ℕ, ◌+◌, ◌<◌, List, [], ◌++◌, length, take, Option, Some, None, refl, sym, ap, subst, ◌∙◌, inl, inr, length-append, arith}
use Rattle.std.specs.Borrow.{Bor}
use Rattle.std.specs.List.{flat_map, slice_index_or}
use Rattle.std.proofs.lemmas.List.{take_more, flat_map_more}
use Rattle.giop_msg.specs.declared.fault.WireFault.{WireFault}
use Rattle.giop_msg.specs.declared.fault.WireKind.TheVariants.{NoMemory}
use Rattle.giop_msg.specs.declared.msg.Msg.{Msg}
use Rattle.giop_msg.specs.Fault.{fault}
use Rattle.giop_msg.specs.Msg.{IsMessage, message_octets}
use Rattle.giop_msg.specs.Stream.{AppendsTaken, BeginsWithFault, BeginsWithMessage, IsRefusal, IsStopped, Msgs, Unread, Waits}
use Rattle.giop_msg.proofs.FaultLemmas.{not_memory}
use Rattle.giop_msg.proofs.StreamLemmas.{length-message_octets, message_or_fault, one_fault, split_goes_on}

pub stopped_waiting : (unread : Unread) → Waits unread → IsStopped unread None
stopped_waiting unread waits = record {
  no_message = waits.no_message;
  fault_is = λ e. (λ none. let no : ⊥ = cc in absurd no, λ stands. absurd (waits.no_fault e stands));
}

pub stopped_by_fault : (unread : Unread) (e : WireFault) → BeginsWithFault unread.limit unread.octets e → IsStopped unread (Some e)
stopped_by_fault unread e stands = record {
  no_message = λ message. message_or_fault unread.limit unread.octets e message stands;
  fault_is = λ f. (
    λ same. subst (BeginsWithFault unread.limit unread.octets) (let equal : e ≡ f = cc in equal) stands,
    λ other. ap (λ x. Some x) (one_fault unread.limit unread.octets e f stands other),
  );
}

-- a refusal of kind NoMemory is want of memory
pub refused_by_memory : (unread : Unread) (e : WireFault) → IsRefusal unread e →
    e.kind ≡ NoMemory → e ≡ fault 0 NoMemory
refused_by_memory unread e (inl stands) memory = absurd (not_memory unread.limit (take 12 unread.octets) e stands.1 memory)
refused_by_memory unread e (inr is) memory = is.0

-- another one stands at the front of the octets
pub refused_by_fault : (unread : Unread) (e : WireFault) → IsRefusal unread e →
    e.kind ≢ NoMemory → BeginsWithFault unread.limit unread.octets e
refused_by_fault unread e (inl stands) other = stands
refused_by_fault unread e (inr is) other = absurd (other (ap (λ (w : WireFault). w.kind) is.0))

-- what is read of a stream: its messages, the fault behind them, and the rest
pub record ReadSoFar (limit : ℕ) (stream : List ℕ) (messages : List Msg) (stands : Option WireFault) (unread : Unread) : Type 0 where
  pub limit_is : unread.limit ≡ limit
  pub split : Msgs limit stream messages unread.octets
  pub stopped : IsStopped unread stands

pub read_nothing : (limit : ℕ) → ReadSoFar limit [] [] None (record { limit = limit; octets = [] })
read_nothing limit =
    let none : BeginsWithMessage limit [] → ⊥ =
    λ (m, more, is, e). absurd (omega (arith, ap length e, length-append (message_octets m) more, length-message_octets m)) in
    record {
      limit_is = refl;
      split = record { whole = refl; each = λ k d h. absurd (omega (arith, h)); partial = none };
      stopped = record {
        no_message = none;
        fault_is = λ e. (λ empty. let no : ⊥ = cc in absurd no, λ stands. absurd (omega (arith, stands.0)));
      };
    }

-- one piece more
pub read_more : (limit : ℕ) (stream piece : List ℕ) (before after : List Msg) (stood stands : Option WireFault) (old fed new : Unread) →
    ReadSoFar limit stream before stood old → fed ≡ record old { octets = old.octets ++ piece } → AppendsTaken fed before new after → IsStopped new stands →
    ReadSoFar limit (stream ++ piece) after stands new
read_more limit stream piece before after stood stands old fed new so_far is moved stopped =
    let limits : fed.limit ≡ limit = ap (λ (u : Unread). u.limit) is ∙ so_far.limit_is in
    let now : new.limit ≡ limit = moved.takes.limit ∙ limits in
    let taken : Msgs limit (old.octets ++ piece) moved.taken new.octets = record {
      whole = sym (ap (λ (u : Unread). u.octets) is) ∙ moved.takes.octets;
      each = λ k d h. subst (λ n. IsMessage n (slice_index_or moved.taken k d)) limits (moved.takes.each k d h);
      partial = λ begins. stopped.no_message (subst (λ n. BeginsWithMessage n new.octets) (sym now) begins);
    } in
    record {
      limit_is = now;
      split = subst (λ ms. Msgs limit (stream ++ piece) ms new.octets) (sym moved.appended)
          (split_goes_on limit stream piece before moved.taken old.octets new.octets so_far.split taken);
      stopped = stopped;
    }

-- the octets of one piece more
pub pieces_more : (pieces : List (Bor (List ℕ))) (i : ℕ) (d : Bor (List ℕ)) → i < length pieces →
    flat_map (λ (p : Bor (List ℕ)). p.now) (take (i + 1) pieces) ≡ flat_map (λ (p : Bor (List ℕ)). p.now) (take i pieces) ++ (slice_index_or pieces i d).now
pieces_more pieces i d h =
    ap (flat_map (λ (p : Bor (List ℕ)). p.now)) (take_more pieces i d h)
    ∙ sym (flat_map_more (λ (p : Bor (List ℕ)). p.now) [] (take i pieces) (slice_index_or pieces i d))
