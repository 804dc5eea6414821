-- What is written and what is read, part after part.
use Rattle.std.proofs.Common.{◌≡◌, ℕ, ◌+◌, ◌<◌, List, [], ◌∷◌, ◌++◌, length, Option, Some, None, Result, Ok, Err, refl, sym, ap, subst, ◌∙◌, append_assoc, append-nil, take, drop, take-append-drop, length-append}
use Rattle.std.proofs.lemmas.List.Elements.{All-append, All-cons, All-nil}
use Rattle.std.proofs.lemmas.List.Folds.{concat-append}
use Rattle.std.specs.List.{concat}
use Rattle.std.specs.Result.{IsErrAnd}
use Rattle.std.specs.Io.KnownBytes.{Appends, Consumes}
use Rattle.giop_msg.specs.declared.msg.Msg.{Msg}
use Rattle.giop_end.specs.declared.pump_fault.PumpFault.{PumpFault}
use Rattle.giop_end.specs.declared.pump_fault.PumpFault.TheVariants.{Read, Write, Session, TurnsSpent}
use Rattle.giop_end.specs.declared.session_fault.SessionFault.{SessionFault}
use Rattle.giop_end.specs.Pumping.{Writes, State, Between, Feeds, ReadsAndFeeds, Turned, AllFed, TakesTurns, PumpEnds, Pumped, IsSomeRead}

-- ---- what is written

appends_none : (held : Option (List ℕ)) → Appends held held []
appends_none None = tt
appends_none (Some octets) = sym (append-nil octets)

pub appends_on : (a b c : Option (List ℕ)) (xs ys : List ℕ) → Appends a b xs → Appends b c ys → Appends a c (xs ++ ys)
appends_on None b c xs ys p q = tt
appends_on (Some a) None c xs ys p q = absurd p
appends_on (Some a) (Some b) None xs ys p q = absurd q
appends_on (Some a) (Some b) (Some c) xs ys p q = q ∙ ap (λ o. o ++ ys) p ∙ append_assoc a xs ys

pub writes_none : (held : Option (List ℕ)) (out : List ℕ) → Writes held held out out
writes_none held out = record { written = []; front = refl; given = appends_none held }

pub writes_on : (a b c : Option (List ℕ)) (out mid last : List ℕ) → Writes a b out mid → Writes b c mid last → Writes a c out last
writes_on a b c out mid last one other = record {
  written = one.written ++ other.written;
  front = one.front ∙ ap (λ o. one.written ++ o) other.front ∙ sym (append_assoc one.written other.written last);
  given = appends_on a b c one.written other.written one.given other.given;
}

-- a part of what is outgoing is written
pub writes_more : (a b c : Option (List ℕ)) (out mid : List ℕ) (n : ℕ) → Writes a b out mid → Appends b c (take n mid) → Writes a c out (drop n mid)
writes_more a b c out mid n one given =
    writes_on a b c out mid (drop n mid) one (record { written = take n mid; front = sym (take-append-drop n mid); given = given })

-- ---- what is read

consumes_none : (known : Option (List ℕ)) → Consumes known known []
consumes_none None = tt
consumes_none (Some octets) = refl

consumes_on : (a b c : Option (List ℕ)) (xs ys : List ℕ) → Consumes a b xs → Consumes b c ys → Consumes a c (xs ++ ys)
consumes_on None b c xs ys p q = tt
consumes_on (Some a) None c xs ys p q = absurd p
consumes_on (Some a) (Some b) None xs ys p q = absurd q
consumes_on (Some a) (Some b) (Some c) xs ys p q = p ∙ ap (λ o. xs ++ o) q ∙ sym (append_assoc xs ys c)

module _ {S : Type 0} (Hears : Msg → S → Result (Unit {0}) SessionFault → S → Type 0) where
  all_fed_more : (reads : List (List ℕ)) (s mid t : State S) (octets : List ℕ) → AllFed Hears s reads mid → Feeds Hears mid octets (Ok tt) t
      → AllFed Hears s (reads ++ octets ∷ []) t
  all_fed_more [] s mid t octets before next = (t, subst (λ u. Feeds Hears u octets (Ok tt) t) before next, refl)
  all_fed_more (one ∷ reads) s mid t octets before next =
      (before.0, before.1, all_fed_more reads before.0 mid t octets before.2 next)

  -- so many turns, of which each read some octets
  pub record SoFar (done : ℕ) (s t : Between S) : Type 0 where
    pub reads : List (List ℕ)
    pub count : length reads ≡ done
    pub takes : TakesTurns Hears s reads t

  pub so_far_none : (s : Between S) → SoFar 0 s s
  so_far_none s = record {
    reads = [];
    count = refl;
    takes = record {
      each = All-nil IsSomeRead;
      taken = consumes_none s.input;
      fed = refl;
      writes = writes_none s.output s.outgoing;
    };
  }

  takes_more : (s mid t : Between S) (reads : List (List ℕ)) (octets : List ℕ) → TakesTurns Hears s reads mid
      → Writes mid.output t.output mid.outgoing t.outgoing → ReadsAndFeeds Hears mid octets (Ok tt) t → 0 < length octets
      → TakesTurns Hears s (reads ++ octets ∷ []) t
  takes_more s mid t reads octets before writes reads_on some = record {
    each = All-append IsSomeRead reads (octets ∷ []) before.each (All-cons IsSomeRead octets [] (some, reads_on.within) (All-nil IsSomeRead));
    taken = subst (λ all. Consumes s.input t.input all) (sym (concat-append reads (octets ∷ []) ∙ ap (λ o. concat reads ++ o) (append-nil octets)))
        (consumes_on s.input mid.input t.input (concat reads) octets before.taken reads_on.read);
    fed = all_fed_more reads s.state mid.state t.state octets before.fed reads_on.fed;
    writes = writes_on s.output mid.output t.output s.outgoing mid.outgoing t.outgoing before.writes writes;
  }

  pub so_far_more : (done n : ℕ) (s mid t : Between S) → SoFar done s mid → Turned Hears mid (Ok n) t → 0 < n → SoFar (done + 1) s t
  so_far_more done n s mid t before turned some =
      let octets = turned.ends.0 in
      record {
        reads = before.reads ++ octets ∷ [];
        count = length-append before.reads (octets ∷ []) ∙ ap (λ k. k + 1) before.count;
        takes = takes_more s mid t before.reads octets before.takes turned.writes turned.ends.2 (subst (λ k. 0 < k) turned.ends.1 some);
      }

  -- ---- how a pump ends

  pub pumped_out : (turns done : ℕ) (s mid t : Between S) → SoFar done s mid → done < turns → Turned Hears mid (Ok 0) t
      → Pumped Hears turns s (Ok tt) t
  pumped_out turns done s mid t before within turned = record {
    reads = before.reads;
    mid = mid;
    takes = before.takes;
    ends = (subst (λ k. k < turns) (sym before.count) within, turned);
  }

  pub pumped_spent : (turns : ℕ) (s t : Between S) → SoFar turns s t → Pumped Hears turns s (Err TurnsSpent) t
  pumped_spent turns s t before = record { reads = before.reads; mid = t; takes = before.takes; ends = (before.count, refl) }

  ends_away : (turns done : ℕ) (mid t : Between S) (why : PumpFault) → done < turns → Turned Hears mid (Err why) t
      → PumpEnds Hears turns done mid (Err why) t
  ends_away turns done mid t TurnsSpent within turned = absurd turned.ends
  ends_away turns done mid t (Session why) within turned = (within, turned)
  ends_away turns done mid t (Read error) within turned = (within, turned)
  ends_away turns done mid t (Write error) within turned = (within, turned)

  pub pumped_away : (turns done : ℕ) (s mid t : Between S) (why : PumpFault) → SoFar done s mid → done < turns → Turned Hears mid (Err why) t
      → Pumped Hears turns s (Err why) t
  pumped_away turns done s mid t why before within turned = record {
    reads = before.reads;
    mid = mid;
    takes = before.takes;
    ends = ends_away turns (length before.reads) mid t why (subst (λ k. k < turns) (sym before.count) within) turned;
  }

-- what is passed on is the same fault
pub passed_on : (result : Result (Unit {0}) PumpFault) (why : PumpFault) → IsErrAnd result (λ other. other ≡ why) → result ≡ Err why
passed_on (Ok done) why is = absurd is
passed_on (Err other) why is = ap Err is
