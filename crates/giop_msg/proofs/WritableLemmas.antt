-- What the test of a writable head says, part by part; and contexts that are written one after the other.
use Rattle.std.proofs.Common.{◌≡◌, ℕ, suc, ◌+◌, ◌^◌, ◌<◌, ◌≤◌, ◌&&◌, Bool, true, false, not, ltb, List, [], ◌∷◌, ◌++◌, length, get_or, drop, refl, sym, ap, ◌∙◌, add-one, drop-cons, arith}
use Rattle.std.proofs.lemmas.Bool.{ltb-true, not-true}
use Rattle.std.proofs.lemmas.List.{drop_all}
use Rattle.std.proofs.lemmas.List.Folds.{list_all_at}
use Rattle.std.specs.List.{list_all}
use Rattle.giop_cdr.specs.Reading.{has_null}
use Rattle.giop_cdr.specs.Output.{Output, items_out}
use Rattle.giop_msg.specs.declared.service_context.ServiceContext.{ServiceContext}
use Rattle.giop_msg.specs.declared.request_head.RequestHead.{RequestHead}
use Rattle.giop_msg.specs.RequestHead.{is_response_flags}
use Rattle.giop_msg.specs.RequestHeadWriting.{context_out, is_countable, is_countable_target, is_writable}

pub and_parts : (a b : Bool) → (a && b) ≡ true → (a ≡ true) × (b ≡ true)
and_parts true b e = (refl, e)
and_parts false b e = absurd cc

abbrev pub counts_context : ServiceContext → Bool
counts_context context = is_countable context.octets

-- the parts of a writable head
pub record Writable (head : RequestHead) : Type 0 where
  pub flags : is_response_flags head.flags ≡ true
  pub target : is_countable_target head.target ≡ true
  pub short : length head.operation + 1 < 2 ^ 32
  pub text : has_null head.operation ≡ false
  pub few : length head.contexts < 2 ^ 32
  pub each : list_all counts_context head.contexts ≡ true

pub writable_parts : (head : RequestHead) → is_writable head ≡ true → Writable head
unfolding is_writable
writable_parts head is =
    let all = and_parts _ _ is in
    let front = and_parts _ _ all.0 in
    let begin = and_parts _ _ front.0 in
    let name = and_parts _ _ front.1 in
    let list = and_parts _ _ all.1 in
    record {
      flags = begin.0;
      target = begin.1;
      short = ltb-true _ _ name.0;
      text = not-true _ name.1;
      few = ltb-true _ _ list.0;
      each = list.1;
    }

-- each context that is listed is short enough
pub one_countable : (contexts : List ServiceContext) (i : ℕ) (d : ServiceContext) → i < length contexts
    → list_all counts_context contexts ≡ true → is_countable (get_or contexts i d).octets ≡ true
one_countable contexts i d there each = by_cases (is_countable (get_or contexts i d).octets) refl
  where
    by_cases : (b : Bool) → is_countable (get_or contexts i d).octets ≡ b → b ≡ true
    by_cases true e = refl
    by_cases false e =
        let fails = list_all_at counts_context contexts i d there e in
        absurd cc

-- a turn of the loop that wrote a context
pub context_written : (contexts : List ServiceContext) (i : ℕ) (context : ServiceContext) (out done : Output) → i < length contexts
    → context ≡ get_or contexts i context → items_out context_out (drop i contexts) out ≡ done
    → items_out context_out (drop (i + 1) contexts) (context_out context out) ≡ done
unfolding items_out
context_written contexts i context out done there is so_far =
    let split : drop i contexts ≡ context ∷ drop (i + 1) contexts = rw add-one (drop-cons contexts i context there ∙ rw (← is) refl) in
    sym (ap (λ (rest : List ServiceContext). items_out context_out rest out) split) ∙ so_far

pub contexts_written : (contexts : List ServiceContext) (i : ℕ) (out done : Output) → length contexts ≤ i
    → items_out context_out (drop i contexts) out ≡ done → out ≡ done
unfolding items_out
contexts_written contexts i out done all so_far =
    sym (ap (λ (rest : List ServiceContext). items_out context_out rest out) (drop_all i contexts all)) ∙ so_far
