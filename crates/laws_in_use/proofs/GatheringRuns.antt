-- What the gatherer holds as the pieces come.
use Rattle.std.proofs.Common.{◌≡◌, ℕ, ◌+◌, true, false, nat_lt, [], ◌∷◌, length, Some, None, refl, ap, ◌∙◌, arith}
use Rattle.std.specs.FinMap as finite
use Rattle.std.specs.Ordering.{nat_cmp}
use Rattle.giop_cdr.specs.declared.order.Order.TheVariants.{Big, Little}
use Rattle.giop_ids.specs.ById.{weight_in}
use Rattle.giop_ids.specs.Runs.{Runs}
use Rattle.giop_ids.proofs.Puts.{get-put}
use Rattle.giop_ids.proofs.Sums.{sum_empty, sum_put}
use Rattle.giop_frag.specs.declared.fault.GatherFault.TheVariants.{GatherFull, OrderDiffers}
use Rattle.giop_frag.specs.Gathered.{Lists, Pieces, room_fault, total_of}
use Rattle.giop_frag.specs.Runs.{Adds, Begins, Gives, IsDone, IsFinished, gather_rules, turn}
use Rattle.laws_in_use.specs.Gathering.{acts, begun, both_begun, handed_out, joined, none, of_nine, of_seven, one_begun, results, under}
use Rattle.laws_in_use.proofs.Running.{accepts, limits, refuses}

-- what stands under the ids
pub none_at : (id : ℕ) → finite.get none id ≡ None
none_at id = finite.get-empty nat_cmp id

pub nine_is_new : finite.get one_begun 9 ≡ None
nine_is_new = get-put none 7 (Some begun) 9 ∙ none_at 9

pub seven_begun : finite.get both_begun 7 ≡ Some begun
seven_begun = get-put one_begun 9 (Some of_nine) 7 ∙ get-put none 7 (Some begun) 7

pub nine_begun : finite.get both_begun 9 ≡ Some of_nine
nine_begun = get-put one_begun 9 (Some of_nine) 9

pub nine_stays : finite.get joined 9 ≡ Some of_nine
nine_stays = get-put both_begun 7 (Some of_seven) 9 ∙ nine_begun

-- what there is no room for
abbrev too_many : Pieces
too_many = record { order = Little; octets = 4 ∷ 6 ∷ 6 ∷ 6 ∷ 6 ∷ 6 ∷ [] }

-- and how many octets there are
pub total_none : total_of none ≡ 0
total_none = sum_empty (λ pieces. length pieces.octets)

pub total_one : total_of one_begun ≡ 3
total_one =
    let put = sum_put (λ (pieces : Pieces). length pieces.octets) none 7 (Some begun) in
    let was : weight_in (λ (pieces : Pieces). length pieces.octets) (finite.get none 7) ≡ 0 = ap (weight_in (λ pieces. length pieces.octets)) (none_at 7) in
    omega (arith, put, was, total_none)

pub total_both : total_of both_begun ≡ 4
total_both =
    let put = sum_put (λ (pieces : Pieces). length pieces.octets) one_begun 9 (Some of_nine) in
    let was : weight_in (λ (pieces : Pieces). length pieces.octets) (finite.get one_begun 9) ≡ 0 =
    ap (weight_in (λ pieces. length pieces.octets)) nine_is_new in
    omega (arith, put, was, total_one)

-- there is room for so many octets more, or not
pub has_room : (m : Lists) (total n : ℕ) → total_of m ≡ total → nat_lt 8 (total + n) ≡ false → room_fault (nat_lt 8 (total_of m + n)) ≡ None
has_room m total n is within = ap (λ t. room_fault (nat_lt 8 (t + n))) is ∙ ap room_fault within

pub has_none : (m : Lists) (total n : ℕ) → total_of m ≡ total → nat_lt 8 (total + n) ≡ true
    → room_fault (nat_lt 8 (total_of m + n)) ≡ Some GatherFull
has_none m total n is over = ap (λ t. room_fault (nat_lt 8 (t + n))) is ∙ ap room_fault over

-- all of it, one after another
pub run : Runs (gather_rules 8) none acts results handed_out
run = (
  one_begun,
  accepts (gather_rules 8) none (under 7 (Begins Big (1 ∷ 2 ∷ 3 ∷ []))) (record { now = Some begun; answer = IsDone }) refl (has_room none 0 3 total_none refl),
  (
    both_begun,
    accepts (gather_rules 8) one_begun (under 9 (Begins Little (4 ∷ []))) (record { now = Some of_nine; answer = IsDone }) refl
        (has_room one_begun 3 1 total_one refl),
    (
      both_begun,
      refuses (gather_rules 8) both_begun (under 7 (Adds Little (5 ∷ []))) OrderDiffers (ap (λ held. turn held (Adds Little (5 ∷ []))) seven_begun),
      (
        both_begun,
        limits (gather_rules 8) both_begun (under 9 (Adds Little (6 ∷ 6 ∷ 6 ∷ 6 ∷ 6 ∷ []))) (record { now = Some too_many; answer = IsDone })
            GatherFull (ap (λ held. turn held (Adds Little (6 ∷ 6 ∷ 6 ∷ 6 ∷ 6 ∷ []))) nine_begun) (has_none both_begun 4 5 total_both refl),
        (
          joined,
          accepts (gather_rules 8) both_begun (under 7 (Adds Big (5 ∷ 6 ∷ []))) (record { now = Some of_seven; answer = IsDone })
              (ap (λ held. turn held (Adds Big (5 ∷ 6 ∷ []))) seven_begun) (has_room both_begun 4 2 total_both refl),
          (
            handed_out,
            accepts (gather_rules 8) joined (under 9 IsFinished) (record { now = None; answer = Gives of_nine })
                (ap (λ held. turn held IsFinished) nine_stays) refl,
            refl,
          ),
        ),
      ),
    ),
  ),
)
