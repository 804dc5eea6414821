use Rattle.std.proofs.Common.{◌≡◌, ℕ, ◌-◌, ◌≤◌, List, ◌++◌, length, take, drop, refl, ap, ◌∙◌, arith, append-nil, length-append, length-drop, take-append-drop}
use Rattle.std.proofs.Math.ListN.{drop_of_length-le}
use Rattle.std.proofs.lemmas.List.{length-take-le, take-append-le, take-take, take_all}
use Rattle.giop_frag.proofs.block.copy.Goals as goal

-- the first k octets, and then the last n over what may lie over some of them, are all
by_ends : (to octets first last : List ℕ) (k m n : ℕ) → k ≤ length octets → m ≤ k → length to ≡ length octets → n ≡ length octets - m
    → first ≡ take k octets → last ≡ take n (drop m octets)
    → take m (first ++ drop k to) ++ (last ++ drop (length (first ++ drop k to) - m) (drop m (first ++ drop k to))) ≡ octets
by_ends to octets first last k m n enough less size rest is_first is_last =
    let count = ap length is_first ∙ length-take-le k octets enough in
    let others = length-drop k to in
    let both = length-append first (drop k to) in
    let those = length-drop m octets in
    let behind = length-drop m (first ++ drop k to) in
    ap (λ l. take m (first ++ drop k to) ++ (last ++ l)) (drop_of_length-le (drop m (first ++ drop k to)) (omega arith))
    ∙ ap (λ l. take m (first ++ drop k to) ++ l) (append-nil last ∙ is_last ∙ take_all n (drop m octets) (omega arith))
    ∙ ap (λ l. l ++ drop m octets) (take-append-le m first (drop k to) (omega arith) ∙ ap (take m) is_first ∙ take-take m k octets less)
    ∙ take-append-drop m octets

pub returns-then-n-le32 : goal.returns-then-n-le32
returns-then-n-le32 c =
    let few = c.if-n-le32.true in
    by_ends c.args.to.now c.args.octets.now _ _ 16 (length c.args.octets.now - 16) _ c.if-n-ge16.true (omega arith) c.requires refl
    (c.copy_from_slice-then-n-le32-2.ensures.after ∙ c.copy_from_slice.ensures.after)
    (c.copy_from_slice-then-n-le32-3.ensures.after ∙ c.copy_from_slice-then-n-le32.ensures.after)
