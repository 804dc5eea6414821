-- What an act of a program is planned to send is one thing: joined octets are cut in one way.
use Rattle.std.proofs.Common.{◌≡◌, ℕ, ◌+◌, ◌-◌, ◌<◌, ◌≤◌, ◌⊎◌, false, List, [], ◌∷◌, drop, length, take, sym, ap, ◌∙◌, arith, inl, inr}
use Rattle.giop_cdr.specs.declared.order.Order.{Order}
use Rattle.giop_msg.specs.declared.kind.Kind.{Kind}
use Rattle.giop_msg.specs.declared.msg.Msg.{Msg}
use Rattle.giop_msg.specs.declared.version.Version.{Version}
use Rattle.giop_msg.specs.declared.version.Version.TheVariants.{V12}
use Rattle.giop_msg.specs.Cut.{AreFragments, IsCut}
use Rattle.giop_msg.specs.Version.{has_fragments}
use Rattle.giop_end.specs.declared.acts.form.Form.{Form}
use Rattle.giop_table.specs.declared.plan.Planned.{Planned}
use Rattle.giop_table.specs.declared.plan.Plan.TheVariants.{Put}
use Rattle.giop_end.specs.Acts.Sent.{IsSent}

fragments_once : (one other : List Msg) (order : Order) (id : List ℕ) (piece : ℕ) (octets : List ℕ) → AreFragments order id piece octets one
    → AreFragments order id piece octets other → one ≡ other
fragments_once [] other order id piece octets are also = absurd are
fragments_once (m ∷ []) [] order id piece octets are also = absurd also
fragments_once (m ∷ n ∷ one) [] order id piece octets are also = absurd also
fragments_once (m ∷ []) (m' ∷ []) order id piece octets are also = ap (λ x. x ∷ []) (are.0 ∙ sym also.0)
fragments_once (m ∷ []) (m' ∷ n' ∷ other) order id piece octets are also =
    let short = are.2 in let long = also.1 in let wrong : ⊥ = omega (arith, short, long) in absurd wrong
fragments_once (m ∷ n ∷ one) (m' ∷ []) order id piece octets are also =
    let short = also.2 in let long = are.1 in let wrong : ⊥ = omega (arith, short, long) in absurd wrong
fragments_once (m ∷ n ∷ one) (m' ∷ n' ∷ other) order id piece octets are also =
    let first = are.0 ∙ sym also.0 in
    let others = fragments_once (n ∷ one) (n' ∷ other) order id piece (drop (piece - 16) octets) are.2 also.2 in
    ap (λ x. x ∷ n ∷ one) first ∙ ap (λ xs. m' ∷ xs) others

-- what is whole is not in pieces
whole_only : (version : Version) (octets : List ℕ) (piece : ℕ) → (has_fragments version ≡ false) ⊎ (length octets + 12 ≤ piece)
    → version ≡ V12 → piece < length octets + 12 → ⊥
whole_only version octets piece (inl none) is long = let some = ap has_fragments is in absurd cc
whole_only version octets piece (inr short) is long = omega (arith, short, long)

cut_once : (one other : List Msg) (version : Version) (kind : Kind) (order : Order) (octets : List ℕ) (piece : ℕ)
    → IsCut version kind order octets piece one → IsCut version kind order octets piece other → one ≡ other
cut_once [] other version kind order octets piece is also = absurd is
cut_once (m ∷ []) [] version kind order octets piece is also = absurd also
cut_once (m ∷ n ∷ one) [] version kind order octets piece is also = absurd also
cut_once (m ∷ []) (m' ∷ []) version kind order octets piece is also = ap (λ x. x ∷ []) (is.0 ∙ sym also.0)
cut_once (m ∷ []) (m' ∷ n' ∷ other) version kind order octets piece is also = absurd (whole_only version octets piece is.1 also.1 also.2)
cut_once (m ∷ n ∷ one) (m' ∷ []) version kind order octets piece is also = absurd (whole_only version octets piece also.1 is.1 is.2)
cut_once (m ∷ n ∷ one) (m' ∷ n' ∷ other) version kind order octets piece is also =
    ap (λ x. x ∷ n ∷ one) (is.0 ∙ sym also.0)
    ∙ ap (λ xs. m' ∷ xs) (fragments_once (n ∷ one) (n' ∷ other) order (take 4 octets) piece (drop (piece - 12) octets) is.3 also.3)

-- so what sends them is planned once
pub sent_once : {V : Type 0} (version : Version) (kind : Kind) (form : Form) (octets : List ℕ) (event : ℕ → V) (one other : Planned V)
    → IsSent version kind form octets event one → IsSent version kind form octets event other → one ≡ other
sent_once version kind form octets event one other is also =
    is.2 ∙ ap (λ messages. record { event = event (length messages); plan = Put messages })
    (cut_once is.0 also.0 version kind form.order octets form.piece is.1 also.1) ∙ sym also.2
