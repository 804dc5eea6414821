-- What is cut is a series of its octets, and so one item.
use Rattle.std.proofs.Common.{◌≡◌, ℕ, Bool, true, false, List, [], ◌∷◌, sym, ap, subst, ◌∙◌}
use Rattle.giop_cdr.specs.declared.order.Order.{Order}
use Rattle.giop_msg.specs.declared.kind.Kind.{Kind}
use Rattle.giop_msg.specs.declared.kind.Kind.TheVariants.{Fragment}
use Rattle.giop_msg.specs.declared.msg.Msg.{Msg}
use Rattle.giop_msg.specs.declared.version.Version.{Version}
use Rattle.giop_msg.specs.declared.version.Version.TheVariants.{V12}
use Rattle.giop_msg.specs.Cut.{AreFragments, CanCut, IsCut, joined, message_of}
use Rattle.giop_msg.proofs.CutLemmas.{CutLaws-hold}
use Rattle.giop_session.specs.Items.Carries.{IsSeries}

-- a message of these fields is one with its own octets
of_fields : (m : Msg) (version : Version) (kind : Kind) (order : Order) (more : Bool) (octets : List ℕ)
    → m ≡ message_of version kind order more octets → m ≡ message_of version kind order more m.payload
of_fields m version kind order more octets is = is ∙ ap (message_of version kind order more) (sym (ap (λ n. n.payload) is))

fragments : (messages : List Msg) (order : Order) (id : List ℕ) (piece : ℕ) (octets : List ℕ)
    → AreFragments order id piece octets messages → IsSeries Fragment V12 order false messages
fragments [] order id piece octets are = absurd are
fragments (m ∷ []) order id piece octets are = of_fields m V12 Fragment order false _ are.0
fragments (m ∷ n ∷ messages) order id piece octets are =
    (of_fields m V12 Fragment order true _ are.0, fragments (n ∷ messages) order id piece _ are.2)

-- they are a series
pub series : (messages : List Msg) (version : Version) (kind : Kind) (order : Order) (octets : List ℕ) (piece : ℕ)
    → IsCut version kind order octets piece messages → IsSeries kind version order false messages
series [] version kind order octets piece is = absurd is
series (m ∷ []) version kind order octets piece is = of_fields m version kind order false octets is.0
series (m ∷ n ∷ messages) version kind order octets piece is = (
  of_fields m version kind order true _ is.0,
  subst (λ v. IsSeries Fragment v order false (n ∷ messages)) (sym is.1) (fragments (n ∷ messages) order _ piece _ is.3),
)

-- the pieces of what is cut
pub cut_series : (version : Version) (kind : Kind) (order : Order) (octets : List ℕ) (piece : ℕ) (messages : List Msg)
    → CanCut kind octets piece → IsCut version kind order octets piece messages
    → IsSeries kind version order false messages × (joined messages ≡ octets)
cut_series version kind order octets piece messages can is =
    (series messages version kind order octets piece is, CutLaws-hold.undone version kind order octets piece messages can is)
