-- What is written and cut is a series that spells its value.
use Rattle.std.proofs.Common.{ℕ, false, List, sym, subst}
use Rattle.giop_cdr.specs.Ending.{Ending, IsLawfulEnding}
use Rattle.giop_cdr.specs.declared.order.Order.{Order}
use Rattle.giop_msg.specs.declared.kind.Kind.{Kind}
use Rattle.giop_msg.specs.declared.msg.Msg.{Msg}
use Rattle.giop_msg.specs.declared.version.Version.{Version}
use Rattle.giop_msg.specs.Cut.{joined}
use Rattle.giop_msg.specs.Joined.{joined_from}
use Rattle.giop_msg.specs.Messages.Outcome.{joined_into}
use Rattle.giop_msg.proofs.WholeMessages.LawLemmas.{whole_of}
use Rattle.giop_session.specs.Items.Carries.{IsSeries, IsWrittenAs}
use Rattle.giop_session.proofs.OnItems.CutItemLemmas.{cut_series}

pub written_spells : {A : Type 0} (layout : Ending A) → IsLawfulEnding layout → (order : Order) (value : A) (kind : Kind) (piece : ℕ)
    (version : Version) (messages : List Msg) → IsWrittenAs layout order value kind piece version messages
    → IsSeries kind version order false messages × layout.spells order 12 value (joined messages)
written_spells layout lawful order value kind piece version messages is =
    let octets = (layout.written value (joined_into order)).octets in
    let cut = cut_series version kind order octets piece messages is.can_cut is.is_cut in
    let whole = whole_of lawful in (
      cut.0,
      subst (λ (l : List ℕ). layout.spells order 12 value l) (sym cut.1)
          ((whole.exact (joined_from order octets)).found value (whole.back order value is.fits is.holds)),
    )
