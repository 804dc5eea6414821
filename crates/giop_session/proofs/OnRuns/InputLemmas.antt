-- Inputs are the events of one run, and of no other.
use Rattle.std.proofs.Common.{◌≡◌, List, [], ◌∷◌, ◌++◌, map, refl, sym, ap, subst, ◌∙◌}
use Rattle.giop_msg.specs.declared.msg.Msg.{Msg}
use Rattle.giop_msg.specs.Stream.{BeginsWithMessage, Msgs, TakesMessages, Unread, Waits}
use Rattle.giop_msg.proofs.StreamLemmas.{same_splits}
use Rattle.giop_table.specs.CallTable.{Held}
use Rattle.giop_session.specs.Runs.Events.{Event, Comes, Meets, Does as DoesTo}
use Rattle.giop_end.specs.Hearing.Feeding.{Through, with_octets}
use Rattle.giop_end.specs.Hearing.Heard.{SideOf, hears}
use Rattle.giop_session.specs.Runs.Inputs.{AreEvents, Input, Reads, Does, Takes}

-- what is taken until the end waits is the split of the stream
pub split : (unread left : Unread) (messages : List Msg) → TakesMessages unread messages left → Waits left
    → Msgs unread.limit unread.octets messages left.octets
split unread left messages taken waits = record {
  whole = taken.octets;
  each = taken.each;
  partial = λ begins. waits.no_message (subst (λ limit. BeginsWithMessage limit left.octets) (sym taken.limit) begins);
}

-- so it is the same whoever takes it
pub same_taken : (unread left left' : Unread) (messages messages' : List Msg) → TakesMessages unread messages left → Waits left
    → TakesMessages unread messages' left' → Waits left' → (messages ≡ messages') × (left ≡ left')
same_taken unread left left' messages messages' taken waits taken' waits' =
    let same = same_splits unread.limit unread.octets messages messages' left.octets left'.octets
    (split unread left messages taken waits) (split unread left' messages' taken' waits') in
    let limits = taken.limit ∙ sym taken'.limit in
    (same.0, (λ i. record { limit = limits i; octets = same.1 i }))

module _ {V : Type 0} where
  -- inputs are one list of events
  pub same_events : (inputs : List (Input V)) (unread left left' : Unread) (events events' : List (Event V))
      → AreEvents unread inputs events left → AreEvents unread inputs events' left' → events ≡ events'
  same_events [] unread left left' events events' are are' = are.0 ∙ sym are'.0
  same_events (Reads octets ∷ inputs) unread left left' events events'
      (messages, mid, rest, taken, waits, is, are) (messages', mid', rest', taken', waits', is', are') =
      let same = same_taken (with_octets unread octets) mid mid' messages messages' taken waits taken' waits' in
      is ∙ ap (λ ms. map Comes ms ++ rest) same.0
      ∙ ap (λ more. map Comes messages' ++ more)
      (same_events inputs mid' left left' rest rest' (subst (λ u. AreEvents u inputs rest left) same.1 are) are')
      ∙ sym is'
  same_events (Does id act ∷ inputs) unread left left' events events' (rest, is, are) (rest', is', are') =
      is ∙ ap (λ more. DoesTo id act ∷ more) (same_events inputs unread left left' rest rest' are are') ∙ sym is'

module _ {R E V A F : Type 0} (side : SideOf R E V A F) where
  abbrev MeetsAll : Held R E → List (Event V) → Held R E → Type 0
  MeetsAll = Meets side

  -- messages that are heard one after another are met so
  met : (messages : List Msg) (h mid k : Held R E) (events : List (Event V))
      → Through (hears side) h messages mid → MeetsAll mid events k
      → MeetsAll h (map Comes messages ++ events) k
  met [] h mid k events through rest = subst (λ s. MeetsAll s events k) through rest
  met (m ∷ messages) h mid k events through rest = (through.0, through.1, met messages through.0 mid k events through.2 rest)

  -- an end that takes inputs meets their events
  pub takes_events : (inputs : List (Input V)) (unread left : Unread) (h k : Held R E)
      → Takes side unread h inputs left k
      → (events : List (Event V)) × AreEvents unread inputs events left × MeetsAll h events k
  takes_events [] unread left h k takes = ([], (refl, takes.0), takes.1)
  takes_events (Reads octets ∷ inputs) unread left h k (mid, calls, fed, takes) =
      let behind = takes_events inputs mid left calls k takes in
      let taken = subst (TakesMessages (with_octets unread octets) fed.messages) (sym fed.stops.1) fed.taken in
      let waits = subst Waits (sym fed.stops.1) fed.stops.0 in (
        map Comes fed.messages ++ behind.0,
        (fed.messages, mid, behind.0, taken, waits, refl, behind.1),
        met fed.messages h calls k behind.0 fed.heard behind.2,
      )
  takes_events (Does id act ∷ inputs) unread left h k (calls, accepted, takes) =
      let behind = takes_events inputs unread left calls k takes in
      (DoesTo id act ∷ behind.0, (behind.0, refl, behind.1), (calls, accepted, behind.2))
