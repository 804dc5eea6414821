-- At a server pieces leave what the whole message leaves.
use Rattle.std.specs.Prelude.{◌≡◌, Bool, true, false, if◌then◌else◌, Option, Some, IsOk, refl}
use Rattle.std.proofs.Common.{sym, subst, inl, inr}
use Rattle.giop_mux.specs.Faults.{no_fault}
use Rattle.giop_mux.specs.Runs.{Hears, Turned, stepped}
use Rattle.giop_ids.specs.Runs.{told, left}
use Rattle.giop_calls.specs.declared.kind.CallKind.{CallKind}
use Rattle.giop_calls.specs.declared.fault.CallFault.{CallFault}
use Rattle.giop_calls.specs.declared.fault.CallFault.TheVariants.{IdInUse}
use Rattle.giop_calls.specs.declared.server.heard.HeardCall.{HeardCall}
use Rattle.giop_calls.specs.declared.server.entry.ServerEntry.{ServerEntry}
use Rattle.giop_calls.specs.declared.server.entry.ServerEntry.TheVariants.{Gathering}
use Rattle.giop_calls.specs.declared.server.event.ServerEvent.TheVariants as event
use Rattle.giop_calls.specs.ServerTable.{server_step, is_closed, is_free, arrived, becomes, refused, ServerStep}
use Rattle.giop_calls.specs.ServerItems.{Act, IsMore, IsLast, server_turn, server_words}
use Rattle.giop_calls.proofs.EqualItems.{Gathers, Accepts, after}

-- what an act leaves, and that it is accepted
abbrev behind : Option ServerEntry → Act → Option ServerEntry
behind = after server_turn server_words

abbrev Passes : Option ServerEntry → Act → Type 0
Passes = Accepts server_turn server_words

-- what a step makes of a call
abbrev turned : ServerStep → Turned ServerEntry (Unit {0}) CallFault
turned step = stepped server_step is_closed step.entry step.outcome

-- where the first piece is accepted the id is free, and it is gathered
begins : (v : Option ServerEntry) (one : ServerEntry) (b : Bool)
    → IsOk (told (turned (if b then becomes one else refused v IdInUse)))
    → (b ≡ true) × (left v (turned (if b then becomes one else refused v IdInUse)) ≡ Some one)
begins v one true ok = (refl, refl)
begins v one false ok = no_fault ok

arrives : (v : Option ServerEntry) (call : HeardCall) (b : Bool) → b ≡ true
    → left v (turned (if b then becomes (arrived call) else refused v IdInUse)) ≡ Some (arrived call)
arrives v call true e = refl
arrives v call false e = absurd cc

more_keeps : (kind : CallKind) (in_order : Bool)
    → Passes (Some (Gathering kind)) (Hears (event.More in_order))
    → behind (Some (Gathering kind)) (Hears (event.More in_order)) ≡ Some (Gathering kind)
more_keeps kind true ok = refl
more_keeps kind false ok = no_fault ok

last_arrives : (kind : CallKind) (in_order : Bool) (call : HeardCall)
    → Passes (Some (Gathering kind)) (Hears (event.Last in_order call))
    → behind (Some (Gathering kind)) (Hears (event.Last in_order call)) ≡ Some (arrived call)
last_arrives kind true call ok = refl
last_arrives kind false call ok = no_fault ok

further : (v : Option ServerEntry) (kind : CallKind) (act : Act)
    → Passes v (Hears (event.First kind)) → IsMore act
    → Passes (behind v (Hears (event.First kind))) act
    → behind (behind v (Hears (event.First kind))) act
    ≡ behind v (Hears (event.First kind))
further v kind act first (o, is) ok = subst
    (λ x. Passes x act → behind x act ≡ x)
    (sym (begins v (Gathering kind) (is_free v) first).1)
    (subst (λ a. Passes (Some (Gathering kind)) a
    → behind (Some (Gathering kind)) a ≡ Some (Gathering kind)) (sym is) (more_keeps kind o)) ok

last : (v : Option ServerEntry) (kind : CallKind) (call : HeardCall) (act : Act)
    → Passes v (Hears (event.First kind)) → IsLast call act
    → Passes (behind v (Hears (event.First kind))) act
    → behind (behind v (Hears (event.First kind))) act
    ≡ behind v (Hears (event.Whole call))
last v kind call act first (o, is) ok =
    let free = begins v (Gathering kind) (is_free v) first in subst
    (λ x. Passes x act → behind x act ≡ behind v (Hears (event.Whole call)))
    (sym free.1)
    (subst (λ a. Passes (Some (Gathering kind)) a
    → behind (Some (Gathering kind)) a ≡ behind v (Hears (event.Whole call))) (sym is)
    (λ ok. rw (arrives v call (is_free v) free.0) (last_arrives kind o call ok))) ok

pub server_gathers : Gathers server_turn server_words
server_gathers = record {
  further = further;
  last = λ v kind call act first begun is ok. last v kind call act first is ok;
  ignores = λ v act was is. ignores v act was is;
  ended = λ v. v;
  ends = ends;
  whole_heard = λ call. refl;
  first_heard = λ kind. refl;
  further_heard = λ act is. rw is.1 refl;
  last_heard = λ call act is. rw is.1 refl;
  end_heard = heard;
}
  where
    ignores : (v : Option ServerEntry) (act : Act) → server_words.WasCancelled v → IsMore act
        → behind v act ≡ v
    ignores v act (a, l, was) (o, is) = rw (was, is) refl

    ends : (v : Option ServerEntry) (act : Act) → server_words.WasCancelled v → server_words.Ends act
        → behind v act ≡ v
    ends v act (a, l, was) (inl (o, is)) = rw (was, is) refl
    ends v act (a, l, was) (inr (call, (o, is))) = rw (was, is) refl

    heard : (act : Act) → server_words.Ends act → server_words.is_own act ≡ false
    heard act (inl (o, is)) = rw is refl
    heard act (inr (call, (o, is))) = rw is refl
