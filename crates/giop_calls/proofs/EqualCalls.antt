-- Equal items leave equal entries at a server.
use Rattle.std.specs.Prelude.{◌≡◌, ◌⊎◌, Bool, true, false, if◌then◌else◌, List, [], ◌∷◌, ◌++◌, Option, Some, None, IsOk, refl}
use Rattle.std.proofs.Common.{sym, subst, ◌∙◌, inl, inr}
use Rattle.giop_mux.specs.Faults.{no_fault}
use Rattle.giop_calls.specs.declared.kind.CallKind.{CallKind}
use Rattle.giop_calls.specs.declared.fault.CallFault.TheVariants.{IdInUse}
use Rattle.giop_calls.specs.declared.server.heard.HeardCall.{HeardCall}
use Rattle.giop_calls.specs.declared.server.entry.ServerEntry.{ServerEntry}
use Rattle.giop_calls.specs.declared.server.entry.ServerEntry.TheVariants.{Gathering, Cancelled}
use Rattle.giop_calls.specs.declared.server.event.ServerEvent.{ServerEvent}
use Rattle.giop_calls.specs.declared.server.event.ServerEvent.TheVariants as event
use Rattle.giop_calls.specs.ServerTable.{server_step, is_free, arrived, becomes, refused}
use Rattle.giop_calls.specs.ServerItems.{Item, Got, Began, Rest, Acts, AreMore, IsFragment, AreFragments, WasCancelled, Spells, Leads, Carries}

-- what an item leaves, whatever events spell it
left_by : Option ServerEntry → Item → Option ServerEntry
left_by before (Got call) = Some (arrived call)
left_by before (Began kind) = Some (Gathering kind)
left_by before Rest = before
left_by before (Acts e) = (server_step before e).entry

begun : (test : Bool) (before : Option ServerEntry) (after : ServerEntry)
    → IsOk (if test then becomes after else refused before IdInUse).outcome
    → (if test then becomes after else refused before IdInUse).entry ≡ Some after
begun true before after ok = refl
begun false before after ok = no_fault ok

more_keeps : (kind : CallKind) (e : ServerEvent) (events : List ServerEvent)
    (after : Option ServerEntry) → e ≡ event.More true
    → Leads (Some (Gathering kind)) (e ∷ events) after → Leads (Some (Gathering kind)) events after
more_keeps kind e events after is leads = (subst (λ e. Leads (Some (Gathering kind)) (e ∷ events) after) is leads).1

gathers : (kind : CallKind) (more : List ServerEvent) (after : Option ServerEntry) → AreMore more
    → Leads (Some (Gathering kind)) more after → after ≡ Some (Gathering kind)
gathers kind [] after are leads = leads
gathers kind (e ∷ events) after are leads =
    gathers kind events after are.1 (more_keeps kind e events after are.0 leads)

completes : (kind : CallKind) (more : List ServerEvent) (call : HeardCall)
    (after : Option ServerEntry) → AreMore more
    → Leads (Some (Gathering kind)) (more ++ event.Last true call ∷ []) after
    → after ≡ Some (arrived call)
completes kind [] call after are leads = leads.1
completes kind (e ∷ events) call after are leads = completes kind events call after are.1
    (more_keeps kind e (events ++ event.Last true call ∷ []) after are.0 leads)

ignores_one : (answered : Bool) (left : _) (e : ServerEvent) → IsFragment e
    → (server_step (Some (Cancelled answered left)) e).entry ≡ Some (Cancelled answered left)
ignores_one answered left e (inl (o, is)) = rw is refl
ignores_one answered left e (inr (o, call, is)) = rw is refl

ignores : (answered : Bool) (left : _) (events : List ServerEvent) (after : Option ServerEntry)
    → AreFragments events → Leads (Some (Cancelled answered left)) events after
    → after ≡ Some (Cancelled answered left)
ignores answered left [] after are leads = leads
ignores answered left (e ∷ events) after are leads = ignores answered left events after are.1
    (subst (λ x. Leads x events after) (ignores_one answered left e are.0) leads.1)

first_of : (before : Option ServerEntry) (kind : CallKind) (events : List ServerEvent)
    (after : Option ServerEntry) → Leads before (event.First kind ∷ events) after
    → Leads (Some (Gathering kind)) events after
first_of before kind events after leads = subst (λ x. Leads x events after)
    (begun (is_free before) before (Gathering kind) leads.0) leads.1

-- whichever events spell an item, it leaves the same
item_leaves : (before : Option ServerEntry) (item : Item) (events : List ServerEvent)
    (after : Option ServerEntry) → Spells before item events → Leads before events after
    → after ≡ left_by before item
unfolding left_by
item_leaves before (Got call) events after (inl is) leads =
    let one = subst (λ es. Leads before es after) is leads in
    one.1 ∙ begun (is_free before) before (arrived call) one.0
item_leaves before (Got call) events after (inr (kind, more, are, is)) leads =
    completes kind more call after are
    (first_of before kind _ after (subst (λ es. Leads before es after) is leads))
item_leaves before (Began kind) events after (more, are, is) leads =
    gathers kind more after are
    (first_of before kind _ after (subst (λ es. Leads before es after) is leads))
item_leaves before Rest events after ((answered, left, is), are) leads =
    ignores answered left events after are (subst (λ x. Leads x events after) is leads) ∙ sym is
item_leaves before (Acts e) events after is leads =
    (subst (λ es. Leads before es after) is leads).1

-- equal items, equal entries
pub equal_items : (items : List Item) (before : Option ServerEntry) (one other : List ServerEvent)
    (m n : Option ServerEntry) → Carries before items one m → Carries before items other n → m ≡ n
equal_items [] before one other m n a b = a.1 ∙ sym b.1
equal_items (item ∷ items) before one other m n (xs, ys, mid, e, s, l, c) (xs', ys', mid', e', s', l', c') =
    equal_items items mid ys ys' m n c
    (subst (λ x. Carries x items ys' n)
    (item_leaves before item xs' mid' s' l' ∙ sym (item_leaves before item xs mid s l)) c')
