-- What a contract sees of a table of calls: a finite map from ids to entries, its rule and limit.
use Rattle.std.specs.Prelude.{ℕ, Bool, ◌==◌, ◌&&◌, if◌then◌else◌, Option, Some, None, is_some, is_none, Result, Ok, Err, refl}
use Rattle.std.specs.FinMap as map
use Rattle.std.specs.Coded.{Coded, code_by, coded×, coded_ℕ}
use Rattle.giop_ids.specs.ById.{ById, by_id_code}
use Rattle.giop_ids.specs.Runs.{within}
use Rattle.giop_mux.specs.declared.step.Step.{Step}
use Rattle.giop_mux.specs.declared.refusal.Refusal.{Refusal}
use Rattle.giop_mux.specs.declared.refusal.Refusal.TheVariants.{Rule, TooManyCalls}

-- a table: the rule of its calls, how many entries it may hold, and the entries
pub record Calls (R E : Type 0) : Type 0 where
  pub rule : R
  pub limit : ℕ
  pub entries : ById E

-- a table is stored as the tuple of its fields
abbrev pub calls_code : {R E : Type 0} → Coded R → Coded E → Coded (Calls R E)
calls_code {R} {E} rule entry =
    code_by
    (R × (ℕ × ById E))
    (coded× rule (coded× coded_ℕ (by_id_code entry)))
    (λ c. (c.rule, (c.limit, c.entries)))
    (λ p. record { rule = p.0; limit = p.1.0; entries = p.1.1 })
    (λ _. refl)

-- a rule's outcome, as the table returns it
abbrev pub by_rule : {A F : Type 0} → Result A F → Result A (Refusal F)
by_rule (Ok answer) = Ok answer
by_rule (Err fault) = Err (Rule fault)

-- the id has no entry and would get one, and the table holds as many as it may
abbrev pub is_one_too_many : {E : Type 0} → ById E → ℕ → ℕ → Option E → Bool
is_one_too_many m limit id entry = is_none (map.get m id) && is_some entry && (map.len m == limit)

-- why the table has no room for what a step leaves under the id, if it has none
abbrev pub room_refusal : {E F : Type 0} → ById E → ℕ → ℕ → Option E → Option (Refusal F)
room_refusal m limit id entry = if is_one_too_many m limit id entry then Some TooManyCalls else None

-- what the table answers to a step of this id, out of memory aside: the rule's fault comes first
abbrev pub judged : {E A F : Type 0} → ById E → ℕ → ℕ → Step E A F → Result A (Refusal F)
judged m limit id step = within (room_refusal m limit id step.entry) (by_rule step.outcome)
