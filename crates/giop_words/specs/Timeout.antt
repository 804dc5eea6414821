-- For how long nothing may come or go.
use Rattle.std.specs.Prelude.{ℕ, ◌≤◌, Option, IfSome}

-- 1 second to a day, where that is bounded
abbrev pub IsTimeout : Option ℕ → Type 0
IsTimeout timeout = IfSome timeout (λ seconds. (1 ≤ seconds) × (seconds ≤ 86400))
