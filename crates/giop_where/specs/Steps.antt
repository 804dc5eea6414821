-- The steps that lead from a part to its own parts.
use Rattle.std.specs.Prelude.{◌≡◌, ◌⊎◌, ℕ, List, Some}
use Rattle.serde_json.specs.Data as json
use Rattle.serde_json.specs.Data.{Data, Members}
use Rattle.serde_json.specs.Find.{at}
use Rattle.giop_where.specs.Parts.{Portion, Way, key, index, part_under, part_at}

-- one of the members has this key and this value
abbrev pub HasMember : Members → List ℕ → Data → Type 0
HasMember json.no_members k d = ⊥
HasMember (json.member l e ms) k d = ((l ≡ k) × (e ≡ d)) ⊎ HasMember ms k d

-- it is an object with such a member
abbrev pub HasUnder : Data → List ℕ → Data → Type 0
HasUnder (json.object ms) k d = HasMember ms k d
HasUnder _ k d = ⊥

-- a step leads from a part to one of its own parts: under a key, or behind so many items
abbrev pub IsStep : Portion → Way → Portion → Type 0
IsStep p (key k) q = (d : Data) × HasUnder p.content k d × (q ≡ part_under p k d)
IsStep p (index i) q = (d : Data) × (at i p.content ≡ Some d) × (q ≡ part_at p i d)
