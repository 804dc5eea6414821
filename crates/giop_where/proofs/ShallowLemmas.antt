-- A shallow value nests no deeper than it says.
use Rattle.std.proofs.Common.{◌≡◌, ◌≤◌, ◌-◌, ◌==◌, arith, ℕ, zero, suc, Bool, Some, String, string_bytes, true, false, if◌then◌else◌, refl}
use Rattle.serde_json.specs.Data.{Data, null, boolean, number, string, array, object, Items, item, no_items, Members, member, no_members, depth, items_depth, members_depth}
use Rattle.std.proofs.lemmas.Str.{IsUtf8-string_bytes}
use Rattle.std.proofs.Math.Nat.{max-le}
use Rattle.std.specs.declared.alloc.Global.{Global}
use Rattle.serde_json.specs.Read.{read, max_depth}
use Rattle.giop_json.specs.DescFromJson.{json_in}
use Rattle.giop_json.proofs.ParseLemmas.{parsed}
use Rattle.giop_where.specs.Shallow.{shallow, items_shallow, members_shallow}

-- two tests that both hold
both_hold : (a b : Bool) → (if a then b else false) ≡ true → (a ≡ true) × (b ≡ true)
both_hold true b h = (refl, h)
both_hold false b h = absurd cc

-- what holds where another test fails
other_holds : (a b : Bool) → (if a then false else b) ≡ true → b ≡ true
other_holds true b h = absurd cc
other_holds false b h = h

mutual
  unfolding shallow

  pub shallow_depth : (n : ℕ) (d : Data) → shallow n d ≡ true → depth d ≤ n
  shallow_depth n null h = omega arith
  shallow_depth n (boolean b) h = omega arith
  shallow_depth n (number x) h = omega arith
  shallow_depth n (string s) h = omega arith
  shallow_depth zero (array ds) h = absurd cc
  shallow_depth zero (object ms) h = absurd cc
  shallow_depth (suc n) (array ds) h =
      let deep = items_shallow_depth (suc n - 1) ds (other_holds (suc n == 0) (items_shallow (suc n - 1) ds) h) in
      omega arith
  shallow_depth (suc n) (object ms) h =
      let deep = members_shallow_depth (suc n - 1) ms (other_holds (suc n == 0) (members_shallow (suc n - 1) ms) h) in
      omega arith

  items_shallow_depth : (n : ℕ) (ds : Items) → items_shallow n ds ≡ true → items_depth ds ≤ n
  items_shallow_depth n no_items h = omega arith
  items_shallow_depth n (item d ds) h =
      let both = both_hold (shallow n d) (items_shallow n ds) h in
      max-le (shallow_depth n d both.0) (items_shallow_depth n ds both.1)

  members_shallow_depth : (n : ℕ) (ms : Members) → members_shallow n ms ≡ true → members_depth ms ≤ n
  members_shallow_depth n no_members h = omega arith
  members_shallow_depth n (member k d ms) h =
      let both = both_hold (shallow n d) (members_shallow n ms) h in
      max-le (shallow_depth n d both.0) (members_shallow_depth n ms both.1)

-- the text of a shallow value is read as that value
pub read_again : (text : String Global) (d : Data) → shallow 127 d ≡ true
    → (depth d ≤ max_depth → read (string_bytes text) ≡ Some d) → json_in (string_bytes text) ≡ Some d
read_again text d flat back =
    parsed (string_bytes text) d (IsUtf8-string_bytes text) (back (shallow_depth 127 d flat))
