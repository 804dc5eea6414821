-- What a description says: a tree, without where it lies in memory (CORBA 3.3 Part 2, 9.3.1,
-- 9.3.2).
use Rattle.std.specs.Prelude.{ℕ, ℤ, List, Bool, true, false}

mutual
  -- a type of IDL, without its name
  pub data Shape : Type 0 where
    -- a boolean (9.3.1.5), an octet (9.3.1.4), a char (9.3.1.6)
    boolean : Shape
    octet : Shape
    char : Shape
    -- integers of 16, 32 and 64 bits, with a sign and without one (9.3.1.2)
    short : Shape
    ushort : Shape
    long : Shape
    ulong : Shape
    longlong : Shape
    ulonglong : Shape
    -- a string of so many octets at most, where 0 is no bound (9.3.2.7)
    text : ℕ → Shape
    -- a sequence of octets, of so many at most, where 0 is no bound (9.3.2.5)
    octets : ℕ → Shape
    -- an enum, by the names of its ordinals from 0 on (9.3.2.6)
    labels : List (List ℕ) → Shape
    -- a struct (9.3.2.2)
    members : Fields → Shape
    -- a union: its discriminant, its cases, and its member by default or none (9.3.2.3)
    choice : Shape → Branches → Fields → Shape
    -- a sequence of so many values at most, where 0 is no bound (9.3.2.5)
    items : Shape → ℕ → Shape
    -- an array of so many values (9.3.2.4)
    row : Shape → ℕ → Shape

  -- named members in their order
  pub data Fields : Type 0 where
    no_fields : Fields
    -- a name, what is there, and the members behind it
    field : List ℕ → Shape → Fields → Fields

  -- members that labels select
  pub data Branches : Type 0 where
    no_branches : Branches
    -- labels, a name, what is there, and the cases behind it
    branch : List ℤ → List ℕ → Shape → Branches → Branches

-- whether values are numbers, chars or booleans, which are read without memory
abbrev pub is_primitive : Shape → Bool
is_primitive boolean = true
is_primitive octet = true
is_primitive char = true
is_primitive short = true
is_primitive ushort = true
is_primitive long = true
is_primitive ulong = true
is_primitive longlong = true
is_primitive ulonglong = true
is_primitive _ = false

-- whether no other value stands within a value
abbrev pub is_leaf : Shape → Bool
is_leaf (members fs) = false
is_leaf (choice disc bs other) = false
is_leaf (items s bound) = false
is_leaf (row s n) = false
is_leaf _ = true
