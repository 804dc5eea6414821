-- What a description says: a tree, without where it lies in memory (CORBA 3.3 Part 2, 9.3.1, 9.3.2).
use Rattle.std.specs.Prelude.{ℕ, ℤ, List}

mutual
  -- a type of IDL, without its name
  pub data Shape : Type 0 where
    boolean : Shape
    octet : Shape
    char : Shape
    short : Shape
    ushort : Shape
    long : Shape
    ulong : Shape
    longlong : Shape
    ulonglong : Shape
    text : ℕ → Shape
    octets : ℕ → Shape
    labels : List (List ℕ) → Shape
    members : Fields → Shape
    choice : Shape → Branches → Fields → Shape
    items : Shape → ℕ → Shape
    row : Shape → ℕ → Shape

  -- named members in their order
  pub data Fields : Type 0 where
    no_fields : Fields
    field : List ℕ → Shape → Fields → Fields

  -- members that labels select
  pub data Branches : Type 0 where
    no_branches : Branches
    branch : List ℤ → List ℕ → Shape → Branches → Branches
