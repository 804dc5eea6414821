-- Files that are at fault, the parts that lead to the fault, and the path of these.
use Rattle.std.specs.Prelude.{codes, List, [], ◌∷◌}
use Rattle.serde_json.specs.Data.{Data, array, item, member, no_items, no_members, null, number, object, string, unsigned}
use Rattle.giop_where.specs.Parts.{Portion, Way, index, key}
use Rattle.giop_where.specs.declared.role.Role.TheVariants as is

-- a parameter `a` of no type that there is, in a list
abbrev pub parameters : Data
parameters = array (item (array (item (string (codes "a"))
    (item (string (codes "int")) no_items))) no_items)

-- of an operation of an interface
abbrev pub operation : Data
operation = object (member (codes "ins") parameters no_members)

abbrev pub file : Portion
file = record {
  role = is.Interface;
  beside = null;
  content = object (member (codes "operations")
      (object (member (codes "add") operation no_members)) no_members);
}

-- the parameter, its name, and its description, which is at fault
abbrev pub parameter : Portion
parameter = record {
  role = is.Parameter;
  beside = null;
  content = array (item (string (codes "a")) (item (string (codes "int")) no_items));
}

abbrev pub name : Portion
name = record { role = is.Name; beside = null; content = string (codes "a") }

abbrev pub no_type : Portion
no_type = record { role = is.Description; beside = null; content = string (codes "int") }

-- the path to it
abbrev pub path : List Way
path = key (codes "operations") ∷ key (codes "add") ∷ key (codes "ins") ∷ index 0 ∷ index 1 ∷ []

-- a union of which the discriminant is at fault so, and the cases too, which are no list
abbrev pub union : Portion
union = record {
  role = is.Description;
  beside = null;
  content = object (member (codes "cases") (number (unsigned 5))
      (member (codes "union") (string (codes "int")) no_members));
}

abbrev pub discriminant : Portion
discriminant = record {
  role = is.Description;
  beside = string (codes "int");
  content = string (codes "int");
}

abbrev pub cases : Portion
cases = record {
  role = is.Cases;
  beside = string (codes "int");
  content = number (unsigned 5);
}

-- a string of three octets at most, and its bound
abbrev pub bounded : Portion
bounded = record {
  role = is.Description;
  beside = null;
  content = object (member (codes "string") (number (unsigned 3)) no_members);
}

abbrev pub bound : Portion
bound = record { role = is.Bound; beside = bounded.content; content = number (unsigned 3) }
