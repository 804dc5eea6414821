-- The bodies of Requests and Replies (CORBA 3.3 Part 2, 9.4.2.2 and 9.4.3.2): where they stand, and
-- the values in them.
use Rattle.std.specs.Prelude.{List, map, ⊤}
use Rattle.giop_cdr.specs.Layout.{Layout}
use Rattle.giop_cdr.specs.Reading.Cursor.{Cursor, pad, skip}
use Rattle.giop_cdr.specs.Ending.{Ending, from_multiple_of_8}
use Rattle.giop_types.specs.declared.interfaces.parameters.Parameter.{Parameter}
use Rattle.giop_types.specs.Coding.Decoding.{fields_at}
use Rattle.giop_types.specs.Coding.Refusals.{RefusedFields}
use Rattle.giop_types.specs.Coding.Spells.{SpellsFields}
use Rattle.giop_types.specs.Coding.Written.{fields_out}
use Rattle.giop_types.specs.Descriptions.CheckedShape.{checked_shape}
use Rattle.giop_types.specs.Descriptions.Shape.{Fields}
use Rattle.giop_types.specs.Values.Fits.{fields_fit}
use Rattle.giop_types.specs.Values.Tree.{Tree}
use Rattle.giop_types.specs.Values.Views.{Named, fields_of}
use Rattle.giop_msg.specs.declared.version.Version.{Version}
use Rattle.giop_msg.specs.declared.version.Version.TheVariants.{V10, V11, V12}

-- a body where its version has it: right behind the head; in 1.2 from the next multiple of 8 on
unfoldable pub body_of : {A : Type 0} → Version → Ending A → Ending A
body_of V10 f = f
body_of V11 f = f
body_of V12 f = from_multiple_of_8 f

-- where a reader stands at the body that is behind a head
abbrev pub body_cursor : Version → Cursor → Cursor
body_cursor V10 c = c
body_cursor V11 c = c
body_cursor V12 c = skip (pad 8 c.at) c

-- a parameter, as a member of a struct
abbrev pub parameter_view : Parameter → Named
parameter_view p = record { name = p.name; shape = checked_shape p.desc }

-- parameters, as the members of a struct
abbrev pub fields_in : List Parameter → Fields
fields_in parameters = fields_of (map parameter_view parameters)

-- the values of parameters, one after the other as a struct's members (9.3.2.2)
unfoldable pub values : List Parameter → Layout (List Tree)
values parameters = record {
  spells = SpellsFields (fields_in parameters);
  refused = RefusedFields (fields_in parameters);
  read = fields_at (fields_in parameters);
  written = fields_out (fields_in parameters);
  fits = fields_fit (fields_in parameters);
  holds = λ values. ⊤;
}
