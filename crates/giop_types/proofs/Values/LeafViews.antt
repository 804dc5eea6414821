-- What a description or a value says that holds no other, variant by variant.
use Rattle.std.proofs.Common.{◌≡◌, rules, ℕ, ℤ, Bool}
use Rattle.giop_types.specs.declared.description.desc.Desc.{the_lemmas}
use Rattle.giop_types.specs.declared.description.desc.Desc.TheVariants as desc
use Rattle.giop_types.specs.declared.value.Value.{the_lemmas as value_lemmas}
use Rattle.giop_types.specs.declared.value.Value.TheVariants as value
use Rattle.giop_types.specs.Descriptions.Shape.{boolean, octet, char, short, ushort, long, ulong, longlong, ulonglong, text, octets}
use Rattle.giop_types.specs.Values.Tree.{boolean_of, octet_of, char_of, short_of, ushort_of, long_of}
use Rattle.giop_types.specs.Values.Tree.{ulong_of, longlong_of, ulonglong_of}
use Rattle.giop_types.specs.Values.Views.{value_view, desc_view}

pub view-Boolean : desc_view desc.Boolean ≡ boolean
view-Boolean = search (rules, the_lemmas)

pub view-Octet : desc_view desc.Octet ≡ octet
view-Octet = search (rules, the_lemmas)

pub view-Char : desc_view desc.Char ≡ char
view-Char = search (rules, the_lemmas)

pub view-Short : desc_view desc.Short ≡ short
view-Short = search (rules, the_lemmas)

pub view-UShort : desc_view desc.UShort ≡ ushort
view-UShort = search (rules, the_lemmas)

pub view-Long : desc_view desc.Long ≡ long
view-Long = search (rules, the_lemmas)

pub view-ULong : desc_view desc.ULong ≡ ulong
view-ULong = search (rules, the_lemmas)

pub view-LongLong : desc_view desc.LongLong ≡ longlong
view-LongLong = search (rules, the_lemmas)

pub view-ULongLong : desc_view desc.ULongLong ≡ ulonglong
view-ULongLong = search (rules, the_lemmas)

pub view-Text : (bound : ℕ) → desc_view (desc.Text bound) ≡ text bound
view-Text bound = search (rules, the_lemmas)

pub view-Octets : (bound : ℕ) → desc_view (desc.Octets bound) ≡ octets bound
view-Octets bound = search (rules, the_lemmas)

pub value-Boolean : (x : Bool) → value_view (value.Boolean x) ≡ boolean_of x
value-Boolean x = search (rules, value_lemmas)

pub value-Octet : (x : ℕ) → value_view (value.Octet x) ≡ octet_of x
value-Octet x = search (rules, value_lemmas)

pub value-Char : (x : ℕ) → value_view (value.Char x) ≡ char_of x
value-Char x = search (rules, value_lemmas)

pub value-Short : (x : ℤ) → value_view (value.Short x) ≡ short_of x
value-Short x = search (rules, value_lemmas)

pub value-UShort : (x : ℕ) → value_view (value.UShort x) ≡ ushort_of x
value-UShort x = search (rules, value_lemmas)

pub value-Long : (x : ℤ) → value_view (value.Long x) ≡ long_of x
value-Long x = search (rules, value_lemmas)

pub value-ULong : (x : ℕ) → value_view (value.ULong x) ≡ ulong_of x
value-ULong x = search (rules, value_lemmas)

pub value-LongLong : (x : ℤ) → value_view (value.LongLong x) ≡ longlong_of x
value-LongLong x = search (rules, value_lemmas)

pub value-ULongLong : (x : ℕ) → value_view (value.ULongLong x) ≡ ulonglong_of x
value-ULongLong x = search (rules, value_lemmas)
