use Rattle.std.proofs.Common.{rules}
use Rattle.giop_json.specs.ToJson.{to_data}
use Rattle.giop_types.proofs.Values.LeafViews.{view-Boolean, view-Octet, view-Char, view-Short, view-UShort}
use Rattle.giop_types.proofs.Values.LeafViews.{view-Long, view-ULong, view-LongLong, view-ULongLong}
use Rattle.giop_types.proofs.Values.LeafViews.{value-Boolean, value-Octet, value-Char, value-Short, value-UShort}
use Rattle.giop_types.proofs.Values.LeafViews.{value-Long, value-ULong, value-LongLong, value-ULongLong}
use Rattle.giop_json.proofs.to_json.leaf_json.Goals as goal

pub returns-in-Boolean-Boolean : goal.returns-in-Boolean-Boolean
unfolding to_data
returns-in-Boolean-Boolean c = rw (c.in-Boolean-Boolean.is-0, c.in-Boolean-Boolean.is-1, view-Boolean, value-Boolean) c.from.ensures

pub returns-in-Octet-Octet : goal.returns-in-Octet-Octet
unfolding to_data
returns-in-Octet-Octet c = rw (c.in-Octet-Octet.is-0, c.in-Octet-Octet.is-1, view-Octet, value-Octet) c.from-in-Octet-Octet.ensures

pub returns-in-UShort-UShort : goal.returns-in-UShort-UShort
unfolding to_data
returns-in-UShort-UShort c = rw (c.in-UShort-UShort.is-0, c.in-UShort-UShort.is-1, view-UShort, value-UShort) c.from-in-UShort-UShort.ensures

pub returns-in-ULong-ULong : goal.returns-in-ULong-ULong
unfolding to_data
returns-in-ULong-ULong c = rw (c.in-ULong-ULong.is-0, c.in-ULong-ULong.is-1, view-ULong, value-ULong) c.from-in-ULong-ULong.ensures

pub returns-in-Char-Char : goal.returns-in-Char-Char
unfolding to_data
returns-in-Char-Char c = rw (c.in-Char-Char.is-0, c.in-Char-Char.is-1, view-Char, value-Char) c.text_json.ensures

pub returns-in-Short-Short : goal.returns-in-Short-Short
unfolding to_data
returns-in-Short-Short c = rw (c.in-Short-Short.is-0, c.in-Short-Short.is-1, view-Short, value-Short) (search rules)

pub returns-in-Long-Long : goal.returns-in-Long-Long
unfolding to_data
returns-in-Long-Long c = rw (c.in-Long-Long.is-0, c.in-Long-Long.is-1, view-Long, value-Long) (search rules)

pub returns-in-LongLong-LongLong : goal.returns-in-LongLong-LongLong
unfolding to_data
returns-in-LongLong-LongLong c = rw (c.in-LongLong-LongLong.is-0, c.in-LongLong-LongLong.is-1, view-LongLong, value-LongLong) (search rules)

pub returns-in-ULongLong-ULongLong : goal.returns-in-ULongLong-ULongLong
unfolding to_data
returns-in-ULongLong-ULongLong c = rw (c.in-ULongLong-ULongLong.is-0, c.in-ULongLong-ULongLong.is-1, view-ULongLong, value-ULongLong) (search rules)
