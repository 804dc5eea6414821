use Rattle.std.proofs.Common.{refl}
use Rattle.giop_types.proofs.Values.LeafViews.{view-Boolean, view-Octet, view-Char, view-Short}
use Rattle.giop_types.proofs.Values.LeafViews.{view-UShort, view-Long, view-ULong, view-LongLong, view-ULongLong}
use Rattle.giop_types.proofs.Values.LeafViews.{view-Text, view-Octets}
use Rattle.giop_json.proofs.desc_json.named_desc.Goals as goal

pub returns-in-boolean : goal.returns-in-boolean
returns-in-boolean c = rw (c.in-boolean.is, view-Boolean) refl

pub returns-in-octet : goal.returns-in-octet
returns-in-octet c = rw (c.in-octet.is, view-Octet) refl

pub returns-in-char : goal.returns-in-char
returns-in-char c = rw (c.in-char.is, view-Char) refl

pub returns-in-short : goal.returns-in-short
returns-in-short c = rw (c.in-short.is, view-Short) refl

pub returns-in-ushort : goal.returns-in-ushort
returns-in-ushort c = rw (c.in-ushort.is, view-UShort) refl

pub returns-in-long : goal.returns-in-long
returns-in-long c = rw (c.in-long.is, view-Long) refl

pub returns-in-ulong : goal.returns-in-ulong
returns-in-ulong c = rw (c.in-ulong.is, view-ULong) refl

pub returns-in-longlong : goal.returns-in-longlong
returns-in-longlong c = rw (c.in-longlong.is, view-LongLong) refl

pub returns-in-ulonglong : goal.returns-in-ulonglong
returns-in-ulonglong c = rw (c.in-ulonglong.is, view-ULongLong) refl

pub returns-in-string : goal.returns-in-string
returns-in-string c = rw (c.in-string.is, view-Text) refl

pub returns-in-octets : goal.returns-in-octets
returns-in-octets c = rw (c.in-octets.is, view-Octets) refl
