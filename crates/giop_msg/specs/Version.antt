-- The versions of GIOP (CORBA 3.3 Part 2, 9.4.1).
use Rattle.std.specs.Prelude.{ℕ, ◌==◌, Bool, true, false, if◌then◌else◌}
use Rattle.giop_msg.specs.declared.version.Version.{Version}
use Rattle.giop_msg.specs.declared.version.Version.TheVariants.{V10, V11, V12}

-- the minor number of a version, behind the major number 1
abbrev pub minor_of : Version → ℕ
minor_of V10 = 0
minor_of V11 = 1
minor_of V12 = 2

-- the version of a minor number, of which 2 is the greatest
abbrev pub version_of : ℕ → Version
version_of minor = if minor == 0 then V10 else if minor == 1 then V11 else V12

-- how many values octet 6 of a header may have: in 1.0 it is the byte order, 0 or 1; else the
-- flags, of which two bits have a meaning
abbrev pub flag_values : Version → ℕ
flag_values V10 = 2
flag_values V11 = 4
flag_values V12 = 4

-- how many message types there are: Fragment, 7, is one of 1.2 alone
abbrev pub kind_count : Version → ℕ
kind_count V10 = 7
kind_count V11 = 7
kind_count V12 = 8

-- whether Fragments may continue messages of a version
abbrev pub has_fragments : Version → Bool
has_fragments V10 = false
has_fragments V11 = false
has_fragments V12 = true
