-- A value that the wire spells by another, as the response flags of GIOP 1.0 by a boolean.
use Rattle.std.specs.Prelude.{◌≡◌, ◌&&◌, Bool, Ok}
use Rattle.giop_cdr.specs.Reading.Values.{◌>>=◌}
use Rattle.giop_cdr.specs.Layout.{Layout}

-- a value that a value of another layout means: those that pass a test are meant by one, which
-- `sign` gives; others can't be written
unfoldable pub meaning : {A B : Type 0} → (B → A) → (A → B) → (A → Bool) → Layout B → Layout A
meaning {A} {B} means sign is_meant f = record {
  spells = λ o at v octets. (y : B) × ((v ≡ means y) × f.spells o at y octets);
  refused = f.refused;
  read = λ c. f.read c >>= λ y. Ok (means y.0, y.1);
  written = λ v out. f.written (sign v) out;
  fits = λ v. is_meant v && f.fits (sign v);
  holds = λ v. f.holds (sign v);
}
