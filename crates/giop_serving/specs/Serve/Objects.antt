-- The objects that a server has: the key of each, and what its operations are answered.
use Rattle.std.specs.Prelude.{ℕ, nat_eq, List, [], ◌∷◌, Option, Some, None, if◌then◌else◌}
use Rattle.std.specs.Cmp.Lexicographic.{pointwise}
use Rattle.serde_json.specs.Data.{Data}
use Rattle.serde_json.specs.View.{view}
use Rattle.giop_msg.specs.declared.target.Target.TheVariants.{Key, Profile, Reference}
use Rattle.giop_msg.specs.Target.{AnyTarget}
use Rattle.giop_serving.specs.declared.serve.given.ServedObject.{ServedObject}

pub record Object : Type 0 where
  pub key : List ℕ
  pub answers : Data

abbrev pub object_of : ServedObject → Object
object_of object = record { key = object.key.now; answers = view object.answers.now.json }

-- the first object of a key
abbrev pub object_at : List Object → List ℕ → Option Object
object_at [] key = None
object_at (object ∷ objects) key =
    if pointwise nat_eq key object.key then Some object else object_at objects key

-- the object that a target asks for by its key
abbrev pub object_for : List Object → AnyTarget → Option Object
object_for objects (Key key) = object_at objects key
object_for objects (Profile profile) = None
object_for objects (Reference index ior) = None
