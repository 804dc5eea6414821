use Rattle.std.proofs.Common.{◌≡◌, drop, map}
use Rattle.giop_serving.specs.Serve.Objects.{object_at, object_of}
use Rattle.giop_serving.proofs.serve.objects.object_at.Given as goal

abbrev pub invariant-loop-object : goal.invariant-loop-object
invariant-loop-object l =
    object_at (map object_of (drop l.object-index l.objects)) l.key ≡ object_at (map object_of l.objects) l.key
