-- What is gathered under an id behind its first piece and behind its last one.
use Rattle.std.proofs.Common.{◌≡◌, ℕ, false, Option, Some, None, Result, Ok, Err, IfOk, OnOk, ap, ◌∙◌}
use Rattle.std.specs.FinMap as finite
use Rattle.giop_ids.specs.ById.{put}
use Rattle.giop_ids.proofs.Puts.{get-put_same, put-put}
use Rattle.giop_frag.specs.declared.fault.GatherFault.{GatherFault}
use Rattle.giop_frag.specs.Gathered.{Lists, grown}
use Rattle.giop_msg.specs.declared.msg.Msg.{Msg}
use Rattle.giop_dumping.specs.declared.dump.joining.Piece.{Piece}
use Rattle.giop_show.specs.declared.failure.Failure.{Failure}
use Rattle.giop_dumping.specs.Dump.Joining.{begun, brought_of, gone_on, last_piece, next_piece}

-- what is there was dropped, and the first piece begins it anew
pub begun_there : (lists after : Lists) (id : ℕ) (m : Msg) (e : Option GatherFault) → e ≡ None
    → after ≡ put (put lists id None) id (Some (record { order = m.order; octets = m.payload })) → after ≡ put lists id (begun m e)
begun_there lists after id m e none begins = rw none (begins ∙ put-put lists id None (Some (record { order = m.order; octets = m.payload })))

-- behind the last piece nothing is there
pub ended_there : (lists added after : Lists) (id : ℕ) (m : Msg) (e : Option GatherFault) (r : Result Piece Failure) → e ≡ None → m.more ≡ false
    → added ≡ put lists id (grown (finite.get lists id) (brought_of m)) → OnOk r (after ≡ put added id None)
    → OnOk r (after ≡ put lists id (gone_on m e (finite.get lists id)))
ended_there lists added after id m e (Err why) none whole adds ends = tt
ended_there lists added after id m e (Ok piece) none whole adds ends =
    rw (none, whole)
    (ends ∙ ap (λ l. put l id None) adds ∙ put-put lists id (grown (finite.get lists id) (brought_of m)) None)

-- and the Request is what was there with it
pub ended_piece : (lists added : Lists) (id : ℕ) (m : Msg) (e : Option GatherFault) (r : Result Piece Failure) → e ≡ None → m.more ≡ false
    → added ≡ put lists id (grown (finite.get lists id) (brought_of m)) → IfOk r (λ piece. piece ≡ last_piece m (finite.get added id))
    → IfOk r (λ piece. piece ≡ next_piece m e (finite.get lists id))
ended_piece lists added id m e (Err why) none whole adds is = tt
ended_piece lists added id m e (Ok piece) none whole adds is =
    rw (none, whole)
    (is ∙ ap (λ l. last_piece m (finite.get l id)) adds
    ∙ ap (last_piece m) (get-put_same lists id (grown (finite.get lists id) (brought_of m))))
