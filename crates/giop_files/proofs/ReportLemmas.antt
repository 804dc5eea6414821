-- The statuses of what fails and of what is refused.
use Rattle.std.proofs.Common.{◌≡◌, refl, inl, inr, Result, Ok, Err, IfOk}
use Rattle.giop_show.specs.Status.{IsJudged, answered_status, failure_status}
use Rattle.giop_show.specs.declared.failure.Failure.{Failure}
use Rattle.giop_show.specs.declared.failure.Failure.TheVariants.{Memory, Input, Output, Connection, TurnsSpent}
use Rattle.giop_show.specs.declared.status.Status.{Status}
use Rattle.giop_show.specs.declared.status.Status.TheVariants.{Refused}
use Rattle.giop_files.specs.Report.{IsFailed, IsRefused, IsShown}

pub failed_status : (failure : Failure) → IsFailed (failure_status failure)
failed_status Memory = inr refl
failed_status (Input e) = inl refl
failed_status (Output e) = inl refl
failed_status (Connection e) = inl refl
failed_status TurnsSpent = inl refl

pub refused_status : (answered : Result Status Failure) → IfOk answered (λ status. status ≡ Refused) → IsRefused (answered_status answered)
refused_status (Ok status) is = inl is
refused_status (Err failure) _ = inr (failed_status failure)

pub shown_status : (answered : Result Status Failure) → IfOk answered IsJudged → IsShown (answered_status answered)
shown_status (Ok status) is = inl is
shown_status (Err failure) _ = inr (failed_status failure)
