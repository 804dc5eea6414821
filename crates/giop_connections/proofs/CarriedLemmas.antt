-- What has a status that isn't of unknown words.
use Rattle.std.proofs.Common.{◌≡◌, ◌≢◌, inl, inr, sym, subst, Result, Ok, Err, IfOk, arith}
use Rattle.giop_end.specs.declared.session_fault.SessionFault.{SessionFault}
use Rattle.giop_end.specs.declared.session_fault.SessionFault.TheVariants.{Wire, Call, WrongDirection, TooManyCalls, GatherFull, PeerError, Closed, NoMemory, StillOpen, NoId}
use Rattle.giop_msg.specs.declared.fault.WireKind.{WireKind}
use Rattle.giop_msg.specs.declared.fault.WireKind.TheVariants.{BadMagic, BadVersion, ReservedFlags, BadKind, TooLarge, BadSize, FragmentSize, NotFragmentable, NoMemory as memory_kind}
use Rattle.giop_commands.specs.Session.Endings.{ending_status}
use Rattle.giop_commands.specs.Session.Faults.Broken.{broken_status}
use Rattle.giop_commands.specs.declared.session.ending.Ending.{Ending}
use Rattle.giop_show.specs.Status.{failure_status, header_status, status_number}
use Rattle.giop_show.specs.declared.failure.Failure.{Failure}
use Rattle.giop_show.specs.declared.failure.Failure.TheVariants.{Memory, Input, Output, Connection, TurnsSpent}
use Rattle.giop_show.specs.declared.status.Status.{Status}
use Rattle.giop_show.specs.declared.status.Status.TheVariants.{Done, Refused, LimitPassed, Usage, InputOutput}
use Rattle.giop_show.specs.declared.status.Status.TheVariants.{Memory as memory_status}
use Rattle.giop_files.specs.Report.{IsFailed, IsRefused}
use Rattle.giop_connections.specs.Carried.{IsCarriedOut}

pub carried_number : (status : Status) → IsCarriedOut status → status_number status ≢ 2
carried_number Done _ = omega arith
carried_number Refused _ = omega arith
carried_number (LimitPassed limit) _ = omega arith
carried_number Usage is = absurd is
carried_number InputOutput _ = omega arith
carried_number memory_status _ = omega arith

-- ---- what fails, and what is refused

pub failure_carried : (failure : Failure) → IsCarriedOut (failure_status failure)
failure_carried Memory = tt
failure_carried (Input e) = tt
failure_carried (Output e) = tt
failure_carried (Connection e) = tt
failure_carried TurnsSpent = tt

pub failed_carried : (status : Status) → IsFailed status → IsCarriedOut status
failed_carried status (inl e) = subst (λ s. IsCarriedOut s) (sym e) tt
failed_carried status (inr e) = subst (λ s. IsCarriedOut s) (sym e) tt

pub refused_carried : (status : Status) → IsRefused status → IsCarriedOut status
refused_carried status (inl e) = subst (λ s. IsCarriedOut s) (sym e) tt
refused_carried status (inr is) = failed_carried status is

-- ---- sessions

header_carried : (kind : WireKind) → IsCarriedOut (header_status kind)
header_carried BadMagic = tt
header_carried BadVersion = tt
header_carried ReservedFlags = tt
header_carried BadKind = tt
header_carried TooLarge = tt
header_carried BadSize = tt
header_carried FragmentSize = tt
header_carried NotFragmentable = tt
header_carried memory_kind = tt

pub broken_carried : (why : SessionFault) → IsCarriedOut (broken_status why)
broken_carried (Wire e) = header_carried e.kind
broken_carried (Call id fault) = tt
broken_carried WrongDirection = tt
broken_carried TooManyCalls = tt
broken_carried GatherFull = tt
broken_carried PeerError = tt
broken_carried Closed = tt
broken_carried NoMemory = tt
broken_carried StillOpen = tt
broken_carried (NoId e) = tt

pub ended_carried : (ended : Result Ending Failure) → IfOk ended (λ ending. IsCarriedOut ending.status) → IsCarriedOut (ending_status ended)
ended_carried (Ok ending) is = is
ended_carried (Err failure) _ = failure_carried failure
