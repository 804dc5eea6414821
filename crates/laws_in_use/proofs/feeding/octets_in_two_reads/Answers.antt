use Rattle.std.proofs.Common.{◌≢◌, [], take, Some, None, Result, Ok, Err, refl, arith, inl, inr}
use Rattle.std.proofs.lemmas.List.Elements.{All-nil}
use Rattle.giop_msg.specs.declared.msg.Msg.{Msg}
use Rattle.giop_msg.specs.Header.{header_fault}
use Rattle.giop_msg.specs.Msg.{IsMessage, message_octets}
use Rattle.giop_msg.specs.Stream.{BeginsWithFault}
use Rattle.giop_session.specs.declared.SessionFault.{SessionFault}
use Rattle.giop_session.specs.declared.SessionFault.TheVariants.{NoMemory, Wire}
use Rattle.giop_session.specs.Pumping.{Feeds}
use Rattle.laws_in_use.specs.Feeding.{bad_magic, no_header, state_of}
use Rattle.laws_in_use.specs.Limited.{new_server}
use Rattle.laws_in_use.specs.Locating.{door_begins, limits}
use Rattle.laws_in_use.proofs.LocatingReads as read
use Rattle.laws_in_use.proofs.LocatingRuns.{fed}
use Rattle.laws_in_use.proofs.feeding.octets_in_two_reads.Goals as goal

begins : BeginsWithFault 64 no_header bad_magic
unfolding header_fault
begins = (omega arith, refl)

waits : {S : Type 0} (Hears : Msg → S → Result (Unit {0}) SessionFault → S → Type 0) (h : S)
    → Feeds Hears (state_of [] h None) (take 5 (message_octets door_begins)) (Ok tt) (state_of (take 5 (message_octets door_begins)) h None)
waits Hears h = record { failed = λ why is. absurd cc; fed = λ new. fed read.first refl; stands = λ new. refl }

fails : {S : Type 0} (Hears : Msg → S → Result (Unit {0}) SessionFault → S → Type 0) (h : S)
    → Feeds Hears (state_of [] h None) no_header (Err (Wire bad_magic)) (state_of no_header h (Some (Wire bad_magic)))
fails Hears h = record {
  failed = λ why is. absurd cc;
  fed = λ new. record {
    messages = [];
    rest = record { limit = 64; octets = no_header };
    taken = record { each = All-nil (IsMessage 64); octets = refl; limit = refl };
    heard = refl;
    stops = inr (inl (bad_magic, begins, refl, refl));
  };
  stands = λ new. refl;
}

pub returns-clause-waits : goal.returns-clause-waits
returns-clause-waits c = λ interface. waits _ (new_server limits)

pub returns-clause-same : goal.returns-clause-same
returns-clause-same c = λ interface more t u second both there there' then whole.
    c.any_reads_leave_the_same.ensures.ok interface (state_of [] (new_server limits) None)
    (state_of (take 5 (message_octets door_begins)) (new_server limits) None) t u (take 5 (message_octets door_begins)) more second both
    there there' (waits _ (new_server limits)) then whole

pub returns-clause-fails : goal.returns-clause-fails
returns-clause-fails c = λ interface. fails _ (new_server limits)

pub returns-clause-refused : goal.returns-clause-refused
returns-clause-refused c = λ interface more t u second both there then whole.
    let not_memory : Wire bad_magic ≢ NoMemory = (λ is. cc) in
    let all = c.any_reads_leave_the_same.ensures.refused interface (state_of [] (new_server limits) None)
    (state_of no_header (new_server limits) (Some (Wire bad_magic))) t u no_header more (Wire bad_magic) second both refl not_memory there
    (fails _ (new_server limits)) then whole in
    (all.2, all.3)
