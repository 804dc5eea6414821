-- What is refused at a server before the table is asked: a first piece for an id that is in use.
use Rattle.std.proofs.Common.{◌≡◌, ℕ, false, List, Option, Err, refl}
use Rattle.std.specs.FinMap as finite
use Rattle.giop_cdr.specs.declared.order.Order.{Order}
use Rattle.giop_calls.specs.declared.fault.CallFault.TheVariants.{IdInUse}
use Rattle.giop_calls.specs.declared.kind.CallKind.{CallKind}
use Rattle.giop_calls.specs.declared.server.entry.ServerEntry.{ServerEntry}
use Rattle.giop_calls.specs.declared.server.event.ServerEvent.TheVariants as event
use Rattle.giop_calls.specs.ServerTable.{server_step, is_closed, is_free, is_gathering}
use Rattle.giop_end.specs.declared.session_fault.SessionFault.TheVariants.{Call as InCall}
use Rattle.giop_table.specs.declared.slot.Slot.{Slot}
use Rattle.giop_table.specs.declared.table_fault.TableFault.TheVariants as table
use Rattle.giop_table.specs.CallTable.{First, Hears, Held}
use Rattle.giop_table.specs.Sending.{entry_of, sending_step}
use Rattle.giop_table.proofs.TableLemmas.{does_own}
use Rattle.giop_end.specs.Hearing.Heard.{ActsOn, silently}
use Rattle.giop_end.specs.Hearing.ServerHears.{AtServer}
use Rattle.giop_end.proofs.OnHearing.EventLemmas.{event_heard}

-- a first piece for an id that is in use
in_use : (slot : Option (Slot ServerEntry)) (kind : CallKind) → is_free (entry_of slot) ≡ false
    → (sending_step server_step slot (silently (event.First kind))).outcome ≡ Err IdInUse
in_use slot kind busy = rw busy refl

pub begin_refused : {R : Type 0} (h : Held R ServerEntry) (id : ℕ) (kind : CallKind) (order : Order) (octets : List ℕ)
    → is_free (entry_of (finite.get h.table id)) ≡ false
    → AtServer (ActsOn id (Hears (silently (event.First kind)) (First order octets))) h (Err (InCall id IdInUse)) h
begin_refused h id kind order octets busy =
    let first = silently (event.First kind) in
    event_heard server_step is_closed is_gathering h h id first (First order octets) (Err (table.Rule IdInUse)) (Err (InCall id IdInUse))
    (does_own server_step is_closed is_gathering h id first (First order octets) IdInUse (in_use (finite.get h.table id) kind busy)) refl
