use Rattle.std.proofs.Common.{◌≡◌, ◌==◌, ◌&&◌, ◌∙◌, nat_lt, true, [], ◌∷◌, length, if◌then◌else◌, Option, Some, None, Ok, refl, sym, ap, subst, inr, arith}
use Rattle.std.specs.FinMap as finite
use Rattle.std.specs.FinMap.{get-empty}
use Rattle.std.specs.Ordering.{nat_cmp}
use Rattle.giop_types.specs.declared.interfaces.interface.Interface.{Interface}
use Rattle.giop_msg.specs.declared.version.Version.TheVariants.{V12}
use Rattle.giop_calls.specs.ClientTable.{client_step, is_closed, is_gathering}
use Rattle.giop_calls.specs.declared.client.call.Call.TheVariants as asked
use Rattle.giop_calls.specs.declared.client.entry.ClientEntry.{ClientEntry}
use Rattle.giop_calls.specs.declared.client.event.ClientEvent.{ClientEvent}
use Rattle.giop_calls.specs.declared.client.event.ClientEvent.TheVariants as event
use Rattle.giop_calls.specs.declared.fault.CallFault.{CallFault}
use Rattle.giop_end.specs.Acts.ClientCalls.{IsCall, call_fault}
use Rattle.giop_end.specs.Acts.Putting.{Puts}
use Rattle.giop_end.specs.Hearing.Heard.{in_call}
use Rattle.giop_table.specs.CallTable.{Call, Nothing, at, rules_of}
use Rattle.giop_table.specs.Sending.{entry_of}
use Rattle.giop_table.specs.declared.plan.Planned.{Planned}
use Rattle.giop_table.specs.declared.plan.Plan.TheVariants.{Put}
use Rattle.giop_table.specs.declared.slot.Slot.{Slot}
use Rattle.giop_commands.specs.Session.Acts.{Outbox}
use Rattle.giop_calling.specs.Call.Calling.{CallsOne, ClientCalls, entry_at, new_box}
use Rattle.giop_calling.specs.Call.Streaming.{is_vacant, most_outgoing}
use Rattle.laws_in_use.specs.Calling.{asked_for, has_called, one_at_once, ping_line, ping_waits}
use Rattle.laws_in_use.specs.Exchange.{ping}
use Rattle.laws_in_use.specs.Pinged.{HasPing, ping_whole}
use Rattle.laws_in_use.proofs.OneCall.{keys_none, keys_one}
use Rattle.laws_in_use.proofs.PingPlans.{ping_planned, ping_unrefused}
use Rattle.laws_in_use.proofs.Taking.{done, stands_none}
use Rattle.laws_in_use.proofs.calling.one_call_waits_for_another.Goals as goal

abbrev new : Outbox ClientCalls
new = new_box one_at_once

none_at : at new.calls 7 ≡ record { slot = None; pieces = None }
none_at i = record { slot = get-empty nat_cmp 7 i; pieces = get-empty nat_cmp 7 i }

abbrev planned : Planned ClientEvent
planned = record { event = event.Call (asked.Request (ping V12)) 1; plan = Put (ping_whole ∷ []) }

only_7 : finite.keys has_called.calls.table ≡ 7 ∷ []
only_7 = keys_one (Slot ClientEntry) 7 _

module _ (interface : Interface) (has : HasPing interface) where
  unrefused : call_fault interface one_at_once (entry_at new.calls 7) (ping V12) (asked_for interface []).form ≡ None
  unrefused =
      ap (λ (call : Call ClientEntry). call_fault interface one_at_once (entry_of call.slot) (ping V12) (asked_for interface []).form) none_at
      ∙ ping_unrefused interface has (asked_for interface []).form refl refl

  is_called : CallsOne (asked_for interface []) None (ping_line 7) new None has_called
  is_called = (
    record {
      failed = λ why is. absurd cc;
      puts = λ none. subst (λ (refusal : Option CallFault). Puts (rules_of client_step is_closed is_gathering) in_call 7 refusal
          (IsCall interface (ping V12) (asked_for interface []).form) new.calls [] (Ok tt) has_called.calls has_called.outgoing) (sym unrefused)
          (inr (
            planned,
            ping_planned interface has,
            record {
              answered = Ok (record { answer = tt; message = Some ping_whole });
              does = done client_step is_closed is_gathering new.calls one_at_once [] 0 7 planned Nothing (record { slot = None; pieces = None })
                  ping_waits (record { answer = tt; message = Some ping_whole }) (stands_none (record {}) one_at_once []) (omega arith) (omega arith)
                  none_at refl;
              returned = refl;
              puts = refl;
            },
          ));
    },
    λ is. cc,
  )

pub returns-clause-made : goal.returns-clause-made
returns-clause-made c = λ interface has. record {
  made = ping_line 7 ∷ [];
  parts = refl;
  each = (
    has_called,
    record {
      room = ap (λ ids. if length ids == 0 then true else (nat_lt (length ids) 1 && (is_vacant (entry_at new.calls 7) && nat_lt 0 most_outgoing)))
          (keys_none (Slot ClientEntry));
      calls = is_called interface has;
    },
    refl,
  );
  full = ap (λ ids. if length ids == 0 then true
      else (nat_lt (length ids) 1 && (is_vacant (entry_at has_called.calls 9) && nat_lt (length has_called.outgoing) most_outgoing))) only_7;
}

pub returns-clause-open : goal.returns-clause-open
returns-clause-open c = ap length only_7

pub returns-clause-waits : goal.returns-clause-waits
returns-clause-waits c = λ interface fault calls s t makes none.
    let over = c.calls_are_made_where_none_is_open.ensures (asked_for interface []) fault calls (ping_line 9 ∷ []) s t makes none in
    absurd (let no : ping_line 9 ∷ [] ≡ [] = over in cc)
