use Rattle.std.proofs.Common.{codes, false, ◌≡◌, ◌∙◌, ◌++◌, [], ◌∷◌, is_none, if◌then◌else◌, Option, Some, None, Ok, Err, refl, sym, ap, subst, inl, inr}
use Rattle.std.specs.FinMap.{get-empty}
use Rattle.std.specs.Fmt.{digits}
use Rattle.std.specs.Str.{chars}
use Rattle.std.specs.List.{flat_map}
use Rattle.std.specs.Option.{option_or}
use Rattle.std.specs.Ordering.{nat_cmp}
use Rattle.giop_json.specs.InterfaceFromJson.{Offer}
use Rattle.giop_types.specs.declared.interfaces.interface.Interface.{Interface}
use Rattle.giop_types.specs.declared.interfaces.interface.Operation.{Operation}
use Rattle.giop_msg.specs.declared.version.Version.TheVariants.{V12}
use Rattle.giop_calls.specs.ClientTable.{client_step, is_closed, is_gathering}
use Rattle.giop_calls.specs.declared.client.entry.ClientEntry.{ClientEntry}
use Rattle.giop_calls.specs.declared.fault.CallFault.{CallFault}
use Rattle.giop_calls.specs.declared.fault.CallFault.TheVariants.{UnknownOperation}
use Rattle.giop_end.specs.Acts.ClientCalls.{IsCall, call_fault, is_request_sendable}
use Rattle.giop_end.specs.Acts.Putting.{Puts}
use Rattle.giop_end.specs.Acts.Refused.{unfit_unless}
use Rattle.giop_end.specs.Ends.Begun.{no_calls}
use Rattle.giop_end.specs.Hearing.Heard.{in_call}
use Rattle.giop_end.specs.declared.session_fault.SessionFault.{SessionFault}
use Rattle.giop_end.specs.declared.session_fault.SessionFault.TheVariants.{Call as InCall}
use Rattle.giop_table.specs.CallTable.{rules_of}
use Rattle.giop_table.specs.Sending.{entry_of}
use Rattle.giop_table.specs.declared.slot.Slot.{Slot}
use Rattle.giop_show.specs.Forms.{ended}
use Rattle.giop_commands.specs.Check.{nothing_read}
use Rattle.giop_commands.specs.Session.Acts.{Outbox}
use Rattle.giop_commands.specs.Session.Faults.Lines.{session_fault_in}
use Rattle.giop_commands.specs.Session.Printed.{wire}
use Rattle.giop_commands.specs.Session.Tables.Table.{client_entry_in, table_text, text_at}
use Rattle.giop_calling.specs.Call.Calling.{CallsAll, ClientCalls, entry_at, new_box}
use Rattle.laws_in_use.specs.Calling.{HasNoPing, asked_for, no_ping, one_at_once, ping_line}
use Rattle.laws_in_use.specs.Checked.{as_text}
use Rattle.laws_in_use.specs.Exchange.{ping}
use Rattle.laws_in_use.specs.InJson.{adding}
use Rattle.laws_in_use.proofs.NoSuchName.{is_among, no_such_name}
use Rattle.laws_in_use.proofs.OneCall.{keys_none}
use Rattle.laws_in_use.proofs.calling.a_call_that_no_object_has.Goals as goal

abbrev new : Outbox ClientCalls
new = new_box one_at_once

abbrev unknown : SessionFault
unknown = InCall 7 UnknownOperation

module _ (interface : Interface) (none : HasNoPing interface) where
  is_refused : call_fault interface one_at_once (entry_at new.calls 7) (ping V12) (asked_for interface []).form ≡ Some UnknownOperation
  is_refused =
      ap (λ slot. call_fault interface one_at_once (entry_of slot) (ping V12) (asked_for interface []).form) (get-empty nat_cmp 7)
      ∙ ap (λ (o : Option Operation). option_or (if is_none o then Some UnknownOperation else None)
      (unfit_unless (is_request_sendable interface one_at_once (ping V12) (asked_for interface []).form))) none

  -- no such call is accepted
  is_told : (refused : Option SessionFault) (t : Outbox ClientCalls)
      → CallsAll (asked_for interface (ping_line 7 ∷ [])) None new refused t → (why : SessionFault) × (refused ≡ Some why)
  is_told (Some why) t calls = (why, refl)
  is_told None t calls =
      let (mid, (after, one, _), _) = calls in
      let puts = subst (λ (refusal : Option CallFault). Puts (rules_of client_step is_closed is_gathering) in_call 7 refusal
      (IsCall interface (ping V12) (asked_for interface []).form) new.calls [] (Ok tt) after.calls after.outgoing) is_refused (one.0.puts refl) in
      elim puts [ inl memory ↦ absurd (let is = memory.0 in cc) | inr call ↦ absurd (let is = call.0 in cc) ]

  stops : CallsAll (asked_for interface (ping_line 7 ∷ [])) None new (Some unknown) new
  stops = inl (record {
    before = [];
    item = ping_line 7;
    behind = [];
    mid = new;
    parts = refl;
    each = refl;
    stops = (
      record {
        failed = λ why is. absurd cc;
        puts = λ ok. subst (λ (refusal : Option CallFault). Puts (rules_of client_step is_closed is_gathering) in_call 7 refusal
            (IsCall interface (ping V12) (asked_for interface []).form) new.calls [] (Err unknown) new.calls []) (sym is_refused)
            (inr (refl, refl, refl));
      },
      λ is. cc,
    );
  })

  no_lines : table_text (client_entry_in as_text interface) new.calls.table ≡ []
  no_lines = ap (flat_map (text_at (client_entry_in as_text interface) new.calls.table)) (keys_none (Slot ClientEntry))

told : no_ping ≡ ended (session_fault_in as_text unknown)
unfolding digits
told = refl

none_named : is_among (codes "ping") adding.operations ≡ false
unfolding chars
none_named = refl

pub returns-clause-lacks : goal.returns-clause-lacks
returns-clause-lacks c = λ interface view alone.
    no_such_name interface (codes "k") (codes "ping") alone
    (ap (λ (offer : Offer). is_among (codes "ping") offer.operations) view ∙ none_named)

pub returns-clause-refused : goal.returns-clause-refused
returns-clause-refused c = λ interface none. record {
  refused = Some unknown;
  box = new;
  calls = stops interface none;
  outgoing = [];
  unread = nothing_read one_at_once;
  left = no_calls (record {}) one_at_once;
  fault = None;
  talks = refl;
  text = told ∙ ap (λ lines. lines ++ ended (session_fault_in as_text unknown)) (sym (no_lines interface none));
  is = refl;
}

pub returns-clause-kept : goal.returns-clause-kept
returns-clause-kept c = λ interface none after new status called.
    let (why, is) = is_told interface none called.refused called.box called.calls in
    let same = c.refused_calls_write_nothing.ensures (asked_for interface (ping_line 7 ∷ [])) as_text (wire (Some (7 ∷ [])) (Some [])) after
    (Some []) (Some new) status called why is in
    λ i. record { input = same.0 i; output = same.1 i }
