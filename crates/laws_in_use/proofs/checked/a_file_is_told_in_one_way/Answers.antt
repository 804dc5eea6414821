use Rattle.std.proofs.Common.{◌≡◌, ◌≢◌, ℕ, Bool, false, List, [], ◌∷◌, ◌++◌, length, map, Option, Some, None, Result, Ok, Err, refl, sym, ap, ◌∙◌}
use Rattle.std.specs.FinMap as finite
use Rattle.std.specs.FinMap.{len-empty, len-entries}
use Rattle.std.specs.Fmt.{digits}
use Rattle.std.specs.List.{flat_map}
use Rattle.std.specs.Ordering.{nat_cmp}
use Rattle.giop_types.specs.declared.interfaces.interface.Interface.{Interface}
use Rattle.giop_msg.specs.declared.msg.Msg.{Msg}
use Rattle.giop_msg.specs.Stream.{Unread}
use Rattle.giop_calls.specs.declared.server.entry.ServerEntry.{ServerEntry}
use Rattle.giop_calls.specs.declared.server.rule.ServerRule.{ServerRule}
use Rattle.giop_end.specs.declared.limits.Limits.{Limits}
use Rattle.giop_end.specs.declared.session_fault.SessionFault.{SessionFault}
use Rattle.giop_end.specs.declared.session_fault.SessionFault.TheVariants.{NoMemory}
use Rattle.giop_end.specs.Ends.Begun.{no_calls}
use Rattle.giop_end.specs.Hearing.Feeding.{Fed, standing, with_octets}
use Rattle.giop_end.specs.Pumping.{Feeds, State}
use Rattle.giop_table.specs.declared.slot.Slot.{Slot}
use Rattle.giop_table.specs.CallTable.{Held}
use Rattle.giop_forms.specs.declared.line_form.LineForm.{LineForm}
use Rattle.giop_show.specs.declared.status.Status.{Status}
use Rattle.giop_show.specs.declared.status.Status.TheVariants.{Done}
use Rattle.giop_show.specs.Forms.{ended}
use Rattle.giop_commands.specs.Check.{IsChecked, answer_of, default_limits, end_text, last_status, nothing_read, server_hears, strict_status}
use Rattle.giop_commands.specs.Session.Faults.Lines.{last_in}
use Rattle.giop_commands.specs.Session.Tables.Table.{server_entry_in, table_text, text_at}
use Rattle.giop_commands.proofs.CheckLemmas.{fed_nothing, nothing_waits}
use Rattle.laws_in_use.specs.Checked.{as_text, nothing_left}
use Rattle.laws_in_use.proofs.checked.a_file_is_told_in_one_way.Goals as goal

-- ---- an end that heard octets was fed with them

standing_is : (fault : Option SessionFault) → fault ≡ standing (answer_of fault)
standing_is None = refl
standing_is (Some why) = refl

there : (fault : Option SessionFault) → fault ≢ Some NoMemory → answer_of fault ≢ Err NoMemory
there None memory = λ is. cc
there (Some why) memory = λ is. memory (let same : why ≡ NoMemory = cc in ap Some same)

abbrev state : {S : Type 0} → Unread → S → Option SessionFault → State S
state unread calls fault = record { unread = unread; calls = calls; fault = fault }

module _ {S : Type 0} (Hears : Msg → S → Result (Unit {0}) SessionFault → S → Type 0) where
  fed_with : (octets : List ℕ) (unread behind : Unread) (h k : S) (fault : Option SessionFault)
      → Fed Hears (with_octets unread octets) h (answer_of fault) behind k
      → Feeds Hears (state unread h None) octets (answer_of fault) (state behind k fault)
  fed_with octets unread behind h k fault fed = record { failed = λ why is. absurd cc; fed = λ new. fed; stands = λ new. standing_is fault }

  nothing_fed : (unread : Unread) (h : S) → unread.octets ≡ [] → Feeds Hears (state unread h None) [] (Ok tt) (state unread h None)
  nothing_fed unread h none = record {
    failed = λ why is. absurd cc;
    fed = λ new. fed_nothing Hears unread h (nothing_waits unread none);
    stands = λ new. refl;
  }

-- ---- and what it tells goes by what is left

line_same : (form : LineForm) (fault : Option SessionFault) (left left' : Unread) → (fault ≡ None → left ≡ left')
    → last_in form fault (length left.octets) ≡ last_in form fault (length left'.octets)
line_same form None left left' same = ap (λ (u : Unread). last_in form None (length u.octets)) (same refl)
line_same form (Some why) left left' same = refl

status_same : (fault : Option SessionFault) (left left' : Unread) → (fault ≡ None → left ≡ left')
    → last_status fault (length left.octets) ≡ last_status fault (length left'.octets)
status_same None left left' same = ap (λ (u : Unread). last_status None (length u.octets)) (same refl)
status_same (Some why) left left' same = refl

abbrev Calls : Type 0
Calls = Held ServerRule ServerEntry

told_same : (interface : Interface) (limits : Limits) (strict : Bool) (form : LineForm) (octets one other : List ℕ) (status status' : Status)
    (a : IsChecked interface limits strict form octets (Some []) (Some one) status)
    (b : IsChecked interface limits strict form octets (Some []) (Some other) status')
    → state b.heard.behind b.calls b.fault ≡ state a.heard.behind a.calls a.fault → (one ≡ other) × (status ≡ status')
told_same interface limits strict form octets one other status status' a b same =
    let fault : b.fault ≡ a.fault = ap (λ (s : State Calls). s.fault) same in
    let left : a.fault ≡ None → a.left ≡ b.left = λ none. sym (a.heard.whole none) ∙ sym (ap (λ (s : State Calls). s.unread) same)
    ∙ b.heard.whole (fault ∙ none) in
    let n = length b.left.octets in (
      a.text ∙ ap (λ line. table_text (server_entry_in form interface) a.calls.table ++ ended line) (line_same form a.fault a.left b.left left)
          ∙ ap (λ (s : State Calls). end_text interface form s.calls s.fault n) (sym same) ∙ sym b.text,
      a.is ∙ ap (strict_status strict a.calls.table) (status_same a.fault a.left b.left left)
          ∙ ap (λ (s : State Calls). strict_status strict s.calls.table (last_status s.fault n)) (sym same) ∙ sym b.is,
    )

pub returns-clause-same : goal.returns-clause-same
returns-clause-same c = λ interface limits strict form octets one other status status' a b.
    let begun = no_calls (record {}) limits in
    let all = c.any_reads_leave_the_same.ensures.ok interface (state (nothing_read limits) begun None) (state (nothing_read limits) begun None)
    (state a.heard.behind a.calls a.fault) (state b.heard.behind b.calls b.fault) [] octets (answer_of a.fault) (answer_of b.fault)
    (there a.fault a.memory) (there b.fault b.memory) (nothing_fed (server_hears interface) (nothing_read limits) begun refl)
    (fed_with (server_hears interface) octets (nothing_read limits) a.heard.behind begun a.calls a.fault a.heard.fed)
    (fed_with (server_hears interface) octets (nothing_read limits) b.heard.behind begun b.calls b.fault b.heard.fed) in
    told_same interface limits strict form octets one other status status' a b all.1

-- of no calls nothing is told
no_keys : {A B : Type 0} (f : A → B) (xs : List A) → length xs ≡ 0 → map f xs ≡ []
no_keys f [] none = refl
no_keys f (x ∷ xs) none = absurd cc

no_lines : (line : ℕ → ServerEntry → List ℕ) → table_text line finite.empty ≡ []
no_lines line =
    ap (flat_map (text_at line finite.empty))
    (no_keys _ _ (sym (len-entries (finite.empty {X = Slot ServerEntry} {R = nat_cmp})) ∙ len-empty nat_cmp (Slot ServerEntry)))

rest_none : nothing_left ≡ ended (last_in as_text None 0)
unfolding digits
rest_none = refl

nothing_heard : (interface : Interface) → IsChecked interface default_limits false as_text [] (Some []) (Some nothing_left) Done
nothing_heard interface = record {
  fault = None;
  left = nothing_read default_limits;
  calls = no_calls (record {}) default_limits;
  heard = record {
    behind = nothing_read default_limits;
    fed = fed_nothing (server_hears interface) (nothing_read default_limits) (no_calls (record {}) default_limits)
        (nothing_waits (nothing_read default_limits) refl);
    whole = λ none. refl;
  };
  memory = λ is. cc;
  text = rest_none ∙ ap (λ lines. lines ++ ended (last_in as_text None 0)) (sym (no_lines (server_entry_in as_text interface)));
  is = refl;
}

pub returns-clause-there : goal.returns-clause-there
returns-clause-there c = nothing_heard

pub returns-clause-only : goal.returns-clause-only
returns-clause-only c = λ interface new status checked.
    returns-clause-same c interface default_limits false as_text [] new nothing_left status Done checked (nothing_heard interface)
