-- An end that hears what a reader gives, and what is told of it.
use Rattle.std.proofs.Common.{◌≡◌, ◌≢◌, ℕ, ◌+◌, ◌≤◌, Bool, false, List, [], ◌++◌, length, length-append, Option, Some, None, Result, Ok, Err, IfOk, refl, sym, ap, subst, ◌∙◌, inl, inr, append_assoc, arith}
use Rattle.std.specs.List.{flat_map}
use Rattle.std.specs.Io.KnownBytes.{Appends, Consumes, IsAtEnd}
use Rattle.std.proofs.lemmas.List.{append-nil}
use Rattle.giop_msg.specs.declared.msg.Msg.{Msg}
use Rattle.giop_msg.specs.Msg.{message_octets}
use Rattle.giop_msg.specs.Stream.{TakesMessage, Unread, Waits}
use Rattle.giop_msg.proofs.StreamLemmas.{fault_stands, length-message_octets}
use Rattle.giop_types.specs.declared.interfaces.interface.Interface.{Interface}
use Rattle.giop_end.specs.declared.limits.Limits.{Limits}
use Rattle.giop_end.specs.declared.session_fault.SessionFault.{SessionFault}
use Rattle.giop_end.specs.declared.session_fault.SessionFault.TheVariants.{NoMemory}
use Rattle.giop_end.specs.Hearing.Feeding.{Fed, Stops, with_octets}
use Rattle.giop_end.proofs.OnHearing.FeedingLemmas.{fed_in_turn}
use Rattle.giop_calls.specs.declared.server.entry.ServerEntry.{ServerEntry}
use Rattle.giop_calls.specs.declared.server.rule.ServerRule.{ServerRule}
use Rattle.giop_end.specs.Ends.Begun.{no_calls}
use Rattle.giop_table.specs.CallTable.{Held}
use Rattle.giop_show.specs.declared.failure.Failure.{Failure}
use Rattle.giop_show.specs.declared.status.Status.{Status}
use Rattle.giop_show.specs.declared.status.Status.TheVariants.{Done, Refused, LimitPassed, Usage, InputOutput, Memory}
use Rattle.giop_json.specs.declared.number_form.NumberForm.TheVariants.{Plain}
use Rattle.giop_forms.specs.declared.line_form.LineForm.{LineForm}
use Rattle.giop_forms.specs.declared.line_form.LineForm.TheVariants.{Text}
use Rattle.giop_commands.specs.Check.{Checks, ChecksKnown, HeardKnown, Hears, IsChecked, last_status, nothing_read, server_hears, strict_status}
use Rattle.giop_commands.specs.Session.Faults.Lines.{last_in}
use Rattle.giop_show.specs.Forms.{ended}
use Rattle.giop_commands.specs.Session.Tables.Table.{server_entry_in, table_text}
use Rattle.giop_show.proofs.AppendsLemmas.{Appends-append}
use Rattle.giop_show.proofs.RestLemmas.{nothing_left}

-- where nothing is unread, no message stands at the front, and no fault
pub nothing_waits : (unread : Unread) → unread.octets ≡ [] → Waits unread
nothing_waits unread none = record {
  no_message = λ begins.
      let some : length unread.octets ≡ (12 + length begins.0.payload) + length begins.1 =
      ap length begins.3 ∙ length-append (message_octets begins.0) begins.1
      ∙ ap (λ n. n + length begins.1) (length-message_octets begins.0) in
      absurd (omega (arith, some, ap length none));
  no_fault = λ e stands. let some : 12 ≤ length unread.octets = stands.0 in absurd (omega (arith, some, ap length none));
}

module _ {S : Type 0} (hears : Msg → S → Result (Unit {0}) SessionFault → S → Type 0) where
  -- no octets are heard
  pub fed_nothing : (unread : Unread) (h : S) → Waits unread → Fed hears (with_octets unread []) h (Ok tt) unread h
  fed_nothing unread h waits = record {
    messages = [];
    rest = unread;
    taken = record { each = λ k d below. absurd (omega (arith, below)); octets = append-nil unread.octets; limit = refl };
    heard = refl;
    stops = (waits, refl);
  }

  -- an end that stops stops so whatever stands behind what it has
  stops_behind : (rest left : Unread) (k : S) (why : SessionFault) (more : List ℕ) → Stops hears rest k (Err why) left
      → Stops hears (with_octets rest more) k (Err why) (with_octets left more)
  stops_behind rest left k why more (inl wants) = inl wants
  stops_behind rest left k why more (inr (inl stands)) =
      inr (inl (stands.0, fault_stands rest.limit rest.octets more stands.0 stands.1, stands.2, ap (λ u. with_octets u more) stands.3))
  stops_behind rest left k why more (inr (inr (m, takes, refused))) =
      let taken : TakesMessage (with_octets rest more) m (with_octets left more) = record {
        is_message = takes.is_message;
        octets = ap (λ octets. octets ++ more) takes.octets ∙ append_assoc (message_octets m) left.octets more;
        limit = takes.limit;
      } in
      inr (inr (m, taken, refused))

  fed_behind : (unread left : Unread) (h k : S) (why : SessionFault) (more : List ℕ) → Fed hears unread h (Err why) left k
      → Fed hears (with_octets unread more) h (Err why) (with_octets left more) k
  fed_behind unread left h k why more fed = record {
    messages = fed.messages;
    rest = with_octets fed.rest more;
    taken = record {
      each = fed.taken.each;
      octets =
          ap (λ octets. octets ++ more) fed.taken.octets
          ∙ append_assoc (flat_map message_octets fed.messages) fed.rest.octets more;
      limit = fed.taken.limit;
    };
    heard = fed.heard;
    stops = stops_behind fed.rest left k why more fed.stops;
  }

  -- these octets were read, and are heard
  abbrev pub HasRead : List ℕ → List ℕ → Unread → S → Unread → S → Type 0
  HasRead octets rest unread h now k = (read : List ℕ) × (octets ≡ read ++ rest) × Fed hears (with_octets unread read) h (Ok tt) now k

  joined : (unread : Unread) (read piece : List ℕ) → with_octets (with_octets unread read) piece ≡ with_octets unread (read ++ piece)
  joined unread read piece = ap (λ octets. record unread { octets = octets }) (append_assoc unread.octets read piece)

  parted : (octets read piece left rest : List ℕ) → octets ≡ read ++ left → left ≡ piece ++ rest → octets ≡ (read ++ piece) ++ rest
  parted octets read piece left rest all next = all ∙ ap (λ o. read ++ o) next ∙ sym (append_assoc read piece rest)

  reads_more : (octets left rest piece : List ℕ) (unread now after : Unread) (h k next : S) → HasRead octets left unread h now k → left ≡ piece ++ rest
      → Fed hears (with_octets now piece) k (Ok tt) after next → HasRead octets rest unread h after next
  reads_more octets left rest piece unread now after h k next before taken fed = (
    before.0 ++ piece,
    parted octets before.0 piece left rest before.1 taken,
    subst (λ u. Fed hears u h (Ok tt) after next) (joined unread before.0 piece)
        (fed_in_turn hears (with_octets unread before.0) now after h k next piece (Ok tt) before.2 fed),
  )

  reads_all : (octets left piece rest : List ℕ) (unread now : Unread) (h k : S) → HasRead octets left unread h now k → left ≡ piece ++ rest
      → length piece ≡ 0 → rest ≡ [] → Hears hears octets unread h None now k
  reads_all octets left piece rest unread now h k before taken none ends =
      let nothing : left ≡ [] = taken ∙ ap (λ p. p ++ rest) (nothing_left piece none) ∙ ends in
      let whole : octets ≡ before.0 = before.1 ∙ ap (λ o. before.0 ++ o) nothing ∙ append-nil before.0 in
      record { behind = now; fed = subst (λ o. Fed hears (with_octets unread o) h (Ok tt) now k) (sym whole) before.2; whole = λ _. refl }

  meets_fault : (octets left rest piece : List ℕ) (unread now after : Unread) (h k next : S) (why : SessionFault) → HasRead octets left unread h now k
      → left ≡ piece ++ rest → Fed hears (with_octets now piece) k (Err why) after next → Hears hears octets unread h (Some why) after next
  meets_fault octets left rest piece unread now after h k next why before taken fed =
      let so_far = subst (λ u. Fed hears u h (Err why) after next) (joined unread before.0 piece)
      (fed_in_turn hears (with_octets unread before.0) now after h k next piece (Err why) before.2 fed) in
      let all = subst (λ u. Fed hears u h (Err why) (with_octets after rest) next) (joined unread (before.0 ++ piece) rest)
      (fed_behind (with_octets unread (before.0 ++ piece)) after h next why rest so_far) in
      record {
        behind = with_octets after rest;
        fed = subst (λ o. Fed hears (with_octets unread o) h (Err why) (with_octets after rest) next)
            (sym (parted octets before.0 piece left rest before.1 taken)) all;
        whole = λ none. absurd cc;
      }

  -- the same of a reader whose octets may be known, from those that it had at first to those that it
  -- has left
  unfoldable pub Known : Option (List ℕ) → Option (List ℕ) → Unread → S → Unread → S → Type 0
  Known None left unread h now k = Unit {0}
  Known (Some octets) None unread h now k = ⊥
  Known (Some octets) (Some left) unread h now k = HasRead octets left unread h now k

  pub record SoFar (all left : Option (List ℕ)) (unread : Unread) (h : S) (now : Unread) (k : S) : Type 0 where
    pub known : Known all left unread h now k

  known_none : (all : Option (List ℕ)) (unread : Unread) (h : S) → Waits unread → Known all all unread h unread h
  unfolding Known
  known_none None unread h waits = tt
  known_none (Some octets) unread h waits = ([], refl, fed_nothing unread h waits)

  pub of_none : (all : Option (List ℕ)) (unread : Unread) (h : S) → unread.octets ≡ [] → SoFar all all unread h unread h
  of_none all unread h none = record { known = known_none all unread h (nothing_waits unread none) }

  known_more : (all left rest : Option (List ℕ)) (piece : List ℕ) (unread now after : Unread) (h k next : S) → Known all left unread h now k
      → Consumes left rest piece → Fed hears (with_octets now piece) k (Ok tt) after next → Known all rest unread h after next
  unfolding Known
  known_more None left rest piece unread now after h k next before taken fed = tt
  known_more (Some octets) None rest piece unread now after h k next before taken fed = absurd before
  known_more (Some octets) (Some left) None piece unread now after h k next before taken fed = absurd taken
  known_more (Some octets) (Some left) (Some rest) piece unread now after h k next before taken fed =
      reads_more octets left rest piece unread now after h k next before taken fed

  -- a piece is heard
  pub of_more : (all left rest : Option (List ℕ)) (piece : List ℕ) (unread now after : Unread) (h k next : S) → SoFar all left unread h now k
      → Consumes left rest piece → Fed hears (with_octets now piece) k (Ok tt) after next → SoFar all rest unread h after next
  of_more all left rest piece unread now after h k next before taken fed =
      record { known = known_more all left rest piece unread now after h k next before.known taken fed }

  known_end : (all left rest : Option (List ℕ)) (piece : List ℕ) (unread now : Unread) (h k : S) → Known all left unread h now k
      → Consumes left rest piece → length piece ≡ 0 → IsAtEnd rest → HeardKnown hears all unread h None now k
  unfolding Known
  known_end None left rest piece unread now h k before taken none ends = tt
  known_end (Some octets) None rest piece unread now h k before taken none ends = absurd before
  known_end (Some octets) (Some left) None piece unread now h k before taken none ends = absurd taken
  known_end (Some octets) (Some left) (Some rest) piece unread now h k before taken none ends =
      reads_all octets left piece rest unread now h k before taken none ends

  -- no more octets come
  pub of_end : (all left rest : Option (List ℕ)) (piece : List ℕ) (unread now : Unread) (h k : S) → SoFar all left unread h now k
      → Consumes left rest piece → length piece ≡ 0 → IsAtEnd rest → HeardKnown hears all unread h None now k
  of_end all left rest piece unread now h k before taken none ends = known_end all left rest piece unread now h k before.known taken none ends

  known_fault : (all left rest : Option (List ℕ)) (piece : List ℕ) (unread now after : Unread) (h k next : S) (why : SessionFault)
      → Known all left unread h now k → Consumes left rest piece → Fed hears (with_octets now piece) k (Err why) after next
      → HeardKnown hears all unread h (Some why) after next
  unfolding Known
  known_fault None left rest piece unread now after h k next why before taken fed = tt
  known_fault (Some octets) None rest piece unread now after h k next why before taken fed = absurd before
  known_fault (Some octets) (Some left) None piece unread now after h k next why before taken fed = absurd taken
  known_fault (Some octets) (Some left) (Some rest) piece unread now after h k next why before taken fed =
      meets_fault octets left rest piece unread now after h k next why before taken fed

  -- a piece ends the session
  pub of_fault : (all left rest : Option (List ℕ)) (piece : List ℕ) (unread now after : Unread) (h k next : S) (why : SessionFault)
      → SoFar all left unread h now k → Consumes left rest piece → Fed hears (with_octets now piece) k (Err why) after next
      → HeardKnown hears all unread h (Some why) after next
  of_fault all left rest piece unread now after h k next why before taken fed =
      known_fault all left rest piece unread now after h k next why before.known taken fed

-- ---- what is told

pub of_status : (interface : Interface) (limits : Limits) (octets : List ℕ) (old new : Option (List ℕ)) (status : Status)
    → IsChecked interface limits false (Text Plain) octets old new status → Checks interface limits octets old new status
of_status interface limits octets old new Done is = is
of_status interface limits octets old new Refused is = is
of_status interface limits octets old new (LimitPassed limit) is = is
of_status interface limits octets old new Usage is = is
of_status interface limits octets old new InputOutput is = tt
of_status interface limits octets old new Memory is = tt

-- the table and the last line of an end that heard what a reader gave
pub checked : (interface : Interface) (limits : Limits) (strict : Bool) (form : LineForm) (all old middle new : Option (List ℕ))
    (fault : Option SessionFault) (left : Unread)
    (calls : Held ServerRule ServerEntry) (s : Status) (r : Result Status Failure)
    → HeardKnown (server_hears interface) all (nothing_read limits) (no_calls (record {}) limits) fault left calls
    → fault ≢ Some NoMemory → Appends old middle (table_text (server_entry_in form interface) calls.table)
    → Appends middle new (ended (last_in form fault (length left.octets)))
    → s ≡ last_status fault (length left.octets)
    → IfOk r (λ status. status ≡ strict_status strict calls.table s)
    → IfOk r (ChecksKnown interface limits strict form all old new)
checked interface limits strict form all old middle new fault left calls s (Err failure) heard memory table line last status = tt
checked interface limits strict form None old middle new fault left calls s (Ok t) heard memory table line last status = tt
checked interface limits strict form (Some octets) old middle new fault left calls s (Ok t) heard memory table line last status = record {
  fault = fault;
  left = left;
  calls = calls;
  heard = heard;
  memory = memory;
  text =
      Appends-append old middle new (table_text (server_entry_in form interface) calls.table) (ended (last_in form fault (length left.octets)))
      table line;
  is = status ∙ ap (strict_status strict calls.table) last;
}
