-- How far a run of `trace` has come, and that it goes on and ends as it should.
use Rattle.std.proofs.Common.{◌≡◌, ℕ, Bool, true, false, List, [], ◌∷◌, ◌++◌, length, Option, Some, None, Result, Ok, Err, refl, sym, ap, subst, ◌∙◌, append_assoc}
use Rattle.std.proofs.lemmas.List.{append-nil}
use Rattle.std.specs.Io.KnownBytes.{Appends, Keeps}
use Rattle.std.specs.Result.{OnOk}
use Rattle.std.specs.FinMap as finite
use Rattle.giop_ids.specs.ById.{ById}
use Rattle.giop_msg.specs.declared.fault.WireFault.{WireFault}
use Rattle.giop_msg.specs.declared.msg.Msg.{Msg}
use Rattle.giop_msg.specs.Stream.{Unread}
use Rattle.giop_trace.specs.declared.direction.Direction.{Direction}
use Rattle.giop_trace.specs.declared.direction.Direction.TheVariants.{Client, Server}
use Rattle.giop_trace.specs.declared.flow.Flow.{Flow}
use Rattle.giop_trace.specs.Observing.{heard as heard_of, is_early, left}
use Rattle.giop_types.specs.declared.interfaces.interface.Interface.{Interface}
use Rattle.giop_forms.specs.declared.line_form.LineForm.{LineForm}
use Rattle.giop_forms.specs.declared.line_form.LineForm.TheVariants as form
use Rattle.giop_show.specs.Forms.{ended}
use Rattle.giop_tracing.specs.Trace.Incoming.{EndsWith, IsLast, Passes, unheard}
use Rattle.giop_tracing.specs.Trace.Outcome.{direction_end_in}
use Rattle.giop_tracing.specs.Trace.Loops.{HearsBoth, HearsClient, HearsServer}
use Rattle.giop_tracing.specs.Trace.Text.{AreMessages, Turn, all_open, behind, both_text, both_turn, client_text, client_turn, end_text, heard_lines, server_turn}
use Rattle.giop_show.proofs.AppendsLemmas.{Appends-append, Appends-kept, Appends-nil}

-- contents that were kept, and then grew
pub kept_appends : (a b c : Option (List ℕ)) (xs : List ℕ) → Keeps a b → Appends b c xs → Appends a c xs
kept_appends None b c xs kept grew = tt
kept_appends (Some a) None c xs kept grew = absurd kept
kept_appends (Some a) (Some b) None xs kept grew = absurd grew
kept_appends (Some a) (Some b) (Some c) xs kept grew = grew ∙ ap (λ u. u ++ xs) kept

-- what is so where a call went well, by two things that are so then
pub on_ok : {A E P Q R : Type 0} (result : Result A E) → OnOk result P → OnOk result Q → (P → Q → R) → OnOk result R
on_ok (Ok a) one two made = made one two
on_ok (Err e) one two made = tt

-- what comes of messages, from the calls that are open on
abbrev pub Turns : Type 0
Turns = ById Flow → List Msg → Turn

-- a turn behind lines, behind others
pub behind-behind : (xs ys : List ℕ) (turn : Turn) → behind xs (behind ys turn) ≡ behind (xs ++ ys) turn
behind-behind xs ys turn = λ i. record turn { lines = sym (append_assoc xs ys turn.lines) i }

-- a turn of no lines behind some
behind_none : (xs : List ℕ) (turn : Turn) → turn.lines ≡ [] → (behind xs turn).lines ≡ xs
behind_none xs turn none = ap (λ u. xs ++ u) none ∙ append-nil xs

-- so much of the messages was told; these stand behind those that wait
pub record Along (turns : Turns) (limit : ℕ) (before now : ById Flow) (start written : Option (List ℕ)) (left : Option (List ℕ))
    (held messages : List Msg) (rest : List ℕ) : Type 0 where
  pub later : List Msg
  pub lines : List ℕ
  pub turn : turns before messages ≡ behind lines (turns now (held ++ later))
  pub unheard : AreMessages limit left later rest
  pub text : Appends start written lines

-- at the beginning nothing was
pub along_none : (turns : Turns) (limit : ℕ) (flows : ById Flow) (start left : Option (List ℕ)) (held messages : List Msg) (rest : List ℕ)
    → AreMessages limit left messages rest → Along turns limit flows flows start start left held (held ++ messages) rest
along_none turns limit flows start left held messages rest are =
    record { later = messages; lines = []; turn = refl; unheard = are; text = Appends-nil start }

-- a message more is
pub along_message : (turns : Turns) (limit : ℕ) (before now next : ById Flow) (start written kept more : Option (List ℕ)) (left after : Option (List ℕ))
    (held messages : List Msg) (rest : List ℕ) (m : Msg) (lines : List ℕ)
    → (along : Along turns limit before now start written left held messages rest)
    → Passes limit after (λ later. m ∷ later) (held ++ along.later) rest
    → ((ms : List Msg) → turns now (m ∷ ms) ≡ behind lines (turns next ms))
    → Keeps written kept → Appends kept more lines
    → Along turns limit before next start more after [] messages rest
along_message turns limit before now next start written kept more left after held messages rest m lines along passes step same grew = record {
  later = passes.later;
  lines = along.lines ++ lines;
  turn =
      along.turn ∙ ap (λ ms. behind along.lines (turns now ms)) passes.front ∙ ap (behind along.lines) (step passes.later)
      ∙ behind-behind along.lines lines (turns next passes.later);
  unheard = passes.behind;
  text = Appends-append start written more along.lines lines along.text (kept_appends written kept more lines same grew);
}

-- all of the client's messages are told
pub hears_client : (form : LineForm) (interface : Interface) (before now : ById Flow) (start written kept : Option (List ℕ)) (limit : ℕ)
    (left after : Option (List ℕ)) (fault : Option WireFault) (unread : List ℕ) (messages : List Msg) (rest : List ℕ)
    → (along : Along (client_turn form interface) limit before now start written left [] messages rest)
    → IsLast limit left after fault unread → Keeps written kept
    → HearsClient form interface before now start kept limit fault unread messages rest
hears_client form interface before now start written kept limit left after fault unread messages rest along last same =
    let end = last along.later rest along.unheard in
    let turn = along.turn ∙ ap (λ ms. behind along.lines (client_turn form interface now ms)) end.none in
    let lines = ap (λ (t : Turn). t.lines) turn ∙ append-nil along.lines in
    record {
      takes = record {
        text = subst (Appends start kept) (sym lines) (Appends-kept start written kept along.lines along.text same);
        left = sym (ap (λ (t : Turn). t.flows) turn);
      };
      ends = end.ends;
    }

-- the messages of the server are told up to one that waits
pub hears_early : (form : LineForm) (interface : Interface) (before now : ById Flow) (start written kept : Option (List ℕ)) (limit : ℕ)
    (left after : Option (List ℕ)) (held messages : List Msg) (rest : List ℕ) (m : Msg)
    → (along : Along (server_turn form interface true) limit before now start written left held messages rest)
    → Passes limit after (λ later. m ∷ later) (held ++ along.later) rest → is_early now m ≡ true → Keeps written kept
    → HearsServer form interface true before now start kept limit after (m ∷ []) messages rest
hears_early form interface before now start written kept limit left after held messages rest m along passes early same =
    let step : server_turn form interface true now (m ∷ passes.later) ≡ record { lines = []; flows = now; later = m ∷ passes.later } = rw early refl in
    let turn = along.turn ∙ ap (λ ms. behind along.lines (server_turn form interface true now ms)) passes.front ∙ ap (behind along.lines) step in
    let lines = ap (λ (t : Turn). t.lines) turn ∙ append-nil along.lines in
    record {
      takes = record {
        text = subst (Appends start kept) (sym lines) (Appends-kept start written kept along.lines along.text same);
        left = sym (ap (λ (t : Turn). t.flows) turn);
      };
      later = passes.later;
      waiting = ap (λ (t : Turn). t.later) turn;
      behind = passes.behind;
    }

-- all of them are told
pub hears_last : (form : LineForm) (interface : Interface) (waits : Bool) (before now : ById Flow) (start written kept : Option (List ℕ)) (limit : ℕ)
    (left after : Option (List ℕ)) (fault : Option WireFault) (unread : List ℕ) (messages : List Msg) (rest : List ℕ)
    → (along : Along (server_turn form interface waits) limit before now start written left [] messages rest)
    → IsLast limit left after fault unread → Keeps written kept
    → HearsServer form interface waits before now start kept limit after [] messages rest
hears_last form interface waits before now start written kept limit left after fault unread messages rest along last same =
    let end = last along.later rest along.unheard in
    let turn = along.turn ∙ ap (λ ms. behind along.lines (server_turn form interface waits now ms)) end.none in
    let lines = ap (λ (t : Turn). t.lines) turn ∙ append-nil along.lines in
    record {
      takes = record {
        text = subst (Appends start kept) (sym lines) (Appends-kept start written kept along.lines along.text same);
        left = sym (ap (λ (t : Turn). t.flows) turn);
      };
      later = [];
      waiting = ap (λ (t : Turn). t.later) turn;
      behind = end.behind;
    }

-- so much of the messages of both was told
pub record AlongBoth (form : LineForm) (interface : Interface) (limit : ℕ) (before now : ById Flow) (start written : Option (List ℕ))
    (client server : Option (List ℕ)) (held asked answered : List Msg) (rest left_over : List ℕ) : Type 0 where
  pub later_asked : List Msg
  pub later_answered : List Msg
  pub lines : List ℕ
  pub turn : both_turn form interface before asked answered ≡ behind lines (both_turn form interface now later_asked (held ++ later_answered))
  pub client_unheard : AreMessages limit client later_asked rest
  pub server_unheard : AreMessages limit server later_answered left_over
  pub text : Appends start written lines

pub both_none : (form : LineForm) (interface : Interface) (limit : ℕ) (flows : ById Flow) (start client server : Option (List ℕ))
    (held asked answered : List Msg) (rest left_over : List ℕ) → AreMessages limit client asked rest → AreMessages limit server answered left_over
    → AlongBoth form interface limit flows flows start start client server held asked (held ++ answered) rest left_over
both_none form interface limit flows start client server held asked answered rest left_over are others = record {
  later_asked = asked;
  later_answered = answered;
  lines = [];
  turn = refl;
  client_unheard = are;
  server_unheard = others;
  text = Appends-nil start;
}

-- a message of the client is told, and those of the server that don't wait then
pub both_message : (form : LineForm) (interface : Interface) (limit : ℕ) (before now next : ById Flow) (start written kept told more : Option (List ℕ))
    (client client_after server server_after : Option (List ℕ)) (held held_after asked answered : List Msg) (rest left_over : List ℕ) (m : Msg)
    → (along : AlongBoth form interface limit before now start written client server held asked answered rest left_over)
    → Passes limit client_after (λ later. m ∷ later) along.later_asked rest → Keeps written kept
    → Appends kept told (heard_lines form interface false (heard_of false now Client m))
    → HearsServer form interface true (left false now Client m) next told more limit server_after held_after (held ++ along.later_answered) left_over
    → AlongBoth form interface limit before next start more client_after server_after held_after asked answered rest left_over
both_message form interface limit before now next start written kept told more client client_after server server_after held held_after asked answered
    rest left_over m along passes same grew hears =
    let own = heard_lines form interface false (heard_of false now Client m) in
    let turn = server_turn form interface true (left false now Client m) (held ++ along.later_answered) in
    let both : both_turn form interface turn.flows passes.later turn.later ≡ both_turn form interface next passes.later (held_after ++ hears.later) =
    ap (λ flows. both_turn form interface flows passes.later turn.later) (sym hears.takes.left)
    ∙ ap (both_turn form interface next passes.later) hears.waiting in
    record {
      later_asked = passes.later;
      later_answered = hears.later;
      lines = along.lines ++ (own ++ turn.lines);
      turn =
          along.turn ∙ ap (λ ms. behind along.lines (both_turn form interface now ms (held ++ along.later_answered))) passes.front
          ∙ ap (λ t. behind along.lines (behind (own ++ turn.lines) t)) both
          ∙ behind-behind along.lines (own ++ turn.lines) (both_turn form interface next passes.later (held_after ++ hears.later));
      client_unheard = passes.behind;
      server_unheard = hears.behind;
      text =
          Appends-append start written more along.lines (own ++ turn.lines) along.text
          (Appends-append written told more own turn.lines (kept_appends written kept told own same grew) hears.takes.text);
    }

-- all of them are told
pub hears_both : (form : LineForm) (interface : Interface) (limit : ℕ) (before now next : ById Flow) (start written kept more : Option (List ℕ))
    (client client_after server server_after : Option (List ℕ)) (client_fault server_fault : Option WireFault) (client_unread server_unread : List ℕ)
    (held held_after asked answered : List Msg) (rest left_over : List ℕ)
    → (along : AlongBoth form interface limit before now start written client server held asked answered rest left_over)
    → IsLast limit client client_after client_fault client_unread → Keeps written kept
    → HearsServer form interface false now next kept more limit server_after held_after (held ++ along.later_answered) left_over
    → EndsWith limit left_over server_fault server_unread
    → HearsBoth form interface before next start more limit client_fault server_fault client_unread server_unread asked answered rest left_over
hears_both form interface limit before now next start written kept more client client_after server server_after client_fault server_fault
    client_unread server_unread held held_after asked answered rest left_over along last same hears ends =
    let end = last along.later_asked rest along.client_unheard in
    let server = server_turn form interface false now (held ++ along.later_answered) in
    let turn = along.turn ∙ ap (λ ms. behind along.lines (both_turn form interface now ms (held ++ along.later_answered))) end.none in
    record {
      takes = record {
        text =
            subst (Appends start more) (sym (ap (λ (t : Turn). t.lines) turn))
            (Appends-append start written more along.lines server.lines along.text
            (kept_appends written kept more server.lines same hears.takes.text));
        left = hears.takes.left ∙ sym (ap (λ (t : Turn). t.flows) turn);
      };
      client = end.ends;
      server = ends;
    }

-- the last line of a direction is that of its rest
pub end_is : (lines : LineForm) (limit : ℕ) (direction : Direction) (rest : List ℕ) (fault : Option WireFault) (unread : List ℕ)
    → EndsWith limit rest fault unread → ended (direction_end_in lines direction fault (length unread)) ≡ end_text lines limit direction rest
end_is lines limit direction rest None unread ends =
    ap (λ o. ended (direction_end_in lines direction None (length o))) (ends.left refl)
    ∙ ap (λ f. ended (direction_end_in lines direction f (length rest))) ends.stands
end_is (form.Text numbers) limit direction rest (Some e) unread ends =
    ap (λ f. ended (direction_end_in (form.Text numbers) direction f (length rest))) ends.stands
end_is (form.Json numbers) limit direction rest (Some e) unread ends =
    ap (λ f. ended (direction_end_in (form.Json numbers) direction f (length rest))) ends.stands

-- where nothing is unread, what is not heard is what is not read
pub all_unheard : (limit : ℕ) (unread : Unread) (known : Option (List ℕ)) (messages : List Msg) (rest : List ℕ) → unread.octets ≡ []
    → AreMessages limit known messages rest → AreMessages limit (unheard unread known) messages rest
all_unheard limit unread None messages rest none are = absurd are
all_unheard limit unread (Some octets) messages rest none are = rw none are

-- the whole text where the client is heard alone
pub client_written : (lines : LineForm) (interface : Interface) (limit : ℕ) (after : ById Flow) (a b c d : Option (List ℕ)) (fault : Option WireFault)
    (unread : List ℕ) (messages : List Msg) (rest : List ℕ)
    → HearsClient lines interface finite.empty after a b limit fault unread messages rest
    → Appends b c (all_open lines interface true after) → Appends c d (ended (direction_end_in lines Client fault (length unread)))
    → Appends a d (client_text lines interface limit messages rest)
client_written lines interface limit after a b c d fault unread messages rest hears waits end =
    let turn = client_turn lines interface finite.empty messages in
    Appends-append a c d (turn.lines ++ all_open lines interface true turn.flows) (end_text lines limit Client rest)
    (Appends-append a b c turn.lines (all_open lines interface true turn.flows) hears.takes.text (rw hears.takes.left at waits))
    (rw (end_is lines limit Client rest fault unread hears.ends) at end)

-- and where both are
pub both_written : (lines : LineForm) (interface : Interface) (limit : ℕ) (after : ById Flow) (a b c d e : Option (List ℕ))
    (client_fault server_fault : Option WireFault) (client_unread server_unread : List ℕ) (asked answered : List Msg) (rest left_over : List ℕ)
    → HearsBoth lines interface finite.empty after a b limit client_fault server_fault client_unread server_unread asked answered rest left_over
    → Appends b c (all_open lines interface false after)
    → Appends c d (ended (direction_end_in lines Client client_fault (length client_unread)))
    → Appends d e (ended (direction_end_in lines Server server_fault (length server_unread)))
    → Appends a e (both_text lines interface limit asked rest answered left_over)
both_written lines interface limit after a b c d e client_fault server_fault client_unread server_unread asked answered rest left_over hears waits client
    server =
    let turn = both_turn lines interface finite.empty asked answered in
    Appends-append a c e (turn.lines ++ all_open lines interface false turn.flows)
    (end_text lines limit Client rest ++ end_text lines limit Server left_over)
    (Appends-append a b c turn.lines (all_open lines interface false turn.flows) hears.takes.text (rw hears.takes.left at waits))
    (Appends-append c d e (end_text lines limit Client rest) (end_text lines limit Server left_over)
    (rw (end_is lines limit Client rest client_fault client_unread hears.client) at client)
    (rw (end_is lines limit Server left_over server_fault server_unread hears.server) at server))
