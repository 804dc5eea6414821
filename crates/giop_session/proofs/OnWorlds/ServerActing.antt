-- What a server's own program does in a world is an act of the lane of its id.
use Rattle.std.proofs.Common.{◌≡◌, ℕ, ◌-◌, ◌==◌, ◌^◌, ◌<◌, Bool, true, false, if◌then◌else◌, List, [], ◌∷◌, ◌++◌, map, Option, Some, None, IsOk, refl, sym, ap, subst, ◌∙◌}
use Rattle.std.specs.FinMap as finite
use Rattle.std.specs.List.{AllByRecursion}
use Rattle.giop_cdr.specs.declared.order.Order.{Order}
use Rattle.giop_types.specs.declared.interfaces.interface.Interface.{Interface}
use Rattle.giop_msg.specs.Locate.{AnyLocateRequest}
use Rattle.giop_msg.specs.declared.messages.reply.Reply.{Reply}
use Rattle.giop_msg.specs.declared.messages.request.Request.{Request}
use Rattle.giop_msg.specs.declared.msg.Msg.{Msg}
use Rattle.giop_calls.specs.Lane.{Cut, Lane, count, fragments, is_last, later, next, pieces_of}
use Rattle.giop_calls.specs.Lane as lanes
use Rattle.giop_calls.specs.Messages.{is_same_version}
use Rattle.giop_calls.specs.ServerTable.{becomes_if, is_gathering, server_step}
use Rattle.giop_calls.specs.ServerTable as server_table
use Rattle.giop_calls.specs.declared.fault.CallFault.{CallFault}
use Rattle.giop_calls.specs.declared.fault.CallFault.TheVariants.{NothingToSend, Unfit}
use Rattle.giop_calls.specs.declared.kind.CallKind.TheVariants as kind
use Rattle.giop_calls.specs.declared.server.entry.ServerEntry.{ServerEntry}
use Rattle.giop_calls.specs.declared.server.entry.ServerEntry.TheVariants as entries
use Rattle.giop_calls.specs.declared.server.event.ServerEvent.{ServerEvent}
use Rattle.giop_calls.specs.declared.server.event.ServerEvent.TheVariants as at_server
use Rattle.giop_calls.specs.declared.server.question.Question.TheVariants as question
use Rattle.giop_calls.specs.declared.server.rule.ServerRule.{ServerRule}
use Rattle.giop_calls.specs.declared.server.undecoded.UndecodedCall.{UndecodedCall}
use Rattle.giop_end.specs.declared.acts.form.Form.{Form}
use Rattle.giop_session.specs.declared.laws.inputs.Answered.{Answered}
use Rattle.giop_session.specs.declared.laws.inputs.CheckedForm.{CheckedForm}
use Rattle.giop_session.specs.declared.laws.inputs.ServerInput.TheVariants as given
use Rattle.giop_end.specs.declared.limits.Limits.{Limits}
use Rattle.giop_table.specs.declared.plan.Plan.TheVariants.{Next}
use Rattle.giop_table.specs.declared.plan.Planned.{Planned}
use Rattle.giop_session.specs.Acts.Acting.{IsAccepted}
use Rattle.giop_table.specs.CallTable.{Held, at, entry_at}
use Rattle.giop_session.specs.Worlds.Coding.{coding}
use Rattle.giop_end.specs.Hearing.Heard.{silently}
use Rattle.giop_session.specs.Worlds.LaneAtEnds.{seen}
use Rattle.giop_session.specs.Worlds.OwnLane.{PlansLocated, PlansReply, sends_cut}
use Rattle.giop_table.specs.Sending.{entry_of, message_of, slot_of, unsent_after, unsent_of}
use Rattle.giop_end.specs.Acts.Sent.{sends_one}
use Rattle.giop_end.specs.Acts.ServerAnswers.{IsAnswer, IsLocateAnswer, answer_fault, locate_of, located, question_of}
use Rattle.giop_session.specs.Worlds.Tracks.{IsToClient, ServerShows}
use Rattle.giop_session.specs.Worlds.World.{AtServer, Returned, WorldState}
use Rattle.giop_session.proofs.OnWorlds.Acted.{ServerActs, listed, server_puts_on}
use Rattle.giop_session.proofs.OnWorlds.ClientActing.{first_is, first_seen, others_are, others_seen, tried_so}
use Rattle.giop_session.proofs.OnLanes.CodingLemmas.{own_suits, reply_read}
use Rattle.giop_session.proofs.OnLanes.LaneAtEndsLemmas.{located_seen, reply_seen}
use Rattle.giop_session.proofs.OnWorlds.SentMessages.{located_for, reply_for}
use Rattle.giop_session.proofs.OnWorlds.WorldTracks.{AreSound, Tracks, read_of}

-- ---- what stands after an act

-- an entry stands, and gathers nothing
record StandsStill (entry : Option ServerEntry) : Type 0 where
  one : ServerEntry
  is : entry ≡ Some one
  still : is_gathering one ≡ false

abbrev gathers_now : Option ServerEntry → Bool
gathers_now None = false
gathers_now (Some entry) = is_gathering entry

-- no entry is of a call that couldn't be decoded
abbrev IsDecoded : Option ServerEntry → Type 0
IsDecoded entry = (call : UndecodedCall) → entry ≡ Some (entries.Undecoded call) → ⊥

-- where a test holds, or else refused
either_stands : (test : Bool) (before after : ServerEntry) (fault : CallFault) → is_gathering after ≡ false
    → IsOk (becomes_if test before after fault).outcome → StandsStill (becomes_if test before after fault).entry
either_stands true before after fault still ok = record { one = after; is = refl; still = still }
either_stands false before after fault still ok = absurd cc

-- a Reply is accepted for a Request alone
answer_stands : (q : Request) (r : Reply) (n : ℕ) → IsOk (server_step (Some (entries.Asked q)) (at_server.Answer r n)).outcome
    → StandsStill (server_step (Some (entries.Asked q)) (at_server.Answer r n)).entry
answer_stands q r n ok =
    either_stands (is_same_version q.head.version r.version) (entries.Asked q) (entries.Answered (question.Request q) r (n - 1)) Unfit refl ok

-- where nothing is left to be sent it is refused
unless_none : (none : Bool) (before after : ServerEntry) → is_gathering after ≡ false
    → IsOk (if none then server_table.refused (Some before) NothingToSend else server_table.becomes after).outcome
    → StandsStill (if none then server_table.refused (Some before) NothingToSend else server_table.becomes after).entry
unless_none true before after still ok = absurd cc
unless_none false before after still ok = record { one = after; is = refl; still = still }

send_stands : (entry : Option ServerEntry) → IsOk (server_step entry at_server.Send).outcome → StandsStill (server_step entry at_server.Send).entry
send_stands None ok = absurd cc
send_stands (Some (entries.Gathering k)) ok = absurd cc
send_stands (Some (entries.Asked q)) ok = absurd cc
send_stands (Some (entries.LocateAsked q)) ok = absurd cc
send_stands (Some (entries.Undecoded call)) ok = absurd cc
send_stands (Some (entries.Answered asked r left)) ok =
    unless_none (left == 0) (entries.Answered asked r left) (entries.Answered asked r (left - 1)) refl ok
send_stands (Some (entries.LocateAnswered target here)) ok = absurd cc
send_stands (Some (entries.Delivered q)) ok = absurd cc
send_stands (Some (entries.Cancelled answered left)) ok =
    unless_none (left == 0) (entries.Cancelled answered left) (entries.Cancelled answered (left - 1)) refl ok

-- ---- which call is answered

-- a Reply is sent to a Request, as it is planned for it
record IsReplyTo (interface : Interface) (limits : Limits) (entry : Option ServerEntry) (r : Reply) (form : Form) (planned : Planned ServerEvent)
    : Type 0 where
  q : Request
  stands : entry ≡ Some (entries.Asked q)
  unrefused : answer_fault interface limits (Some (Some q)) r form ≡ None
  plans : IsAnswer interface (Some (Some q)) r form planned

-- what is planned where none is asked is refused
refused_so : (entry : Option ServerEntry) (event : ServerEvent) (planned : Planned ServerEvent) → planned ≡ silently event
    → IsOk (server_step entry planned.event).outcome → IsOk (server_step entry event).outcome
refused_so entry event planned is ok = subst (λ one. IsOk (server_step entry one.event).outcome) is ok

answers_it : (interface : Interface) (limits : Limits) (entry : Option ServerEntry) (r : Reply) (form : Form) (planned : Planned ServerEvent)
    → IsDecoded entry → answer_fault interface limits (question_of entry) r form ≡ None → IsAnswer interface (question_of entry) r form planned
    → IsOk (server_step entry planned.event).outcome → IsReplyTo interface limits entry r form planned
answers_it interface limits None r form planned decoded none plans ok =
    let wrong = refused_so None (at_server.Answer r 1) planned plans ok in absurd cc
answers_it interface limits (Some (entries.Asked q)) r form planned decoded none plans ok =
    record { q = q; stands = refl; unrefused = none; plans = plans }
answers_it interface limits (Some (entries.Undecoded call)) r form planned decoded none plans ok = absurd (decoded call refl)
answers_it interface limits (Some (entries.Gathering k)) r form planned decoded none plans ok =
    let wrong = refused_so (Some (entries.Gathering k)) (at_server.Answer r 1) planned plans ok in absurd cc
answers_it interface limits (Some (entries.LocateAsked q)) r form planned decoded none plans ok =
    let wrong = refused_so (Some (entries.LocateAsked q)) (at_server.Answer r 1) planned plans ok in absurd cc
answers_it interface limits (Some (entries.Answered asked told left)) r form planned decoded none plans ok =
    let wrong = refused_so (Some (entries.Answered asked told left)) (at_server.Answer r 1) planned plans ok in absurd cc
answers_it interface limits (Some (entries.LocateAnswered target here)) r form planned decoded none plans ok =
    let wrong = refused_so (Some (entries.LocateAnswered target here)) (at_server.Answer r 1) planned plans ok in absurd cc
answers_it interface limits (Some (entries.Delivered q)) r form planned decoded none plans ok =
    let wrong = refused_so (Some (entries.Delivered q)) (at_server.Answer r 1) planned plans ok in absurd cc
answers_it interface limits (Some (entries.Cancelled answered left)) r form planned decoded none plans ok =
    let wrong = refused_so (Some (entries.Cancelled answered left)) (at_server.Answer r 1) planned plans ok in absurd cc

-- a LocateReply is sent to a LocateRequest
record IsLocatedFor (id : ℕ) (here : Bool) (order : Order) (entry : Option ServerEntry) (planned : Planned ServerEvent) : Type 0 where
  q : AnyLocateRequest
  stands : entry ≡ Some (entries.LocateAsked q)
  plans : IsLocateAnswer id here order (Some q.version) planned

locates_it : (id : ℕ) (here : Bool) (order : Order) (entry : Option ServerEntry) (planned : Planned ServerEvent) → IsDecoded entry
    → IsLocateAnswer id here order (locate_of here entry) planned → IsOk (server_step entry planned.event).outcome
    → IsLocatedFor id here order entry planned
locates_it id here order None planned decoded plans ok =
    let wrong = refused_so None (at_server.AnswerLocate here) planned plans ok in absurd cc
locates_it id here order (Some (entries.LocateAsked q)) planned decoded plans ok = record { q = q; stands = refl; plans = plans }
locates_it id here order (Some (entries.Undecoded call)) planned decoded plans ok = absurd (decoded call refl)
locates_it id here order (Some (entries.Gathering k)) planned decoded plans ok =
    let wrong = refused_so (Some (entries.Gathering k)) (at_server.AnswerLocate here) planned plans ok in absurd cc
locates_it id here order (Some (entries.Asked q)) planned decoded plans ok =
    let wrong = refused_so (Some (entries.Asked q)) (at_server.AnswerLocate here) planned plans ok in absurd cc
locates_it id here order (Some (entries.Answered asked told left)) planned decoded plans ok =
    let wrong = refused_so (Some (entries.Answered asked told left)) (at_server.AnswerLocate here) planned plans ok in absurd cc
locates_it id here order (Some (entries.LocateAnswered target there)) planned decoded plans ok =
    let wrong = refused_so (Some (entries.LocateAnswered target there)) (at_server.AnswerLocate here) planned plans ok in absurd cc
locates_it id here order (Some (entries.Delivered q)) planned decoded plans ok =
    let wrong = refused_so (Some (entries.Delivered q)) (at_server.AnswerLocate here) planned plans ok in absurd cc
locates_it id here order (Some (entries.Cancelled answered left)) planned decoded plans ok =
    let wrong = refused_so (Some (entries.Cancelled answered left)) (at_server.AnswerLocate here) planned plans ok in absurd cc

-- ---- one act

module _ (interface : Interface) (id : ℕ) (h k : Held ServerRule ServerEntry) (out out' : List ℕ) (lane : Lane) (shows : ServerShows id (at h id) lane) where
  abbrev slot_before : List Msg
  slot_before = unsent_of (finite.get h.table id)

  -- what the end shows then
  shows_then : (planned : Planned ServerEvent) (after : Lane) → IsAccepted server_step id planned h out k out'
      → StandsStill (server_step lane.server.entry planned.event).entry → after.server.entry ≡ (server_step lane.server.entry planned.event).entry
      → map seen (unsent_after planned.plan slot_before) ≡ after.unanswered
      → AllByRecursion (IsToClient id) (unsent_after planned.plan slot_before) → ServerShows id (at k id) after
  shows_then planned after is stands entered unsent each =
      let left = unsent_after planned.plan slot_before in
      let slot : finite.get k.table id ≡ Some (record { entry = stands.one; unsent = left }) =
      is.slot ∙ ap (λ entry. slot_of entry left) (ap (λ entry. (server_step entry planned.event).entry) shows.entry ∙ stands.is) in record {
        entry = ap entry_of slot ∙ sym stands.is ∙ sym entered;
        each = subst (AllByRecursion (IsToClient id)) (sym (ap unsent_of slot)) each;
        unsent = ap (map seen) (ap unsent_of slot) ∙ unsent;
        gathered = λ gathering gathers.
            let wrong : false ≡ true = sym stands.still ∙ ap gathers_now (sym stands.is ∙ sym entered ∙ gathers) in absurd cc;
      }

  accepts_too : (one : ServerEvent) → IsOk (server_step (entry_of (finite.get h.table id)) one).outcome → IsOk (server_step lane.server.entry one).outcome
  accepts_too one ok = subst (λ entry. IsOk (server_step entry one).outcome) shows.entry ok

  answers_cut : (q : Request) (r : Reply) (cut : Cut) → r.id ≡ id → lane.server.entry ≡ Some (entries.Asked q)
      → PlansReply interface q r (sends_cut (at_server.Answer r) cut) → IsAccepted server_step id (sends_cut (at_server.Answer r) cut) h out k out'
      → ServerActs interface id lane k (cut.first ∷ [])
  answers_cut q r cut named stands plans is =
      let one = at_server.Answer r (count cut) in
      let ok = accepts_too one is.outcome in
      let step = server_step lane.server.entry one in
      let sees = reply_seen interface q r cut plans in
      let each = subst (λ n. AllByRecursion (IsToClient n) (pieces_of cut)) named (reply_for interface q r cut plans) in
      let still = subst (λ entry. StandsStill (server_step entry one).entry) (sym stands)
      (answer_stands q r (count cut) (subst (λ entry. IsOk (server_step entry one).outcome) stands ok)) in
      let after : Lane = record lane {
        server = record lane.server { entry = step.entry };
        to_client = lane.to_client ++ lanes.Opens kind.Request r.version (is_last cut.rest) cut.first ∷ [];
        unanswered = fragments cut.rest;
      } in record {
        act = lanes.Answers r cut;
        after = after;
        suits = own_suits interface lane (lanes.Answers r cut) (λ other asks.
            subst (λ q. PlansReply interface q r (sends_cut (at_server.Answer r) cut)) (same_asked q other (sym stands ∙ asks)) plans);
        stepped = tried_so step.outcome lane after ok;
        shows = shows_then (sends_cut (at_server.Answer r) cut) after is still refl (ap later sees) each.1;
        client = refl;
        unsent = refl;
        to_server = refl;
        to_client = ap (λ l. lane.to_client ++ l) (sym (ap next sees));
        each = (each.0, tt);
      }
    where
      same_asked : (q other : Request) → ◌≡◌ {A = Option ServerEntry} (Some (entries.Asked q)) (Some (entries.Asked other)) → q ≡ other
      same_asked q other is = cc

  pub answers : (q : Request) (r : Reply) (planned : Planned ServerEvent) → r.id ≡ id → lane.server.entry ≡ Some (entries.Asked q)
      → PlansReply interface q r planned → IsAccepted server_step id planned h out k out'
      → ServerActs interface id lane k (listed (message_of planned.plan slot_before))
  answers q r planned named stands plans is =
      let found = reply_read interface q r planned plans in
      subst (λ one. ServerActs interface id lane k (listed (message_of one.plan slot_before))) (sym found.1)
      (answers_cut q r found.0 named stands (subst (PlansReply interface q r) found.1 plans)
      (subst (λ one. IsAccepted server_step id one h out k out') found.1 is))

  locates_one : (q : AnyLocateRequest) (here : Bool) (order : Order) → id < 2 ^ 32 → lane.server.entry ≡ Some (entries.LocateAsked q)
      → IsAccepted server_step id (sends_one (at_server.AnswerLocate here) (located q.version order id here)) h out k out'
      → ServerActs interface id lane k (located q.version order id here ∷ [])
  locates_one q here order small stands is =
      let one = at_server.AnswerLocate here in
      let piece = located q.version order id here in
      let ok = accepts_too one is.outcome in
      let step = server_step lane.server.entry one in
      let plans : PlansLocated q here (sends_one one piece) = (id, order, (small, refl)) in
      let after : Lane = record lane {
        server = record lane.server { entry = step.entry };
        to_client = lane.to_client ++ lanes.located (coding interface) (lanes.asked_in lane.server.entry) piece;
        unanswered = [];
      } in record {
        act = lanes.Locates here piece;
        after = after;
        suits = own_suits interface lane (lanes.Locates here piece) (λ other asks.
            subst (λ q. PlansLocated q here (sends_one one piece)) (same_located q other (sym stands ∙ asks)) plans);
        stepped = tried_so step.outcome lane after ok;
        shows = shows_then (sends_one one piece) after is
            (subst (λ entry. StandsStill (server_step entry one).entry) (sym stands)
            (record { one = entries.LocateAnswered (Some q.target) here; is = refl; still = refl })) refl refl tt;
        client = refl;
        unsent = refl;
        to_server = refl;
        to_client = ap (λ entry. lane.to_client ++ lanes.located (coding interface) (lanes.asked_in entry) piece) stands
            ∙ ap (λ m. lane.to_client ++ m ∷ []) (sym (located_seen interface q here piece plans));
        each = (located_for interface q id here order piece (small, refl), tt);
      }
    where
      same_located : (q other : AnyLocateRequest) → ◌≡◌ {A = Option ServerEntry} (Some (entries.LocateAsked q)) (Some (entries.LocateAsked other))
          → q ≡ other
      same_located q other is = cc

  pub locates : (q : AnyLocateRequest) (here : Bool) (order : Order) (planned : Planned ServerEvent)
      → lane.server.entry ≡ Some (entries.LocateAsked q) → IsLocateAnswer id here order (Some q.version) planned
      → IsAccepted server_step id planned h out k out' → ServerActs interface id lane k (listed (message_of planned.plan slot_before))
  locates q here order planned stands (small, plans) is =
      subst (λ one. ServerActs interface id lane k (listed (message_of one.plan slot_before))) (sym plans)
      (locates_one q here order small stands (subst (λ one. IsAccepted server_step id one h out k out') plans is))

  pub sends : (planned : Planned ServerEvent) → planned ≡ record { event = at_server.Send; plan = Next }
      → IsAccepted server_step id planned h out k out' → ServerActs interface id lane k (listed (message_of planned.plan slot_before))
  sends planned plans is =
      let one : Planned ServerEvent = record { event = at_server.Send; plan = Next } in
      let accepted = subst (λ one. IsAccepted server_step id one h out k out') plans is in
      let ok = accepts_too at_server.Send accepted.outcome in
      let step = server_step lane.server.entry at_server.Send in
      let after : Lane = record lane {
        server = record lane.server { entry = step.entry };
        to_client = lane.to_client ++ next lane.unanswered;
        unanswered = later lane.unanswered;
      } in
      subst (λ one. ServerActs interface id lane k (listed (message_of one.plan slot_before))) (sym plans) (record {
        act = lanes.SendsReply;
        after = after;
        suits = tt;
        stepped = tried_so step.outcome lane after ok;
        shows = shows_then one after accepted (send_stands lane.server.entry ok) refl (others_seen slot_before ∙ ap later shows.unsent)
            (others_are (IsToClient id) slot_before shows.each);
        client = refl;
        unsent = refl;
        to_server = refl;
        to_client = ap (λ l. lane.to_client ++ l) (sym (first_seen slot_before ∙ ap next shows.unsent));
        each = first_is (IsToClient id) slot_before shows.each;
      })

-- ---- in a world

module _ (interface : Interface) (client_limits server_limits : Limits) (are_sound : AreSound interface) where
  abbrev Tracked : WorldState → Type 0
  Tracked = Tracks interface client_limits server_limits

  -- no call that a world has at its server couldn't be decoded
  pub all_decoded : (w : WorldState) (tracks : Tracked w) (id : ℕ) → IsDecoded (entry_at w.server.calls id)
  all_decoded w tracks id call is =
      let s = tracks.shows id in
      (read_of (coding interface) s.lane (are_sound s.acts s.lane s.runs)).1 call (sym s.server.entry ∙ is)

  pub server_answers : (w v : WorldState) (r : Reply) (form : CheckedForm) (told : Returned) → Tracked w
      → AtServer interface client_limits server_limits w (given.Answer r form) told v → Tracked v
  server_answers w v r form told tracks (answered, is, tells, same) =
      let id = r.id in
      let entry = entry_at w.server.calls id in
      server_puts_on interface client_limits server_limits w v
      id (answer_fault interface server_limits (question_of entry) r form.form) (IsAnswer interface (question_of entry) r form.form)
      answered tracks is same (λ acted.
      let found = answers_it interface server_limits entry r form.form acted.planned (all_decoded w tracks id) acted.unrefused acted.plans
      acted.is.outcome in
      answers interface id w.server.calls v.server.calls w.server.outgoing v.server.outgoing (tracks.shows id).lane (tracks.shows id).server
      found.q r acted.planned refl (sym (tracks.shows id).server.entry ∙ found.stands)
      (record {
        limits = server_limits;
        form = form.form;
        is_form = form.sound;
        unrefused = found.unrefused;
        plans = found.plans;
      }) acted.is)

  pub server_locates : (w v : WorldState) (id : ℕ) (here : Bool) (order : Order) (told : Returned) → Tracked w
      → AtServer interface client_limits server_limits w (given.AnswerLocate id here order) told v → Tracked v
  server_locates w v id here order told tracks (answered, is, tells, same) =
      let entry = entry_at w.server.calls id in
      server_puts_on interface client_limits server_limits w v
      id None (IsLocateAnswer id here order (locate_of here entry)) answered tracks is same (λ acted.
      let found = locates_it id here order entry acted.planned (all_decoded w tracks id) acted.plans acted.is.outcome in
      locates interface id w.server.calls v.server.calls w.server.outgoing v.server.outgoing (tracks.shows id).lane (tracks.shows id).server
      found.q here order acted.planned (sym (tracks.shows id).server.entry ∙ found.stands) found.plans acted.is)

  pub server_sends : (w v : WorldState) (id : ℕ) (told : Returned) → Tracked w
      → AtServer interface client_limits server_limits w (given.Send id) told v → Tracked v
  server_sends w v id told tracks (answered, is, tells, same) =
      server_puts_on interface client_limits server_limits w v
      id None (λ planned. planned ≡ record { event = at_server.Send; plan = Next }) answered tracks is same
      (λ acted. sends interface id w.server.calls v.server.calls w.server.outgoing v.server.outgoing (tracks.shows id).lane (tracks.shows id).server
      acted.planned acted.plans acted.is)
