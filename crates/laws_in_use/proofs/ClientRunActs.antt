-- As which acts a run takes what a client's end is given, whatever its calls are then.
use Rattle.std.proofs.Common.{◌≡◌, ℕ, List, [], ◌∷◌, ◌++◌, length, Option, Some, None, refl, sym, ap, subst, ◌∙◌, inl, inr, arith, rules}
use Rattle.std.proofs.Math.ListN.{length-drop}
use Rattle.giop_cdr.specs.Ending.{ended}
use Rattle.giop_cdr.specs.Layout.{number, signed, octets, such, field, gives, chosen}
use Rattle.giop_cdr.specs.Writing.Output.{number_out, octets_out, signed_out}
use Rattle.giop_cdr.specs.declared.order.Order.{Order}
use Rattle.giop_cdr.specs.declared.order.Order.TheVariants.{Big, Little}
use Rattle.giop_types.specs.declared.interfaces.interface.Interface.{Interface}
use Rattle.giop_msg.specs.Cut.{IsCut}
use Rattle.giop_msg.specs.Locate.{locate_request, located}
use Rattle.giop_msg.specs.Meaning.{meaning}
use Rattle.giop_msg.specs.Stream.{Unread}
use Rattle.giop_msg.specs.Target.{disposition, key_target, object_key, target_by, target_layout}
use Rattle.giop_msg.specs.declared.kind.Kind.TheVariants.{LocateRequest}
use Rattle.giop_msg.specs.declared.msg.Msg.{Msg}
use Rattle.giop_msg.specs.declared.version.Version.{Version}
use Rattle.giop_msg.specs.declared.version.Version.TheVariants.{V10, V12}
use Rattle.giop_mux.specs.Runs.{Hears, IsTaken}
use Rattle.giop_calls.specs.declared.client.call.Call.TheVariants as asked
use Rattle.giop_calls.specs.declared.client.entry.ClientEntry.{ClientEntry}
use Rattle.giop_calls.specs.declared.client.event.ClientEvent.{ClientEvent}
use Rattle.giop_calls.specs.declared.client.event.ClientEvent.TheVariants as event
use Rattle.giop_calls.specs.declared.client.rule.ClientRule.{ClientRule}
use Rattle.giop_session.specs.declared.Form.{Form}
use Rattle.giop_session.specs.declared.laws.inputs.Answered.{Answered}
use Rattle.giop_session.specs.declared.laws.inputs.ClientInput.{ClientInput}
use Rattle.giop_session.specs.declared.laws.inputs.ClientInput.TheVariants as input
use Rattle.giop_session.specs.declared.Limits.{Limits}
use Rattle.giop_session.specs.declared.Plan.TheVariants.{Put}
use Rattle.giop_session.specs.declared.Planned.{Planned}
use Rattle.giop_session.specs.Calls.CallTable.{Held, entry_at}
use Rattle.giop_session.specs.Acts.ClientCalls.{IsCancel, IsLocate, locate_octets, open_version}
use Rattle.giop_session.specs.Hearing.ClientHears.{client_side}
use Rattle.giop_session.specs.Runs.ClientRuns.{client_deed}
use Rattle.giop_session.specs.Runs.Driven.{IsAct, TakesAs}
use Rattle.giop_session.specs.Runs.Inputs.{Does, Input, Reads}
use Rattle.laws_in_use.specs.Asking.{Acts, one_way_by}
use Rattle.laws_in_use.specs.Locating.{door, door_begins, door_ends, key, key_big, key_little}
use Rattle.laws_in_use.specs.Runs.{Forms, client_given}
use Rattle.laws_in_use.proofs.AskingHolds.{AreTold}

-- an input is this act, by its event; a LocateRequest by how it is sent
abbrev pub IsActed : ClientInput → Input ClientEvent → Type 0
IsActed (input.Feed octets) act = act ≡ Reads octets
IsActed (input.Locate q form) act = (planned : Planned ClientEvent) × IsLocate q form.form planned × (act ≡ Does q.id (Hears planned))
IsActed (input.Cancel id order) act = (planned : Planned ClientEvent) × (planned.event ≡ event.Cancel) × (act ≡ Does id (Hears planned))
IsActed (input.Send id) act = (planned : Planned ClientEvent) × (planned.event ≡ event.Send) × (act ≡ Does id (Hears planned))
IsActed (input.Take id) act = act ≡ Does id IsTaken
IsActed given act = Unit {0}

-- inputs are these acts
abbrev pub AreActed : List ClientInput → List (Input ClientEvent) → Type 0
AreActed [] acts = acts ≡ []
AreActed (given ∷ inputs) acts =
    (act : Input ClientEvent) × (rest : List (Input ClientEvent)) × (acts ≡ act ∷ rest) × IsActed given act × AreActed inputs rest

cancel_is : (id : ℕ) (order : Order) (version : Option Version) (planned : Planned ClientEvent)
    → IsCancel id order version planned → planned.event ≡ event.Cancel
cancel_is id order None planned is = absurd is
cancel_is id order (Some version) planned (small, is) = ap (λ (p : Planned ClientEvent). p.event) is

module _ (interface : Interface) (limits : Limits) where
  is_acted : (h : Held ClientRule ClientEntry) (given : ClientInput) (act : Input ClientEvent) → IsAct (client_deed interface limits h given) act
      → IsActed given act
  is_acted h (input.Feed octets) act is = is
  is_acted h (input.Call q form) act is = tt
  is_acted h (input.Locate q form) act is = is
  is_acted h (input.Cancel id order) act is = (is.0, cancel_is id order (open_version (entry_at h id)) is.0 is.1, is.2)
  is_acted h (input.Send id) act is = (is.0, ap (λ (p : Planned ClientEvent). p.event) is.1, is.2)
  is_acted h (input.Take id) act is = is
  is_acted h input.Close act is = tt

  pub are_acted : (unread left : Unread) (h k : Held ClientRule ClientEntry) (inputs : List ClientInput) (answers : List (Answered ClientEntry))
      (acts : List (Input ClientEvent))
      → TakesAs (client_side interface)
      (client_deed interface limits) unread h inputs answers acts left k
      → AreActed inputs acts
  are_acted unread left h k [] [] acts taken = taken.0
  are_acted unread left h k [] (answered ∷ answers) acts taken = absurd taken
  are_acted unread left h k (given ∷ inputs) [] acts taken = absurd taken
  are_acted unread left h k (given ∷ inputs) (answered ∷ answers) acts taken = (
    taken.0,
    taken.1,
    taken.4,
    is_acted h given taken.0 taken.5,
    are_acted taken.2 left taken.3 k inputs answers taken.1 taken.8,
  )

-- sixteen octets make two messages of 24 octets
two_pieces : (octets : List ℕ) (messages : List Msg) → length octets ≡ 16 → IsCut V12 LocateRequest Big octets 24 messages → length messages ≡ 2
two_pieces octets [] long cut = absurd cut
two_pieces octets (m ∷ []) long (is, inl old) = absurd cc
two_pieces octets (m ∷ []) long (is, inr few) = absurd (omega (arith, long, few))
two_pieces octets (m ∷ n ∷ []) long cut = refl
two_pieces octets (m ∷ n ∷ o ∷ messages) long cut =
    let rest = length-drop 12 octets in
    absurd (omega (arith, long, rest, cut.3.1))

-- before 1.2 a message is one piece
one_piece : (order : Order) (octets : List ℕ) (piece : ℕ) (messages : List Msg) → IsCut V10 LocateRequest order octets piece messages
    → length messages ≡ 1
one_piece order octets piece [] cut = absurd cut
one_piece order octets piece (m ∷ []) cut = refl
one_piece order octets piece (m ∷ n ∷ messages) cut = let new = cut.1 in absurd cc

door_is_long : length (locate_octets door Big) ≡ 16
unfolding locate_request located object_key meaning target_layout target_by disposition key_target
    number signed octets such field gives chosen number_out octets_out signed_out
door_is_long = refl

door_event : (form : Form) (planned : Planned ClientEvent) → form ≡ record { order = Big; piece = 24 } → IsLocate door form planned
    → planned.event ≡ event.Call (asked.Locate door) 2
door_event form planned is located =
    let (messages, cut, plans) = (subst (λ (form : Form). IsLocate door form planned) is located).sent in
    ap (λ (p : Planned ClientEvent). p.event) plans
    ∙ ap (event.Call (asked.Locate door)) (two_pieces (locate_octets door Big) messages door_is_long cut)

key_event : (form : Form) (planned : Planned ClientEvent) → IsLocate key form planned → planned.event ≡ event.Call (asked.Locate key) 1
key_event form planned located =
    let (messages, cut, plans) = located.sent in
    ap (λ (p : Planned ClientEvent). p.event) plans
    ∙ ap (event.Call (asked.Locate key)) (one_piece form.order (locate_octets key form.order) form.piece messages cut)

-- so `door` is sent, and `k`
pub door_is_sent : (form : Form) → form ≡ record { order = Big; piece = 24 }
    → IsLocate door form (record { event = event.Call (asked.Locate door) 2; plan = Put (door_begins ∷ door_ends ∷ []) })
unfolding ended locate_request located object_key meaning target_layout target_by disposition key_target
    number signed octets such field gives chosen number_out octets_out signed_out
door_is_sent form is =
    subst (λ (form : Form). IsLocate door form (record { event = event.Call (asked.Locate door) 2; plan = Put (door_begins ∷ door_ends ∷ []) }))
    (sym is) (record {
      in_range = record { holds = search rules; piece = omega arith };
      sent = (door_begins ∷ door_ends ∷ [], (refl, refl, omega arith, (refl, omega arith, omega arith)), refl);
    })

pub key_is_sent : (form : Form) → form ≡ record { order = Little; piece = 64 }
    → IsLocate key form (record { event = event.Call (asked.Locate key) 1; plan = Put (key_little ∷ []) })
unfolding ended locate_request located object_key meaning target_layout target_by disposition key_target
    number signed octets such field gives chosen number_out octets_out signed_out
key_is_sent form is =
    subst (λ (form : Form). IsLocate key form (record { event = event.Call (asked.Locate key) 1; plan = Put (key_little ∷ []) }))
    (sym is) (record {
      in_range = record { holds = search rules; piece = omega arith };
      sent = (key_little ∷ [], (refl, inl refl), refl);
    })

pub key_is_sent_again : (form : Form) → form ≡ record { order = Big; piece = 64 }
    → IsLocate key form (record { event = event.Call (asked.Locate key) 1; plan = Put (key_big ∷ []) })
unfolding ended locate_request located object_key meaning target_layout target_by disposition key_target
    number signed octets such field gives chosen number_out octets_out signed_out
key_is_sent_again form is =
    subst (λ (form : Form). IsLocate key form (record { event = event.Call (asked.Locate key) 1; plan = Put (key_big ∷ []) }))
    (sym is) (record {
      in_range = record { holds = search rules; piece = omega arith };
      sent = (key_big ∷ [], (refl, inl refl), refl);
    })

-- the acts of the run, by what the client does itself
abbrev pub run_acts : Acts → List (Input ClientEvent)
run_acts acts = one_way_by acts ++ Does 9 IsTaken ∷ []

one_more : {acts rest more : List (Input ClientEvent)} {act is : Input ClientEvent} → acts ≡ act ∷ rest → act ≡ is → rest ≡ more → acts ≡ is ∷ more
one_more whole first behind = cc

-- those of a run that refuses nothing
pub record AreOfRun (acts : List (Input ClientEvent)) : Type 0 where
  pub own : Acts
  pub told : AreTold own
  pub are : acts ≡ run_acts own

pub of_run : (forms : Forms) (acts : List (Input ClientEvent)) → AreActed (client_given forms) acts → AreOfRun acts
of_run forms acts (
  _,
  _,
  is_1,
  (asks, asks_is, act_1),
  (
    _,
    _,
    is_2,
    (asks_key, key_is, act_2),
    (
      _,
      _,
      is_3,
      (cancels, cancels_is, act_3),
      (
        _,
        _,
        is_4,
        act_4,
        (
          _,
          _,
          is_5,
          (sends, sends_is, act_5),
          (
            _,
            _,
            is_6,
            act_6,
            (
              _,
              _,
              is_7,
              (again, again_is, act_7),
              (_, _, is_8, act_8, (_, _, is_9, act_9, none)),
            ),
          ),
        ),
      ),
    ),
  ),
) = record {
  own = record { asks = Hears asks; asks_key = Hears asks_key; cancels = Hears cancels; sends = Hears sends; asks_again = Hears again };
  told = record {
    asks = ap Hears (door_event forms.cut.form asks forms.cut_is asks_is);
    asks_key = ap Hears (key_event forms.little.form asks_key key_is);
    cancels = ap Hears cancels_is;
    sends = ap Hears sends_is;
    asks_again = ap Hears (key_event forms.big.form again again_is);
  };
  are =
      one_more is_1 act_1 (one_more is_2 act_2 (one_more is_3 act_3 (one_more is_4 act_4 (one_more is_5 act_5
      (one_more is_6 act_6 (one_more is_7 act_7 (one_more is_8 act_8 (one_more is_9 act_9 none))))))));
}
