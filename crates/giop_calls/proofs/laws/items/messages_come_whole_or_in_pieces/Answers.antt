use Rattle.std.proofs.Common.{◌≡◌, ◌⊎◌, Bool, List, [], ◌∷◌, ◌++◌, map, Option, inl, inr, refl, ◌∙◌}
use Rattle.std.specs.List.{AllByRecursion}
use Rattle.giop_mux.specs.Runs.{Happening, Hears}
use Rattle.giop_calls.specs.Items.{Got, Spells}
use Rattle.giop_calls.specs.Pieces.{call_in_pieces, reply_in_pieces}
use Rattle.giop_calls.specs.ClientItems as client_said
use Rattle.giop_calls.specs.ServerItems as server_said
use Rattle.giop_calls.specs.declared.client.entry.ClientEntry.{ClientEntry}
use Rattle.giop_calls.specs.declared.client.event.ClientEvent.{ClientEvent}
use Rattle.giop_calls.specs.declared.client.event.ClientEvent.TheVariants as at_client
use Rattle.giop_calls.specs.declared.kind.CallKind.{CallKind}
use Rattle.giop_calls.specs.declared.server.entry.ServerEntry.{ServerEntry}
use Rattle.giop_calls.specs.declared.server.event.ServerEvent.{ServerEvent}
use Rattle.giop_calls.specs.declared.server.event.ServerEvent.TheVariants as at_server
use Rattle.giop_calls.specs.declared.server.heard.HeardCall.{HeardCall}
use Rattle.giop_calls.proofs.laws.items.messages_come_whole_or_in_pieces.Goals as goal

-- acts that are all of one form, each by a flag, are those of a list of flags
flags_of : {Act : Type 0} (by : Bool → Act) (acts : List Act) → AllByRecursion (λ act. (b : Bool) × (act ≡ by b)) acts
    → (flags : List Bool) × (acts ≡ map by flags)
flags_of by [] are = ([], refl)
flags_of by (act ∷ acts) ((b, is), are) =
    let (flags, rest) = flags_of by acts are in (b ∷ flags, λ i. is i ∷ rest i)

are_of : {Act : Type 0} (by : Bool → Act) (flags : List Bool) → AllByRecursion (λ act. (b : Bool) × (act ≡ by b)) (map by flags)
are_of by [] = tt
are_of by (b ∷ flags) = ((b, refl), are_of by flags)

abbrev CallComes : HeardCall → List (Happening ServerEvent) → Type 0
CallComes call acts = (acts ≡ Hears (at_server.Whole call) ∷ [])
    ⊎ ((kind : CallKind) × (further : List Bool) × (last : Bool) × (acts ≡ call_in_pieces kind further last call))

call_comes : (v : Option ServerEntry) (call : HeardCall) (acts : List (Happening ServerEvent))
    → Spells server_said.server_turn server_said.server_words v (Got call) acts → CallComes call acts
call_comes v call acts (inl is) = inl is
call_comes v call acts (inr (kind, more, last, begins, are, (in_order, ends), is)) =
    let (further, same) = flags_of (λ b. Hears (at_server.More b)) more are in
    inr (kind, further, in_order, is ∙ (λ i. Hears (at_server.First kind) ∷ same i ++ ends i ∷ []))

call_spells : (v : Option ServerEntry) (call : HeardCall) (acts : List (Happening ServerEvent))
    → CallComes call acts → Spells server_said.server_turn server_said.server_words v (Got call) acts
call_spells v call acts (inl is) = inl is
call_spells v call acts (inr (kind, further, last, is)) =
    inr (
      kind,
      map (λ b. Hears (at_server.More b)) further,
      Hears (at_server.Last last call),
      tt,
      are_of (λ b. Hears (at_server.More b)) further,
      (last, refl),
      is,
    )

abbrev ReplyComes : client_said.Message → List (Happening ClientEvent) → Type 0
ReplyComes m acts = (acts ≡ client_said.client_words.whole m ∷ [])
    ⊎ ((further : List Bool) × (last : Bool) × (acts ≡ reply_in_pieces m further last))

reply_comes : (v : Option ClientEntry) (m : client_said.Message) (acts : List (Happening ClientEvent))
    → Spells client_said.client_turn client_said.client_words v (Got m) acts → ReplyComes m acts
reply_comes v m acts (inl is) = inl is
reply_comes v m acts (inr (begun, more, last, begins, are, (in_order, ends), is)) =
    let (further, same) = flags_of (λ b. Hears (at_client.More b)) more are in
    inr (further, in_order, is ∙ (λ i. Hears (at_client.First (begins i).kind (begins i).version) ∷ same i ++ ends i ∷ []))

reply_spells : (v : Option ClientEntry) (m : client_said.Message) (acts : List (Happening ClientEvent))
    → ReplyComes m acts → Spells client_said.client_turn client_said.client_words v (Got m) acts
reply_spells v m acts (inl is) = inl is
reply_spells v m acts (inr (further, last, is)) =
    inr (
      m.begun,
      map (λ b. Hears (at_client.More b)) further,
      Hears (at_client.Last last m.reply),
      refl,
      are_of (λ b. Hears (at_client.More b)) further,
      (last, refl),
      is,
    )

pub returns-clause-call : goal.returns-clause-call
returns-clause-call c = λ v call acts. (call_comes v call acts, call_spells v call acts)

pub returns-clause-reply : goal.returns-clause-reply
returns-clause-reply c = λ v m acts. (reply_comes v m acts, reply_spells v m acts)
