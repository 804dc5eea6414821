-- What an end hears is an act of the lane of its id, as the laws of both ends say it.
use Rattle.std.proofs.Common.{◌≡◌, ◌≢◌, ◌⊎◌, ℕ, ◌∷◌, List, Some, Result, Ok, Err, refl, inl, inr}
use Rattle.giop_types.specs.declared.interfaces.interface.Interface.{Interface}
use Rattle.giop_msg.specs.declared.msg.Msg.{Msg}
use Rattle.giop_calls.specs.Lane.{IsSound, Lane, Message, ToClient, ToServer, step}
use Rattle.giop_calls.specs.declared.client.entry.ClientEntry.{ClientEntry}
use Rattle.giop_calls.specs.declared.client.rule.ClientRule.{ClientRule}
use Rattle.giop_calls.specs.declared.server.entry.ServerEntry.{ServerEntry}
use Rattle.giop_calls.specs.declared.server.rule.ServerRule.{ServerRule}
use Rattle.giop_end.specs.declared.session_fault.SessionFault.{SessionFault}
use Rattle.giop_end.specs.declared.session_fault.SessionFault.TheVariants as session
use Rattle.giop_table.specs.CallTable.{Held, at}
use Rattle.giop_end.specs.Hearing.ClientHears.{client_side}
use Rattle.giop_session.specs.Worlds.Coding.{coding}
use Rattle.giop_end.specs.Hearing.Heard.{hears}
use Rattle.giop_session.specs.Worlds.LaneAtEnds.{IsOfLimit, seen}
use Rattle.giop_end.specs.Hearing.ServerHears.{server_side}
use Rattle.giop_session.specs.Worlds.Tracks.{ClientShows, IsToClient, IsToServer, ServerShows}
use Rattle.giop_session.proofs.OnLanes.ClientHearsNext.{client_hears_next}
use Rattle.giop_end.proofs.OnHearing.HeardLemmas.{keeps}
use Rattle.giop_session.proofs.OnLanes.NextHeard.{ClientHearsIt, IsFull, ServerHearsIt}
use Rattle.giop_session.proofs.OnLanes.ServerHearsNext.{server_hears_next}

-- a limit that is met is one of the end
of_limit : {R E : Type 0} (m : Msg) (h : Held R E) (why : SessionFault) → IsFull m h why → IsOfLimit m h why
of_limit m h session.TooManyCalls met = inl (refl, met)
of_limit m h session.GatherFull met = inr (inl (refl, met))
of_limit m h (session.Wire fault) met = absurd met
of_limit m h (session.Call id fault) met = absurd met
of_limit m h session.WrongDirection met = absurd met
of_limit m h session.PeerError met = absurd met
of_limit m h session.Closed met = absurd met
of_limit m h session.NoMemory met = absurd met
of_limit m h session.StillOpen met = absurd met
of_limit m h (session.NoId fault) met = absurd met

-- a refusal is for want of memory or not
abbrev Told : Type 0
Told = Result (Unit {0}) SessionFault

wants_or : (why : SessionFault) → (why ≡ session.NoMemory) ⊎ (◌≢◌ {A = Told} (Err why) (Err session.NoMemory))
wants_or session.NoMemory = inl refl
wants_or session.TooManyCalls = inr (λ same. cc)
wants_or session.GatherFull = inr (λ same. cc)
wants_or (session.Wire fault) = inr (λ same. cc)
wants_or (session.Call id fault) = inr (λ same. cc)
wants_or session.WrongDirection = inr (λ same. cc)
wants_or session.PeerError = inr (λ same. cc)
wants_or session.Closed = inr (λ same. cc)
wants_or session.StillOpen = inr (λ same. cc)
wants_or (session.NoId fault) = inr (λ same. cc)

module _ (interface : Interface) (lane : Lane) (id : ℕ) (m : Msg) (later : List Message) (h k : Held ServerRule ServerEntry) where
  pub server_heard : IsSound (coding interface) lane → lane.to_server ≡ seen m ∷ later → ServerShows id (at h id) lane → IsToServer id m
      → ServerHearsIt interface m h (Ok tt) k
      → (after : Lane) × (step (coding interface) lane ToServer ≡ Some after) × ServerShows id (at k id) after
      × ((other : ℕ) → other ≢ id → at k other ≡ at h other)
  server_heard sound next shows is hears =
      let went = server_hears_next interface lane id m later h k (Ok tt) sound next shows is (λ wrong. cc) hears in
      (went.after, went.stepped, went.shows, went.beside.others)

  pub server_refused : (why : SessionFault) → IsSound (coding interface) lane → lane.to_server ≡ seen m ∷ later → ServerShows id (at h id) lane
      → IsToServer id m → ServerHearsIt interface m h (Err why) k → (k ≡ h) × IsOfLimit m h why
  server_refused why sound next shows is hears = by_want (wants_or why)
    where
      by_want : (why ≡ session.NoMemory) ⊎ (◌≢◌ {A = Told} (Err why) (Err session.NoMemory)) → (k ≡ h) × IsOfLimit m h why
      by_want (inl want) = (
        keeps (server_side interface) m h k why hears,
        inr (inr want),
      )
      by_want (inr memory) =
          let met = server_hears_next interface lane id m later h k (Err why) sound next shows is memory hears in
          (met.0, of_limit m h why met.1)

module _ (interface : Interface) (lane : Lane) (id : ℕ) (m : Msg) (later : List Message) (h k : Held ClientRule ClientEntry) where
  pub client_heard : IsSound (coding interface) lane → lane.to_client ≡ seen m ∷ later → ClientShows id (at h id) lane → IsToClient id m
      → ClientHearsIt interface m h (Ok tt) k
      → (after : Lane) × (step (coding interface) lane ToClient ≡ Some after) × ClientShows id (at k id) after
      × ((other : ℕ) → other ≢ id → at k other ≡ at h other)
  client_heard sound next shows is hears =
      let went = client_hears_next interface lane id m later h k (Ok tt) sound next shows is (λ wrong. cc) hears in
      (went.after, went.stepped, went.shows, went.beside.others)

  pub client_refused : (why : SessionFault) → IsSound (coding interface) lane → lane.to_client ≡ seen m ∷ later → ClientShows id (at h id) lane
      → IsToClient id m → ClientHearsIt interface m h (Err why) k → (k ≡ h) × IsOfLimit m h why
  client_refused why sound next shows is hears = by_want (wants_or why)
    where
      by_want : (why ≡ session.NoMemory) ⊎ (◌≢◌ {A = Told} (Err why) (Err session.NoMemory)) → (k ≡ h) × IsOfLimit m h why
      by_want (inl want) = (
        keeps (client_side interface) m h k why hears,
        inr (inr want),
      )
      by_want (inr memory) =
          let met = client_hears_next interface lane id m later h k (Err why) sound next shows is memory hears in
          (met.0, of_limit m h why met.1)
