-- What the messages of both ways spell, by the laws of the tables.
use Rattle.std.proofs.Common.{◌≡◌, ℕ, List, [], ◌∷◌, Ok, Err, refl, sym, subst, ◌∙◌, append-nil, arith, rules}
use Rattle.giop_types.specs.declared.interfaces.interface.Interface.{Interface}
use Rattle.giop_cdr.specs.Ending.{ended}
use Rattle.giop_cdr.specs.Layout.{number, signed, octets, such, field, gives, chosen}
use Rattle.giop_cdr.specs.Reading.Exactness.{Took}
use Rattle.giop_cdr.specs.Reading.Values.{count_at, field_at, number_at, octets_at, signed_at, such_at}
use Rattle.giop_cdr.specs.Writing.Output.{number_out, octets_out, signed_out}
use Rattle.giop_cdr.specs.declared.fault.CdrKind.TheVariants.{BadCount}
use Rattle.giop_cdr.specs.declared.order.Order.{Order}
use Rattle.giop_cdr.specs.declared.order.Order.TheVariants.{Big, Little}
use Rattle.giop_msg.specs.Joined.{AreWhole, joined_from}
use Rattle.giop_msg.specs.Laws.{IsTable}
use Rattle.giop_msg.specs.Locate.{AnyLocateRequest, locate_request, located}
use Rattle.giop_msg.specs.Meaning.{meaning}
use Rattle.giop_msg.specs.Target.{disposition, key_target, object_key, target_by, target_layout}
use Rattle.giop_msg.specs.declared.kind.Kind.TheVariants.{LocateRequest}
use Rattle.giop_msg.specs.declared.version.Version.{Version}
use Rattle.giop_msg.specs.declared.version.Version.TheVariants.{V10, V12}
use Rattle.giop_calls.specs.declared.kind.CallKind.TheVariants as kind
use Rattle.giop_calls.specs.declared.server.heard.HeardCall.{HeardCall}
use Rattle.giop_calls.specs.declared.server.heard.HeardCall.TheVariants as heard
use Rattle.giop_session.specs.Items.Carries.{IsWrittenAs}
use Rattle.giop_session.specs.Items.ServerCarries.{SpellsCall}
use Rattle.laws_in_use.specs.Locating.{bad_octets, door, door_begins, door_ends, door_whole, key, key_big, key_little}

-- what reading these answers
record AreRead : Type 0 where
  pub door_whole : (locate_request V12).read (joined_from Little door_whole.payload) ≡ Ok (door, record { order = Little; at = 28; rest = [] })
  pub key_big : (locate_request V10).read (joined_from Big key_big.payload) ≡ Ok (key, record { order = Big; at = 21; rest = [] })
  pub key_little : (locate_request V10).read (joined_from Little key_little.payload) ≡ Ok (key, record { order = Little; at = 21; rest = [] })
  pub bad : (locate_request V10).read (joined_from Big bad_octets) ≡ Err (record { at = 16; kind = BadCount })

read : AreRead
unfolding locate_request located object_key meaning target_layout target_by disposition key_target
    number signed octets such field gives chosen count_at field_at number_at octets_at signed_at such_at
read = record { door_whole = refl; key_big = refl; key_little = refl; bad = refl }

-- a table spells what is read of it to the end
whole : (version : Version) → IsTable (locate_request version) → (order : Order) (joined : List ℕ) (value : AnyLocateRequest) (at : ℕ)
    → (locate_request version).read (joined_from order joined) ≡ Ok (value, record { order = order; at = at; rest = [] })
    → AreWhole (locate_request version) order joined value
whole version table order joined value at is =
    let took = (table.exact (joined_from order joined)).found value _ is in
    record { spells = subst (λ spelled. (locate_request version).spells order 12 value spelled) (sym (took.front ∙ append-nil took.octets)) took.spells }

-- and nothing where it is refused
pub bad_spells_none : (interface : Interface) → IsTable (locate_request V10) → (message : HeardCall)
    → SpellsCall interface kind.Locate V10 Big bad_octets message → ⊥
bad_spells_none interface table (heard.Locate asked) spelled =
    let took : Took (locate_request V10).spells (joined_from Big bad_octets) asked (record { order = Big; at = 20; rest = [] }) = record {
      octets = bad_octets;
      front = sym (append-nil bad_octets);
      at = refl;
      order = refl;
      spells = spelled.spells;
    } in
    let found = (table.exact (joined_from Big bad_octets)).only asked _ took in
    let refused = read.bad in
    absurd cc
bad_spells_none interface table (heard.Request asked) spelled = spelled
bad_spells_none interface table (heard.Undecoded call) spelled = spelled

pub door_spelled : IsTable (locate_request V12) → AreWhole (locate_request V12) Little door_whole.payload door
door_spelled table = whole V12 table Little door_whole.payload door 28 read.door_whole

pub key_big_spelled : IsTable (locate_request V10) → AreWhole (locate_request V10) Big key_big.payload key
key_big_spelled table = whole V10 table Big key_big.payload key 21 read.key_big

pub key_little_spelled : IsTable (locate_request V10) → AreWhole (locate_request V10) Little key_little.payload key
key_little_spelled table = whole V10 table Little key_little.payload key 21 read.key_little

-- `door` is written and cut so that each message has 24 octets
pub door_cut : IsWrittenAs (ended (locate_request V12)) Big door LocateRequest 24 V12 (door_begins ∷ door_ends ∷ [])
unfolding ended locate_request located object_key meaning target_layout target_by disposition key_target
    number signed octets such field gives chosen number_out octets_out signed_out
door_cut = record {
  fits = refl;
  holds = search rules;
  can_cut = record {
    continued = refl;
    id = omega arith;
    short = omega arith;
    large = omega arith;
    fits = omega arith;
    multiple = refl;
  };
  is_cut = (refl, refl, omega arith, (refl, omega arith, omega arith));
}
