-- What is written of a reference of octets is octets: numbers below 256.
use Rattle.std.proofs.Common.{ℕ, zero, suc, ◌<◌, ◌+◌, ◌/◌, ◌^◌, List, [], ◌∷◌, ◌++◌, length, replicate, lit<}
use Rattle.std.proofs.lemmas.List.Elements.{All-append, All-cons, All-nil, All-replicate}
use Rattle.std.proofs.Math.Nat.{mod-lt}
use Rattle.std.specs.List.{AllByRecursion}
use Rattle.std.specs.Int.{Width, w32, byte_len, byte_at, bytes_low_first, bytes_high_first}
use Rattle.giop_cdr.specs.declared.order.Order.{Order}
use Rattle.giop_cdr.specs.declared.order.Order.TheVariants.{Big, Little}
use Rattle.giop_cdr.specs.Reading.Cursor.{pad}
use Rattle.giop_cdr.specs.Layout.{AreOctets, field, gives, number, octets, sequence, tagged, text}
use Rattle.giop_cdr.specs.Writing.Output.{Output, octets_of, number_out, octets_out, string_out, items_out, sequence_out}
use Rattle.giop_ior.specs.declared.references.tagged_profile.TaggedProfile.{TaggedProfile}
use Rattle.giop_ior.specs.Ior.{Reference, ior_layout, tagged_profile}
use Rattle.giop_ior.specs.Written.{IsOfOctets}

-- an output of octets stays one
abbrev Keeps : (Output → Output) → Type 0
Keeps write = (out : Output) → AreOctets out.octets → AreOctets (write out).octets

joined : (xs ys : List ℕ) → AreOctets xs → AreOctets ys → AreOctets (xs ++ ys)
joined xs ys front back = All-append (λ octet. octet < 256) xs ys front back

byte_small : (i n : ℕ) → byte_at i n < 256
byte_small zero n = mod-lt n {m = 256} (lit< tt)
byte_small (suc i) n = mod-lt (n / 256 ^ suc i) {m = 256} (lit< tt)

low_bytes : (i k n : ℕ) → AreOctets (bytes_low_first i k n)
low_bytes i zero n = All-nil (λ octet. octet < 256)
low_bytes i (suc k) n = All-cons (λ octet. octet < 256) (byte_at i n) (bytes_low_first (suc i) k n) (byte_small i n) (low_bytes (suc i) k n)

high_bytes : (k n : ℕ) → AreOctets (bytes_high_first k n)
high_bytes zero n = All-nil (λ octet. octet < 256)
high_bytes (suc k) n = All-cons (λ octet. octet < 256) (byte_at k n) (bytes_high_first k n) (byte_small k n) (high_bytes k n)

number_octets : (o : Order) (w : Width) (n : ℕ) → AreOctets (octets_of o w n)
number_octets Big w n = high_bytes (byte_len w) n
number_octets Little w n = low_bytes 0 (byte_len w) n

number_keeps : (w : Width) (n : ℕ) → Keeps (number_out w n)
unfolding number_out
number_keeps w n out all =
    joined out.octets _ all
    (joined (replicate (pad (byte_len w) out.at) 0) (octets_of out.order w n)
    (All-replicate (λ octet. octet < 256) (pad (byte_len w) out.at) 0 (lit< tt)) (number_octets out.order w n))

octets_keep : (contents : List ℕ) → AreOctets contents → Keeps (octets_out contents)
unfolding octets_out
octets_keep contents are out all =
    joined (number_out w32 (length contents) out).octets contents (number_keeps w32 (length contents) out all) are

string_keeps : (contents : List ℕ) → AreOctets contents → Keeps (string_out contents)
unfolding string_out
string_keeps contents are out all =
    joined (number_out w32 (length contents + 1) out).octets (contents ++ 0 ∷ []) (number_keeps w32 (length contents + 1) out all)
    (joined contents (0 ∷ []) are (All-cons (λ octet. octet < 256) 0 [] (lit< tt) (All-nil (λ octet. octet < 256))))

profile_keeps : (profile : TaggedProfile) → AreOctets profile.octets → Keeps (tagged_profile.written profile)
unfolding tagged_profile tagged field number octets gives
profile_keeps profile are out all =
    octets_keep profile.octets are (number_out w32 profile.tag out) (number_keeps w32 profile.tag out all)

profiles_keep : (profiles : List TaggedProfile) → AllByRecursion (λ profile. AreOctets profile.octets) profiles
    → Keeps (items_out tagged_profile.written profiles)
unfolding items_out
profiles_keep [] are out all = all
profiles_keep (profile ∷ profiles) are out all =
    profiles_keep profiles are.1 (tagged_profile.written profile out) (profile_keeps profile are.0 out all)

pub reference_keeps : (ior : Reference) → IsOfOctets ior → Keeps (ior_layout.written ior)
unfolding ior_layout field text sequence sequence_out gives
reference_keeps ior are out all =
    let named = string_keeps ior.type_id are.type_id out all in
    let counted = number_keeps w32 (length ior.profiles) (string_out ior.type_id out) named in
    profiles_keep ior.profiles are.profiles (number_out w32 (length ior.profiles) (string_out ior.type_id out)) counted
