-- An interface that is written as JSON is read back.
use Rattle.std.proofs.Common.{◌≡◌, ℕ, ◌&&◌, ◌||◌, not, is_none, Bool, true, false, List, [], ◌∷◌, Option, Some, None, refl, arith}
use Rattle.std.proofs.lemmas.Bool.{and_parts}
use Rattle.std.specs.List.{list_all, list_any}
use Rattle.serde_json.specs.Data as json
use Rattle.giop_cdr.specs.Reading.Values.{has_null}
use Rattle.giop_types.specs.declared.description.desc_fault.DescFault.{DescFault}
use Rattle.giop_types.specs.Descriptions.Checked.{desc_fault, field_names, has_doubled, same_name}
use Rattle.giop_json.specs.DescFromJson.{desc_in, member_in}
use Rattle.giop_json.specs.DescToJson.{desc_data, is_sayable, members_data}
use Rattle.giop_json.specs.FromJson.{items_shown}
use Rattle.giop_json.specs.InterfaceFromJson.{Offer, Signature, entries_in, name_in, offer_in, parameters_in, signature_in, signature_of}
use Rattle.giop_json.specs.InterfaceToJson.{are_outs, entries_data, offer_data, offer_sayable, parameter_sayable, parameters_data, parameters_sayable, signature_data, signature_sayable, table_sayable}
use Rattle.giop_json.specs.JsonText as utf8
use Rattle.giop_json.specs.Plain.{is_plain}
use Rattle.giop_types.specs.Values.Fits.{are_octets}
use Rattle.giop_types.specs.Values.Views.{Named, fields_of}
use Rattle.giop_json.proofs.DescBack.{desc_back, member_back}
use Rattle.giop_json.proofs.JsonLeavesBack.{text_back}

false_of : (b : Bool) → not b ≡ true → b ≡ false
false_of true is = absurd cc
false_of false is = refl

none_of : (fault : Option DescFault) → is_none fault ≡ true → fault ≡ None
none_of None is = refl
none_of (Some e) is = absurd cc

members_back : (ms : List Named) → list_all parameter_sayable ms ≡ true
    → items_shown (member_in (desc_in 128)) (members_data (fields_of ms)) ≡ Some ms
unfolding members_data
members_back [] fine = refl
members_back (m ∷ ms) fine =
    let parts = and_parts (parameter_sayable m) (list_all parameter_sayable ms) fine in
    let named = and_parts (are_octets m.name) (is_none (desc_fault 1 m.shape) && (is_plain m.shape && is_sayable m.shape)) parts.0 in
    let sound = and_parts (is_none (desc_fault 1 m.shape)) (is_plain m.shape && is_sayable m.shape) named.1 in
    let said = and_parts (is_plain m.shape) (is_sayable m.shape) sound.1 in
    let back = desc_back m.shape 1 128 (omega arith) (none_of (desc_fault 1 m.shape) sound.0) said.0 said.1 in
    rw (member_back (desc_in 128) m.name m.shape (desc_data m.shape) named.0 back, members_back ms parts.1) refl

parameters_back : (ms : List Named) → parameters_sayable ms ≡ true → parameters_in (parameters_data ms) ≡ Some ms
parameters_back ms fine =
    let odd = has_doubled same_name (field_names (fields_of ms)) || list_any (λ m. has_null m.name) ms in
    let parts = and_parts (list_all parameter_sayable ms) (not odd) fine in
    rw (members_back ms parts.0, false_of odd parts.1) refl

outs_back : (ins outs : List Named) (oneway : Bool) → are_outs oneway outs ≡ true
    → signature_of ins outs oneway ≡ Some (record { oneway = oneway; ins = ins; outs = outs })
outs_back ins [] oneway fine = refl
outs_back ins (m ∷ ms) true fine = absurd cc
outs_back ins (m ∷ ms) false fine = refl

signature_back : (s : Signature) → signature_sayable s ≡ true → signature_in (signature_data s) ≡ Some s
signature_back s fine =
    let parts = and_parts (are_outs s.oneway s.outs) (parameters_sayable s.ins && parameters_sayable s.outs) fine in
    let both = and_parts (parameters_sayable s.ins) (parameters_sayable s.outs) parts.1 in
    rw (parameters_back s.ins both.0, parameters_back s.outs both.1, outs_back s.ins s.outs s.oneway parts.0) refl

name_back : (name : List ℕ) → (are_octets name && not (has_null name)) ≡ true → name_in (utf8.text_of name) ≡ Some name
name_back name fine =
    let parts = and_parts (are_octets name) (not (has_null name)) fine in
    rw (text_back name parts.0, false_of (has_null name) parts.1) refl

entries_back : {A : Type 0} (read : json.Data → Option A) (write : A → json.Data) (sayable : A → Bool)
    → ((x : A) → sayable x ≡ true → read (write x) ≡ Some x) → (es : List (List ℕ × A)) → table_sayable sayable es ≡ true
    → entries_in read (entries_data write es) ≡ Some es
entries_back read write sayable back [] fine = refl
entries_back read write sayable back (e ∷ es) fine =
    let parts = and_parts ((are_octets e.0 && not (has_null e.0)) && sayable e.1) (table_sayable sayable es) fine in
    let entry = and_parts (are_octets e.0 && not (has_null e.0)) (sayable e.1) parts.0 in
    rw (name_back e.0 entry.0, back e.1 entry.1, entries_back read write sayable back es parts.1) refl

pub offer_back : (o : Offer) → offer_sayable o ≡ true → offer_in (offer_data o) ≡ Some o
offer_back o fine =
    let parts = and_parts (table_sayable signature_sayable o.operations) (table_sayable parameters_sayable o.exceptions) fine in
    rw (
      entries_back signature_in signature_data signature_sayable signature_back o.operations parts.0,
      entries_back parameters_in parameters_data parameters_sayable parameters_back o.exceptions parts.1,
    ) refl
