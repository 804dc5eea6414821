use Rattle.std.proofs.Common.{◌≡◌, ◌++◌, ◌∷◌, [], arith, false, true, Ok, string_bytes, string_cmp, sym, ap, ◌∙◌}
use Rattle.std.proofs.lemmas.Grind.{common_steps}
use Rattle.std.proofs.lemmas.Map.Iter.{rest_more, rest_all}
use Rattle.std.proofs.lemmas.Result.{err_from_is_err_and}
use Rattle.std.specs.List.Sorted.{IsStrictlySortedBy}
use Rattle.std.specs.Map.{keys_of}
use Rattle.std.specs.Map.Iter.{deref_pair}
use Rattle.serde_json.specs.Data.{member, no_members}
use Rattle.serde_json.specs.View.{view, items_view, members_view}
use Rattle.serde_json.proofs.Views.{Entry, members_view-insert_entry}
use Rattle.giop_names.specs.Plain.{plain_at, each_item, each_member, member_at}
use Rattle.giop_names.specs.Scopes.{is_left_out}
use Rattle.giop_names.proofs.Loops.{after_none, items_view-append, item_made, item_refused, items_made, member_made, member_refused, member_left_out, members_made, passed_on}
use Rattle.giop_names.proofs.Orders.{then_members, AreBefore, none_before, put_behind, put_next, passed, sorted_rest}
use Rattle.giop_names.proofs.rewriting.+part.Goals as goal

pub plain_items-loop-json-preserved : goal.plain_items-loop-json-preserved
plain_items-loop-json-preserved t c =
    let make = plain_at c.args.levels (view c.args.types.now) c.args.scope in
    let l = c.loop-json in
    let pushed : c.push.new.self.items ≡ l.items.items ++ c.in_ok-item.item ∷ [] = grind (arith, common_steps) in
    rw (pushed, items_view-append l.items.items (c.in_ok-item.item ∷ []))
    (item_made make (items_view l.items.items) c.args.list.now l.json-index c.json-item.result (view c.in_ok-item.item) l.room c.plain_part.new.room
    (each_item make (items_view c.args.list.now) c.args.room.now) c.loop-json-test.true c.json-item.is c.in_ok-item.ensures.ok l.invariant)

pub plain_items-returns-clause-ok : goal.plain_items-returns-clause-ok
plain_items-returns-clause-ok t c =
    let make = plain_at c.args.levels (view c.args.types.now) c.args.scope in
    let l = c.loop-json in
    items_made make (items_view l.items.items) c.args.list.now l.json-index l.room
    (each_item make (items_view c.args.list.now) c.args.room.now) c.loop-json-test.false l.invariant

pub plain_items-returns-in_err-item-clause-err : goal.plain_items-returns-in_err-item-clause-err
plain_items-returns-in_err-item-clause-err t c =
    let make = plain_at c.args.levels (view c.args.types.now) c.args.scope in
    let l = c.loop-json in
    let e = err_from_is_err_and c.from_residual-in_err-item.result c.from_residual-in_err-item.ensures.1 in
    rw (e.1, e.2) (passed_on _ _ _ _ (λ refused. item_refused make (items_view l.items.items) c.args.list.now l.json-index c.json-item.result
    c.in_err-item.field-0.0 l.room (each_item make (items_view c.args.list.now) c.args.room.now) c.loop-json-test.true c.json-item.is refused l.invariant)
    c.in_err-item.ensures.err)

pub plain_members-loop-key-init : goal.plain_members-loop-key-init
plain_members-loop-key-init t c =
    let make = plain_at c.args.levels (view c.args.types.now) in
    let start : c.into_iter-key-iterator.result ≡ c.args.object.now.entries = cc in
    record {
      told = rw c.new-members.ensures.empty (after_none (each_member make c.args.scope (members_view c.into_iter-key-iterator.result) c.args.room.now));
      before = rw c.new-members.ensures.empty (none_before c.into_iter-key-iterator.result);
      sorted = rw start c.iter-key-items.ensures.ordered;
    }

pub plain_members-loop-key-preserved : goal.plain_members-loop-key-preserved
plain_members-loop-key-preserved t c =
    let make = plain_at c.args.levels (view c.args.types.now) in
    let l = c.loop-key in
    let e : Entry = (c.in-Some.key.now, c.in-Some.json.now) in
    let first = rest_more deref_pair l.key-iterator c.next.new.self c.next.result (c.in-Some.key, c.in-Some.json) c.in-Some.is c.next.ensures.steps in
    let out : true ≡ is_left_out c.args.scope (string_bytes e.0) = rw c.as_str.ensures.value at c.if-not-is_left_out.ensures in
    record {
      told = member_left_out make c.args.scope (members_view l.members.entries) (string_bytes e.0) (view e.1) (members_view c.next.new.self) l.room
          (each_member make c.args.scope (members_view c.into_iter-key-iterator.result) c.args.room.now) (sym out) (rw first at l.invariant.told);
      before = passed e c.next.new.self (members_view l.members.entries) (rw first at l.invariant.before);
      sorted = sorted_rest e c.next.new.self (rw first at l.invariant.sorted);
    }

pub plain_members-loop-key-preserved-then-not-is_left_out : goal.plain_members-loop-key-preserved-then-not-is_left_out
plain_members-loop-key-preserved-then-not-is_left_out t c =
    let make = plain_at c.args.levels (view c.args.types.now) in
    let l = c.loop-key in
    let e : Entry = (c.in-Some.key.now, c.in-Some.json.now) in
    let front = members_view l.members.entries in
    let d = view c.in_ok-member.member in
    let first = rest_more deref_pair l.key-iterator c.next.new.self c.next.result (c.in-Some.key, c.in-Some.json) c.in-Some.is c.next.ensures.steps in
    let stays : false ≡ is_left_out c.args.scope (string_bytes e.0) = rw c.as_str.ensures.value at c.if-not-is_left_out.ensures in
    let before : AreBefore front (e ∷ c.next.new.self) = rw first at l.invariant.before in
    let sorted : IsStrictlySortedBy string_cmp (keys_of (e ∷ c.next.new.self)) = rw first at l.invariant.sorted in
    let named : string_bytes c.in_ok-name.name ≡ string_bytes e.0 = c.in_ok-name.ensures.cases in
    let last : members_view c.insert.new.self.entries ≡ then_members front (member (string_bytes e.0) d no_members)
    = ap members_view c.in_ok-insert.ensures.entries ∙ members_view-insert_entry l.members.entries c.in_ok-name.name c.in_ok-member.member
    ∙ rw named (put_behind (string_bytes e.0) d front before.0) in
    let made : member_at make c.args.scope (string_bytes e.0) (view e.1) l.room ≡ Ok (d, c.plain_member.new.room)
    = rw c.as_str-then-not-is_left_out.ensures.value at c.in_ok-member.ensures.ok in
    record {
      told = rw last (member_made make c.args.scope front (string_bytes e.0) (view e.1) d (members_view c.next.new.self) l.room c.plain_member.new.room
          (each_member make c.args.scope (members_view c.into_iter-key-iterator.result) c.args.room.now) (sym stays) made (rw first at l.invariant.told));
      before = rw last (put_next e d front c.next.new.self sorted before);
      sorted = sorted_rest e c.next.new.self sorted;
    }

pub plain_members-returns-clause-ok : goal.plain_members-returns-clause-ok
plain_members-returns-clause-ok t c =
    let make = plain_at c.args.levels (view c.args.types.now) in
    let l = c.loop-key in
    let none = rest_all deref_pair l.key-iterator c.next.new.self c.next.result c.in-None.is c.next.ensures.steps in
    let start : c.into_iter-key-iterator.result ≡ c.args.object.now.entries = cc in
    rw start at (members_made make c.args.scope (members_view l.members.entries) l.room _ (rw none at l.invariant.told))

pub plain_members-returns-in_err-member-clause-err : goal.plain_members-returns-in_err-member-clause-err
plain_members-returns-in_err-member-clause-err t c =
    let make = plain_at c.args.levels (view c.args.types.now) in
    let l = c.loop-key in
    let e : Entry = (c.in-Some.key.now, c.in-Some.json.now) in
    let first = rest_more deref_pair l.key-iterator c.next.new.self c.next.result (c.in-Some.key, c.in-Some.json) c.in-Some.is c.next.ensures.steps in
    let start : c.into_iter-key-iterator.result ≡ c.args.object.now.entries = cc in
    let stays : false ≡ is_left_out c.args.scope (string_bytes e.0) = rw c.as_str.ensures.value at c.if-not-is_left_out.ensures in
    let err = rw c.as_str-then-not-is_left_out.ensures.value at c.in_err-member.ensures.err in
    let is = err_from_is_err_and c.from_residual.result c.from_residual.ensures.1 in
    let total = each_member make c.args.scope (members_view c.into_iter-key-iterator.result) c.args.room.now in
    rw (is.1, is.2) (passed_on _ _ _ _ (λ refused. rw start at (member_refused make c.args.scope (members_view l.members.entries) (string_bytes e.0) (view e.1)
    (members_view c.next.new.self) l.room c.in_err-member.field-0.0 total (sym stays) refused (rw first at l.invariant.told))) err)
