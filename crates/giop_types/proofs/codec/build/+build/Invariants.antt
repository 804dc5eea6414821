use Rattle.std.proofs.Common.{◌≡◌, ◌-◌, List, map, drop}
use Rattle.giop_cdr.specs.Reading.Cursor.{Cursor}
use Rattle.giop_cdr.specs.Reading.Values.{Reading, items_at}
use Rattle.giop_cdr.proofs.Reading.ItemLoops.{with_front}
use Rattle.giop_types.specs.Values.Tree.{Tree}
use Rattle.giop_types.specs.Coding.Decoding.{decode_at, fields_at, branches_at}
use Rattle.giop_types.specs.Values.Views.{desc_view, named_view, case_view, fields_of, branches_of}
use Rattle.giop_types.proofs.codec.build.+build.Given as goal

abbrev pub invariant-build_members-loop-member : goal.invariant-build_members-loop-member
invariant-build_members-loop-member g l =
    with_front l.values.come (fields_at (fields_of (map named_view (drop l.member-index l.members))) l.input)
    ≡ fields_at (fields_of (map named_view l.members)) l.fn.input

abbrev pub invariant-build_case-loop-case : goal.invariant-build_case-loop-case
invariant-build_case-loop-case g l = record {
  read : (other : Cursor → Reading (List Tree)) → branches_at (branches_of (map case_view (drop l.case-index l.cases))) other l.label l.fn.input
      ≡ branches_at (branches_of (map case_view l.cases)) other l.label l.fn.input;
  stays : l.input ≡ l.fn.input;
}

abbrev pub invariant-build_counted-loop : goal.invariant-build_counted-loop
invariant-build_counted-loop g l =
    with_front l.values.come (items_at (decode_at (desc_view l.item)) (l.count - l.counter) l.input)
    ≡ items_at (decode_at (desc_view l.item)) l.count l.fn.input
