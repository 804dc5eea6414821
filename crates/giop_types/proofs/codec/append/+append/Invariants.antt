use Rattle.std.proofs.Common.{◌≡◌, Bool, List, map, drop, length}
use Rattle.std.specs.List.{list_all}
use Rattle.giop_cdr.specs.Writing.Output.{Output, items_out}
use Rattle.giop_cdr.specs.Writing.Outcome.{Grows}
use Rattle.giop_types.specs.Values.Tree.{Tree}
use Rattle.giop_types.specs.Values.Fits.{fits, fields_fit, branches_fit}
use Rattle.giop_types.specs.Values.Views.{desc_view, named_view, case_view, value_view, member_view, fields_of, branches_of}
use Rattle.giop_types.specs.Coding.Written.{value_out, fields_out, branches_out}
use Rattle.giop_types.proofs.codec.append.+append.Given as goal

abbrev pub invariant-append_members-loop-i : goal.invariant-append_members-loop-i
invariant-append_members-loop-i l = record {
  fit : fields_fit (fields_of (map named_view (drop l.i l.members))) (map value_view (drop l.i l.values))
      ≡ fields_fit (fields_of (map named_view l.members)) (map value_view l.values);
  written : fields_out (fields_of (map named_view (drop l.i l.members))) (map value_view (drop l.i l.values)) l.out
      ≡ fields_out (fields_of (map named_view l.members)) (map value_view l.values) l.fn.out;
  grows : Grows l.fn.out l.out;
  as_many : length l.members ≡ length l.values;
}

abbrev pub invariant-append_each-loop-value : goal.invariant-append_each-loop-value
invariant-append_each-loop-value l = record {
  fit : list_all (fits (desc_view l.item)) (map value_view (drop l.value-index l.values)) ≡ list_all (fits (desc_view l.item)) (map value_view l.values);
  written : items_out (value_out (desc_view l.item)) (map value_view (drop l.value-index l.values)) l.out
      ≡ items_out (value_out (desc_view l.item)) (map value_view l.values) l.fn.out;
  grows : Grows l.fn.out l.out;
}

abbrev pub invariant-append_case-loop-case : goal.invariant-append_case-loop-case
invariant-append_case-loop-case l = record {
  fit : (other : List Tree → Bool) → branches_fit (branches_of (map case_view (drop l.case-index l.cases))) other l.label (member_view l.member)
      ≡ branches_fit (branches_of (map case_view l.cases)) other l.label (member_view l.member);
  written : (more : List Tree → Output → Output)
      → branches_out (branches_of (map case_view (drop l.case-index l.cases))) more l.label (member_view l.member) l.fn.out
      ≡ branches_out (branches_of (map case_view l.cases)) more l.label (member_view l.member) l.fn.out;
  stays : l.out ≡ l.fn.out;
}
