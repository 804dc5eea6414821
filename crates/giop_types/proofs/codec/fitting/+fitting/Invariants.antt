use Rattle.std.proofs.Common.{◌≡◌, Bool, List, map, drop, length}
use Rattle.std.specs.List.{list_all}
use Rattle.giop_types.specs.Values.Tree.{Tree}
use Rattle.giop_types.specs.Values.Fits.{fits, fields_fit, branches_fit}
use Rattle.giop_types.specs.Values.Views.{desc_view, named_view, case_view, value_view, member_view, fields_of, branches_of}
use Rattle.giop_types.proofs.codec.fitting.+fitting.Given as goal

abbrev pub invariant-members_fit-loop-i : goal.invariant-members_fit-loop-i
invariant-members_fit-loop-i l = record {
  so_far : fields_fit (fields_of (map named_view (drop l.i l.members))) (map value_view (drop l.i l.values))
      ≡ fields_fit (fields_of (map named_view l.members)) (map value_view l.values);
  as_many : length l.members ≡ length l.values;
}

abbrev pub invariant-each_fits-loop-value : goal.invariant-each_fits-loop-value
invariant-each_fits-loop-value l =
    list_all (fits (desc_view l.item)) (map value_view (drop l.value-index l.values)) ≡ list_all (fits (desc_view l.item)) (map value_view l.values)

abbrev pub invariant-case_fits-loop-case : goal.invariant-case_fits-loop-case
invariant-case_fits-loop-case l =
    (other : List Tree → Bool) → branches_fit (branches_of (map case_view (drop l.case-index l.cases))) other l.label (member_view l.member)
    ≡ branches_fit (branches_of (map case_view l.cases)) other l.label (member_view l.member)
