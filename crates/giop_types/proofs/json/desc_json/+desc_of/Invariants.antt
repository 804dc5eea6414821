use Rattle.giop_types.proofs.json.desc_json.+desc_of.Given as goal

abbrev pub decreases-desc_of : goal.decreases-desc_of
decreases-desc_of l = l.steps

abbrev pub decreases-composed_desc : goal.decreases-composed_desc
decreases-composed_desc l = l.steps

abbrev pub decreases-members_of : goal.decreases-members_of
decreases-members_of l = l.steps

abbrev pub decreases-member_of : goal.decreases-member_of
decreases-member_of l = l.steps

abbrev pub decreases-sequence_of : goal.decreases-sequence_of
decreases-sequence_of l = l.steps

abbrev pub decreases-array_of : goal.decreases-array_of
decreases-array_of l = l.steps

abbrev pub decreases-union_of : goal.decreases-union_of
decreases-union_of l = l.steps

abbrev pub decreases-cases_of : goal.decreases-cases_of
decreases-cases_of l = l.steps

abbrev pub decreases-case_of : goal.decreases-case_of
decreases-case_of l = l.steps
