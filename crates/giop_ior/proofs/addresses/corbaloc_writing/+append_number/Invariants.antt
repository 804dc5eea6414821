use Rattle.giop_ior.proofs.addresses.corbaloc_writing.+append_number.Given as goal

abbrev pub decreases-append_number : goal.decreases-append_number
decreases-append_number l = l.number
