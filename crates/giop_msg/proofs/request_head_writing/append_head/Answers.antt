use Rattle.giop_msg.proofs.WritableLemmas.{writable_parts}
use Rattle.giop_msg.proofs.request_head_writing.append_head.Goals as goal

pub append_target-requires : goal.append_target-requires
append_target-requires c = (writable_parts c.args.head.now c.requires).target

pub write_string-requires-clause-text : goal.write_string-requires-clause-text
write_string-requires-clause-text c = rw c.as_slice.ensures (writable_parts c.args.head.now c.requires).text

pub write_string-requires-clause-short : goal.write_string-requires-clause-short
write_string-requires-clause-short c = rw c.as_slice.ensures (writable_parts c.args.head.now c.requires).short

pub append_contexts-requires-clause-few : goal.append_contexts-requires-clause-few
append_contexts-requires-clause-few c = rw c.as_slice-2.ensures (writable_parts c.args.head.now c.requires).few

pub append_contexts-requires-clause-each : goal.append_contexts-requires-clause-each
append_contexts-requires-clause-each c = rw c.as_slice-2.ensures (writable_parts c.args.head.now c.requires).each
