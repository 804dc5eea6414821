use Rattle.std.proofs.Common.{◌+◌, ◌-◌, length, ◌∙◌, ap, subst}
use Rattle.std.specs.Io.KnownBytes.{Appends}
use Rattle.giop_msg.specs.RequestHead.{request_head_of}
use Rattle.giopctl.specs.Dump.{ended, head_text}
use Rattle.giopctl.specs.Lines.{head_line}
use Rattle.giopctl.proofs.commands.dump_lines.write_head.Goals as goal

pub returns : goal.returns
returns g c =
    let m = c.args.message.now in
    let before = g.W.Write.contents c.args.writer.now in
    let after = g.W.Write.contents c.writeln.new.self in
    let viewed = c.in-Ok.ensures.exact ∙ ap (request_head_of m.order) (c.new-joined.ensures ∙ c.as_slice-octets.ensures) in
    let body = c.saturating_sub-body.ensures ∙ ap (λ u. 12 + length u - c.in-Ok.place) c.as_slice-octets.ensures in
    subst (λ r. Appends before after (head_text m r)) viewed
    (subst (λ n. Appends before after (ended (head_line c.in-Ok.head n))) body c.in_ok-writeln.ensures.bytes)
