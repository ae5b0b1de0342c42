use Rattle.std.proofs.Common.{◌∙◌}
use Rattle.std.proofs.lemmas.List.{take_rest}
use Rattle.hsms_frame.proofs.Transfers.{grows_more, part_within}
use Rattle.hsms_ends.proofs.SentParts.{processes_none_then}
use Rattle.hsms_ends.proofs.sending.send_all.Goals as goal

pub loop-sent-preserved : goal.loop-sent-preserved
loop-sent-preserved g c =
    let link_state = g.L.Link.link_state in
    let inv = c.loop-sent.invariant in
    let part = rw take_rest at c.in-Ok.ensures.sent in (
      part_within _ _ _ inv.0 c.in-Ok.ensures.bound,
      processes_none_then (link_state c.args.link.now) (link_state c.loop-sent.link) (link_state c.send.new.self) inv.1 part.0,
      grows_more _ _ _ _ _ _ inv.2 part.1,
      part.2 ∙ inv.3,
    )
