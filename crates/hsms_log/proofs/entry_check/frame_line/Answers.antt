use Rattle.std.proofs.Common.{refl, ap}
use Rattle.hsms_machine.specs.Entry.{frame_entry}
use Rattle.hsms_log.specs.Counters.{Counters}
use Rattle.hsms_log.proofs.RuleCheckLaws.{tracks_entry}
use Rattle.hsms_log.proofs.entry_check.frame_line.Goals as goal

pub returns : goal.returns
returns c =
    let frame = c.args.frame in
    let text = c.args.text.now in
    let counted = c.count_frame.ensures frame.time frame.header text in
    let is_valid = rw (c.in_default.is, c.of_frame-entry.ensures) at c.in_ok-rule.ensures.is_valid in
    λ line carries. (
      ap (λ (t : Counters). t.lines) counted,
      λ before. tracks_entry c.args.session.now c.step_ref.new.self c.args.tally.now c.count_frame.new.self before line
          (frame_entry frame.time frame.mark frame.header text) carries (is_valid refl) counted,
    )
