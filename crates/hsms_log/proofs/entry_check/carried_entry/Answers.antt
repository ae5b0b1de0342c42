use Rattle.std.proofs.Common.{refl, ap}
use Rattle.hsms_log.specs.Counters.{Counters}
use Rattle.hsms_log.proofs.RuleCheckLaws.{tracks_entry}
use Rattle.hsms_log.proofs.entry_check.carried_entry.Goals as goal

pub returns : goal.returns
returns c =
    let is_valid = rw c.in_default.is at c.in_ok-rule.ensures.is_valid in
    λ line carries. (
      ap (λ (t : Counters). t.lines) c.count_entry.ensures,
      λ before. tracks_entry c.args.session.now c.step.new.self c.args.tally.now c.count_entry.new.self before line c.args.entry.now
          carries (is_valid refl) c.count_entry.ensures,
    )
