use Rattle.std.proofs.Common.{◌≤◌, ◌+◌, ◌*◌, length, ap, rules}
use Rattle.hsms_log.specs.Counters.{Counters}
use Rattle.hsms_log.proofs.RuleCheckLaws.{tracks_nothing}
use Rattle.hsms_log.proofs.entry_check.check_entry_line.Goals as goal

pub returns-then-is_blank : goal.returns-then-is_blank
returns-then-is_blank c =
    let size : length c.args.line.now ≤ 2 * c.args.session.now.settings.max + 64 = search rules in (
      ap (λ (t : Counters). t.lines) c.count_line.ensures,
      λ before. tracks_nothing c.args.session.now c.args.tally.now c.count_line.new.self before c.args.line.now
          (size, c.is_blank.ensures.0 c.if-is_blank.true) c.count_line.ensures,
    )

pub returns-in-Some : goal.returns-in-Some
returns-in-Some c =
    let size : length c.args.line.now ≤ 2 * c.args.session.now.settings.max + 64 = search rules in
    c.frame_line.ensures c.args.line.now (size, search rules)
