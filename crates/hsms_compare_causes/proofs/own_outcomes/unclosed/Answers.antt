use Rattle.std.proofs.Common.{◌∙◌, List, ap}
use Rattle.hsms_machine.specs.declared.entry.Entry.{Entry}
use Rattle.hsms_machine.specs.Entry.{entry_at}
use Rattle.hsms_compare_causes.proofs.Groups.{unclosed_so}
use Rattle.hsms_compare_causes.proofs.own_outcomes.unclosed.Goals as goal

pub returns : goal.returns
returns c =
    unclosed_so c.args.entries.now c.args.is_open c.args.index c.args.request c.args.limit c.time_at-since.result c.latest_after.result c.is_control_request.result c.is_later-is_late.result c.first_after-cut.result c.outcome_by.result
    (c.time_at-since.ensures ∙ ap (λ (l : List Entry). (entry_at l c.args.index).time) c.as_slice.ensures) c.is_control_request.ensures c.first_after-cut.ensures c.latest_after.ensures c.is_later-is_late.ensures c.outcome_by.ensures
