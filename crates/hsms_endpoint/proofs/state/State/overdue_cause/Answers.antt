use Rattle.std.proofs.Common.{◌≡◌, true, false, Some, refl, sym, ap, ◌∙◌}
use Rattle.hsms_machine.specs.declared.entry.Cause.TheVariants.{T7}
use Rattle.hsms_machine.specs.View.{oldest_of}
use Rattle.hsms_endpoint.specs.InnerExpiring.{overdue_of}
use Rattle.hsms_endpoint.specs.Turn.{is_t6_overdue}
use Rattle.hsms_endpoint.proofs.Overdue.{cause_after, t6_is_due}
use Rattle.hsms_endpoint.proofs.state.State.overdue_cause.Goals as goal

pub returns-then-is_some-2 : goal.returns-then-is_some-2
returns-then-is_some-2 c =
    let end = c.args.self.now in
    let t6 : is_t6_overdue end.tracker end.moment ≡ false =
    sym (c.is_some.ensures ∙ t6_is_due end c.requires.late c.overdue.result
    (c.overdue.ensures
    ∙ ap (λ oldest. overdue_of c.t6.result end.moment oldest) c.oldest_control.ensures
    ∙ ap (λ limit. overdue_of limit end.moment (oldest_of end.tracker.sent_control)) c.t6.ensures.value))
    ∙ c.if-is_some.false in
    cause_after end c.requires.late c.requires.in_time t6 c.check_down_event.result true (Some T7) (sym c.is_some-else-is_some.ensures ∙ c.if-is_some-2.true) c.check_down_event.ensures refl
