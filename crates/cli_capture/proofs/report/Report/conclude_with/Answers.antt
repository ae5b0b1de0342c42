use Rattle.std.proofs.Common.{refl, sym, ap, ◌∙◌}
use Rattle.cli_capture.specs.declared.report.Report.{Report}
use Rattle.cli_capture.proofs.Refusals.{noted_refused}
use Rattle.cli_capture.proofs.Unrefused.{log_stops}
use Rattle.cli_capture.proofs.report.Report.conclude_with.Goals as goal

-- where the log of an end is told
pub returns-in-Log-clause-unrefused : goal.returns-in-Log-clause-unrefused
returns-in-Log-clause-unrefused c =
    log_stops c.args.self.now _ _ (ap (λ (r : Report). r.manner) (sym c.note-first.ensures.noted) ∙ c.in-Log.is)

pub returns-in-Log-clause-refuses : goal.returns-in-Log-clause-refuses
returns-in-Log-clause-refuses c =
    noted_refused c.args.shortfall c.in-Some.shortfall c.note-first.result _ c.args.self.now c.note-first.new.self c.in-Some.is
    c.note-first.ensures.first refl (ap (λ (r : Report). r.page.octets) c.note-first.ensures.noted)
