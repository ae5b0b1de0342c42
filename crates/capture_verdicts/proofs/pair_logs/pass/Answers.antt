use Rattle.std.proofs.Common.{OnOk, refl, subst}
use Rattle.hsms_machine.specs.declared.entry.Event.{Event}
use Rattle.capture_log.specs.BothLogs.{Adds}
use Rattle.capture_verdicts.specs.InnerReportState.{note_by}
use Rattle.capture_verdicts.proofs.pair_logs.pass.Goals as goal

pub returns-clause-taker : goal.returns-clause-taker
returns-clause-taker c =
    subst (λ (e : Event). OnOk c.note-2.result (Adds (note_by c.args.comment c.args.time e) c.args.taker.now c.note-2.new.self))
    (c.taken.ensures c.args.frame refl) c.note-2.ensures.added
