use Rattle.std.proofs.Common.{OnOk, refl, subst}
use Rattle.hsms_machine.specs.declared.entry.Event.{Event}
use Rattle.capture_log.specs.BothLogs.{Adds, note_of}
use Rattle.capture_log.proofs.both_logs.pass.Goals as goal

pub returns-clause-taker : goal.returns-clause-taker
returns-clause-taker c =
    subst (λ (e : Event). OnOk c.note-2.result (Adds (note_of c.args.remark c.args.time e) c.args.taker.now c.note-2.new.self))
    (c.taken.ensures c.args.frame refl) c.note-2.ensures.added
