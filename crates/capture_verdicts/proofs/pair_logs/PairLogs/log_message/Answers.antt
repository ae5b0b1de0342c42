use Rattle.std.proofs.Common.{OnOk, subst, sym}
use Rattle.capture_tcp.specs.declared.packet.Side.{Side}
use Rattle.capture_tcp.specs.declared.packet.Side.TheVariants.{Active, Passive}
use Rattle.capture_log.specs.BothLogs.{Adds, event_of}
use Rattle.capture_verdicts.specs.InnerReportState.{note_by}
use Rattle.capture_verdicts.proofs.pair_logs.PairLogs.log_message.Goals as goal

pub returns-in-Active-clause-active : goal.returns-in-Active-clause-active
returns-in-Active-clause-active c =
    subst (λ (from : Side). OnOk c.pass.result
    (Adds (note_by c.args.comment c.args.self.now.time (event_of Active from c.args.frame)) c.args.self.now.active c.pass.new.sender))
    (sym c.in-Active.is) c.pass.ensures.sender

pub returns-in-Active-clause-passive : goal.returns-in-Active-clause-passive
returns-in-Active-clause-passive c =
    subst (λ (from : Side). OnOk c.pass.result
    (Adds (note_by c.args.comment c.args.self.now.time (event_of Passive from c.args.frame)) c.args.self.now.passive c.pass.new.taker))
    (sym c.in-Active.is) c.pass.ensures.taker

pub returns-in-Passive-clause-active : goal.returns-in-Passive-clause-active
returns-in-Passive-clause-active c =
    subst (λ (from : Side). OnOk c.pass-in-Passive.result
    (Adds (note_by c.args.comment c.args.self.now.time (event_of Active from c.args.frame)) c.args.self.now.active c.pass-in-Passive.new.taker))
    (sym c.in-Passive.is) c.pass-in-Passive.ensures.taker

pub returns-in-Passive-clause-passive : goal.returns-in-Passive-clause-passive
returns-in-Passive-clause-passive c =
    subst (λ (from : Side). OnOk c.pass-in-Passive.result
    (Adds (note_by c.args.comment c.args.self.now.time (event_of Passive from c.args.frame)) c.args.self.now.passive c.pass-in-Passive.new.sender))
    (sym c.in-Passive.is) c.pass-in-Passive.ensures.sender
