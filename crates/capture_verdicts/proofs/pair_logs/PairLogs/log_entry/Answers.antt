use Rattle.std.proofs.Common.{OnOk, subst, sym}
use Rattle.capture_tcp.specs.declared.packet.Side.TheVariants.{Active, Passive}
use Rattle.capture_log.specs.BothLogs.{Adds}
use Rattle.capture_events.specs.declared.log_item.EntryKind.{EntryKind}
use Rattle.capture_verdicts.specs.VerdictReport.{event_at}
use Rattle.capture_verdicts.specs.InnerReportState.{note_by}
use Rattle.capture_verdicts.proofs.pair_logs.PairLogs.log_entry.Goals as goal

pub returns-in-Up-clause-active : goal.returns-in-Up-clause-active
returns-in-Up-clause-active c =
    subst (λ (kind : EntryKind). OnOk c.log_both.result (Adds (note_by c.args.comment c.args.self.now.time (event_at Active kind)) c.args.self.now.active c.log_both.new.self.active))
    (sym c.in-Up.is) c.log_both.ensures.active

pub returns-in-Up-clause-passive : goal.returns-in-Up-clause-passive
returns-in-Up-clause-passive c =
    subst (λ (kind : EntryKind). OnOk c.log_both.result (Adds (note_by c.args.comment c.args.self.now.time (event_at Passive kind)) c.args.self.now.passive c.log_both.new.self.passive))
    (sym c.in-Up.is) c.log_both.ensures.passive

pub returns-in-Down-clause-active : goal.returns-in-Down-clause-active
returns-in-Down-clause-active c =
    subst (λ (kind : EntryKind). OnOk c.log_both-in-Down.result (Adds (note_by c.args.comment c.args.self.now.time (event_at Active kind)) c.args.self.now.active c.log_both-in-Down.new.self.active))
    (sym c.in-Down.is) c.log_both-in-Down.ensures.active

pub returns-in-Down-clause-passive : goal.returns-in-Down-clause-passive
returns-in-Down-clause-passive c =
    subst (λ (kind : EntryKind). OnOk c.log_both-in-Down.result (Adds (note_by c.args.comment c.args.self.now.time (event_at Passive kind)) c.args.self.now.passive c.log_both-in-Down.new.self.passive))
    (sym c.in-Down.is) c.log_both-in-Down.ensures.passive

pub returns-in-Message-clause-active : goal.returns-in-Message-clause-active
returns-in-Message-clause-active c =
    subst (λ (kind : EntryKind). OnOk c.log_message.result (Adds (note_by c.args.comment c.args.self.now.time (event_at Active kind)) c.args.self.now.active c.log_message.new.self.active))
    (sym c.in-Message.is) c.log_message.ensures.active

pub returns-in-Message-clause-passive : goal.returns-in-Message-clause-passive
returns-in-Message-clause-passive c =
    subst (λ (kind : EntryKind). OnOk c.log_message.result (Adds (note_by c.args.comment c.args.self.now.time (event_at Passive kind)) c.args.self.now.passive c.log_message.new.self.passive))
    (sym c.in-Message.is) c.log_message.ensures.passive
