use Rattle.capture_log.specs.BothLogs.{remark_alone}
use Rattle.capture_tcp.specs.declared.packet.Side.TheVariants.{Active, Passive}
use Rattle.capture_verdicts.specs.VerdictReport.{event_at}
use Rattle.capture_verdicts.specs.InnerReportState.{note_by}
use Rattle.capture_verdicts.proofs.LogNotes.{adds_item, at_ok, note_none, note_some}
use Rattle.capture_verdicts.proofs.pair_logs.PairLogs.log.Goals as goal

pub returns-in-None-clause-added : goal.returns-in-None-clause-added
returns-in-None-clause-added c =
    let was = c.args.self.now.time in
    adds_item c.log_comment.result c.args.item c.args.self.now c.log_comment.new.self (remark_alone c.args.item.comment) (remark_alone c.args.item.comment)
    (note_none Active was c.args.item c.in-None.is) (note_none Passive was c.args.item c.in-None.is)
    c.log_comment.ensures.active c.log_comment.ensures.passive (at_ok _ _ _ c.log_comment.result c.log_comment.ensures.same c.max-self.ensures)

pub returns-in-Some-clause-added : goal.returns-in-Some-clause-added
returns-in-Some-clause-added c =
    let was = c.args.self.now.time in
    let kind = c.in-Some.kind in
    adds_item c.log_entry.result c.args.item c.args.self.now c.log_entry.new.self (note_by c.args.item.comment c.max-self.result (event_at Active kind))
    (note_by c.args.item.comment c.max-self.result (event_at Passive kind))
    (note_some Active was c.max-self.result c.args.item kind c.max-self.ensures c.in-Some.is) (note_some Passive was c.max-self.result c.args.item kind c.max-self.ensures c.in-Some.is)
    c.log_entry.ensures.active c.log_entry.ensures.passive (at_ok _ _ _ c.log_entry.result c.log_entry.ensures.same c.max-self.ensures)
