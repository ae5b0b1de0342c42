use Rattle.std.proofs.Common.{◌≡◌, ℕ, Some, ap, ◌∙◌}
use Rattle.capture_log.specs.AuditedLog.{CurrentState, packet_named}
use Rattle.capture_log.proofs.Logs.{noted}
use Rattle.capture_log.proofs.audited_log.AuditedLog.note.Goals as goal

pub returns-clause-added : goal.returns-clause-added
returns-clause-added c =
    let inside = c.self.inside in
    let start : ℕ → CurrentState = λ n. record { auditor = inside.auditor; lines = inside.lines; packet = n; failed = inside.failed } in
    let named : start c.packet_of-self-inside.result ≡ record c.args.self.now { packet = packet_named c.args.self.now.packet c.args.remark } =
    ap start c.packet_of-self-inside.ensures ∙ ap (λ (s : CurrentState). record s { packet = packet_named s.packet c.args.remark }) c.self.view_is in
    noted c.enter.result c.args.self.now (start c.packet_of-self-inside.result) c.comment.new.self c.enter.new.self
    (record { remark = c.args.remark; entry = Some c.args.entry.now }) named c.in_ok-comment.ensures.reception c.enter.ensures.reception
