use Rattle.hsms_endpoint.specs.Turn.{bytes}
use Rattle.hsms_endpoint.proofs.Calls.{refused_at_once}
use Rattle.hsms_endpoint.proofs.end.End.bytes.Goals as goal

pub returns-in_err-ready : goal.returns-in_err-ready
returns-in_err-ready g c =
    refused_at_once g.D.TurnDesk.answers_after c.self.inside.desk c.self.inside.state c.self.inside.spent c.args.self.now (bytes c.args.octets.now) c.in_err-ready.field-0.0 c.from_residual.result
    c.self.view_is (λ down. down) c.in_err-ready.ensures.refused c.from_residual.ensures.1
