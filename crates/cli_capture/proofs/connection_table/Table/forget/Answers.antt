use Rattle.std.proofs.Common.{rules}
use Rattle.cli_capture.proofs.Forgetting.{kept_if, left_out}
use Rattle.cli_capture.proofs.connection_table.Table.forget.Goals as goal

pub returns-then-self-eq0-clause-known : goal.returns-then-self-eq0-clause-known
returns-then-self-eq0-clause-known c =
    kept_if c.args.self.now.begun c.args.self.now.flows.entries c.retain.new.self.entries c.if-self-eq0.true
    (left_out _ c.args.self.now.begun _ (λ k v b w g call. search rules) c.args.self.now.flows.entries c.retain.new.self.entries c.retain.ensures.filtered)
