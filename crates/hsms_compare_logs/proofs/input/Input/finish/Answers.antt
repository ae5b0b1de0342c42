use Rattle.hsms_compare_logs.proofs.Inputs.{finished}
use Rattle.hsms_compare_logs.proofs.input.Input.finish.Goals as goal

pub returns : goal.returns
returns g c =
    finished c.finish.result (g.R.Source.state c.args.self.source).left (g.R.Source.state c.loop-input.input.source).left (g.R.Source.state c.pull.new.self.source).left
    c.args.self.audit c.loop-input.input.audit c.pull.new.self.audit c.pull.new.self.block.items
    c.finish.ensures c.loop-input.invariant c.in_ok-pull.ensures.text (c.in_ok-pull.ensures.end c.if-branch.false) c.in_ok-pull.ensures.block
