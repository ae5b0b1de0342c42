use Rattle.cli_output.proofs.LineBuffers.{gives}
use Rattle.cli_output.proofs.line_buffer.ToSinkOutput.give.Goals as goal

pub returns-then-not-self : goal.returns-then-not-self
returns-then-not-self g c =
    gives c.give_all.result _ _ _ _ _ _ c.if-not-self.true c.is_err-self.ensures.value c.give_all.ensures.ok c.give_all.ensures.err c.give_all.ensures.failures
