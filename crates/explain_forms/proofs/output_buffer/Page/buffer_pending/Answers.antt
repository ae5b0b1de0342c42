use Rattle.explain_forms.proofs.OutputBuffers.{emitted_pending}
use Rattle.explain_forms.proofs.output_buffer.Page.buffer_pending.Goals as goal

pub returns-clause-shown_line : goal.returns-clause-shown_line
returns-clause-shown_line c = λ text shown_line. emitted_pending c.args.self.now (record c.args.self.now { shown_line = c.give_all.new.out; block = c.give_all.new.self }) text shown_line c.give_all.ensures.given c.give_all.ensures.none_left
