use Rattle.std.proofs.Common.{◌∙◌, ap, sym}
use Rattle.hsms_machine.specs.Transaction.{passes, answers}
use Rattle.hsms_machine.proofs.Mapped.{any_at, answers_only}
use Rattle.hsms_machine.proofs.open_transactions.Transactions.has_request_of.Goals as goal

pub returns-in-Some : goal.returns-in-Some
returns-in-Some c =
    let found = rw c.header.ensures at c.in-Some.ensures.found in
    c.answers.ensures ∙ ap (passes (λ opened. answers opened.header c.args.response)) found
    ∙ sym (any_at (λ opened. answers opened.header c.args.response) c.args.response.system (answers_only c.args.response) c.args.self.now c.in-Some.ensures.apart)

pub returns-in-None : goal.returns-in-None
returns-in-None c =
    let found = rw c.header.ensures at c.in-None.ensures.found in
    ap (passes (λ opened. answers opened.header c.args.response)) found
    ∙ sym (any_at (λ opened. answers opened.header c.args.response) c.args.response.system (answers_only c.args.response) c.args.self.now c.in-None.ensures.apart)
