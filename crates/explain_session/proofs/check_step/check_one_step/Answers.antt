use Rattle.std.proofs.Common.{◌∙◌, sym, ap, subst}
use Rattle.std.specs.Prelude.{IfOk}
use Rattle.hsms_machine.specs.declared.entry.Entry.{Entry}
use Rattle.hsms_log.specs.declared.step.What.{What}
use Rattle.explain_session.specs.RepairedSession.{ChecksAs}
use Rattle.hsms_log.specs.Step.{entry_of_what}
use Rattle.explain_session.proofs.check_step.check_one_step.Goals as goal

pub returns-in-Frame-clause-check_result : goal.returns-in-Frame-clause-check_result
returns-in-Frame-clause-check_result c =
    let P : Entry → Type 0 = λ e. IfOk c.judge.result (ChecksAs c.args.repaired_session.now e c.judge.new.self) in
    subst P (c.of_frame.ensures ∙ ap (λ (w : What). entry_of_what c.args.step.time w c.args.text.now) (sym c.in-Frame.is)) c.judge.ensures.check_result

pub returns-in-Up-clause-check_result : goal.returns-in-Up-clause-check_result
returns-in-Up-clause-check_result c =
    let P : What → Type 0 = λ w. IfOk c.check_plain.result (ChecksAs c.args.repaired_session.now (entry_of_what c.args.step.time w c.args.text.now) c.check_plain.new.repaired_session) in
    subst P (sym c.in-Up.is) c.check_plain.ensures.check_result

pub returns-in-T3-clause-check_result : goal.returns-in-T3-clause-check_result
returns-in-T3-clause-check_result c =
    let P : What → Type 0 = λ w. IfOk c.check_plain-in-T3.result (ChecksAs c.args.repaired_session.now (entry_of_what c.args.step.time w c.args.text.now) c.check_plain-in-T3.new.repaired_session) in
    subst P (sym c.in-T3.is) c.check_plain-in-T3.ensures.check_result

pub returns-in-Cut-clause-check_result : goal.returns-in-Cut-clause-check_result
returns-in-Cut-clause-check_result c =
    let P : What → Type 0 = λ w. IfOk c.check_plain-in-Cut.result (ChecksAs c.args.repaired_session.now (entry_of_what c.args.step.time w c.args.text.now) c.check_plain-in-Cut.new.repaired_session) in
    subst P (sym c.in-Cut.is) c.check_plain-in-Cut.ensures.check_result

pub returns-in-Down-clause-check_result : goal.returns-in-Down-clause-check_result
returns-in-Down-clause-check_result c =
    let P : What → Type 0 = λ w. IfOk c.check_plain-in-Down.result (ChecksAs c.args.repaired_session.now (entry_of_what c.args.step.time w c.args.text.now) c.check_plain-in-Down.new.repaired_session) in
    subst P (sym c.in-Down.is) c.check_plain-in-Down.ensures.check_result
