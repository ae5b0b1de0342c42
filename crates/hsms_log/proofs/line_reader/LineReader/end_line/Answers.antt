use Rattle.std.proofs.Common.{◌≡◌, ◌++◌, length, sym, ap, ◌∙◌, rules, refl}
use Rattle.std.specs.Str.Lines.{strip_carriage_return}
use Rattle.hsms_log.specs.declared.audit_state.LineChecker.{LineChecker}
use Rattle.hsms_log.specs.LineReader.{Reading}
use Rattle.hsms_log.proofs.Parts.{empty_is}
use Rattle.hsms_log.proofs.AuditInvariants.{line_ended, overlong_line}
use Rattle.hsms_log.proofs.line_reader.LineReader.end_line.Goals as goal

pub returns-then-is_empty : goal.returns-then-is_empty
returns-then-is_empty c =
    let size : length c.self.inside.held.items ≡ 0 = search rules in
    let none = empty_is c.self.inside.held.items size in
    let held = ap (λ (r : Reading). r.held) c.self.view_is in
    let line_is = c.without_carriage_return.ensures ∙ ap (λ h. strip_carriage_return (h ++ c.args.part.now)) (sym (sym held ∙ none)) in
    line_ended c.line.result c.args.self.now (record { line_checker = c.line.new.self; held = c.self.inside.held.items }) c.self.inside.line_checker c.args.part.now
    c.without_carriage_return.result.now c.requires.part none (ap (λ (r : Reading). r.line_checker) c.self.view_is) line_is c.line.ensures

pub returns-in-Some : goal.returns-in-Some
returns-in-Some c =
    let long = rw c.in-Some.is at c.in_ok-why.ensures.overlong in
    (ap (λ (j : LineChecker). j.tally.lines) c.hold.ensures.line_checker, λ text. overlong_line c.args.self.now text c.args.part.now c.in-Some.why c.requires.part long.0 long.1)

pub returns : goal.returns
returns c =
    let held_is = rw c.in_default.is at c.in_ok-why.ensures.held in
    let same = ap (λ (r : Reading). r.held) c.self-2.view_is in
    let line_is = c.without_carriage_return-2.ensures ∙ ap strip_carriage_return (c.deref.ensures.value ∙ same ∙ held_is refl) in
    line_ended c.line-answer.result c.args.self.now (record { line_checker = c.line-answer.new.self; held = c.clear.new.self.items }) c.self-2.inside.line_checker c.args.part.now
    c.without_carriage_return-2.result.now c.requires.part c.clear.ensures.items (ap (λ (r : Reading). r.line_checker) c.self-2.view_is ∙ c.hold.ensures.line_checker)
    line_is c.line-answer.ensures
