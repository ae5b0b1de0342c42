use Rattle.std.proofs.Common.{◌≡◌, length, vec_len, sym, ap, ◌∙◌, rules}
use Rattle.std.specs.Str.Lines.{strip_carriage_return}
use Rattle.hsms_log.specs.LineReader.{Reading}
use Rattle.hsms_log.proofs.Parts.{empty_is}
use Rattle.hsms_log.proofs.AuditInvariants.{last_none, last_follows, some_held}
use Rattle.hsms_log.proofs.line_reader.LineReader.finish.Goals as goal

pub returns-then-is_empty : goal.returns-then-is_empty
returns-then-is_empty c =
    let size : length c.self.inside.held.items ≡ 0 = search rules in
    let held = ap (λ (r : Reading). r.held) c.self.view_is in
    last_none c.args.self c.self.inside.line_checker c.verdict.result (ap (λ (r : Reading). r.line_checker) c.self.view_is)
    (sym held ∙ empty_is c.self.inside.held.items size) c.verdict.ensures

pub returns : goal.returns
returns c =
    let len : vec_len c.self.inside.held ≡ length c.self.inside.held.items = search rules in
    let held = ap (λ (r : Reading). r.held) c.self.view_is in
    let check_result = rw c.in_default.is at c.in_ok-why.ensures in
    last_follows c.args.self c.self.inside.line_checker c.line.new.self c.without_carriage_return.result.now c.verdict-2.result
    (ap (λ (r : Reading). r.line_checker) c.self.view_is) (λ none. some_held c.self.inside.held.items (vec_len c.self.inside.held) c.is_empty.result len c.is_empty.ensures c.if-is_empty.false (held ∙ none))
    (c.without_carriage_return.ensures ∙ ap strip_carriage_return (c.deref.ensures.value ∙ held)) check_result.1 c.verdict-2.ensures
