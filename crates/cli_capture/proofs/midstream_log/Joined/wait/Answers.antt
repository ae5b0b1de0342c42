use Rattle.std.proofs.Common.{◌≡◌, ◌≤◌, ◌<◌, ℕ, ◌∙◌, arith, length, vec_len, rules, refl, subst}
use Rattle.std.proofs.lemmas.Result.{err_from_is_err_and}
use Rattle.cli_capture.proofs.SessionRefusals.{wait_refused}
use Rattle.cli_capture.proofs.Unrefused.{err_map, is_memory_in_log, memory_in_log}
use Rattle.cli_capture.proofs.Sessions.{ok_map, pushed_by, waits_full, waits_on}
use Rattle.cli_capture.proofs.midstream_log.Joined.wait.Goals as goal

pub returns-then-len-le-GREATEST_WAIT-clause-waits : goal.returns-then-len-le-GREATEST_WAIT-clause-waits
returns-then-len-le-GREATEST_WAIT-clause-waits c =
    let len : vec_len c.push.new.self ≡ length c.push.new.self.items = search rules in
    let pushed = pushed_by c.note.new.self.waiting.items c.push.new.self.items c.args.happening _ c.is_err.result c.push.ensures.items c.is_err.ensures.negation
    c.if-is_err.false in
    let count = c.len.ensures ∙ len in
    waits_on c.args.pair.now c.args.from c.args.message c.args.happening c.args.self.now c.note.new.self _ c.args.report.now c.note.ensures.same
    c.in_ok-note.ensures.noted refl pushed (subst (λ (n : ℕ). n ≤ 4096) count c.if-len-le-GREATEST_WAIT.true)

pub returns-clause-waits : goal.returns-clause-waits
returns-clause-waits c =
    let len : vec_len c.push.new.self ≡ length c.push.new.self.items = search rules in
    let pushed = pushed_by c.note.new.self.waiting.items c.push.new.self.items c.args.happening _ c.is_err.result c.push.ensures.items c.is_err.ensures.negation
    c.if-is_err.false in
    let count = c.len.ensures ∙ len in
    let many : 4096 < length c.push.new.self.items = subst (λ (n : ℕ). 4096 < n) count c.if-len-le-GREATEST_WAIT.false in
    ok_map c.decide.result
    (λ progress. waits_full c.args.pair.now c.args.from c.args.message c.args.happening progress c.args.self.now c.note.new.self _ c.decide.new.self c.args.report.now
    c.decide.new.report c.note.ensures.same c.in_ok-note.ensures.noted refl pushed (λ few. omega (arith, few, many))) c.decide.ensures.decides

pub returns-in_err-note-clause-refuses : goal.returns-in_err-note-clause-refuses
returns-in_err-note-clause-refuses c =
    let p = err_from_is_err_and c.from_residual.result c.from_residual.ensures.1 in
    rw (p.1, p.2) (is_memory_in_log _ c.args.report.now _ c.in_err-note.ensures.memory)

pub returns-clause-refuses : goal.returns-clause-refuses
returns-clause-refuses c =
    let len : vec_len c.push.new.self ≡ length c.push.new.self.items = search rules in
    let pushed = pushed_by c.note.new.self.waiting.items c.push.new.self.items c.args.happening _ c.is_err.result c.push.ensures.items c.is_err.ensures.negation
    c.if-is_err.false in
    let count = c.len.ensures ∙ len in
    let many : 4096 < length c.push.new.self.items = subst (λ (n : ℕ). 4096 < n) count c.if-len-le-GREATEST_WAIT.false in
    err_map c.decide.result
    (λ st. wait_refused c.args.pair.now c.args.from c.args.message c.args.happening c.args.self.now c.note.new.self _ st c.args.report.now c.decide.new.report
    c.note.ensures.same c.in_ok-note.ensures.noted refl pushed (λ few. omega (arith, few, many))) c.decide.ensures.refuses

pub returns-then-is_err-clause-refuses : goal.returns-then-is_err-clause-refuses
returns-then-is_err-clause-refuses c = memory_in_log c.args.report.now _
