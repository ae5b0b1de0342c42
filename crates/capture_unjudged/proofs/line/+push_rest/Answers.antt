use Rattle.std.proofs.Common.{arith}
use Rattle.std.specs.Prelude.{string_bytes}
use Rattle.capture_unjudged.proofs.Recursions.{rest_dots, rest_first}
use Rattle.capture_unjudged.proofs.line.+push_rest.Goals as goal

pub returns-then-left-eq0 : goal.returns-then-left-eq0
returns-then-left-eq0 t c =
    rest_dots c.push_str.result (string_bytes c.args.part.now) (string_bytes c.push_str.new.self) c.args.numbers.now c.in-Some.rest.now c.args.left
    c.in-Some.first.now c.in-Some.ensures.cases.0 (omega (arith, c.if-left-eq0.true)) c.push_str.ensures.bytes

pub returns : goal.returns
returns t c =
    rest_first c.push_rest.result (string_bytes c.args.part.now) (string_bytes c.write.new.self) (string_bytes c.push_rest.new.part) c.args.numbers.now
    c.in-Some.rest.now c.args.left c.in-Some.first.now c.in-Some.ensures.cases.0 (omega (arith, c.if-left-eq0.false)) c.in_ok-write.ensures.bytes
    c.push_rest.ensures
