use Rattle.std.proofs.Common.{◌++◌, [], ◌∷◌}
use Rattle.std.specs.Prelude.{Some}
use Rattle.hsms_compare.specs.Readings.{line_of}
use Rattle.hsms_compare.proofs.LineContradictions.{first_there, not_both, not_there, read_as}
use Rattle.hsms_compare.proofs.line_contradiction.LineContradiction.first_sent.Goals as goal

pub returns-then-is_sent-clause-sent : goal.returns-then-is_sent-clause-sent
returns-then-is_sent-clause-sent g c lines more h =
    let i = c.loop-next.invariant.0 lines more h in
    let n = c.in_ok-next.ensures.entry i.0 more i.2 in
    let r = read_as i.0 n.0 c.in_ok-next.field-0 (Some c.in-Some.next) c.in-Some.is n.1 in
    first_there lines i.1 i.0 n.0 c.in-Some.next i.3 i.4 r (c.is_sent.ensures.0 c.if-is_sent.true)

pub loop-next-preserved-else-is_sent-2 : goal.loop-next-preserved-else-is_sent-2
loop-next-preserved-else-is_sent-2 g c = (
  λ lines more h.
      (let i = c.loop-next.invariant.0 lines more h in
      let n = c.in_ok-next.ensures.entry i.0 more i.2 in
      let r = read_as i.0 n.0 c.in_ok-next.field-0 (Some c.in-Some.next) c.in-Some.is n.1 in
      let m = not_there lines i.1 i.0 n.0 c.in-Some.next i.3 i.4 r (λ some. not_both c.is_sent.result c.if-is_sent.false (c.is_sent.ensures.1 some)) in
      (n.0, i.1 ++ line_of c.in-Some.next ∷ [], n.2, m.0, m.1)),
  λ text reads. c.in_ok-next.ensures.text text (c.loop-next.invariant.1 text reads),
)

pub loop-next-preserved-else-is_sent-3 : goal.loop-next-preserved-else-is_sent-3
loop-next-preserved-else-is_sent-3 g c = (
  λ lines more h.
      (let i = c.loop-next.invariant.0 lines more h in
      let n = c.in_ok-next.ensures.entry i.0 more i.2 in
      let r = read_as i.0 n.0 c.in_ok-next.field-0 (Some c.in-Some.next) c.in-Some.is n.1 in
      let m = not_there lines i.1 i.0 n.0 c.in-Some.next i.3 i.4 r (λ some. not_both c.is_sent.result c.if-is_sent.false (c.is_sent.ensures.1 some)) in
      (n.0, i.1 ++ line_of c.in-Some.next ∷ [], n.2, m.0, m.1)),
  λ text reads. c.in_ok-next.ensures.text text (c.loop-next.invariant.1 text reads),
)

pub loop-next-preserved : goal.loop-next-preserved
loop-next-preserved g c = (
  λ lines more h.
      (let i = c.loop-next.invariant.0 lines more h in
      let n = c.in_ok-next.ensures.entry i.0 more i.2 in
      let r = read_as i.0 n.0 c.in_ok-next.field-0 (Some c.in-Some.next) c.in-Some.is n.1 in
      let m = not_there lines i.1 i.0 n.0 c.in-Some.next i.3 i.4 r (λ some. not_both c.is_sent.result c.if-is_sent.false (c.is_sent.ensures.1 some)) in
      (n.0, i.1 ++ line_of c.in-Some.next ∷ [], n.2, m.0, m.1)),
  λ text reads. c.in_ok-next.ensures.text text (c.loop-next.invariant.1 text reads),
)
