use Rattle.std.proofs.Common.{◌++◌, ◌∙◌, ℕ, ap, sym, take, append_assoc, arith}
use Rattle.hsms_compare_repair.specs.Facts.{facts_at, facts_from, line_at}
use Rattle.hsms_compare_repair.proofs.Pushes.{from-more}
use Rattle.hsms_compare_repair.proofs.facts.push_known.Goals as goal

pub loop-index-preserved : goal.loop-index-preserved
loop-index-preserved c =
    let sent = c.args.sent.now in
    let m = c.args.matching.now in
    let i = c.loop-index.index in
    let found = c.index-found.result.now in
    let before = facts_from sent m.skipped.items c.args.received.now 0 (take i m.findings.items) in
    c.in_ok-push_at.ensures
    ∙ ap (λ x. c.loop-index.facts.items ++ facts_at sent x c.line_of-line.result found) c.as_slice.ensures.value
    ∙ ap (λ (x : ℕ). c.loop-index.facts.items ++ facts_at sent m.skipped.items x found) c.line_of-line.ensures
    ∙ ap (λ x. x ++ facts_at sent m.skipped.items (line_at c.args.received.now i) found) c.loop-index.invariant
    ∙ append_assoc c.args.facts.now.items before (facts_at sent m.skipped.items (line_at c.args.received.now i) found)
    ∙ ap (λ x. c.args.facts.now.items ++ x) (sym (from-more sent m.skipped.items c.args.received.now m.findings.items i found found (omega arith) c.index-found.ensures))
