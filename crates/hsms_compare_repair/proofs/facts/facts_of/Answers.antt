use Rattle.std.proofs.Common.{[], ◌∙◌, ◌++◌, ◌≡◌, ◌-◌, ℕ, length, map, drop, take, ap, refl, arith}
use Rattle.hsms_compare_repair.specs.declared.numbered_frame.NumberedFrame.{NumberedFrame}
use Rattle.hsms_compare_repair.specs.Facts.{facts_from}
use Rattle.hsms_compare_repair.proofs.Progress.{bounded}
use Rattle.hsms_compare_repair.proofs.Pushes.{all-told}
use Rattle.hsms_compare_repair.proofs.facts.facts_of.Goals as goal

pub lines_between-requires-clause-within : goal.lines_between-requires-clause-within
lines_between-requires-clause-within c =
    let m = c.in_ok-matching.matching in
    let b = bounded c.args.sent.now c.args.is_open [] 0 c.args.received.now m.findings.items m.skipped.items m.unknown c.in_ok-matching.ensures in
    omega (arith, b.0, c.len-2.ensures, m.findings.ok.0)

pub returns : goal.returns
returns c =
    let m = c.in_ok-matching.matching in
    let sent = c.args.sent.now in
    let received = c.args.received.now in
    let count = c.saturating_sub-count.result in
    let b = bounded sent c.args.is_open [] 0 received m.findings.items m.skipped.items m.unknown c.in_ok-matching.ensures in
    let first = c.in_ok-push_known.ensures ∙ ap (λ x. x ++ facts_from sent m.skipped.items received 0 (take count m.findings.items)) c.new-facts.ensures.items in
    record {
      findings = m.findings.items;
      last = m.skipped.items;
      left = m.unknown;
      found = c.in_ok-matching.ensures;
      told = all-told sent received c.args.is_open c.args.shown m.findings.items m.skipped.items m.unknown c.push_unknown.new.facts.items c.push_known.new.facts.items count (length sent) c.len-3.result c.as_slice.result.now
          first c.in_ok-push_unknown.ensures (omega (arith, c.len.ensures, c.saturating_sub-count.ensures, m.findings.ok.0)) (omega (arith, b.1)) refl (omega (arith, c.len-3.ensures, m.skipped.ok.0))
          (c.as_slice.ensures.value ∙ c.in_ok-lines.ensures
          ∙ ap (λ (x : ℕ). map (λ (frame : NumberedFrame). frame.line) (take (x - count) (drop count received))) (let e : c.len-2.result ≡ length m.findings.items = omega (arith, c.len-2.ensures, m.findings.ok.0) in e));
    }
