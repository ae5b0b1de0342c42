use Rattle.std.proofs.Common.{inl, inr, ◌≡◌, ℕ, ◌++◌, ◌-◌, ◌∙◌, ap, sym, append_assoc, arith}
use Rattle.std.proofs.lemmas.Bool.{cases_lt}
use Rattle.hsms_compare_repair.specs.Facts.{skipped_fact, skipped_facts}
use Rattle.hsms_compare_repair.proofs.Pushes.{skipped-step}
use Rattle.hsms_compare_repair.proofs.facts.push_skipped.Goals as goal

pub loop-k-preserved : goal.loop-k-preserved
loop-k-preserved c =
    let sent = c.args.sent.now in
    let last = c.args.skipped.now in
    let line = c.args.receiver in
    let k = c.loop-k.k in
    let before = skipped_facts sent last line c.args.next (k - c.args.next) in
    record {
      within = λ lt. omega arith;
      told = c.in_ok-push_if_skipped.ensures
          ∙ ap (λ x. x ++ skipped_fact sent last line k) c.loop-k.invariant.told
          ∙ append_assoc c.args.facts.now.items before (skipped_fact sent last line k)
          ∙ ap (λ x. c.args.facts.now.items ++ x) (sym (skipped-step sent last line c.args.next k c.loop-k.auto.k));
    }

pub returns : goal.returns
returns c =
    let count : c.loop-k.k - c.args.next ≡ c.args.number - c.args.next =
    elim (cases_lt c.args.number c.args.next) [
      | inl lt ↦ omega (arith, c.loop-k.invariant.within lt, lt)
      | inr ge ↦ omega (arith, c.loop-k.auto.k-end ge)
    ] in
    c.loop-k.invariant.told
    ∙ ap (λ (n : ℕ). c.args.facts.now.items ++ skipped_facts c.args.sent.now c.args.skipped.now c.args.receiver c.args.next n) count
