use Rattle.std.proofs.Common.{◌≡◌, ◌+◌, ◌-◌, ◌*◌, ◌/◌, ◌<◌, ℕ, List, length, take, refl, sym, ◌∙◌, ap, subst, arith}
use Rattle.capture_pcap.specs.NextBlock.{options_at}
use Rattle.capture_pcap.proofs.Options.{too_few, at_end, unfinished, step}
use Rattle.capture_pcap.proofs.next_block.with_options.Goals as goal

pub loop-init : goal.loop-init
loop-init c =
    let e : length c.args.options.now - 0 ≡ length c.args.options.now = omega arith in
    rw e refl

pub returns-then-rest-lt4 : goal.returns-then-rest-lt4
returns-then-rest-lt4 c =
    sym (too_few (length c.args.options.now - c.loop.counter) c.args.order c.loop.rest.now c.loop.interface c.if-rest-lt4.true) ∙ c.loop.invariant

pub returns-then-code-eq0 : goal.returns-then-code-eq0
returns-then-code-eq0 c =
    sym (at_end (length c.args.options.now - c.loop.counter) c.args.order c.loop.rest.now c.loop.interface (sym c.short_at-code.ensures ∙ c.if-code-eq0.true)) ∙ c.loop.invariant

pub returns-then-rest-padded : goal.returns-then-rest-padded
returns-then-rest-padded c =
    let size_is = c.from-length.ensures ∙ c.short_at.ensures in
    sym (unfinished (length c.args.options.now - c.loop.counter) c.args.order c.loop.rest.now c.loop.interface c.if-rest-lt4.false (λ e. c.if-code-eq0.false (c.short_at-code.ensures ∙ e))
    (subst (λ (k : ℕ). length c.loop.rest.now - 4 < (k + 3) / 4 * 4) size_is c.if-rest-padded.true)) ∙ c.loop.invariant

pub loop-preserved : goal.loop-preserved
loop-preserved c =
    let value_is = c.split_at-in-loop.ensures.front ∙ ap (λ (body : List ℕ). take c.from-length.result body) c.split_at.ensures.back in
    step (length c.args.options.now) c.loop.counter c.args.order c.loop.rest.now c.loop.interface c.short_at-code.result c.from-length.result
    c.split_at-in-loop.result.0.now c.split_at-in-loop-2.result.1.now c.changed-interface.result _ c.loop-test.true c.if-rest-lt4.false
    c.short_at-code.ensures c.if-code-eq0.false (c.from-length.ensures ∙ c.short_at.ensures) c.if-rest-padded.false value_is
    c.split_at-in-loop-2.ensures.back c.changed-interface.ensures c.loop.invariant

pub returns : goal.returns
unfolding options_at
returns c =
    let e : length c.args.options.now - c.loop.counter ≡ 0 = omega (arith, c.loop-test.false) in
    sym (ap (λ (n : ℕ). options_at n c.args.order c.loop.rest.now c.loop.interface) e) ∙ c.loop.invariant
