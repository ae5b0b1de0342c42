use Rattle.std.proofs.Common.{◌≡◌, ◌+◌, ◌-◌, ◌*◌, length, inl, inr, subst, ◌∙◌, arith}
use Rattle.hsms_log.specs.InnerDigits.{AreRead, HasOther}
use Rattle.hsms_log.proofs.Decoding.{decoded, undecoded, read_on, greater_small, greater_large}
use Rattle.hsms_log.proofs.digits.decode.Goals as goal

pub loop-i-preserved : goal.loop-i-preserved
loop-i-preserved c =
    let k = c.loop-i in
    let i = k.i in
    let values = c.decode_at.result in
    let next : 8 * i + 8 ≡ 8 * (i + 1) = omega arith in
    record {
      len = c.decode_at.ensures.len ∙ k.invariant.len;
      read = λ small.
          let both = greater_small k.greatest values k.auto.greatest.0 c.decode_at.ensures.sixteen small in
          subst (λ n. AreRead c.args.digits.now c.decode_at.new.octets n) next
          (read_on c.args.digits.now values k.octets c.decode_at.new.octets (8 * i) (8 * i) (omega arith) (k.invariant.read both.0) c.decode_at.ensures.values both.1 c.decode_at.ensures.before (c.decode_at.ensures.joined both.1));
      other = λ j less large.
          elim (greater_large k.greatest values j k.auto.greatest.0 c.decode_at.ensures.sixteen less large) [
            | inl before ↦ k.invariant.other j less before
            | inr here ↦ (2 * (8 * i) + j, omega (arith, c.requires.size, c.loop-i-test.true, less), (c.decode_at.ensures.values j less).1 here)
          ];
    }

pub returns-clause-digits : goal.returns-clause-digits
returns-clause-digits c = λ e.
    let k = c.loop-i in
    let values = c.decode_at-2.result in
    let same = k.invariant.len in
    let size = c.decode_at-2.ensures.len in
    let both = greater_small k.greatest values k.auto.greatest.0 c.decode_at-2.ensures.sixteen (c.are_small.ensures.all e) in
    let read = read_on c.args.digits.now values k.octets c.decode_at-2.new.octets (length k.octets - 8) (8 * k.i) (omega (arith, c.loop-i-test.false, same, c.requires.some)) (k.invariant.read both.0) c.decode_at-2.ensures.values both.1 c.decode_at-2.ensures.before (c.decode_at-2.ensures.joined both.1) in
    let whole : length k.octets - 8 + 8 ≡ length c.decode_at-2.new.octets = omega (arith, size, same, c.requires.some) in
    decoded c.args.digits.now c.decode_at-2.new.octets (omega (arith, c.requires.size, size, same))
    (subst (λ n. AreRead c.args.digits.now c.decode_at-2.new.octets n) whole read)

pub returns-clause-other : goal.returns-clause-other
returns-clause-other c = λ e.
    let k = c.loop-i in
    let large = c.are_small.ensures.some e in
    let other : HasOther c.args.digits.now = elim (greater_large k.greatest c.decode_at-2.result large.0 k.auto.greatest.0 c.decode_at-2.ensures.sixteen large.1 large.2) [
      | inl before ↦ k.invariant.other large.0 large.1 before
      | inr here ↦ (2 * (length k.octets - 8) + large.0, omega (arith, c.requires.size, c.requires.some, k.invariant.len, large.1), (c.decode_at-2.ensures.values large.0 large.1).1 here)
    ] in
    undecoded c.args.digits.now other.0 other.1 other.2
