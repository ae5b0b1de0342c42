use Rattle.std.proofs.Common.{◌≡◌, ◌∙◌, true, get_or, rules}
use Rattle.secs_text.specs.Octets.{is_digit}
use Rattle.secs_text.proofs.Prefixes.{prefix_continues}
use Rattle.secs_text.proofs.Numbers.{value_more, modulo_more}
use Rattle.secs_text.proofs.word.leading_number.Goals as goal

pub loop-i-preserved : goal.loop-i-preserved
loop-i-preserved c =
    let w = c.args.octets.now in
    let i = c.loop-i.i in
    let digit : is_digit (get_or w i 0) ≡ true = search rules in
    record {
      all = prefix_continues is_digit w i c.loop-i.invariant.all digit c.loop-i-test.true;
      value = modulo_more c.loop-i.number _ _ c.from.result c.loop-i.invariant.value (value_more w i digit c.loop-i-test.true ∙ search rules);
    }
