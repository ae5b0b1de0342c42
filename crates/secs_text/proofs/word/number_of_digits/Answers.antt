use Rattle.std.proofs.Common.{◌≡◌, true, sym, rules}
use Rattle.secs_text.specs.Words.{is_numeral}
use Rattle.secs_text.proofs.Numbers.{no_octets, leading_zero, no_number, few_just}
use Rattle.secs_text.proofs.word.number_of_digits.Goals as goal

pub returns-in_default : goal.returns-in_default
returns-in_default c = sym (no_number _ c.args.digits.now (no_octets c.args.digits.now c.in_default.len_below))

pub returns-then-not-is_empty : goal.returns-then-not-is_empty
returns-then-not-is_empty c = sym (no_number _ c.args.digits.now (leading_zero c.args.digits.now (search rules) (search rules)))

pub returns : goal.returns
returns c =
    let numeral : is_numeral c.args.digits.now ≡ true = search rules in
    few_just c.args.digits.now c.args.number c.requires.all numeral c.if-digits-gt19.false c.requires.number
