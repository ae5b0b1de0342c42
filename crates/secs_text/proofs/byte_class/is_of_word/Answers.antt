use Rattle.std.proofs.Common.{not, nat_eq, get_or, refl, arith}
use Rattle.std.proofs.lemmas.Bool.{agree_below_at}
use Rattle.secs_text.specs.Octets.{is_of_word}
use Rattle.secs_text.specs.declared.byte_class.TheConstants.{OF_WORD}
use Rattle.secs_text.proofs.byte_class.is_of_word.Goals as goal

pub returns : goal.returns
returns c = agree_below_at (λ k. not (nat_eq (get_or OF_WORD k 0) 46)) is_of_word 256 c.args.octet refl (omega arith)
