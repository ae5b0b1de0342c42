use Rattle.std.proofs.Common.{rules}
use Rattle.secs_text.proofs.CanonicalTokenLists.{small_of_two}
use Rattle.secs_text.proofs.canonical_tokens.small_number.Goals as goal

pub returns-in-len3-up-clause-small : goal.returns-in-len3-up-clause-small
returns-in-len3-up-clause-small c = small_of_two c.args.octets.now (search rules) (search rules) (search rules) (search rules) (search rules) (search rules) (search rules)
