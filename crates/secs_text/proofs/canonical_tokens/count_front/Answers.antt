use Rattle.std.proofs.Common.{rules}
use Rattle.secs_text.proofs.CanonicalTokenLists.{counted_by_one}
use Rattle.secs_text.proofs.canonical_tokens.count_front.Goals as goal

pub returns-in-93-clause-counts : goal.returns-in-93-clause-counts
returns-in-93-clause-counts c = counted_by_one c.from.result c.args.octets.now (search rules) (search rules) (search rules) (search rules) (search rules)
