use Rattle.std.proofs.Common.{rules}
use Rattle.secs_text.proofs.CanonicalTokenLists.{wait_taken}
use Rattle.secs_text.proofs.canonical_tokens.next_wait.Goals as goal

pub returns-clause-taken : goal.returns-clause-taken
returns-clause-taken c = λ is.
    wait_taken c.args.tokens.now.place c.args.tokens.now.text.now c.split_at.result.1.now c.split_at.ensures.back (search rules) (search rules) (search rules) (search rules)
