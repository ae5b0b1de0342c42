use Rattle.secs_text.proofs.CanonicalTokenLists.{opening_taken}
use Rattle.secs_text.proofs.canonical_tokens.next_opening.Goals as goal

pub returns-clause-taken : goal.returns-clause-taken
returns-clause-taken c =
    opening_taken c.args.tokens.now.place c.in_ok-format.name c.in_ok-number.number c.in_ok-number.digits c.in_ok-format.format c.args.tokens.now.text.now c.split_at.result.1.now c.split_at-2.result.1.now
    c.split_at.ensures.back c.in_ok-format.ensures.names c.split_at-2.ensures.back c.in_ok-number.ensures.counts
