use Rattle.secs_text.proofs.token.front.Goals as goal

pub returns-in-34-clause-front : goal.returns-in-34-clause-front
returns-in-34-clause-front c = rw (c.in-34.is, ← c.split_at.ensures.back) c.quoted.ensures.front
