use Rattle.secs_text.proofs.CanonicalTokenLists.{symbol_taken}
use Rattle.secs_text.proofs.tokens.Tokens.take_symbol.Goals as goal

pub returns-clause-taken : goal.returns-clause-taken
returns-clause-taken c = symbol_taken c.args.self.now.place c.args.spaces c.args.self.now.text.now c.args.token c.requires.consistent
