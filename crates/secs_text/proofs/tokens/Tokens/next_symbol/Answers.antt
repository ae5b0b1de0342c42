use Rattle.std.proofs.Common.{refl, rules}
use Rattle.secs_text.proofs.CanonicalTokenLists.{symbol_first, symbol_second}
use Rattle.secs_text.proofs.tokens.Tokens.next_symbol.Goals as goal

pub take_symbol-requires-clause-consistent : goal.take_symbol-requires-clause-consistent
take_symbol-requires-clause-consistent c = symbol_second _ c.split_at.result.1.now 0x3C _ c.split_at.ensures.back (search rules) (search rules) (search rules) (record { fronts = λ _. refl; can_continue = refl })

pub take_symbol-requires-in-62-clause-consistent : goal.take_symbol-requires-in-62-clause-consistent
take_symbol-requires-in-62-clause-consistent c = symbol_first _ c.split_at.result.1.now 0x3E _ c.split_at.ensures.back (search rules) (search rules) (record { fronts = λ _. refl; can_continue = refl })

pub take_symbol-requires-in-32-2-clause-consistent : goal.take_symbol-requires-in-32-2-clause-consistent
take_symbol-requires-in-32-2-clause-consistent c = symbol_second _ c.split_at.result.1.now 0x2E _ c.split_at.ensures.back (search rules) (search rules) (search rules) (record { fronts = λ _. refl; can_continue = refl })

pub take_symbol-requires-in-91-clause-consistent : goal.take_symbol-requires-in-91-clause-consistent
take_symbol-requires-in-91-clause-consistent c = symbol_first _ c.split_at.result.1.now 0x5B _ c.split_at.ensures.back (search rules) (search rules) (record { fronts = λ _. refl; can_continue = refl })

pub take_symbol-requires-in-93-clause-consistent : goal.take_symbol-requires-in-93-clause-consistent
take_symbol-requires-in-93-clause-consistent c = symbol_first _ c.split_at.result.1.now 0x5D _ c.split_at.ensures.back (search rules) (search rules) (record { fronts = λ _. refl; can_continue = refl })
