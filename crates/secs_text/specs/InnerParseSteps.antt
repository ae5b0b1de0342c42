-- Reading of a part of a text: the tokens that it consumes lead from one parser state to another, or to an error.
use Rattle.std.specs.Prelude.{◌≡◌, ℕ, true, false, Option, Some, None, Result, Ok, Err}
use Rattle.secs_text.specs.declared.fault.TextFault.{TextFault}
use Rattle.secs_text.specs.declared.fault.TextFault.TheVariants as fault
use Rattle.secs_text.specs.declared.token.Count.{Count}
use Rattle.secs_text.specs.ParserStates as math
use Rattle.secs_text.specs.ParserStates.{Step, is_counted, count_place}

-- Holds if the remaining tokens lead to this error, unless an allocation failed.
abbrev pub Fails : TextFault → Step → Type 0
Fails fault.Memory s = Unit {0}
Fails f s = s ≡ Err f

-- Holds if the tokens left before and the tokens left now lead to the same step. Those left now start from the state
-- that the result gives.
abbrev pub Reads : {X : Type 0} → Result X TextFault → Step → (X → Step) → Type 0
Reads (Ok x) before after = before ≡ after x
Reads (Err f) before after = Fails f before

abbrev pub count_seen : Option Count → Option math.Count
count_seen None = None
count_seen (Some c) = Some (record { at = c.at; number = c.number })

-- Holds if a written count is right, or its error is returned.
abbrev pub Checks : Option math.Count → ℕ → Result (Unit {0}) TextFault → Type 0
Checks c n (Ok x) = is_counted c n ≡ true
Checks c n (Err f) = (is_counted c n ≡ false) × (f ≡ fault.Count (count_place c))
