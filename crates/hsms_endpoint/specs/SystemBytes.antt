-- The system bytes that an endpoint gives its own transactions (SEMI E37, section 8, message format: unique among the
-- open transactions of the sender). Counting them up is project-specific.
use Rattle.std.specs.Prelude.{◌≡◌, ℕ, ◌+◌, ◌<◌, ◌^◌, ◌%◌, false}
use Rattle.hsms_machine.specs.declared.view.View.{View}
use Rattle.hsms_machine.specs.View.{in_use_of}

-- The number that is k further on, wrapping after ffffffff to 0.
abbrev pub number_on : ℕ → ℕ → ℕ
number_on next places = (next + places) % 2 ^ 32

-- Holds if no open own transaction has the number.
abbrev pub IsFree : View → ℕ → Type 0
IsFree view number = in_use_of view number ≡ false

-- The first free number from the next one on.
pub record IsFirstFree (view : View) (next number : ℕ) : Type 0 where
  pub places : ℕ
  pub place : number ≡ number_on next places
  pub free : IsFree view number
  pub others : (k : ℕ) → k < places → ¬ IsFree view (number_on next k)
