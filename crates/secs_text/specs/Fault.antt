-- The error of a text: its first token that is not allowed at its position. This is project-specific.
use Rattle.std.specs.Prelude.{◌≡◌, ℕ, true, false, Ok, Err, List, [], ◌∷◌, ◌++◌}
use Rattle.secs_text.specs.declared.fault.TextFault.{TextFault}
use Rattle.secs_text.specs.Token.{Placed, tokens}
use Rattle.secs_text.specs.ParserStates.{Rules, Place, start, step, walk}

-- The rules for a text that is one message.
abbrev pub one_message : ℕ → Rules
one_message depth = record { several = false; depth = depth }

-- The rules for a text of any number of messages, in order.
abbrev pub any_messages : ℕ → Rules
any_messages depth = record { several = true; depth = depth }

-- Holds if the tokens before this one lead from the start to a parser state in which this token is not allowed, for
-- this reason. The tokens after it do not matter.
pub record FirstFault (rules : Rules) (text : List ℕ) (f : TextFault) : Type 0 where
  pub before : List Placed
  pub place : Place
  pub leads : walk rules (start []) before ≡ Ok place
  pub token : Placed
  pub faults : step rules place token.at token.token ≡ Err f
  pub after : List Placed
  pub parts : tokens text ≡ before ++ token ∷ after

-- Holds if the text is not a message within the depth, for this reason.
abbrev pub NoteFault : List ℕ → ℕ → TextFault → Type 0
NoteFault text depth f = FirstFault (one_message depth) text f

-- Holds if the text is not messages within the depth, for this reason.
abbrev pub NotesFault : List ℕ → ℕ → TextFault → Type 0
NotesFault text depth f = FirstFault (any_messages depth) text f
