-- The abstract state of an endpoint (project-specific).
use Rattle.std.specs.Prelude.{ℕ, Bool, false, List, []}
use Rattle.hsms_machine.specs.declared.view.View.{View}
use Rattle.hsms_machine.specs.Settings.{Parameters}
use Rattle.hsms_machine.specs.View.{view_of}

pub record EndState : Type 0 where
  -- The settings of its session.
  pub settings : Parameters
  -- The state that its log shows.
  pub view : View
  -- The received bytes that belong to no complete message yet.
  pub pending : List ℕ
  -- Its current time, in milliseconds.
  pub moment : ℕ
  -- The first value that is tried for own system bytes.
  pub next : ℕ
  -- The time of the last received byte.
  pub reception : ℕ
  -- The number of messages of each name that were passed to the handler.
  pub asked : List (ℕ × ℕ)
  -- True if an allocation failed.
  pub spent : Bool

-- An endpoint and its message handler.
pub record EndOf (D : Type 0) : Type 0 where
  pub desk : D
  pub known : EndState

-- An endpoint that has received no input and starts no earlier than at this time. Its log is empty, and its first own
-- system bytes are this number.
abbrev pub initial_since : Parameters → ℕ → ℕ → EndState
initial_since settings first_system moment = record {
  settings = settings;
  view = view_of settings [];
  pending = [];
  moment = moment;
  next = first_system;
  reception = 0;
  asked = [];
  spent = false;
}

-- An endpoint that starts at any time.
abbrev pub initial_state : Parameters → ℕ → EndState
initial_state settings first_system = initial_since settings first_system 0
