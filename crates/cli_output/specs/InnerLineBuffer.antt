-- What only contracts of private functions use, besides the definitions of `LineBuffer`.
use Rattle.std.specs.Prelude.{◌≡◌, ◌≤◌, ◌<◌, ℕ, List, ◌∷◌, length, take, Bool, true, false, Option, Some, if◌then◌else◌}
use Rattle.hsms_frame.specs.CallCounts.{next_count}
use Rattle.hsms_frame.specs.Io.{SinkState}

-- ---- what was given to an output to a sink

-- The bytes of a sink that started with n bytes and was given these: all are written, or a write failed after the first
-- n.
abbrev pub SentOctets : Bool → Option (List ℕ) → ℕ → List ℕ → Type 0
SentOctets false written before octets = (before ≤ length octets) × (written ≡ Some octets)
SentOctets true written before octets = (n : ℕ) × (before ≤ n) × (n < length octets) × (written ≡ Some (take n octets))

-- What was given to an output to a sink, as one list of numbers. Code that is generic over outputs passes on only
-- `Given`, and its caller needs what it knew of the sink before. The list starts with four numbers: the name of the
-- output's reference to the sink, how often the sink had failed before, 1 if the sink recorded its bytes, and the
-- number of bytes that it started with. The sink's bytes follow: those that it started with, and those that it was
-- given.
pub record Sent (name : ℕ) (has_failed : Bool) (state : SinkState) (given : List ℕ) : Type 0 where
  pub failures : ℕ
  pub is_reported : ℕ
  pub before : ℕ
  pub octets : List ℕ
  pub parts : given ≡ name ∷ failures ∷ is_reported ∷ before ∷ octets
  pub counts : state.failures ≡ (if has_failed then next_count failures else failures)
  pub written : is_reported ≡ 1 → SentOctets has_failed state.written before octets
