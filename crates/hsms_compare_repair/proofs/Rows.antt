-- The first row that applies, by the rows before it that do not.
use Rattle.std.proofs.Common.{◌<◌, ℕ, List, length, Bool, refl, arith}
use Rattle.hsms_frame.specs.Frame.{Frame}
use Rattle.hsms_compare_repair.specs.declared.numbered_frame.NumberedFrame.{NumberedFrame}
use Rattle.hsms_compare_repair.specs.declared.finding.Finding.{Finding}
use Rattle.hsms_compare_repair.specs.declared.finding.Finding.TheVariants.{Next, Late, Altered, Repeated, Unknown}
use Rattle.hsms_compare_repair.specs.Findings.{Applies, HasNextHeader, IsAhead, IsFinding, IsLeast, IsRepeated, IsSkipped, row}

module _ (sent : List NumberedFrame) (more : Bool) (marks : List Bool) (frame : Frame) where
  abbrev pub NoneAhead : Type 0
  NoneAhead = (k : ℕ) → IsAhead sent (length marks) frame k → ⊥

  abbrev pub NoneSkipped : Type 0
  NoneSkipped = (k : ℕ) → IsSkipped sent marks frame k → ⊥

  before_late : NoneAhead → (other : Finding) → row other < 1 → Applies sent more marks frame other → ⊥
  before_late none (Next n k) lt a = none k a.1.holds
  before_late none (Late k) lt a = omega arith
  before_late none (Altered n) lt a = omega arith
  before_late none Repeated lt a = omega arith
  before_late none Unknown lt a = omega arith

  before_altered : NoneAhead → NoneSkipped → (other : Finding) → row other < 2 → Applies sent more marks frame other → ⊥
  before_altered none no_late (Next n k) lt a = none k a.1.holds
  before_altered none no_late (Late k) lt a = no_late k a.holds
  before_altered none no_late (Altered n) lt a = omega arith
  before_altered none no_late Repeated lt a = omega arith
  before_altered none no_late Unknown lt a = omega arith

  before_repeated : NoneAhead → NoneSkipped → (HasNextHeader sent (length marks) frame → ⊥) → (other : Finding) → row other < 3 → Applies sent more marks frame other → ⊥
  before_repeated none no_late no_header (Next n k) lt a = none k a.1.holds
  before_repeated none no_late no_header (Late k) lt a = no_late k a.holds
  before_repeated none no_late no_header (Altered n) lt a = no_header a.1
  before_repeated none no_late no_header Repeated lt a = omega arith
  before_repeated none no_late no_header Unknown lt a = omega arith

  before_unknown : NoneAhead → NoneSkipped → (HasNextHeader sent (length marks) frame → ⊥) → (IsRepeated sent more (length marks) frame → ⊥) → (other : Finding) → row other < 4 → Applies sent more marks frame other → ⊥
  before_unknown none no_late no_header no_repeat (Next n k) lt a = none k a.1.holds
  before_unknown none no_late no_header no_repeat (Late k) lt a = no_late k a.holds
  before_unknown none no_late no_header no_repeat (Altered n) lt a = no_header a.1
  before_unknown none no_late no_header no_repeat Repeated lt a = no_repeat a
  before_unknown none no_late no_header no_repeat Unknown lt a = omega arith

  pub is_next : (k : ℕ) → IsLeast (IsAhead sent (length marks) frame) k → IsFinding sent more marks frame (Next (length marks) k)
  is_next k h = record { applies = (refl, h); first = λ other lt a. omega arith }

  pub is_late : (k : ℕ) → NoneAhead → IsLeast (IsSkipped sent marks frame) k → IsFinding sent more marks frame (Late k)
  is_late k none h = record { applies = h; first = before_late none }

  pub is_altered : NoneAhead → NoneSkipped → HasNextHeader sent (length marks) frame → IsFinding sent more marks frame (Altered (length marks))
  is_altered none no_late h = record { applies = (refl, h); first = before_altered none no_late }

  pub is_repeated : NoneAhead → NoneSkipped → (HasNextHeader sent (length marks) frame → ⊥) → IsRepeated sent more (length marks) frame → IsFinding sent more marks frame Repeated
  is_repeated none no_late no_header h = record { applies = h; first = before_repeated none no_late no_header }

  pub is_unknown : NoneAhead → NoneSkipped → (HasNextHeader sent (length marks) frame → ⊥) → (IsRepeated sent more (length marks) frame → ⊥) → IsFinding sent more marks frame Unknown
  is_unknown none no_late no_header no_repeat = record { applies = tt; first = before_unknown none no_late no_header no_repeat }
