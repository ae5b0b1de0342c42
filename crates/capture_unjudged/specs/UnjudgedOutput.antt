-- What the command writes on what is not audited, and what it returns.
use Rattle.std.specs.Prelude.{◌≡◌, ◌⊎◌, ℕ, Bool, true, false, if◌then◌else◌, List, [], Result, Ok, Err}
use Rattle.capture_errors.specs.declared.capture_error.CaptureError.{CaptureError}
use Rattle.capture_errors.specs.declared.capture_error.CaptureError.TheVariants.{Refused, Write, Memory}
use Rattle.capture_errors.specs.declared.rejection.Rejection.TheVariants.{NotJudged}
use Rattle.capture_unjudged.specs.Line.{line_of}
use Rattle.capture_unjudged.specs.Unjudged.{is_refused}
use Rattle.capture_unjudged.specs.declared.unjudged.Unjudged.{Unjudged}

-- Holds if no allocation, read or write failed.
abbrev pub IsDone : Result Bool CaptureError → Type 0
IsDone (Ok well) = Unit {0}
IsDone (Err (Refused rejection)) = Unit {0}
IsDone (Err error) = ⊥

-- Holds if the line could not be made or written.
abbrev pub IsFailure : CaptureError → Type 0
IsFailure Write = Unit {0}
IsFailure Memory = Unit {0}
IsFailure error = ⊥

-- The line, if the capture was read up to where it is audited.
abbrev pub line_if : Unjudged → List ℕ
line_if u = if u.is_complete then line_of u else []

-- The result of the capture is kept, unless the line fails. But if each log passes, what no option excludes is refused.
abbrev pub Returns : Bool → Unjudged → Result Bool CaptureError → Result Bool CaptureError → Type 0
Returns has_port u (Ok true) (Ok well) = (well ≡ true) × (is_refused has_port u ≡ false)
Returns has_port u (Ok true) (Err error) = ((error ≡ Refused NotJudged) × (is_refused has_port u ≡ true)) ⊎ IsFailure error
Returns has_port u (Ok false) (Ok well) = well ≡ false
Returns has_port u (Ok false) (Err error) = IsFailure error
Returns has_port u (Err (Refused rejection)) (Ok well) = ⊥
Returns has_port u (Err (Refused rejection)) (Err error) = (error ≡ Refused rejection) ⊎ IsFailure error
Returns has_port u (Err other) result = result ≡ Err other
