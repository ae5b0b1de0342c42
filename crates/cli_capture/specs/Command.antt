-- What a call of `hsms capture` answers of its devices.
use Rattle.std.specs.Prelude.{◌≡◌, ◌≤◌, ◌-◌, ◌^◌, ◌++◌, length, List, ℕ, Bool, Option, Some, Result}
use Rattle.hsms_frame.specs.Io.{Grows, IfRecorded}
use Rattle.capture_errors.specs.declared.capture_error.CaptureError.{CaptureError}
use Rattle.capture_errors.specs.declared.capture_error.CaptureError.TheVariants as error
use Rattle.hsms_machine.specs.declared.settings.Role.{Role}
use Rattle.cli_capture.specs.SkippedPackets.{line_of}
use Rattle.cli_capture.specs.Report.{Answers, LogOutputState, found_behind, found_with, lines_of, nothing_found}
use Rattle.cli_capture.specs.declared.skipped_packets.LeftOut.{LeftOut}
use Rattle.capture_errors.specs.declared.incomplete.Shortfall.{Shortfall}

-- holds if some bytes were appended to the output
unfoldable pub GrowsBySome : Option (List ℕ) → Option (List ℕ) → Type 0
GrowsBySome old new = IfRecorded old (λ octets. (emitted : List ℕ) × (new ≡ Some (octets ++ emitted)))

-- Holds if the output of verdicts is complete: the lines of the connections that finished during reading, then of those
-- left at the end, then the line of skipped packets. The result follows from these, and from what is missing in the file.
abbrev pub CapturesTo : Role → Role → Option (List ℕ) → Option (List ℕ) → Result Bool CaptureError → Type 0
CapturesTo active passive before after result =
    (reading ending : List LogOutputState) × (missing : Option Shortfall) × (left_out : LeftOut)
    × Grows before after (lines_of active passive (reading ++ ending) ++ line_of left_out)
    × Answers (found_behind (found_with (found_behind nothing_found reading) missing) ending) result

-- holds if the error is that the input exceeds the counters
abbrev pub IsEndless : CaptureError → Type 0
IsEndless error.Endless = Unit {0}
IsEndless fault = ⊥

-- holds if the input has 2 ^ 64 - 4 bytes or more: reading takes at most that many steps, each of one byte or more
abbrev pub HasMany : List ℕ → Type 0
HasMany input = 2 ^ 64 - 4 ≤ length input
