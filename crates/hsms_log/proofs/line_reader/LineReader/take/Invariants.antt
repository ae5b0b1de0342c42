use Rattle.std.proofs.Common.{◌≡◌, ◌+◌, ◌≤◌, ◌++◌, List, ℕ, length}
use Rattle.hsms_log.specs.LineReader.{StateInvariant}
use Rattle.hsms_log.proofs.line_reader.LineReader.take.Given as goal

-- The reader is in its state after the bytes that were passed.
abbrev pub invariant-loop-part : goal.invariant-loop-part
invariant-loop-part l =
    (done : List ℕ) × (l.octets ≡ done ++ l.rest)
    × ((text : List ℕ) → StateInvariant l.initial.self text → StateInvariant l.self (text ++ done))
    × (l.self.line_checker.tally.lines + length l.rest ≤ l.initial.self.line_checker.tally.lines + length l.octets)

abbrev pub decreases-loop-part : goal.decreases-loop-part
decreases-loop-part l = length l.rest
