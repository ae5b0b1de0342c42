-- For private contracts: a log that is read from a source, line by line.
use Rattle.std.specs.Prelude.{◌+◌, ◌-◌, ◌^◌, ℕ, List, length}
use Rattle.hsms_compare_logs.specs.Audited.{AuditState}

-- The number of bytes that may still be processed.
abbrev pub room : List ℕ → AuditState → ℕ
room block audit = length block + (2 ^ 62 - audit.taken)
