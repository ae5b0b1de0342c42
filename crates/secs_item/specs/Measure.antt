-- The results of the functions that take offsets, derived from the results for the bytes after the offset.
use Rattle.std.specs.Prelude.{ℕ, ◌+◌, Result, Ok, Err}
use Rattle.secs_item.specs.declared.fault.ItemFault.{ItemFault}
use Rattle.secs_item.specs.declared.header.Header.{Header}
use Rattle.secs_item.specs.Fault.{fault_at}
use Rattle.secs_item.specs.Header.{Reason, Head}

-- The header at an offset.
abbrev pub header_from : ℕ → Result Head Reason → Result Header ItemFault
header_from place (Ok head) = Ok (record { format = head.format; body = place + head.size; length = head.length })
header_from place (Err reason) = Err (fault_at place reason)
