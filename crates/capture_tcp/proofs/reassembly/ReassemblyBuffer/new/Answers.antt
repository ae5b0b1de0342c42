use Rattle.std.proofs.Common.{ap}
use Rattle.capture_tcp.specs.Cells.{all_of}
use Rattle.capture_tcp.proofs.StoredCells.{holds_none}
use Rattle.capture_tcp.proofs.reassembly.ReassemblyBuffer.new.Goals as goal

pub returns-clause-held : goal.returns-clause-held
returns-clause-held c = λ d. holds_none (record { place = _; cells = all_of c.new.result }) d (ap all_of c.new.ensures)
