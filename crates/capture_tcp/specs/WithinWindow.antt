-- What is accepted is in the window.
use Rattle.std.specs.Prelude.{◌≡◌, ℕ, List, length}
use Rattle.capture_tcp.specs.TcpStreams.{Cell}
use Rattle.capture_tcp.specs.Reassembly.{EndsFar}

-- Holds if a packet at an offset that carries some of these cells does not end outside the window after the first
-- buffered cell.
abbrev pub StaysNear : ℕ → ℕ → List Cell → Type 0
StaysNear first place cells = EndsFar first place cells → length cells ≡ 0
