-- What only contracts of private functions use, besides the definitions of `EventSteps`.
use Rattle.std.specs.Prelude.{◌≡◌, ◌≤◌, ◌+◌, ℕ, List, [], ◌∷◌, ◌++◌, length, take, drop, ◌-◌, map, Option}
use Rattle.capture_tcp.specs.declared.reassembly.Cell.{Cell as HeldCell}
use Rattle.capture_tcp.specs.declared.reassembly.Piece.{Piece}
use Rattle.capture_tcp.specs.declared.reassembly.Piece.TheVariants as piece
use Rattle.capture_tcp.specs.declared.events.TimedEvent.{TimedEvent}
use Rattle.capture_tcp.specs.declared.events.EmitterState.{EmitterState}
use Rattle.capture_tcp.specs.TcpStreams.{End, Cell, Left}
use Rattle.capture_tcp.specs.Reassembly.{Store, in_piece, piece_from}
use Rattle.capture_tcp.specs.ConnectionEvents.{message, down, Entry, entry, entry_of}
use Rattle.capture_tcp.specs.EventSteps.{entry_as, Processed, processes_input, cut_entries, cut_to}

-- ---- the entries of the cells of a message, and of several

abbrev pub entries_as : End → ℕ → Piece → List Entry
entries_as d n (piece.Message octets) = entry n (message d octets.items) ∷ []
entries_as d n piece.Opens = []
entries_as d n piece.Closes = entry n down ∷ []

-- Holds if this is what the given number of contiguous cells at the front are.
abbrev pub PieceEmits : List (Option HeldCell) → ℕ → Piece → Type 0
PieceEmits ss count emitted =
    count ≤ length (in_piece ss) → (d : End) (n : ℕ) → entry_of d n [] (take count (in_piece ss)) ≡ entries_as d n emitted

-- Holds if this is what the given number of contiguous cells from an offset on are.
abbrev pub Emits : Store → ℕ → ℕ → Piece → Type 0
Emits s place count emitted = s.place ≤ place → PieceEmits (drop (place - s.place) s.cells) count emitted

-- Holds if what is left of a stream, from an offset on, starts with what is buffered there.
abbrev pub IsLeft : Store → ℕ → Left → Type 0
IsLeft s place l = (l.place ≡ place) × (s.place ≤ place) × ((more : List Cell) × (l.cells ≡ piece_from s place ++ more))

-- ---- what code does

-- Holds if the state is as specified, and the specified entries were emitted.
abbrev pub ProcessesInput : Processed → List TimedEvent → EmitterState → List TimedEvent → Type 0
ProcessesInput h before state after = (state ≡ h.state) × (map entry_as after ≡ map entry_as before ++ h.emitted)

-- Holds if the messages of a direction up to a buffered offset are emitted at a packet.
abbrev pub Cuts : Store → End → ℕ → ℕ → ℕ → List TimedEvent → EmitterState → ℕ → List TimedEvent → EmitterState → Type 0
Cuts s d n upto place emitted state later after now =
    (l : Left) → IsLeft s place l → upto ≤ place + length (piece_from s place)
    → ProcessesInput (processes_input state (cut_entries d n (cut_to upto l))) emitted now after × IsLeft s later (cut_to upto l).left
