-- The events of a delivered packet: whether the connection is open, what is delivered, and whether it is reset.
use Rattle.std.specs.Prelude.{◌&&◌, ◌||◌, Bool, true, false, nat_le, if◌then◌else◌, ℕ, List, [], ◌∷◌, ◌++◌, Option, Some, None}
use Rattle.std.specs.Option.{unwrap_or}
use Rattle.capture_tcp.specs.declared.framing.Delivery.{Delivery}
use Rattle.capture_tcp.specs.declared.packet.Side.{Side}
use Rattle.capture_tcp.specs.declared.packet.Side.TheVariants as side
use Rattle.capture_tcp.specs.declared.streams.Due.{Due}
use Rattle.capture_tcp.specs.declared.events.EmitterState.{EmitterState}
use Rattle.capture_tcp.specs.declared.events.EmitterState.TheVariants as emitter_state
use Rattle.capture_tcp.specs.TcpStreams.{Turn, Both, left_of, with_left}
use Rattle.capture_tcp.specs.ConnectionEvents.{up, down, Entry, entry}
use Rattle.capture_tcp.specs.KnownStreams.{end_at, packet_of}
use Rattle.capture_tcp.specs.Losses.{side_of}
use Rattle.capture_tcp.specs.EventSteps.{processes_input, cut_entries, cut_to}

-- ---- a delivery, by what is kept of it

abbrev pub due_of : Turn → Due
due_of t = record { at = t.at.packet; time = t.at.time; from = side_of t.own.from; packet = packet_of t.own }

abbrev pub other_side : Side → Side
other_side side.Active = side.Passive
other_side side.Passive = side.Active

abbrev pub acked_by : Side → Due → ℕ
acked_by side.Active t = due_if t.from t.packet.acknowledged
  where
    due_if : Side → Option ℕ → ℕ
    due_if side.Active a = 0
    due_if side.Passive a = unwrap_or a 0
acked_by side.Passive t = due_if t.from t.packet.acknowledged
  where
    due_if : Side → Option ℕ → ℕ
    due_if side.Active a = unwrap_or a 0
    due_if side.Passive a = 0

-- True if it acknowledges the SYN of the passive end.
abbrev pub answers : Due → Bool
answers t = nat_le 1 (acked_by side.Passive t)

abbrev pub opens : Due → Bool
opens t = answers t || nat_le 2 (acked_by side.Active t) || nat_le 2 t.packet.to

abbrev pub resets : Bool → Due → Bool
resets opened t = t.packet.reset && (opened || opens t)

-- ---- what is delivered at it

-- The entries, and what is left of both streams.
pub record Given : Type 0 where
  pub entries : List Entry
  pub both : Both

abbrev pub given : Delivery → Both → Given
given d b =
    (let cut = cut_to d.upto (left_of b (end_at d.of)) in
    record { entries = cut_entries (end_at d.of) d.packet cut; both = with_left b (end_at d.of) cut.left })

abbrev pub by_ack : Due → Option ℕ → Both → Given
by_ack t None b = record { entries = []; both = b }
by_ack t (Some n) b = given (record { of = other_side t.from; upto = n; packet = t.at; time = t.time }) b

abbrev pub brought : Due → Both → Given
brought t b = given (record { of = t.from; upto = t.packet.to; packet = t.at; time = t.time }) b

abbrev pub and_given : Given → (Both → Given) → Given
and_given g f = record { entries = g.entries ++ (f g.both).entries; both = (f g.both).both }

abbrev pub delivers : Due → Both → Given
delivers t b = and_given (by_ack t t.packet.acknowledged b) (brought t)

abbrev pub answer_entries : Due → List Entry
answer_entries t = if answers t then (entry t.at up ∷ []) else []

abbrev pub reset_entry : Bool → Due → List Entry
reset_entry opened t = if resets opened t then (entry t.at down ∷ []) else []

-- All entries that are emitted at it.
abbrev pub entries_at : Bool → Due → Both → List Entry
entries_at opened t b = answer_entries t ++ ((delivers t b).entries ++ reset_entry opened t)

-- ---- delivery by delivery

-- The emitted entries, and whether the connection ended.
pub record Log : Type 0 where
  pub emitted : List Entry
  pub closed : Bool

abbrev pub and_log : List Entry → Log → Log
and_log es l = record { emitted = es ++ l.emitted; closed = l.closed }

abbrev pub is_over : EmitterState → Bool
is_over (emitter_state.Waiting early) = false
is_over (emitter_state.Running s) = false
is_over emitter_state.Over = true

-- Nothing is emitted after a reset.
unfoldable pub emit_turns : EmitterState → Bool → Both → List Due → Log
emit_turns s opened b [] = record { emitted = []; closed = is_over s }
emit_turns s opened b (t ∷ ts) =
    (let h = processes_input s (entries_at opened t b) in
    if resets opened t then (record { emitted = h.emitted; closed = true }) else (and_log h.emitted (emit_turns h.state (opened || opens t) (delivers t b).both ts)))

-- What is left of both streams after these deliveries.
unfoldable pub remains_after : Both → List Due → Both
remains_after b [] = b
remains_after b (t ∷ ts) = remains_after (delivers t b).both ts
