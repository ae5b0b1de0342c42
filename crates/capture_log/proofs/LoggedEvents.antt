-- What an end logs of what happens.
use Rattle.std.proofs.Common.{◌≡◌, ℕ, refl, sym, subst, max}
use Rattle.hsms_machine.specs.declared.entry.Event.{Event}
use Rattle.hsms_machine.specs.declared.entry.Event.TheVariants.{Up, Down}
use Rattle.capture_tcp.specs.declared.packet.Side.{Side}
use Rattle.capture_tcp.specs.declared.events.Event.TheVariants as happens
use Rattle.capture_tcp.specs.declared.events.TimedEvent.{TimedEvent}
use Rattle.capture_log.specs.declared.audited_log.LogComment.TheVariants as remark
use Rattle.capture_log.specs.AuditedLog.{CurrentState}
use Rattle.capture_log.specs.BothLogs.{Adds, HasNoted, LogsAs, note_of}

-- the entry of what happened, at its packet
abbrev pub AddsAt : ℕ → TimedEvent → Event → CurrentState → CurrentState → Type 0
AddsAt time happening event old new = Adds (note_of (remark.Packet happening.packet) time event) old new

pub notes : (before time : ℕ) (side : Side) (happening : TimedEvent) (event : Event) (old new : CurrentState)
    → time ≡ max before happening.time → LogsAs side happening.event event → AddsAt time happening event old new
    → HasNoted before side happening old new
notes before time side happening event old new is logs adds = (
  note_of (remark.Packet happening.packet) time event,
  record { entry = record { time = time; event = event }; remark = refl; there = refl; time = is; event = logs },
  adds,
)

pub up : (before time : ℕ) (side : Side) (happening : TimedEvent) (old new : CurrentState) → time ≡ max before happening.time
    → happening.event ≡ happens.Up → AddsAt time happening Up old new → HasNoted before side happening old new
up before time side happening old new at is adds =
    notes before time side happening Up old new at (subst (λ e. LogsAs side e Up) (sym is) refl) adds

pub down : (before time : ℕ) (side : Side) (happening : TimedEvent) (old new : CurrentState) → time ≡ max before happening.time
    → happening.event ≡ happens.Down → AddsAt time happening Down old new → HasNoted before side happening old new
down before time side happening old new at is adds =
    notes before time side happening Down old new at (subst (λ e. LogsAs side e Down) (sym is) refl) adds
