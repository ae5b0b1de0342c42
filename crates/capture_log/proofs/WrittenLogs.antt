-- What a log tells of what happens.
use Rattle.std.proofs.Common.{◌≡◌, ◌++◌, ◌∙◌, ℕ, List, [], Option, ap, refl, sym, subst, max}
use Rattle.std.proofs.lemmas.List.{append-nil}
use Rattle.hsms_machine.specs.Settings.{Parameters}
use Rattle.hsms_machine.specs.declared.entry.Event.{Event}
use Rattle.hsms_machine.specs.declared.entry.Event.TheVariants.{Up, Down}
use Rattle.capture_tcp.specs.declared.packet.Side.{Side}
use Rattle.capture_tcp.specs.declared.events.Event.{Event as Happens}
use Rattle.capture_tcp.specs.declared.events.Event.TheVariants as happens
use Rattle.capture_tcp.specs.declared.events.TimedEvent.{TimedEvent}
use Rattle.capture_log.specs.declared.audited_log.LogComment.TheVariants as remark
use Rattle.capture_log.specs.declared.written_log.Begun.{Begun}
use Rattle.capture_log.specs.AuditedLog.{note_text}
use Rattle.capture_log.specs.BothLogs.{LogsAs, note_of}
use Rattle.capture_log.specs.WrittenLog.{WritesNote, front_by, front_of}

-- the entry of what happened at its packet, as octets
abbrev pub text_at : ℕ → TimedEvent → Event → List ℕ
text_at time happening event = note_text (note_of (remark.Packet happening.packet) time event)

pub emits : (before time : ℕ) (side : Side) (happening : TimedEvent) (event : Event) (front old new : List ℕ)
    → time ≡ max before happening.time → LogsAs side happening.event event → new ≡ (old ++ front) ++ text_at time happening event
    → WritesNote front before side happening old new
emits before time side happening event front old new is logs emitted = (
  note_of (remark.Packet happening.packet) time event,
  record { entry = record { time = time; event = event }; remark = refl; there = refl; time = is; event = logs },
  emitted,
)

pub up : (before time : ℕ) (side : Side) (happening : TimedEvent) (begun : Option Begun) (settings : Parameters) (old new : List ℕ)
    → time ≡ max before happening.time → happening.event ≡ happens.Up
    → new ≡ (old ++ front_of begun settings) ++ text_at time happening Up
    → WritesNote (front_by begun settings happening.event) before side happening old new
up before time side happening begun settings old new at is emitted =
    emits before time side happening Up (front_by begun settings happening.event) old new at (subst (λ e. LogsAs side e Up) (sym is) refl)
    (emitted ∙ ap (λ (e : Happens). (old ++ front_by begun settings e) ++ text_at time happening Up) (sym is))

-- behind what was there, where the log doesn't begin here
pub subsequent : (before time : ℕ) (side : Side) (happening : TimedEvent) (event : Event) (front old new : List ℕ)
    → time ≡ max before happening.time → LogsAs side happening.event event → front ≡ [] → new ≡ old ++ text_at time happening event
    → WritesNote front before side happening old new
subsequent before time side happening event front old new at logs no_front emitted =
    emits before time side happening event front old new at logs
    (emitted ∙ ap (λ l. l ++ text_at time happening event) (sym (append-nil old) ∙ ap (λ l. old ++ l) (sym no_front)))

pub down : (before time : ℕ) (side : Side) (happening : TimedEvent) (begun : Option Begun) (settings : Parameters) (old new : List ℕ)
    → time ≡ max before happening.time → happening.event ≡ happens.Down → new ≡ old ++ text_at time happening Down
    → WritesNote (front_by begun settings happening.event) before side happening old new
down before time side happening begun settings old new at is emitted =
    subsequent before time side happening Down (front_by begun settings happening.event) old new at (subst (λ e. LogsAs side e Down) (sym is) refl)
    (ap (λ (e : Happens). front_by begun settings e) is) emitted
