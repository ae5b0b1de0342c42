use Rattle.std.proofs.Common.{◌≤◌, ◌-◌, ℕ, List, max}
use Rattle.capture_tcp.specs.declared.events.TimedEvent.{TimedEvent}
use Rattle.capture_tcp.specs.declared.events.EmitterState.{EmitterState}
use Rattle.capture_tcp.specs.KnownStreams.{end_at}
use Rattle.capture_tcp.specs.InnerEventSteps.{Cuts}
use Rattle.capture_tcp.specs.InnerTimestamps.{KeepsTimes}
use Rattle.capture_tcp.proofs.framing.cut.Given as goal

abbrev pub invariant-loop-count : goal.invariant-loop-count
invariant-loop-count l =
    ((later : ℕ) (after : List TimedEvent) (now : EmitterState)
    → Cuts l.held (end_at l.delivery.of) l.delivery.packet l.delivery.upto l.place l.emitted.items l.emitter_state later after now
    → Cuts l.held (end_at l.delivery.of) l.delivery.packet l.delivery.upto l.fn.place l.fn.emitted.items l.fn.emitter_state later after now)
    × (l.fn.place ≤ l.place) × (l.place ≤ max l.fn.place l.delivery.upto)
    × KeepsTimes l.delivery.packet l.delivery.time l.fn.emitted.items l.emitted.items

abbrev pub decreases-loop-count : goal.decreases-loop-count
decreases-loop-count l = l.delivery.upto - l.place
