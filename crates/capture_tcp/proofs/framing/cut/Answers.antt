use Rattle.std.proofs.Common.{[], ap, sym, ◌∙◌, arith, take}
use Rattle.capture_tcp.specs.KnownStreams.{end_at}
use Rattle.capture_tcp.specs.ConnectionEvents.{entry_of}
use Rattle.capture_tcp.specs.Reassembly.{piece_from}
use Rattle.capture_tcp.specs.EventSteps.{processes_input}
use Rattle.capture_tcp.specs.InnerEventSteps.{entries_as}
use Rattle.capture_tcp.proofs.Slicing.{cut_none, cut_one, processed_as}
use Rattle.capture_tcp.proofs.Timing.{keeps_both}
use Rattle.capture_tcp.proofs.framing.cut.Goals as goal

pub loop-count-preserved : goal.loop-count-preserved
loop-count-preserved c =
    let s = c.args.held.now in
    let d = end_at c.args.delivery.of in
    let n = c.args.delivery.packet in
    let place = c.loop-count.place in
    let t = c.loop-count.emitter_state in
    let count = c.in-Some.count in
    let inv = c.loop-count.invariant in
    let fits = c.in-Some.ensures.fits in (
      λ later after now h. inv.0 later after now
          (cut_one s d n c.args.delivery.upto place count c.loop-count.emitted.items c.submit.new.emitted.items after t c.submit.new.emitter_state now later
          c.in-Some.ensures.piece fits.1
          (λ low le. processed_as (processes_input t (entries_as d n c.in_ok-piece.piece)) (processes_input t (entry_of d n [] (take count (piece_from s place))))
          c.loop-count.emitted.items c.submit.new.emitted.items c.submit.new.emitter_state
          (ap (processes_input t) (sym (c.in_ok-piece.ensures low le d n))) c.in_ok-submit.ensures.emitted)
          h),
      omega (arith, inv.1),
      omega (arith, inv.2, fits.1),
      keeps_both n c.args.delivery.time c.args.emitted.now.items c.loop-count.emitted.items c.submit.new.emitted.items inv.3 c.in_ok-submit.ensures.times,
    )

pub returns-clause-emitted : goal.returns-clause-emitted
returns-clause-emitted c =
    c.loop-count.invariant.0 c.loop-count.place c.loop-count.emitted.items c.loop-count.emitter_state
    (cut_none c.args.held.now (end_at c.args.delivery.of) c.args.delivery.packet c.args.delivery.upto c.loop-count.place c.loop-count.emitted.items c.loop-count.emitter_state
    (λ low. sym c.in_default.is ∙ c.front.ensures.piece low))
