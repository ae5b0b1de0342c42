use Rattle.std.proofs.Common.{◌∙◌, ℕ, max, ap, subst}
use Rattle.capture_tcp.specs.declared.packet.Segment.{Segment}
use Rattle.capture_tcp.specs.KnownStreams.{ContinuesWith, Known, end_at, seen_of}
use Rattle.capture_tcp.proofs.EmitterSteps.{active_continues, passive_continues}
use Rattle.capture_tcp.proofs.delivery.DeliveryQueue.take.Goals as goal

pub returns-in_ok-placed-in-Active-clause-ok : goal.returns-in_ok-placed-in-Active-clause-ok
returns-in_ok-placed-in-Active-clause-ok c =
    let s = seen_of c.args.segment c.args.octets.now in
    let t = seen_of c.raised-timed.result c.args.octets.now in
    let old : Known = record { active = c.self.inside.active; passive = c.self.inside.passive; latest = c.self.inside.latest } in
    let latest = ap (λ z. z.latest) c.self-inside.view_is in
    let own = c.follow.new.own in
    let peer = c.follow.new.peer in
    let more = c.in_ok-placed-in-Active.ensures in
    let placed = c.in_ok-placed-in-Active.placed in
    let now = c.latest_after-self-inside.result in
    subst (λ (k : Known). ContinuesWith k c.args.emitted.now.items s (record { active = own; passive = peer; latest = now }) c.follow.new.emitted.items placed) c.self.view_is
    (active_continues old c.args.emitted.now.items s t own peer now c.follow.new.emitted.items placed (ap (λ (g : Segment). seen_of g c.args.octets.now) c.raised-timed.ensures ∙ ap (λ (n : ℕ). record s { time = max n c.args.segment.time }) latest)
    (ap end_at c.in-Active.is) more.own more.peer more.emitted more.placed c.latest_after-self-inside.ensures)

pub returns-in_ok-placed-in-Passive-clause-ok : goal.returns-in_ok-placed-in-Passive-clause-ok
returns-in_ok-placed-in-Passive-clause-ok c =
    let s = seen_of c.args.segment c.args.octets.now in
    let t = seen_of c.raised-timed.result c.args.octets.now in
    let old : Known = record { active = c.self.inside.active; passive = c.self.inside.passive; latest = c.self.inside.latest } in
    let latest = ap (λ z. z.latest) c.self-inside.view_is in
    let own = c.follow-in-Passive.new.own in
    let peer = c.follow-in-Passive.new.peer in
    let more = c.in_ok-placed-in-Passive.ensures in
    let placed = c.in_ok-placed-in-Passive.placed in
    let now = c.latest_after-self-inside-in-Passive.result in
    subst (λ (k : Known). ContinuesWith k c.args.emitted.now.items s (record { active = peer; passive = own; latest = now }) c.follow-in-Passive.new.emitted.items placed) c.self.view_is
    (passive_continues old c.args.emitted.now.items s t own peer now c.follow-in-Passive.new.emitted.items placed (ap (λ (g : Segment). seen_of g c.args.octets.now) c.raised-timed.ensures ∙ ap (λ (n : ℕ). record s { time = max n c.args.segment.time }) latest)
    (ap end_at c.in-Passive.is) more.own more.peer more.emitted more.placed c.latest_after-self-inside-in-Passive.ensures)
