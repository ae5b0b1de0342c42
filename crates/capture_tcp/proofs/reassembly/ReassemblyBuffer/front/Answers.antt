use Rattle.std.proofs.Common.{None, Some, subst, arith, sym, ◌∙◌}
use Rattle.capture_tcp.specs.Cells.{all_of}
use Rattle.capture_tcp.specs.Reassembly.{IsFront, IsPiece, Store}
use Rattle.capture_tcp.proofs.CompleteStreams.{front_none, front_past, front_exists, front_whole}
use Rattle.capture_tcp.proofs.Octets.{front_longer}
use Rattle.capture_tcp.proofs.reassembly.ReassemblyBuffer.front.Goals as goal

pub returns-in_default-clause-front : goal.returns-in_default-clause-front
returns-in_default-clause-front c =
    let s : Store = record { place = c.self.inside.place; cells = all_of c.self.inside.cells } in
    subst (λ (s : Store). IsFront s c.args.place c.args.upto None) c.self.view_is
    (front_exists s c.args.place c.args.upto None
    (front_none s c.args.place c.args.upto c.in_ok-first.first (omega (arith, c.in_ok-first.ensures)) (sym c.in_default.is ∙ c.size_of.ensures.size)))

pub returns-then-room-count-clause-front : goal.returns-then-room-count-clause-front
returns-then-room-count-clause-front c =
    let s : Store = record { place = c.self.inside.place; cells = all_of c.self.inside.cells } in
    subst (λ (s : Store). IsFront s c.args.place c.args.upto None) c.self.view_is
    (front_exists s c.args.place c.args.upto None
    (front_past s c.args.place c.args.upto c.in_ok-first.first c.in-Some.count (omega (arith, c.in_ok-first.ensures)) (sym c.in-Some.is ∙ c.size_of.ensures.size)
    (omega (arith, c.saturating_sub-room.ensures, c.if-room-count.true))))

pub returns-clause-front : goal.returns-clause-front
returns-clause-front c =
    let s : Store = record { place = c.self.inside.place; cells = all_of c.self.inside.cells } in
    subst (λ (s : Store). IsFront s c.args.place c.args.upto (Some c.in-Some.count)) c.self.view_is
    (front_exists s c.args.place c.args.upto (Some c.in-Some.count)
    (front_whole s c.args.place c.args.upto c.in_ok-first.first c.in-Some.count (omega (arith, c.in_ok-first.ensures)) (sym c.in-Some.is ∙ c.size_of.ensures.size)
    (omega (arith, c.saturating_sub-room.ensures, c.if-room-count.false, c.in-Some.ensures.some))))

pub returns-then-is_longer-clause-piece : goal.returns-then-is_longer-clause-piece
returns-then-is_longer-clause-piece c =
    let s : Store = record { place = c.self.inside.place; cells = all_of c.self.inside.cells } in
    subst (λ (s : Store). IsPiece s c.args.place c.args.upto None) c.self.view_is
    (front_longer s c.self.inside.octets_from c.args.place c.args.upto c.in_ok-first.first c.saturating_sub-room.result c.head_of-head.result (omega (arith, c.in_ok-first.ensures))
    (omega (arith, c.in_ok-first.ensures)) c.saturating_sub-room.ensures c.if-self-place.true c.self.invariant c.head_of-head.ensures (c.is_longer.ensures (let e = c.if-is_longer.true in cc)))

pub returns-then-is_longer-clause-front : goal.returns-then-is_longer-clause-front
returns-then-is_longer-clause-front c =
    let s : Store = record { place = c.self.inside.place; cells = all_of c.self.inside.cells } in
    subst (λ (s : Store). IsFront s c.args.place c.args.upto None) c.self.view_is
    (front_exists s c.args.place c.args.upto None
    (front_longer s c.self.inside.octets_from c.args.place c.args.upto c.in_ok-first.first c.saturating_sub-room.result c.head_of-head.result (omega (arith, c.in_ok-first.ensures))
    (omega (arith, c.in_ok-first.ensures)) c.saturating_sub-room.ensures c.if-self-place.true c.self.invariant c.head_of-head.ensures (c.is_longer.ensures (let e = c.if-is_longer.true in cc))))
