use Rattle.std.proofs.Common.{◌≤◌, refl, sym, ◌∙◌, arith}
use Rattle.hsms_machine.specs.View.{own_open_of}
use Rattle.hsms_endpoint.proofs.FullEndpoint.{crowded}
use Rattle.hsms_endpoint.proofs.state.State.free_number.Goals as goal

pub unreachable-requires : goal.unreachable-requires
unreachable-requires c =
    let h : 65 ≤ own_open_of c.args.self.now.tracker =
    crowded c.args.self.now.tracker c.args.self.now.next 65 (omega arith) (λ k lt. c.loop-places.invariant k (omega arith)) in
    absurd (omega arith)

pub returns-then-not-in_use : goal.returns-then-not-in_use
returns-then-not-in_use c =
    record {
      places = c.loop-places.places;
      place = refl;
      free = sym c.in_use.ensures ∙ c.if-not-in_use.true;
      others = c.loop-places.invariant;
    }
