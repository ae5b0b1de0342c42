use Rattle.std.proofs.Common.{sym, ◌++◌, ◌∷◌, []}
use Rattle.hsms_compare.proofs.RequestStates.{state_as, answered_stays, done_stays}
use Rattle.hsms_compare.proofs.request_state.RequestState.after_other.Goals as goal

pub returns-in-InFlight : goal.returns-in-InFlight
returns-in-InFlight c own other j r s n few =
    c.from_in_flight.ensures own other j c.args.limit r (state_as own other j c.args.limit c.args.number _ _ c.in-InFlight.is s) n

pub returns-in-Taken : goal.returns-in-Taken
returns-in-Taken c own other j r s n few =
    c.from_taken.ensures own other j c.args.number r (state_as own other j c.args.limit c.args.number _ _ c.in-Taken.is s) n few

pub returns-in-Answered : goal.returns-in-Answered
returns-in-Answered c own other j r s n few =
    state_as own (other ++ c.args.entry.now ∷ []) j c.args.limit c.args.number _ _ (sym c.in-Answered.is)
    (answered_stays own other j c.args.limit c.args.number _ _ _ _ c.args.entry.now (state_as own other j c.args.limit c.args.number _ _ c.in-Answered.is s))

pub returns-in-Done : goal.returns-in-Done
returns-in-Done c own other j r s n few =
    state_as own (other ++ c.args.entry.now ∷ []) j c.args.limit c.args.number _ _ (sym c.in-Done.is)
    (done_stays own other j c.args.limit c.args.number c.in-Done.field-0 c.args.entry.now (state_as own other j c.args.limit c.args.number _ _ c.in-Done.is s))
