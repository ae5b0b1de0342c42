use Rattle.std.proofs.Common.{sym, ◌++◌, ◌∷◌, []}
use Rattle.hsms_compare.proofs.RequestStates.{state_as, taken_stays, done_stays_own}
use Rattle.hsms_compare.proofs.request_state.RequestState.after_own.Goals as goal

pub returns-in-Taken : goal.returns-in-Taken
returns-in-Taken c own other j limit number r s n t =
    state_as (own ++ c.args.entry.now ∷ []) other j limit number _ _ (sym c.in-Taken.is)
    (taken_stays own other j limit number c.in-Taken.received_at c.in-Taken.time c.in-Taken.request c.args.entry.now (state_as own other j limit number _ _ c.in-Taken.is s))

pub returns-in-Answered : goal.returns-in-Answered
returns-in-Answered c own other j limit number r s n t =
    c.from_answered.ensures own other j limit number r (state_as own other j limit number _ _ c.in-Answered.is s) n t

pub returns-in-Done : goal.returns-in-Done
returns-in-Done c own other j limit number r s n t =
    state_as (own ++ c.args.entry.now ∷ []) other j limit number _ _ (sym c.in-Done.is)
    (done_stays_own own other j limit number c.in-Done.field-0 c.args.entry.now (state_as own other j limit number _ _ c.in-Done.is s))
