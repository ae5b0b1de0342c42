use Rattle.std.proofs.Common.{ℕ, List, sym, subst}
use Rattle.hsms_frame.specs.declared.header.Header.{Header}
use Rattle.hsms_endpoint.specs.InnerInternals.{at_later}
use Rattle.hsms_endpoint.specs.InnerActionSteps.{Performs}
use Rattle.hsms_endpoint.specs.InnerExpiring.{IsLate, HasExpired, warnings_of, MayWarn}
use Rattle.hsms_endpoint.proofs.Overdue.{nothing_is_overdue_after_tick, can_cut_overdue}
use Rattle.hsms_endpoint.proofs.Acts.{then_ok}
use Rattle.hsms_endpoint.proofs.Expiries.{late_at, expired_may_warn, expired_then_cut, expired_then_warned}
use Rattle.hsms_endpoint.proofs.state.State.tick.Goals as goal

pub expire_data-requires : goal.expire_data-requires
expire_data-requires c = subst (λ (m : ℕ). IsLate (record c.args.self.now { moment = m })) (sym c.max-self.ensures) (late_at c.args.self.now c.args.now c.requires.sound c.keeps_order.ensures c.requires.up)

pub cut-requires : goal.cut-requires
cut-requires c = can_cut_overdue c.expire_data.new.self c.in_ok-expired.ensures.expired.late c.in_ok-expired.ensures.in_time c.in-Some.cause (sym c.in-Some.ensures)

pub returns-in-Some : goal.returns-in-Some
returns-in-Some c =
    let expired : HasExpired (at_later c.args.self.now c.args.now) c.args.entries.now.items c.expire_data.new.self c.expire_data.new.entries.items c.in_ok-expired.expired.items =
    subst (λ (m : ℕ). HasExpired (record c.args.self.now { moment = m }) c.args.entries.now.items c.expire_data.new.self c.expire_data.new.entries.items c.in_ok-expired.expired.items) c.max-self.ensures c.in_ok-expired.ensures.expired in
    then_ok c.cut.result c.cut.ensures
    (λ cut. record {
      does = expired_then_cut (at_later c.args.self.now c.args.now) c.expire_data.new.self c.args.entries.now.items c.expire_data.new.entries.items c.in_ok-expired.expired.items expired c.in_ok-expired.ensures.in_time
          c.cut.new.self c.cut.new.entries.items c.in-Some.cause (sym c.in-Some.ensures) cut.does;
      sound = cut.sound;
    })

pub returns : goal.returns
returns c =
    let expired : HasExpired (at_later c.args.self.now c.args.now) c.args.entries.now.items c.expire_data.new.self c.expire_data.new.entries.items c.in_ok-expired.expired.items =
    subst (λ (m : ℕ). HasExpired (record c.args.self.now { moment = m }) c.args.entries.now.items c.expire_data.new.self c.expire_data.new.entries.items c.in_ok-expired.expired.items) c.max-self.ensures c.in_ok-expired.ensures.expired in
    then_ok c.warn_expired.result c.warn_expired.ensures
    (λ warned. record {
      does = expired_then_warned (at_later c.args.self.now c.args.now) c.expire_data.new.self c.args.entries.now.items c.expire_data.new.entries.items c.in_ok-expired.expired.items expired c.in_ok-expired.ensures.in_time
          c.warn_expired.new.self c.warn_expired.new.entries.items (sym c.in-None.ensures)
          (subst (λ (hs : List Header). Performs c.expire_data.new.self c.expire_data.new.entries.items (warnings_of c.expire_data.new.self.settings hs) c.warn_expired.new.self c.warn_expired.new.entries.items) c.deref.ensures.value warned.does);
      sound = warned.sound;
    })

pub warn_expired-requires-clause-sound : goal.warn_expired-requires-clause-sound
warn_expired-requires-clause-sound c = nothing_is_overdue_after_tick c.expire_data.new.self c.in_ok-expired.ensures.expired.late c.in_ok-expired.ensures.in_time (sym c.in-None.ensures)

pub warn_expired-requires-clause-selected : goal.warn_expired-requires-clause-selected
warn_expired-requires-clause-selected c =
    let expired : HasExpired (at_later c.args.self.now c.args.now) c.args.entries.now.items c.expire_data.new.self c.expire_data.new.entries.items c.in_ok-expired.expired.items =
    subst (λ (m : ℕ). HasExpired (record c.args.self.now { moment = m }) c.args.entries.now.items c.expire_data.new.self c.expire_data.new.entries.items c.in_ok-expired.expired.items) c.max-self.ensures c.in_ok-expired.ensures.expired in
    subst (λ (hs : List Header). MayWarn c.expire_data.new.self.tracker.phase hs) (sym c.deref.ensures.value)
    (expired_may_warn (at_later c.args.self.now c.args.now) c.expire_data.new.self c.args.entries.now.items c.expire_data.new.entries.items c.in_ok-expired.expired.items expired c.in_ok-expired.ensures.in_time
    (late_at c.args.self.now c.args.now c.requires.sound c.keeps_order.ensures c.requires.up))
