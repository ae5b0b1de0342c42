use Rattle.std.proofs.Common.{◌≡◌, ℕ, Some, None, sym, ap, subst, ◌∙◌, List}
use Rattle.std.specs.Prelude.{Option}
use Rattle.hsms_frame.specs.declared.header.Header.{Header}
use Rattle.hsms_machine.specs.View.{oldest_of}
use Rattle.hsms_endpoint.specs.declared.state.State.{State}
use Rattle.hsms_endpoint.specs.InnerExpiring.{HasExpired, overdue_of}
use Rattle.hsms_endpoint.proofs.ExpiredData.{begun_to_expire, first_overdue, data_in_time, fewer_left, one_expired, t3_valid}
use Rattle.hsms_endpoint.proofs.state.State.expire_data.Goals as goal

-- The condition of the loop, in terms of the endpoint.
input_event : (end : State) (limit : ℕ) (oldest : Option (ℕ × Header)) (answer : Option Header) → answer ≡ overdue_of limit end.moment oldest → limit ≡ end.settings.t3 → oldest ≡ oldest_of end.tracker.sent_data
    → overdue_of end.settings.t3 end.moment (oldest_of end.tracker.sent_data) ≡ answer
input_event end limit oldest answer is limit_is oldest_is = sym (is ∙ ap (λ n. overdue_of n end.moment oldest) limit_is ∙ ap (λ o. overdue_of end.settings.t3 end.moment o) oldest_is)

pub oldest-init : goal.oldest-init
oldest-init c =
    subst (λ (headers : List Header). HasExpired c.args.self.now c.args.entries.now.items c.args.self.now c.args.entries.now.items headers) (sym c.new-expired.ensures.items)
    (begun_to_expire c.args.self.now c.args.entries.now.items c.requires)

pub log-requires : goal.log-requires
log-requires c = t3_valid c.oldest.self c.oldest.invariant.late c.in-Some.header (first_overdue c.oldest.self c.in-Some.header c.oldest.invariant.late (input_event c.oldest.self c.t3.result c.oldest_data.result (Some c.in-Some.header) c.in-Some.ensures c.t3.ensures.value c.oldest_data.ensures))

pub oldest-smaller : goal.oldest-smaller
oldest-smaller c = fewer_left c.oldest.self c.log.new.self c.in-Some.header c.oldest.invariant.late (input_event c.oldest.self c.t3.result c.oldest_data.result (Some c.in-Some.header) c.in-Some.ensures c.t3.ensures.value c.oldest_data.ensures) c.in_ok-log.ensures.after

pub oldest-preserved : goal.oldest-preserved
oldest-preserved c =
    subst (λ (headers : List Header). HasExpired c.args.self.now c.args.entries.now.items c.log.new.self c.log.new.entries.items headers) (sym c.in_ok-push.ensures.items)
    (one_expired c.oldest.self c.oldest.invariant.late c.in-Some.header (first_overdue c.oldest.self c.in-Some.header c.oldest.invariant.late (input_event c.oldest.self c.t3.result c.oldest_data.result (Some c.in-Some.header) c.in-Some.ensures c.t3.ensures.value c.oldest_data.ensures))
    c.args.self.now c.log.new.self c.args.entries.now.items c.oldest.entries.items c.log.new.entries.items c.oldest.expired.items c.oldest.invariant c.in_ok-log.ensures.does c.in_ok-log.ensures.after)

pub returns-clause-in_time : goal.returns-clause-in_time
returns-clause-in_time c = data_in_time c.oldest.self c.oldest.invariant.late (input_event c.oldest.self c.t3.result c.oldest_data.result None c.in_default.ensures c.t3.ensures.value c.oldest_data.ensures)
