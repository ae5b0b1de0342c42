use Rattle.std.proofs.Common.{◌≡◌, ◌<◌, ◌≤◌, ◌++◌, List, ℕ, false, Option, Some, map, length, vec_len, rules, ap, sym, subst, ◌∙◌}
use Rattle.capture_events.specs.declared.waiting.Waiting.{Waiting}
use Rattle.capture_events.specs.declared.incomplete.Shortfall.{Shortfall}
use Rattle.capture_events.specs.ConnectionItems.{lost_by, end_event}
use Rattle.capture_events.specs.LoggedEvents.{seen_waiting}
use Rattle.capture_events.proofs.ConnectionStates.{pushed_is, waits_answered, waits_on, waits_out}
use Rattle.capture_events.proofs.connection_state.wait.Goals as goal

pub returns-then-is_answer : goal.returns-then-is_answer
returns-then-is_answer c =
    let w : Waiting = record { segment = c.args.packet.segment; octets = c.extend_from_slice.new.self } in
    rw c.state_of.ensures
    (waits_answered c.args.max c.args.syn c.args.pair.now c.args.packet.segment c.args.packet.octets.now c.args.waiting c.push.new.self c.track-tracked.result c.in_ok-left.left
    c.args.events.now.items c.take_all.new.events.items
    (pushed_is c.args.waiting.items c.push.new.self.items w c.new-held.result.items c.args.packet.octets.now c.in_ok-push.ensures.items c.in_ok-extend_from_slice.ensures.items c.new-held.ensures.items)
    (sym c.is_answer.ensures ∙ c.if-is_answer.true) (c.track-tracked.ensures c.args.max) c.in_ok-left.ensures)

pub returns-then-len-le-GREATEST_WAIT : goal.returns-then-len-le-GREATEST_WAIT
returns-then-len-le-GREATEST_WAIT c =
    let w : Waiting = record { segment = c.args.packet.segment; octets = c.extend_from_slice.new.self } in
    let len : vec_len c.push.new.self ≡ length c.push.new.self.items = search rules in
    waits_on c.args.max c.args.syn c.args.pair.now c.args.packet.segment c.args.packet.octets.now c.args.waiting c.push.new.self c.args.events.now.items
    (pushed_is c.args.waiting.items c.push.new.self.items w c.new-held.result.items c.args.packet.octets.now c.in_ok-push.ensures.items c.in_ok-extend_from_slice.ensures.items c.new-held.ensures.items)
    (sym c.is_answer.ensures ∙ c.if-is_answer.false) (subst (λ (n : ℕ). n ≤ 4096) (c.len.ensures ∙ len) c.if-len-le-GREATEST_WAIT.true)

pub returns : goal.returns
returns c =
    let w : Waiting = record { segment = c.args.packet.segment; octets = c.extend_from_slice.new.self } in
    let len : vec_len c.push.new.self ≡ length c.push.new.self.items = search rules in
    waits_out c.args.max c.args.syn c.args.pair.now c.args.packet.segment c.args.packet.octets.now c.args.waiting c.push.new.self c.args.events.now.items c.conclude.new.events.items
    (pushed_is c.args.waiting.items c.push.new.self.items w c.new-held.result.items c.args.packet.octets.now c.in_ok-push.ensures.items c.in_ok-extend_from_slice.ensures.items c.new-held.ensures.items)
    (sym c.is_answer.ensures ∙ c.if-is_answer.false) (subst (λ (n : ℕ). 4096 < n) (c.len.ensures ∙ len) c.if-len-le-GREATEST_WAIT.false)
    (c.in_ok-conclude.ensures ∙ ap (λ (l : Option Shortfall). c.args.events.now.items ++ end_event c.args.pair.now false (Some l))
    (c.lost_by.ensures ∙ ap (λ (ws : List Waiting). lost_by (map seen_waiting ws)) c.deref.ensures.value))
