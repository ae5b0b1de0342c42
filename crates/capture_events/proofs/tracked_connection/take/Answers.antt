use Rattle.std.proofs.Common.{◌≡◌, ◌||◌, ℕ, List, length, nat_lt, vec_len, rules, refl, ap, subst, ◌∙◌}
use Rattle.capture_tcp.specs.KnownStreams.{seen_of}
use Rattle.capture_events.specs.InnerLoggedEvents.{LogsBy}
use Rattle.capture_events.proofs.NextSegment.{takes_ok}
use Rattle.capture_events.proofs.tracked_connection.take.Goals as goal

pub returns : goal.returns
returns c =
    let first : vec_len c.args.events.now ≡ length c.args.events.now.items = search rules in
    let second : vec_len c.log_all.new.events ≡ length c.log_all.new.events.items = search rules in
    takes_ok c.go_on.result c.in_ok-followed.followed c.in_ok-over.over c.args.max c.args.pair.now (seen_of c.args.segment c.args.octets.now) c.args.tracked
    c.new-emitted.result.items c.follow.new.emitted.items c.args.tracked.bare_resets c.note_reset.new.bare_resets c.either-is_up.result
    c.args.events.now.items c.log_all.new.events.items c.go_on.new.events.items c.new-emitted.ensures.items refl c.in_ok-followed.ensures c.in_ok-note_reset.ensures
    (subst (λ (b : List ℕ). LogsBy c.args.max b c.args.pair.now c.follow.new.emitted.items c.in_ok-over.over c.args.events.now.items c.log_all.new.events.items)
    c.deref.ensures.value c.in_ok-over.ensures)
    (c.either-is_up.ensures ∙ ap (λ (n : ℕ). c.args.tracked.is_up || nat_lt n c.len.result) (c.len-before.ensures ∙ first)
    ∙ ap (λ (n : ℕ). c.args.tracked.is_up || nat_lt (length c.args.events.now.items) n) (c.len.ensures ∙ second)) c.go_on.ensures.appended c.go_on.ensures.left
