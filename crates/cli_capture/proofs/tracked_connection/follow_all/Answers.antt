use Rattle.std.proofs.Common.{◌≡◌, List, ℕ, length, vec_len, rules, subst, ◌∙◌}
use Rattle.std.proofs.lemmas.Iterator.Adapters.{YieldsList-from_vec}
use Rattle.std.proofs.lemmas.Iterator.Consumers.{YieldsList-so_far, YieldsList-turn}
use Rattle.std.proofs.lemmas.Result.{err_from_is_err_and}
use Rattle.capture_tcp.specs.KnownStreams.{seen_of}
use Rattle.cli_capture.specs.InnerTrackedConnection.{Follows}
use Rattle.cli_capture.proofs.Connections.{none_yet, so_far_open, so_far_over, taken_apart}
use Rattle.cli_capture.specs.InnerLogOutput.{FollowsOnPage}
use Rattle.cli_capture.proofs.StageRefusals.{all_refused}
use Rattle.cli_capture.proofs.Staging.{page_nothing, page_open, page_over}
use Rattle.cli_capture.proofs.Tellings.{tells_nothing, tells_then}
use Rattle.cli_capture.proofs.tracked_connection.follow_all.Goals.{in-Some-left+in_ok-left-in-Some-left, in-None-left}
use Rattle.cli_capture.proofs.tracked_connection.follow_all.Goals as goal

pub loop-packet-init : goal.loop-packet-init
loop-packet-init c = record {
  emitted = tells_nothing c.args.report.now;
  follows = λ verdicts base before numbered f.
      none_yet c.args.report.now.active c.args.report.now.passive c.args.pair.now base before c.args.«open» c.args.report.now f;
  logged = page_nothing c.args.pair.now c.args.waiting.items c.args.«open» c.args.report.now;
}

pub loop-packet-preserved : goal.loop-packet-preserved
loop-packet-preserved c =
    let inv = c.loop-packet.invariant in
    let first = c.args.report.now in
    let mid = c.loop-packet.report in
    let x = c.in-Some.packet in
    let yielded = c.loop-packet.yielded in
    let len : vec_len c.args.waiting ≡ length c.args.waiting.items = search rules in
    let all = YieldsList-from_vec {s = c.into_iter-packet-iterator.result} c.args.waiting.items c.into_iter-packet-iterator.ensures.into_iter_gives.0
    (c.into_iter-packet-iterator.ensures.into_iter_gives.1 ∙ len) in
    let turn = YieldsList-turn all yielded c.loop-packet.packet-iterator c.loop-packet.yielded_by c.next.result c.next.new.self x c.in-Some.is
    c.next.ensures.steps in
    let front = YieldsList-so_far all yielded c.loop-packet.packet-iterator c.loop-packet.yielded_by in
    let whole = taken_apart c.args.waiting.items yielded x front turn.0 turn.1 in
    elim c.match-left.branch [
      | in-Some-left+in_ok-left-in-Some-left w ↦ record {
        emitted = rw w.report-is (tells_then first mid w.follow.new.report inv.emitted w.in_ok-left-in-Some-left.ensures.emitted);
        follows = rw (w.left-is, w.report-is) (so_far_open c.args.pair.now c.args.waiting.items c.args.«open» w.in-Some-left.«open» first mid w.follow.new.report yielded _ x
            c.loop-packet.left w.in_ok-left-in-Some-left.left whole inv.follows w.in-Some-left.is
            (subst (λ (octets : List ℕ). Follows c.args.pair.now (seen_of x.segment octets) w.in-Some-left.«open» w.in_ok-left-in-Some-left.left mid w.follow.new.report) w.deref.ensures.value
            w.in_ok-left-in-Some-left.ensures.follows));
        logged = rw (w.left-is, w.report-is) (page_open c.args.pair.now c.args.waiting.items c.args.«open» w.in-Some-left.«open» first mid w.follow.new.report yielded _ x
            c.loop-packet.left w.in_ok-left-in-Some-left.left whole inv.logged w.in-Some-left.is
            (subst (λ (octets : List ℕ). FollowsOnPage c.args.pair.now (seen_of x.segment octets) w.in-Some-left.«open» w.in_ok-left-in-Some-left.left mid w.follow.new.report) w.deref.ensures.value
            w.in_ok-left-in-Some-left.ensures.logged));
      }
      | in-None-left w ↦ record {
        emitted = rw w.report-is inv.emitted;
        follows = rw (w.left-is, w.report-is) (so_far_over c.args.pair.now c.args.waiting.items c.args.«open» first mid yielded x c.loop-packet.left inv.follows
            w.in-None-left.is);
        logged = rw (w.left-is, w.report-is) (page_over c.args.pair.now c.args.waiting.items c.args.«open» first mid yielded x c.loop-packet.left inv.logged
            w.in-None-left.is);
      }
    ]

pub returns-in_err-left-in-Some-left-clause-refuses : goal.returns-in_err-left-in-Some-left-clause-refuses
returns-in_err-left-in-Some-left-clause-refuses c =
    let p = err_from_is_err_and c.from_residual.result c.from_residual.ensures.1 in
    let x = c.in-Some.packet in
    let yielded = c.loop-packet.yielded in
    let len : vec_len c.args.waiting ≡ length c.args.waiting.items = search rules in
    let all = YieldsList-from_vec {s = c.into_iter-packet-iterator.result} c.args.waiting.items c.into_iter-packet-iterator.ensures.into_iter_gives.0
    (c.into_iter-packet-iterator.ensures.into_iter_gives.1 ∙ len) in
    let turn = YieldsList-turn all yielded c.loop-packet.packet-iterator c.loop-packet.yielded_by c.next.result c.next.new.self x c.in-Some.is
    c.next.ensures.steps in
    let front = YieldsList-so_far all yielded c.loop-packet.packet-iterator c.loop-packet.yielded_by in
    let whole = taken_apart c.args.waiting.items yielded x front turn.0 turn.1 in
    rw (p.1, p.2)
    (all_refused c.args.pair.now c.args.waiting.items c.args.«open» c.in-Some-left.«open» c.args.report.now c.loop-packet.report c.follow.new.report yielded _ x
    c.loop-packet.left _ _ whole c.loop-packet.invariant.logged c.in-Some-left.is c.deref.ensures.value c.in_err-left-in-Some-left.ensures.refuses)
