use Rattle.std.proofs.Common.{◌≡◌, length, vec_len, rules}
use Rattle.cli_capture.proofs.SessionRefusals.{settle_refused}
use Rattle.cli_capture.proofs.Unrefused.{err_map}
use Rattle.cli_capture.proofs.Sessions.{none_by, ok_map, settles_none, settles_some, some_by}
use Rattle.cli_capture.proofs.midstream_log.Joined.settle.Goals as goal

pub returns-then-is_empty-clause-settles : goal.returns-then-is_empty-clause-settles
returns-then-is_empty-clause-settles c =
    let waiting = c.args.self.now.waiting in
    let len : vec_len waiting ≡ length waiting.items = search rules in
    settles_none c.args.pair.now c.args.self.now c.args.report.now (none_by waiting.items (vec_len waiting) c.is_empty.result len c.is_empty.ensures c.if-is_empty.true)

pub returns-clause-settles : goal.returns-clause-settles
returns-clause-settles c =
    let waiting = c.args.self.now.waiting in
    let len : vec_len waiting ≡ length waiting.items = search rules in
    ok_map c.decide.result
    (λ progress. settles_some c.args.pair.now progress c.args.self.now c.decide.new.self c.args.report.now c.decide.new.report
    (some_by waiting.items (vec_len waiting) c.is_empty.result len c.is_empty.ensures c.if-is_empty.false)) c.decide.ensures.decides

pub returns-clause-refuses : goal.returns-clause-refuses
returns-clause-refuses c =
    let waiting = c.args.self.now.waiting in
    let len : vec_len waiting ≡ length waiting.items = search rules in
    err_map c.decide.result
    (λ st. settle_refused c.args.pair.now c.args.self.now st c.args.report.now c.decide.new.report
    (some_by waiting.items (vec_len waiting) c.is_empty.result len c.is_empty.ensures c.if-is_empty.false)) c.decide.ensures.refuses
