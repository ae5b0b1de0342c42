use Rattle.std.proofs.Common.{map, ℕ}
use Rattle.hsms_machine.specs.Settings.{Parameters}
use Rattle.capture_tcp.specs.KnownStreams.{seen_of}
use Rattle.cli_capture.specs.declared.tracked_connection.Open.{Open}
use Rattle.cli_capture.specs.InnerTrackedConnection.{seen_waiting}
use Rattle.cli_capture.proofs.Connections.{begins_none, begins_some, begun_open}
use Rattle.cli_capture.proofs.Staging.{page_begins, page_begins_none, page_begun}
use Rattle.std.proofs.lemmas.Result.{err_from_is_err_and}
use Rattle.cli_capture.proofs.StageRefusals.{begins_refused_before, begins_refused_with}
use Rattle.cli_capture.proofs.Unrefused.{err_map}
use Rattle.cli_capture.proofs.tracked_connection.begin_with.Goals as goal

pub returns-in-Some-clause-begins : goal.returns-in-Some-clause-begins
returns-in-Some-clause-begins c =
    let first : Open = record { connection = c.new.result; logs = c.new-2.result } in
    begins_some c.follow.result c.args.pair.now c.args.syn c.args.segment.number (map seen_waiting c.args.waiting.items)
    (seen_of c.args.segment c.args.octets.now) first c.in-Some.«open» c.in_ok-open.field-0 c.args.report.now c.follow_all.new.report c.follow.new.report
    (λ (a p : Parameters). begun_open a p c.args.syn c.args.segment.number c.new.result c.new-2.result c.new.ensures.«open» c.new.ensures.emitted c.new.ensures.times
    c.new-2.ensures.ends c.new-2.ensures.up c.new-2.ensures.bare)
    c.in_ok-open.ensures.follows c.in-Some.is c.follow.ensures.follows

pub returns-in-None-clause-begins : goal.returns-in-None-clause-begins
returns-in-None-clause-begins c =
    let first : Open = record { connection = c.new.result; logs = c.new-2.result } in
    begins_none c.args.pair.now c.args.syn c.args.segment.number (map seen_waiting c.args.waiting.items) (seen_of c.args.segment c.args.octets.now) first
    c.in_ok-open.field-0 c.args.report.now c.follow_all.new.report
    (λ (a p : Parameters). begun_open a p c.args.syn c.args.segment.number c.new.result c.new-2.result c.new.ensures.«open» c.new.ensures.emitted c.new.ensures.times
    c.new-2.ensures.ends c.new-2.ensures.up c.new-2.ensures.bare)
    c.in_ok-open.ensures.follows c.in-None.is

pub returns-in-Some-clause-logged : goal.returns-in-Some-clause-logged
returns-in-Some-clause-logged c =
    let first : Open = record { connection = c.new.result; logs = c.new-2.result } in
    page_begins c.follow.result c.args.pair.now c.args.syn c.args.segment.number (map seen_waiting c.args.waiting.items)
    (seen_of c.args.segment c.args.octets.now) first c.in-Some.«open» c.in_ok-open.field-0 c.args.report.now c.follow_all.new.report c.follow.new.report
    (λ (most : ℕ). page_begun most c.args.syn c.args.segment.number c.new.result c.new-2.result c.new.ensures.«open» c.new.ensures.emitted c.new.ensures.times
    c.new-2.ensures.up c.new-2.ensures.bare)
    c.in_ok-open.ensures.logged c.in-Some.is c.follow.ensures.logged

pub returns-in-None-clause-logged : goal.returns-in-None-clause-logged
returns-in-None-clause-logged c =
    let first : Open = record { connection = c.new.result; logs = c.new-2.result } in
    page_begins_none c.args.pair.now c.args.syn c.args.segment.number (map seen_waiting c.args.waiting.items) (seen_of c.args.segment c.args.octets.now) first
    c.in_ok-open.field-0 c.args.report.now c.follow_all.new.report
    (λ (most : ℕ). page_begun most c.args.syn c.args.segment.number c.new.result c.new-2.result c.new.ensures.«open» c.new.ensures.emitted c.new.ensures.times
    c.new-2.ensures.up c.new-2.ensures.bare)
    c.in_ok-open.ensures.logged c.in-None.is

pub returns-in_err-open-clause-refuses : goal.returns-in_err-open-clause-refuses
returns-in_err-open-clause-refuses c =
    let p = err_from_is_err_and c.from_residual.result c.from_residual.ensures.1 in
    let first : Open = record { connection = c.new.result; logs = c.new-2.result } in
    rw (p.1, p.2)
    (begins_refused_before c.args.pair.now c.args.syn c.args.segment.number (map seen_waiting c.args.waiting.items) (seen_of c.args.segment c.args.octets.now) first _
    c.args.report.now c.follow_all.new.report
    (λ (most : ℕ). page_begun most c.args.syn c.args.segment.number c.new.result c.new-2.result c.new.ensures.«open» c.new.ensures.emitted c.new.ensures.times
    c.new-2.ensures.up c.new-2.ensures.bare)
    c.in_err-open.ensures.refuses)

pub returns-in-Some-clause-refuses : goal.returns-in-Some-clause-refuses
returns-in-Some-clause-refuses c =
    let first : Open = record { connection = c.new.result; logs = c.new-2.result } in
    err_map c.follow.result
    (λ st. begins_refused_with c.args.pair.now c.args.syn c.args.segment.number (map seen_waiting c.args.waiting.items)
    (seen_of c.args.segment c.args.octets.now) first c.in-Some.«open» c.in_ok-open.field-0 st c.args.report.now c.follow_all.new.report c.follow.new.report
    (λ (most : ℕ). page_begun most c.args.syn c.args.segment.number c.new.result c.new-2.result c.new.ensures.«open» c.new.ensures.emitted c.new.ensures.times
    c.new-2.ensures.up c.new-2.ensures.bare)
    c.in_ok-open.ensures.logged c.in-Some.is) c.follow.ensures.refuses
