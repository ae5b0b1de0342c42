use Rattle.std.proofs.Common.{◌≡◌, true, false, rules, ◌∙◌}
use Rattle.std.specs.Prelude.{◌↔◌}
use Rattle.capture_midstream.specs.PacketBuffer.{IsDue}
use Rattle.cli_capture.specs.MidstreamSync.{IsLast}
use Rattle.cli_capture.specs.Report.{session_of}
use Rattle.cli_capture.proofs.PacketRefusals.{gather_refused}
use Rattle.cli_capture.proofs.Unrefused.{err_map}
use Rattle.cli_capture.proofs.SessionBegins.{gathers_on, keeps_on, last_full, last_reset}
use Rattle.cli_capture.proofs.Sessions.{ok_map}
use Rattle.cli_capture.proofs.midstream_sync.buffer_pending.Goals.{then-segment, else-segment, else-not-is_last-via-then-not-is_last+else-not-is_due, else-not-is_last-via-else-not-is_last}
use Rattle.cli_capture.proofs.midstream_sync.buffer_pending.Goals as goal

pub returns-then-not-is_due-clause-gathers : goal.returns-then-not-is_due-clause-gathers
returns-then-not-is_due-clause-gathers c =
    let all = c.take.new.self in
    let is : (c.if-segment.is_last ≡ true) ↔ IsLast c.args.segment all =
    elim c.if-segment.branch [
      | then-segment w ↦ last_reset c.if-segment.is_last c.args.segment all w.if-segment.true (w.is_last-is ∙ w.if-segment.true)
      | else-segment w ↦ last_full c.if-segment.is_last c.args.segment all w.is_full-is_last.result w.if-segment.false w.is_last-is w.is_full-is_last.ensures
    ] in
    keeps_on c.args.pair.now (session_of c.args.report.now.active) c.args.segment c.args.octets.now c.args.gathering all c.if-segment.is_last c.args.report.now c.in_ok-take.ensures.ok is
    (search rules) (λ due. search rules)

pub returns-clause-gathers : goal.returns-clause-gathers
returns-clause-gathers c =
    let all = c.take.new.self in
    let is : (c.if-segment.is_last ≡ true) ↔ IsLast c.args.segment all =
    elim c.if-segment.branch [
      | then-segment w ↦ last_reset c.if-segment.is_last c.args.segment all w.if-segment.true (w.is_last-is ∙ w.if-segment.true)
      | else-segment w ↦ last_full c.if-segment.is_last c.args.segment all w.is_full-is_last.result w.if-segment.false w.is_last-is w.is_full-is_last.ensures
    ] in
    let due : c.if-segment.is_last ≡ false → IsDue all = λ more.
    elim c.else-not-is_last.branch [
      | else-not-is_last-via-then-not-is_last+else-not-is_due w ↦ search rules
      | else-not-is_last-via-else-not-is_last w ↦ search rules
    ] in
    ok_map c.begin.result
    (λ joining begins. gathers_on c.args.pair.now (session_of c.args.report.now.active) c.args.segment c.args.octets.now c.args.gathering all c.if-segment.is_last joining c.args.report.now c.begin.new.report
    c.in_ok-take.ensures.ok is due begins) c.begin.ensures.begins

pub returns-clause-refuses : goal.returns-clause-refuses
returns-clause-refuses c =
    let all = c.take.new.self in
    let is : (c.if-segment.is_last ≡ true) ↔ IsLast c.args.segment all =
    elim c.if-segment.branch [
      | then-segment w ↦ last_reset c.if-segment.is_last c.args.segment all w.if-segment.true (w.is_last-is ∙ w.if-segment.true)
      | else-segment w ↦ last_full c.if-segment.is_last c.args.segment all w.is_full-is_last.result w.if-segment.false w.is_last-is w.is_full-is_last.ensures
    ] in
    let due : c.if-segment.is_last ≡ false → IsDue all = λ more.
    elim c.else-not-is_last.branch [
      | else-not-is_last-via-then-not-is_last+else-not-is_due w ↦ search rules
      | else-not-is_last-via-else-not-is_last w ↦ search rules
    ] in
    err_map c.begin.result
    (λ st begins. gather_refused c.args.pair.now (session_of c.args.report.now.active) c.args.segment c.args.octets.now c.args.gathering all c.if-segment.is_last st c.args.report.now c.begin.new.report
    c.in_ok-take.ensures.ok is due begins) c.begin.ensures.refuses
