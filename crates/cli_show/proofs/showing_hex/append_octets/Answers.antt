use Rattle.std.proofs.Common.{◌≡◌, ◌<◌, length, ap, arith, refl, rules}
use Rattle.std.proofs.lemmas.Result.{err_from_is_err_and}
use Rattle.hsms_frame.specs.Frame.{Frame}
use Rattle.cli_options.specs.Request.{is_bare}
use Rattle.cli_show.specs.ShowHex.{IsNoMessage, IsNotMessage, ShowsOctets}
use Rattle.cli_show.proofs.HexSteps.{appended_message, part_of_message, stopped_write}
use Rattle.cli_show.proofs.showing_hex.append_octets.Goals as goal

pub returns-in_err-append_line-in-Some-clause-shown : goal.returns-in_err-append_line-in-Some-clause-shown
returns-in_err-append_line-in-Some-clause-shown g c =
    let f : Frame = record { header = c.in-Some.header; text = c.in-Some.text.now } in
    let p = err_from_is_err_and c.from_residual.result c.from_residual.ensures.1 in
    rw (p.1, p.2) (part_of_message (is_bare c.args.showing.form) c.args.showing.max c.args.showing.depth (IsNotMessage (is_bare c.args.showing.form) c.args.showing.max c.args.number c.args.octets.now) c.args.octets.now f _ (g.W.Sink.state c.args.sink.now).written c.args.held.now (g.W.Sink.state c.append_line.new.sink).written c.append_line.new.held c.in-Some.ensures.some c.in_err-append_line-in-Some.ensures.line)

pub returns-in_ok-append_line-in-Some-clause-shown : goal.returns-in_ok-append_line-in-Some-clause-shown
returns-in_ok-append_line-in-Some-clause-shown g c =
    let f : Frame = record { header = c.in-Some.header; text = c.in-Some.text.now } in
    appended_message (is_bare c.args.showing.form) c.args.showing.max c.args.showing.depth (IsNotMessage (is_bare c.args.showing.form) c.args.showing.max c.args.number c.args.octets.now) c.args.octets.now f (g.W.Sink.state c.args.sink.now).written c.args.held.now (g.W.Sink.state c.append_line.new.sink).written c.append_line.new.held c.in-Some.ensures.some c.in_ok-append_line-in-Some.ensures.line

pub returns-in_err-put_out-in-None-clause-shown : goal.returns-in_err-put_out-in-None-clause-shown
returns-in_err-put_out-in-None-clause-shown g c =
    let p = err_from_is_err_and c.from_residual-in_err-put_out-in-None.result c.from_residual-in_err-put_out-in-None.ensures.1 in
    rw (p.1, p.2) (stopped_write (ShowsOctets (is_bare c.args.showing.form) c.args.showing.max c.args.showing.depth c.args.octets.now) (IsNotMessage (is_bare c.args.showing.form) c.args.showing.max c.args.number c.args.octets.now) (g.W.Sink.state c.args.sink.now).written c.args.held.now (g.W.Sink.state c.put_out.new.sink).written c.put_out.new.held c.in_err-put_out-in-None.ensures.err)

pub returns-in_ok-put_out-in-None-clause-shown : goal.returns-in_ok-put_out-in-None-clause-shown
returns-in_ok-put_out-in-None-clause-shown g c =
    let some : 0 < length c.args.octets.now = search rules in
    let none : IsNoMessage (is_bare c.args.showing.form) c.args.showing.max c.args.octets.now =
    ((λ empty. let size : length c.args.octets.now ≡ 0 = ap length empty in omega (arith, some, size)), c.message_of.ensures.none c.in-None.is) in
    ((none, refl), c.in_ok-put_out-in-None.ensures.ok)
