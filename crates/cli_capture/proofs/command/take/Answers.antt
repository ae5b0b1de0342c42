use Rattle.cli_capture.proofs.FileRefusals.{puts_refused}
use Rattle.cli_capture.proofs.Tellings.{writes_told}
use Rattle.cli_capture.proofs.Whole.{puts}
use Rattle.cli_capture.proofs.command.take.Goals as goal

pub returns-in-Ok-clause-lines : goal.returns-in-Ok-clause-lines
returns-in-Ok-clause-lines g c =
    writes_told c.args.report.now c.take_packet-taken.new.report c.put_out.new.self _ _ c.in-Ok.ensures.emitted
    c.in_ok-put_out.ensures.ok c.put_out.ensures.same c.in_ok-put_out.ensures.none

pub returns-in-Ok-clause-deals : goal.returns-in-Ok-clause-deals
returns-in-Ok-clause-deals g c =
    puts c.args.packet.number c.args.packet.header c.args.packet.octets.now c.in-Ok.missing c.args.table.now c.take_packet-taken.new.table c.args.report.now
    c.take_packet-taken.new.report c.put_out.new.self _ _ c.in-Ok.ensures.deals c.in-Ok.ensures.emitted c.in_ok-put_out.ensures.ok c.put_out.ensures.same
    c.in_ok-put_out.ensures.none

pub returns-in-Err-clause-refuses : goal.returns-in-Err-clause-refuses
returns-in-Err-clause-refuses g c =
    puts_refused c.args.packet.number c.args.packet.header c.args.packet.octets.now c.args.table.now c.in-Err.stop c.args.report.now c.take_packet-taken.new.report _ _
    c.error_of.result c.in-Err.ensures.refuses c.error_of.ensures c.in_ok-put_out.ensures.ok
