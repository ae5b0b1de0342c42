use Rattle.std.proofs.Common.{refl}
use Rattle.cli_capture.proofs.Sessions.{select_told}
use Rattle.cli_capture.proofs.midstream_log.Joined.suppose_select.Goals as goal

pub returns-clause-items : goal.returns-clause-items
returns-clause-items c = λ pair.
    select_told c.assume_message-2.result pair c.args.self.now.asker c.select_req-request.result c.select_rsp-response.result 4294967295 c.args.self.now.ends
    c.assume_message.new.ends c.assume_message-2.new.ends c.args.report.now c.assume_message.new.self c.assume_message-2.new.self refl
    c.select_req-request.ensures c.select_rsp-response.ensures (c.in_ok-assume_message.ensures.logged pair) (c.assume_message-2.ensures.logged pair)
