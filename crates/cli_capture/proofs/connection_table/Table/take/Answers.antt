use Rattle.std.proofs.Common.{None, refl}
use Rattle.cli_capture.proofs.Dealing.{deals_packet, found_deals}
use Rattle.cli_capture.proofs.TableRefusals.{packets_refused}
use Rattle.cli_capture.proofs.connection_table.Table.take.Goals as goal

pub returns-in-Some-clause-deals : goal.returns-in-Some-clause-deals
returns-in-Some-clause-deals c =
    found_deals c.take_of.result c.in-Some.pair c.in-Some.from c.args.capture.segment c.args.capture c.args.self.now c.take_of.new.self c.args.report.now c.take_of.new.report
    c.in-Some.ensures.looks c.take_of.ensures.takes

pub returns-in_ok-pass-in-None-clause-deals : goal.returns-in_ok-pass-in-None-clause-deals
returns-in_ok-pass-in-None-clause-deals c = λ port peer how a p last all report past few is.
    deals_packet port peer how a p last c.args.capture.segment c.args.capture _ c.args.self.now c.args.self.now c.args.report.now c.args.report.now all report past few is
    (None, c.in-None.ensures.looks, (refl, refl, refl))

pub returns-in-Some-clause-refuses : goal.returns-in-Some-clause-refuses
returns-in-Some-clause-refuses c =
    packets_refused c.take_of.result c.in-Some.pair c.in-Some.from c.args.capture.segment c.args.capture c.args.self.now c.args.report.now c.take_of.new.report
    c.in-Some.ensures.looks c.take_of.ensures.unrefused c.take_of.ensures.refuses
