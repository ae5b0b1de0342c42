use Rattle.std.proofs.Common.{sym}
use Rattle.capture_verdicts.proofs.NextEvent.{takes_incomplete, takes_skipped, takes_logs, takes_ended, takes_ok, on_map, counts_are}
use Rattle.capture_events.specs.declared.event.Event.TheVariants.{Logged, Ended}
use Rattle.capture_verdicts.proofs.verdict_report.VerdictReport.take.Goals as goal

pub returns-in-Logged-clause-takes : goal.returns-in-Logged-clause-takes
returns-in-Logged-clause-takes c =
    takes_ok c.log.result c.args.event (Logged c.in-Logged.pair c.in-Logged.item) c.args.self.now c.log.new.self (sym c.in-Logged.is)
    (on_map c.log.result (λ on. takes_logs c.are_alike.ensures c.in-Logged.pair c.in-Logged.item c.args.self.now c.log.new.self on) c.log.ensures.logs)

pub returns-in-Ended-clause-takes : goal.returns-in-Ended-clause-takes
returns-in-Ended-clause-takes c =
    takes_ok c.conclude.result c.args.event (Ended c.in-Ended.pair c.in-Ended.shortfall) c.args.self.now c.conclude.new.self (sym c.in-Ended.is)
    (on_map c.conclude.result (λ on. takes_ended c.in-Ended.pair c.in-Ended.shortfall c.args.self.now c.conclude.new.self on) c.conclude.ensures.concludes)

pub returns-in-Incomplete-clause-takes : goal.returns-in-Incomplete-clause-takes
returns-in-Incomplete-clause-takes c =
    rw c.in-Incomplete.is (takes_incomplete c.in-Incomplete.shortfall c.args.self.now c.note.new.self c.note.ensures)

pub returns-in-Skipped-clause-takes : goal.returns-in-Skipped-clause-takes
returns-in-Skipped-clause-takes c =
    rw c.in-Skipped.is (takes_skipped c.in-Skipped.reason c.args.self.now _ (counts_are c.args.self.now c.count.new.self c.in-Skipped.reason c.count.ensures))
