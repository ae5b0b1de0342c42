use Rattle.cli_capture.proofs.Sessions.{asked_ok}
use Rattle.cli_capture.proofs.midstream_log.Joined.suppose.Goals as goal

pub returns-in-Asked-clause-said : goal.returns-in-Asked-clause-said
returns-in-Asked-clause-said c =
    asked_ok c.note.result c.args.assumed c.args.asker c.in-Asked.system c.select_req.result c.note.new.self c.new.result c.in-Asked.is c.select_req.ensures
    c.new.ensures c.note.ensures.noted
