use Rattle.cli_capture.proofs.StageRefusals.{end_joining_refused, end_open_refused, end_opening_refused, end_within_refused}
use Rattle.cli_capture.proofs.Unrefused.{err_map}
use Rattle.cli_capture.proofs.tracked_connection.ConnectionState.end.Goals as goal

pub returns-in-Opening-clause-refuses : goal.returns-in-Opening-clause-refuses
returns-in-Opening-clause-refuses c =
    err_map c.give_up.result
    (λ st. end_opening_refused c.args.missing c.args.self c.in-Opening.waiting c.deref.result.now st c.args.report.now c.give_up.new.report c.in-Opening.is
    c.deref.ensures.value) c.give_up.ensures.refuses

pub returns-in-Open-clause-refuses : goal.returns-in-Open-clause-refuses
returns-in-Open-clause-refuses c =
    err_map c.end_open.result
    (λ st. end_open_refused c.args.missing c.args.self c.in-Open.«open» st c.args.report.now c.end_open.new.report c.in-Open.is) c.end_open.ensures.refuses

pub returns-in-Within-clause-refuses : goal.returns-in-Within-clause-refuses
returns-in-Within-clause-refuses c =
    err_map c.end.result
    (λ st _. end_within_refused c.args.missing c.args.self c.in-Within.within st c.args.report.now c.end.new.report c.in-Within.is) c.end.ensures.unrefused

pub returns-in-Joining-clause-refuses : goal.returns-in-Joining-clause-refuses
returns-in-Joining-clause-refuses c =
    err_map c.end_gathered.result
    (λ st _. end_joining_refused c.args.missing c.args.self c.in-Joining.gathering st c.args.report.now c.end_gathered.new.report c.in-Joining.is)
    c.end_gathered.ensures.unrefused
