use Rattle.std.proofs.Common.{Some, None, refl}
use Rattle.cli_options.proofs.request.audit_of.Goals as goal

pub returns-in_err-report_form_of-clause-no_text : goal.returns-in_err-report_form_of-clause-no_text
returns-in_err-report_form_of-clause-no_text c none is = c.in_err-report_form_of.ensures.none refl None is

pub returns-in_err-report_form_of-clause-no_report : goal.returns-in_err-report_form_of-clause-no_report
returns-in_err-report_form_of-clause-no_report c none form is = c.in_err-report_form_of.ensures.none refl (Some form) is
