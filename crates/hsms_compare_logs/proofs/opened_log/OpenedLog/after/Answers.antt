use Rattle.std.proofs.Common.{◌∙◌, [], List, ℕ, refl, sym, subst}
use Rattle.hsms_machine.specs.Settings.{Parameters}
use Rattle.hsms_compare_logs.specs.declared.log_record.LogRecord.{LogRecord}
use Rattle.hsms_compare_logs.specs.Records.{HasRecordOf}
use Rattle.hsms_compare_logs.specs.LogEntries.{HasEntries, after_up, connection_of}
use Rattle.hsms_log.specs.LineFormat.{EncodesSettings}
use Rattle.hsms_compare_logs.proofs.Openings.{begins_with, same_settings, settings_in, settings_of, starts}
use Rattle.hsms_compare_logs.proofs.opened_log.OpenedLog.after.Goals as goal

pub returns-clause-settings : goal.returns-clause-settings
returns-clause-settings g c text left first =
    let P : List ℕ → Type 0 = λ x. EncodesSettings x c.in-Some.settings in
    settings_of text c.args.line.now left c.args.is_ended c.in-Some.settings (subst P c.without_carriage_return.ensures c.in-Some.ensures.found) first

pub returns-clause-entries : goal.returns-clause-entries
returns-clause-entries g c text octets found known first entries =
    c.in_ok-advance.ensures.entry (after_up found) refl
    (c.in_ok-up.ensures.entries found
    (starts c.args.input.block.items octets text c.args.line.now (g.R.Source.state c.args.input.source).left c.args.is_ended c.in-Some.settings c.max.result found
    c.max.ensures.value known first entries)).1

pub returns-clause-connection : goal.returns-clause-connection
returns-clause-connection g c text octets known first s found entries =
    let P : List ℕ → Type 0 = λ x. EncodesSettings x c.in-Some.settings in
    let Q : Parameters → Type 0 = λ x. HasEntries text x found in
    let F : LogRecord → Type 0 = λ x. HasRecordOf [] x in
    let begins = settings_of text c.args.line.now _ c.args.is_ended c.in-Some.settings (subst P c.without_carriage_return.ensures c.in-Some.ensures.found) first in
    let same = same_settings text s c.in-Some.settings (begins_with text s found entries) begins in
    let skipped =
    c.in_ok-up.ensures.entries found
    (starts c.args.input.block.items octets text c.args.line.now (g.R.Source.state c.args.input.source).left c.args.is_ended c.in-Some.settings c.max.result found
    c.max.ensures.value known first (subst Q same entries)) in (
      c.in_ok-advance.ensures.up ∙ skipped.0,
      [],
      connection_of found,
      refl,
      subst F (sym c.in_ok-advance.ensures.kept) c.new.ensures,
      c.in_ok-advance.ensures.entry (after_up found) refl skipped.1,
    )

pub returns-in_default-clause-none : goal.returns-in_default-clause-none
returns-in_default-clause-none g c none text left s first has =
    let P : List ℕ → Type 0 = λ x. EncodesSettings x s in
    c.in_default.ensures.none s (subst P (sym c.without_carriage_return.ensures) (settings_in text c.args.line.now left c.args.is_ended s has first))
