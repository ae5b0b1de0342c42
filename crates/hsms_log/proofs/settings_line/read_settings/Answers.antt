use Rattle.std.proofs.Common.{◌≡◌, Some, None, refl, subst, false, true}
use Rattle.std.specs.Prelude.{Option}
use Rattle.hsms_machine.specs.Settings.{Parameters}
use Rattle.hsms_log.specs.InnerSettingsFields.{IsOf}
use Rattle.hsms_log.proofs.SettingsLaws.{settings_found, settings_none, settings_unread, parts_within, parts_value, parts_never}
use Rattle.hsms_log.proofs.settings_line.read_settings.Goals as goal

pub returns-in_err-version-clause-none : goal.returns-in_err-version-clause-none
returns-in_err-version-clause-none c = rw c.from_residual.ensures (settings_unread c.args.line.now (c.in_err-version.ensures.none refl))

pub returns-in_err-settings-clause-none : goal.returns-in_err-settings-clause-none
returns-in_err-settings-clause-none c =
    let found_fact = c.in_ok-version.ensures.found (c.in_ok-version.version, c.in_ok-version.settings) refl in
    let P : Option Parameters → Type 0 = λ o. IsOf found_fact.0 c.in_ok-version.version o in
    let none : IsOf found_fact.0 c.in_ok-version.version None = subst P c.in_err-settings.was found_fact.2 in
    let never = parts_never found_fact.0 (λ w. let no : false ≡ true = none.within.1 w in cc no) in
    rw c.from_residual-in_err-settings.ensures (settings_none c.args.line.now found_fact.0 None found_fact.1 ((λ some. cc some), (λ w. absurd (never w))))

pub returns-clause-found : goal.returns-clause-found
returns-clause-found c =
    let found_fact = c.in_ok-version.ensures.found (c.in_ok-version.version, c.in_ok-version.settings) refl in
    let P : Option Parameters → Type 0 = λ o. IsOf found_fact.0 c.in_ok-version.version o in
    let some : IsOf found_fact.0 c.in_ok-version.version (Some c.in_ok-settings.field-0) = subst P c.in_ok-settings.was found_fact.2 in
    settings_found c.args.line.now found_fact.0 c.of_version.result found_fact.1
    (parts_within found_fact.0 c.in_ok-version.version some.version_is c.of_version.result (some.within.0 refl) c.of_version.ensures.within)
    (parts_value found_fact.0 c.in_ok-version.version some.version_is c.of_version.result c.in_ok-settings.field-0 some.value c.of_version.ensures.value)

pub returns-clause-none : goal.returns-clause-none
returns-clause-none c =
    let found_fact = c.in_ok-version.ensures.found (c.in_ok-version.version, c.in_ok-version.settings) refl in
    let P : Option Parameters → Type 0 = λ o. IsOf found_fact.0 c.in_ok-version.version o in
    let some : IsOf found_fact.0 c.in_ok-version.version (Some c.in_ok-settings.field-0) = subst P c.in_ok-settings.was found_fact.2 in
    settings_none c.args.line.now found_fact.0 c.of_version.result found_fact.1
    (parts_within found_fact.0 c.in_ok-version.version some.version_is c.of_version.result (some.within.0 refl) c.of_version.ensures.within)
