use Rattle.std.proofs.Common.{◌≡◌, ℕ, Some, refl, subst, rules}
use Rattle.std.specs.Prelude.{Option}
use Rattle.hsms_machine.specs.Settings.{Parameters}
use Rattle.hsms_log.specs.InnerReading.{settings_at}
use Rattle.hsms_log.specs.InnerSettingsFields.{IsOf}
use Rattle.hsms_log.proofs.LineBindings.{some_inj}
use Rattle.hsms_log.proofs.settings_line.version_and_settings.Goals as goal

pub returns-clause-found : goal.returns-clause-found
unfolding settings_at
returns-clause-found c = λ x is.
    let line = c.args.line.now in
    let p : Parameters = record {
      version = c.in_ok-version.version;
      role = c.in_ok-role.role;
      link = c.in_ok-role.link;
      device = c.in_ok-role.device;
      t3 = c.in_ok-t3.t3;
      t6 = c.in_ok-t3.t6;
      t7 = c.in_ok-t3.t7;
      t8 = c.in_ok-t3.t8;
      max = c.in_ok-max.max;
      depth = c.in_ok-max.depth;
    } in
    let read : settings_at line ≡ Some p = search rules in
    let P : ℕ × Option Parameters → Type 0 = λ y. (q : Parameters) × (settings_at line ≡ Some q) × IsOf q y.0 y.1 in
    subst P (some_inj {A = ℕ × Option Parameters} (c.in_ok-version.version, c.new-settings.result) x is)
    (p, read, record { version_is = refl; within = c.new-settings.ensures.within; value = c.new-settings.ensures.value })
