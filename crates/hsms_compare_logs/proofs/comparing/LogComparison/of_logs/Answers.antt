use Rattle.std.proofs.Common.{◌∙◌, sym, inl, inr}
use Rattle.hsms_compare_logs.specs.LogEntries.{connection_of, has_later_connections, is_open_connection}
use Rattle.hsms_compare_logs.proofs.Openings.{other_role}
use Rattle.hsms_compare_logs.proofs.Refusals.{not_compared}
use Rattle.hsms_compare_logs.proofs.comparing.LogComparison.of_logs.Goals as goal

pub returns-in_ok-of-in-Host-clause-ok : goal.returns-in_ok-of-in-Host-clause-ok
returns-in_ok-of-in-Host-clause-ok g c one other known known' =
    let s = c.in-Some.first.settings in
    let t = c.in-Some-2.second.settings in
    let a = rw c.in-Some.is at c.in_ok-first.ensures.entries in
    let b = rw c.in-Some-2.is at c.in_ok-second.ensures.entries in
    let begins = rw c.in-Some.is at c.in_ok-first.ensures.settings in
    let begins' = rw c.in-Some-2.is at c.in_ok-second.ensures.settings in
    let reads = rw c.in-Some.is at c.in_ok-first.ensures.text in
    let reads' = rw c.in-Some-2.is at c.in_ok-second.ensures.text in
    let entries = rw c.in-Some.is at c.in_ok-first.ensures.connection in
    let entries' = rw c.in-Some-2.is at c.in_ok-second.ensures.connection in
    let compared = c.in_ok-of-in-Host.ensures in (
      s,
      t,
      c.of.ensures.none c.in_default-of.is,
      compared.order ∙ c.are_in_order-is_in_order.ensures,
      inl (record {
        role = sym c.role-role.ensures ∙ c.in-Host.is;
        host_settings = begins one known;
        equipment_settings = begins' other known';
        contradiction = λ h e has has'. compared.contradiction (connection_of h) (connection_of e) (is_open_connection h) (is_open_connection e) (has_later_connections h) (has_later_connections e) (a one h known has) (b other e known' has');
        to_equipment = compared.to_equipment;
        to_host = compared.to_host;
        failures = compared.failures one other (reads one known) (entries one known) (reads' other known') (entries' other known');
        of_host = compared.host one (reads one known) (entries one known);
        of_equipment = compared.equipment other (reads' other known') (entries' other known');
      }),
    )

pub returns-in_ok-of-in-Equipment-clause-ok : goal.returns-in_ok-of-in-Equipment-clause-ok
returns-in_ok-of-in-Equipment-clause-ok g c one other known known' =
    let s = c.in-Some.first.settings in
    let t = c.in-Some-2.second.settings in
    let a = rw c.in-Some.is at c.in_ok-first.ensures.entries in
    let b = rw c.in-Some-2.is at c.in_ok-second.ensures.entries in
    let begins = rw c.in-Some.is at c.in_ok-first.ensures.settings in
    let begins' = rw c.in-Some-2.is at c.in_ok-second.ensures.settings in
    let reads = rw c.in-Some.is at c.in_ok-first.ensures.text in
    let reads' = rw c.in-Some-2.is at c.in_ok-second.ensures.text in
    let entries = rw c.in-Some.is at c.in_ok-first.ensures.connection in
    let entries' = rw c.in-Some-2.is at c.in_ok-second.ensures.connection in
    let can = c.of.ensures.none c.in_default-of.is in
    let compared = c.in_ok-of-in-Equipment.ensures in (
      s,
      t,
      can,
      compared.order ∙ c.are_in_order-is_in_order.ensures,
      inr (record {
        role = other_role s.role t.role can.roles (sym c.role-role.ensures ∙ c.in-Equipment.is);
        host_settings = begins' other known';
        equipment_settings = begins one known;
        contradiction = λ h e has has'. compared.contradiction (connection_of h) (connection_of e) (is_open_connection h) (is_open_connection e) (has_later_connections h) (has_later_connections e) (b other h known' has) (a one e known has');
        to_equipment = compared.to_equipment;
        to_host = compared.to_host;
        failures = compared.failures other one (reads' other known') (entries' other known') (reads one known) (entries one known);
        of_host = compared.host other (reads' other known') (entries' other known');
        of_equipment = compared.equipment one (reads one known) (entries one known);
      }),
    )

pub returns-in_default-2-clause-err : goal.returns-in_default-2-clause-err
returns-in_default-2-clause-err g c one other known known' =
    let begins = rw c.in-Some.is at c.in_ok-first.ensures.settings in
    (c.in-Some.first.settings, begins one known, λ s has. c.in_ok-second.ensures.none c.in_default-2.is other s known' has)

pub returns-in-Some-of-clause-err : goal.returns-in-Some-of-clause-err
returns-in-Some-of-clause-err g c one other known known' =
    let begins = rw c.in-Some.is at c.in_ok-first.ensures.settings in
    let begins' = rw c.in-Some-2.is at c.in_ok-second.ensures.settings in
    let why = rw c.in-Some-of.is at c.of.ensures.some in
    not_compared one other c.in-Some.first.settings c.in-Some-2.second.settings c.in-Some-of.fault (begins one known) (begins' other known') why
