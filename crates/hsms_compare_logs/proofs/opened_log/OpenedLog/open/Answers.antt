use Rattle.hsms_compare_logs.proofs.Openings.{last_is, opened_as, too_long_first}
use Rattle.hsms_compare_logs.proofs.opened_log.OpenedLog.open.Goals as goal

pub returns-in-Last-clause-settings : goal.returns-in-Last-clause-settings
returns-in-Last-clause-settings g c =
    opened_as c.after-in-Last.result _ _
    (λ log h text known.
    (let l = c.in_ok-line.ensures.line text known in
    let first = last_is 256 c.new-2.result.items text c.deref-in-Last.result.now _ c.in_ok-line.field-0 c.in-Last.line c.new-2.ensures.items c.in-Last.is c.deref-in-Last.ensures.value l.2 in
    h text l.0 first))
    c.after-in-Last.ensures.settings

pub returns-in-Last-clause-entries : goal.returns-in-Last-clause-entries
returns-in-Last-clause-entries g c =
    opened_as c.after-in-Last.result _ _
    (λ log h text found known entries.
    (let l = c.in_ok-line.ensures.line text known in
    let first = last_is 256 c.new-2.result.items text c.deref-in-Last.result.now _ c.in_ok-line.field-0 c.in-Last.line c.new-2.ensures.items c.in-Last.is c.deref-in-Last.ensures.value l.2 in
    h text l.0 found l.1 first entries))
    c.after-in-Last.ensures.entries

pub returns-in-Last-clause-connection : goal.returns-in-Last-clause-connection
returns-in-Last-clause-connection g c =
    opened_as c.after-in-Last.result _ _
    (λ log h text known.
    (let l = c.in_ok-line.ensures.line text known in
    let first = last_is 256 c.new-2.result.items text c.deref-in-Last.result.now _ c.in_ok-line.field-0 c.in-Last.line c.new-2.ensures.items c.in-Last.is c.deref-in-Last.ensures.value l.2 in
    h text l.0 l.1 first))
    c.after-in-Last.ensures.connection

pub returns-in-TooLong-clause-none : goal.returns-in-TooLong-clause-none
returns-in-TooLong-clause-none g c none text s known has =
    let l = c.in_ok-line.ensures.line text known in
    too_long_first c.new-2.result.items text _ c.in_ok-line.field-0 s c.new-2.ensures.items c.in-TooLong.is l.2 has
