use Rattle.std.proofs.Common.{◌≡◌, ◌∙◌, ◌==◌, ◌&&◌, ap, sym, true, false, Some, None}
use Rattle.std.specs.List.{find, list_any}
use Rattle.hsms_machine.specs.declared.open_transactions.Transaction.{Transaction}
use Rattle.hsms_machine.specs.Transaction.{passes, concludes}
use Rattle.hsms_machine.proofs.Mapped.{any_at, concludes_only, timed_only, timed_here, some_where, none_where}
use Rattle.hsms_machine.proofs.open_transactions.Transactions.time_concluded.Goals as goal

pub returns-clause-time : goal.returns-clause-time
returns-clause-time c =
    let other = c.args.other in
    let opened = c.in_ok-opened.opened in
    let found : find (λ (opened : Transaction). opened.header.system == other.system) c.args.self.now ≡ Some opened = sym (rw c.header.ensures at c.in_ok-opened.ensures.found) in
    some_where c.concludes.result opened.time c.then_some.result
    (λ time. list_any (λ (opened : Transaction). concludes opened.header other && (opened.time == time)) c.args.self.now ≡ true) c.then_some.ensures
    (λ is. any_at (λ (other_one : Transaction). concludes other_one.header other && (other_one.time == opened.time)) other.system (timed_only other opened.time) c.args.self.now c.in_ok-opened.ensures.apart
    ∙ ap (passes (λ (other_one : Transaction). concludes other_one.header other && (other_one.time == opened.time))) found
    ∙ timed_here (concludes opened.header other) opened.time (sym c.concludes.ensures ∙ is))

pub returns-clause-none : goal.returns-clause-none
returns-clause-none c =
    let other = c.args.other in
    let found : find (λ (opened : Transaction). opened.header.system == other.system) c.args.self.now ≡ Some c.in_ok-opened.opened = sym (rw c.header.ensures at c.in_ok-opened.ensures.found) in
    none_where c.concludes.result c.in_ok-opened.opened.time c.then_some.result (list_any (λ opened. concludes opened.header other) c.args.self.now ≡ false) c.then_some.ensures
    (λ is. any_at (λ opened. concludes opened.header other) other.system (concludes_only other) c.args.self.now c.in_ok-opened.ensures.apart
    ∙ ap (passes (λ opened. concludes opened.header other)) found ∙ sym c.concludes.ensures ∙ is)

pub returns-in_err-opened-clause-none : goal.returns-in_err-opened-clause-none
returns-in_err-opened-clause-none c =
    let other = c.args.other in
    let found : find (λ (opened : Transaction). opened.header.system == other.system) c.args.self.now ≡ None = sym (rw c.header.ensures at c.in_err-opened.ensures.found) in
    rw c.from_residual.ensures
    (any_at (λ opened. concludes opened.header other) other.system (concludes_only other) c.args.self.now c.in_err-opened.ensures.apart
    ∙ ap (passes (λ opened. concludes opened.header other)) found)
