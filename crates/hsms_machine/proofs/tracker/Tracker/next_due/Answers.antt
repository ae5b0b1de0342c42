use Rattle.std.proofs.Common.{◌≡◌, ◌++◌, ◌∙◌, ap, option_to_list}
use Rattle.hsms_machine.specs.declared.view.View.{View}
use Rattle.hsms_machine.specs.View.{next_due_of}
use Rattle.hsms_machine.specs.Timer.{due_at, due_times}
use Rattle.hsms_machine.proofs.Least.{least_in-append, least_in-option}
use Rattle.hsms_machine.proofs.tracker.Tracker.next_due.Goals as goal

pub returns-in-NotSelected : goal.returns-in-NotSelected
returns-in-NotSelected c =
    let view = c.self.inside.view in
    let replies = due_times view.settings.t3 view.sent_data in
    let responses = due_times view.settings.t6 view.sent_control in
    let selection = due_at view.settings.t7 view.up_time in
    let e1 = least_in-append (replies ++ responses) (option_to_list selection) in
    let e2 = least_in-append replies responses in
    let e3 = least_in-option selection in
    let named_rule : c.earlier.result ≡ next_due_of view = rw (c.in-NotSelected.is, e1, e2, e3) (cc) in
    named_rule ∙ ap (λ (w : View). next_due_of w) c.self.view_is

pub returns-in-Selected : goal.returns-in-Selected
returns-in-Selected c =
    let view = c.self.inside.view in
    let replies = due_times view.settings.t3 view.sent_data in
    let responses = due_times view.settings.t6 view.sent_control in
    let e2 = least_in-append replies responses in
    let named_rule : c.earlier-requests.result ≡ next_due_of view = rw (c.in-Selected.is, e2) (cc) in
    named_rule ∙ ap (λ (w : View). next_due_of w) c.self.view_is
