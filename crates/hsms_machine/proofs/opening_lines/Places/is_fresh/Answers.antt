use Rattle.std.proofs.Common.{ap, ◌∙◌}
use Rattle.hsms_machine.specs.declared.entry.Act.TheVariants.{Sent as ActSent, Taken as ActTaken}
use Rattle.hsms_machine.specs.declared.view.View.{View}
use Rattle.hsms_machine.specs.Message.{is_request}
use Rattle.hsms_machine.specs.InnerOpeningOrder.{uses}
use Rattle.hsms_machine.specs.InnerOpeningLines.{is_fresh}
use Rattle.hsms_machine.proofs.Parts.{fresh_where}
use Rattle.hsms_machine.proofs.opening_lines.Places.is_fresh.Goals as goal

pub returns-in-Sent : goal.returns-in-Sent
returns-in-Sent c =
    let view = c.self.inside.view in
    let system = c.in-Sent.message.system in
    let fresh = fresh_where c.is_in_use.result (is_request c.in-Sent.message) (uses system view.sent_data) (uses system view.sent_control) c.is_in_use.ensures in
    rw c.in-Sent.is (fresh ∙ ap (λ (w : View). is_fresh w (ActSent c.in-Sent.message)) c.self.view_is)

pub returns-in-Taken : goal.returns-in-Taken
returns-in-Taken c =
    let view = c.self.inside.view in
    let system = c.in-Taken.message.system in
    let fresh = fresh_where c.is_in_use-in-Taken.result (is_request c.in-Taken.message) (uses system view.taken_data) (uses system view.taken_control) c.is_in_use-in-Taken.ensures in
    rw c.in-Taken.is (fresh ∙ ap (λ (w : View). is_fresh w (ActTaken c.in-Taken.message)) c.self.view_is)
