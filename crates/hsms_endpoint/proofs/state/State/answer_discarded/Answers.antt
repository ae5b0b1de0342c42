use Rattle.std.proofs.Common.{◌≡◌, ◌&&◌, Bool, false, true, sym, ap, ◌∙◌}
use Rattle.hsms_machine.specs.Message.{is_data}
use Rattle.hsms_machine.specs.ViewRules.{is_selected}
use Rattle.hsms_endpoint.specs.Reaction.{answers_discarded, rejects, warns}
use Rattle.hsms_endpoint.proofs.Acts.{then_ok}
use Rattle.hsms_endpoint.proofs.AcceptedFrames.{no_reaction, answers_nothing, other_device, data_kind, nothing_settles, settles_as, warned_settles}
use Rattle.hsms_endpoint.proofs.Warned.{and_no}
use Rattle.hsms_endpoint.proofs.state.State.answer_discarded.Goals.{else-selected-via-then-selected+else-is_data, else-selected-via-else-selected}
use Rattle.hsms_endpoint.proofs.state.State.answer_discarded.Goals as goal

pub returns-in_default : goal.returns-in_default
returns-in_default c =
    let end = c.args.self.now in
    nothing_settles end c.args.entries.now.items (answers_discarded end.settings (is_selected end.tracker.phase) c.args.header c.args.rule)
    (no_reaction end.settings (is_selected end.tracker.phase) c.args.header c.args.rule c.in_default.not-PType c.in_default.not-SType c.in_default.not-NotSelected c.in_default.not-Text c.in_default.not-NoTransaction c.in_default.not-Session)
    c.requires.awaits

pub returns-then-is_control_response : goal.returns-then-is_control_response
returns-then-is_control_response c =
    let end = c.args.self.now in
    let reject = c.reject-then-is_control_response in
    then_ok reject.result reject.ensures
    (λ sent. settles_as end reject.new.self c.args.entries.now.items reject.new.entries.items (answers_discarded end.settings (is_selected end.tracker.phase) c.args.header c.args.rule) (rejects c.args.header 3)
    (answers_nothing end.settings (is_selected end.tracker.phase) c.args.header c.args.rule true c.in-NoTransaction.is (sym c.if-is_control_response.true ∙ c.is_control_response.ensures)) sent)

pub returns-else-is_control_response : goal.returns-else-is_control_response
returns-else-is_control_response c =
    let end = c.args.self.now in
    nothing_settles end c.args.entries.now.items (answers_discarded end.settings (is_selected end.tracker.phase) c.args.header c.args.rule)
    (answers_nothing end.settings (is_selected end.tracker.phase) c.args.header c.args.rule false c.in-NoTransaction.is (sym c.if-is_control_response.false ∙ c.is_control_response.ensures))
    c.requires.awaits

pub returns-then-is_data : goal.returns-then-is_data
returns-then-is_data c =
    let end = c.args.self.now in
    let input_event : (is_data c.args.header && is_selected end.tracker.phase) ≡ true =
    ap (λ (b : Bool). b && is_selected end.tracker.phase) (data_kind c.args.header ∙ sym c.is_data.ensures ∙ c.if-is_data.true)
    ∙ sym c.is_selected-selected.ensures ∙ c.if-selected.true in
    then_ok c.warn.result c.warn.ensures
    (λ sent. warned_settles end c.warn.new.self c.args.entries.now.items c.warn.new.entries.items (answers_discarded end.settings (is_selected end.tracker.phase) c.args.header c.args.rule) (warns end.settings 1 c.args.header)
    (other_device end.settings (is_selected end.tracker.phase) c.args.header c.args.rule true c.in-Session.is (sym input_event)) c.requires.awaits sent)

pub returns-else-selected : goal.returns-else-selected
returns-else-selected c =
    let end = c.args.self.now in
    let initial_state : (is_data c.args.header && is_selected end.tracker.phase) ≡ false =
    elim c.else-selected.branch [
      | else-selected-via-then-selected+else-is_data w ↦ ap (λ (b : Bool). b && is_selected end.tracker.phase) (data_kind c.args.header ∙ sym w.is_data.ensures ∙ w.if-is_data.false)
      | else-selected-via-else-selected w ↦ ap (λ (b : Bool). is_data c.args.header && b) (sym c.is_selected-selected.ensures ∙ w.if-selected.false) ∙ and_no (is_data c.args.header)
    ] in
    nothing_settles end c.args.entries.now.items (answers_discarded end.settings (is_selected end.tracker.phase) c.args.header c.args.rule)
    (other_device end.settings (is_selected end.tracker.phase) c.args.header c.args.rule false c.in-Session.is (sym initial_state)) c.requires.awaits
