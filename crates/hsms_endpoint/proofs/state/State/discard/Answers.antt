use Rattle.std.proofs.Common.{Bool, [], ◌∷◌, ap, subst, ◌∙◌}
use Rattle.hsms_frame.specs.Frame.{Frame}
use Rattle.hsms_machine.specs.declared.entry.Event.TheVariants.{Discarded}
use Rattle.hsms_machine.specs.Settings.{Parameters}
use Rattle.hsms_machine.specs.ViewRules.{is_selected}
use Rattle.hsms_endpoint.specs.declared.state.State.{State}
use Rattle.hsms_endpoint.specs.Action.{logs}
use Rattle.hsms_endpoint.specs.Reaction.{answers_discarded}
use Rattle.hsms_endpoint.specs.InnerActionSteps.{Performs}
use Rattle.hsms_endpoint.proofs.Acts.{does_then, then_ok}
use Rattle.hsms_endpoint.proofs.AwaitingReplies.{peers_transactions_are_none_between_calls}
use Rattle.hsms_endpoint.proofs.AcceptedFrames.{handled_discarded, discarded_awaits_none, discarded_selected, discarded_readable}
use Rattle.hsms_endpoint.proofs.state.State.discard.Goals as goal

pub answer_discarded-requires-clause-awaits : goal.answer_discarded-requires-clause-awaits
answer_discarded-requires-clause-awaits c = discarded_awaits_none c.args.self.now c.args.frame c.args.rule c.requires c.log.new.self c.in_ok-log.ensures.after

pub answer_discarded-requires-clause-readable : goal.answer_discarded-requires-clause-readable
answer_discarded-requires-clause-readable c = discarded_readable c.args.self.now c.args.frame c.args.rule c.requires c.log.new.self c.in_ok-log.ensures.after

pub returns : goal.returns
returns c =
    let mid = c.log.new.self in
    let after = c.in_ok-log.ensures.after in
    then_ok c.answer_discarded.result c.answer_discarded.ensures
    (λ answered desk. handled_discarded desk c.args.self.now c.answer_discarded.new.self c.args.entries.now.items c.answer_discarded.new.entries.items c.args.frame c.args.rule c.requires.broken
    (subst (λ (b : Bool). Performs c.args.self.now c.args.entries.now.items (logs (Discarded c.args.frame) ∷ answers_discarded c.args.self.now.settings b c.args.frame.header c.args.rule) c.answer_discarded.new.self c.answer_discarded.new.entries.items)
    (discarded_selected c.args.self.now c.args.frame c.args.rule c.requires mid after)
    (does_then c.args.self.now mid c.answer_discarded.new.self c.args.entries.now.items c.log.new.entries.items c.answer_discarded.new.entries.items (logs (Discarded c.args.frame) ∷ []) (answers_discarded c.args.self.now.settings (is_selected mid.tracker.phase) c.args.frame.header c.args.rule) c.in_ok-log.ensures.does
    (subst (λ (s : Parameters). Performs mid c.log.new.entries.items (answers_discarded s (is_selected mid.tracker.phase) c.args.frame.header c.args.rule) c.answer_discarded.new.self c.answer_discarded.new.entries.items) (ap (λ (s : State). s.settings) after)
    (subst (λ (f : Frame). Performs mid c.log.new.entries.items (answers_discarded mid.settings (is_selected mid.tracker.phase) f.header c.args.rule) c.answer_discarded.new.self c.answer_discarded.new.entries.items) c.frame.view_is answered.does))))
    (peers_transactions_are_none_between_calls c.answer_discarded.new.self answered.awaits)
    (answered.framer ∙ ap (λ (s : State). s.framer) after))
