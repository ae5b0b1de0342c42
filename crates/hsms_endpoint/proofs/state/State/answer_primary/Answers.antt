use Rattle.std.proofs.Common.{◌≡◌, [], ◌++◌, ◌%◌, ◌==◌, ap, refl}
use Rattle.hsms_endpoint.specs.declared.answer.Answer.TheVariants.{NoStream, NoFunction, Illegal}
use Rattle.hsms_endpoint.specs.Answer.{answered}
use Rattle.hsms_endpoint.specs.InnerAwaitingReply.{replies_by}
use Rattle.hsms_endpoint.specs.Reaction.{warns, answers_primary}
use Rattle.hsms_endpoint.proofs.Acts.{then_ok}
use Rattle.hsms_endpoint.proofs.AwaitingReplies.{awaits_own}
use Rattle.hsms_endpoint.proofs.Primaries.{still_asked, unwarned, reported_as, warned_and_replied}
use Rattle.hsms_endpoint.proofs.state.State.answer_primary.Goals.{in-NoStream, in-NoFunction, in-Illegal}
use Rattle.hsms_endpoint.proofs.state.State.answer_primary.Goals as goal

pub warn-requires-clause-awaits : goal.warn-requires-clause-awaits
warn-requires-clause-awaits c = awaits_own c.args.self.now _ [] c.requires.awaits

pub warn-requires-clause-odd : goal.warn-requires-clause-odd
warn-requires-clause-odd c = elim c.match-answer.branch [
  | in-NoStream w ↦ ap (λ n. n % 2 == 1) w.function-is
  | in-NoFunction w ↦ ap (λ n. n % 2 == 1) w.function-is
  | in-Illegal w ↦ ap (λ n. n % 2 == 1) w.function-is
]

pub returns-in_default : goal.returns-in_default
returns-in_default c =
    then_ok c.reply.result c.reply.ensures
    (λ sent. unwarned c.args.self.now c.reply.new.self c.args.header c.args.answer.now c.args.entries.now.items c.reply.new.entries.items c.in_default.not-NoStream c.in_default.not-NoFunction c.in_default.not-Illegal sent)

pub reply-requires-2 : goal.reply-requires-2
reply-requires-2 c = still_asked c.args.self.now c.args.header c.requires c.warn.new.self c.in_ok-warn.ensures.awaits c.in_ok-warn.ensures.same

pub returns : goal.returns
returns c =
    let settings = c.args.self.now.settings in
    let header = c.args.header in
    let answer = c.args.answer.now in
    let input_event : warns settings c.match-answer.function header ++ replies_by settings header (answered answer) ≡ answers_primary settings header (answered answer) =
    elim c.match-answer.branch [
      | in-NoStream w ↦ reported_as settings header answer NoStream c.match-answer.function 3 w.in-NoStream.is w.function-is refl
      | in-NoFunction w ↦ reported_as settings header answer NoFunction c.match-answer.function 5 w.in-NoFunction.is w.function-is refl
      | in-Illegal w ↦ reported_as settings header answer Illegal c.match-answer.function 7 w.in-Illegal.is w.function-is refl
    ] in
    then_ok c.reply-2.result c.reply-2.ensures
    (warned_and_replied c.args.self.now c.warn.new.self c.reply-2.new.self header (answered answer) c.args.entries.now.items c.warn.new.entries.items c.reply-2.new.entries.items
    (warns settings c.match-answer.function header) input_event c.in_ok-warn.ensures)
