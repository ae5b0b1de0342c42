use Rattle.std.proofs.Common.{Bool, [], sym, subst, ◌∙◌, ◌++◌, if◌then◌else◌}
use Rattle.hsms_machine.specs.declared.entry.Cause.TheVariants.{Length}
use Rattle.hsms_endpoint.specs.Reaction.{warns}
use Rattle.hsms_endpoint.specs.Turn.{cut_by}
use Rattle.hsms_endpoint.specs.InnerActionSteps.{Performs}
use Rattle.hsms_endpoint.proofs.Acts.{does_then, then_ok}
use Rattle.hsms_endpoint.proofs.AwaitingReplies.{sound_awaits, peers_transactions_are_none_between_calls}
use Rattle.hsms_endpoint.proofs.Requests.{can_cut}
use Rattle.hsms_endpoint.proofs.state.State.cut_too_long.Goals as goal

pub cut-requires : goal.cut-requires
cut-requires c =
    let awaits = c.in_ok-warn.ensures.awaits [] [] (sound_awaits c.args.self.now c.requires.sound c.requires.up) in
    can_cut c.warn.new.self (peers_transactions_are_none_between_calls c.warn.new.self awaits) awaits.up

pub returns-then-is_warned : goal.returns-then-is_warned
returns-then-is_warned c =
    then_ok c.cut.result c.cut.ensures
    (λ cut. record {
      does = subst (λ (b : Bool). Performs c.args.self.now c.args.entries.now.items ((if b then warns c.args.self.now.settings 11 c.args.header else []) ++ cut_by Length) c.cut.new.self c.cut.new.entries.items) (sym (sym c.is_warned.ensures ∙ c.if-is_warned.true))
          (does_then c.args.self.now c.warn.new.self c.cut.new.self c.args.entries.now.items c.warn.new.entries.items c.cut.new.entries.items (warns c.args.self.now.settings 11 c.args.header) (cut_by Length) c.in_ok-warn.ensures.does cut.does);
      sound = cut.sound;
    })

pub cut-requires-2 : goal.cut-requires-2
cut-requires-2 c = can_cut c.args.self.now c.requires.sound c.requires.up

pub returns : goal.returns
returns c =
    then_ok c.cut-2.result c.cut-2.ensures
    (λ cut. record {
      does = subst (λ (b : Bool). Performs c.args.self.now c.args.entries.now.items ((if b then warns c.args.self.now.settings 11 c.args.header else []) ++ cut_by Length) c.cut-2.new.self c.cut-2.new.entries.items) (sym (sym c.is_warned.ensures ∙ c.if-is_warned.false)) cut.does;
      sound = cut.sound;
    })
