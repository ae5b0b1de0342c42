use Rattle.std.proofs.Common.{[], ◌∷◌, ap, ◌∙◌}
use Rattle.hsms_machine.specs.declared.entry.Event.TheVariants.{Cut, Down}
use Rattle.hsms_endpoint.specs.declared.state.State.{State}
use Rattle.hsms_endpoint.specs.Action.{logs}
use Rattle.hsms_endpoint.specs.InnerInternals.{after_event}
use Rattle.hsms_endpoint.proofs.Acts.{does_then, then_ok}
use Rattle.hsms_endpoint.proofs.Requests.{cut_down_valid}
use Rattle.hsms_endpoint.proofs.Steadiness.{sound_down}
use Rattle.hsms_endpoint.proofs.state.State.cut.Goals as goal

pub log-requires : goal.log-requires
log-requires c = c.requires.is_valid

pub log-requires-2 : goal.log-requires-2
log-requires-2 c = cut_down_valid c.args.self.now c.args.cause c.requires.up c.log.new.self c.in_ok-log.ensures.after

pub returns : goal.returns
returns c =
    then_ok c.log-2.result c.log-2.ensures
    (λ down. record {
      does = does_then c.args.self.now c.log.new.self c.log-2.new.self c.args.entries.now.items c.log.new.entries.items c.log-2.new.entries.items (logs (Cut c.args.cause) ∷ []) (logs Down ∷ [])
          c.in_ok-log.ensures.does down.does;
      sound = sound_down (after_event c.args.self.now (Cut c.args.cause)) c.log-2.new.self c.requires.settings c.requires.within c.requires.limit
          (down.after ∙ ap (λ (s : State). after_event s Down) c.in_ok-log.ensures.after);
    })
