use Rattle.std.proofs.Common.{[], ◌∷◌, sym, ap, subst, ◌∙◌}
use Rattle.hsms_frame.specs.Frame.{Frame}
use Rattle.hsms_machine.specs.declared.entry.Event.TheVariants.{Sent, Down}
use Rattle.hsms_endpoint.specs.Frame.{bare, separate_req}
use Rattle.hsms_endpoint.specs.Action.{logs, asks}
use Rattle.hsms_endpoint.specs.InnerInternals.{after_number}
use Rattle.hsms_endpoint.specs.InnerActionSteps.{IsValidEvent}
use Rattle.hsms_endpoint.proofs.Acts.{does_then, then_ok}
use Rattle.hsms_endpoint.proofs.Requests.{separate_valid, separated_down_valid, separated_sound}
use Rattle.hsms_endpoint.proofs.state.State.separate.Goals as goal

pub send_numbered-requires-clause-is_valid : goal.send_numbered-requires-clause-is_valid
send_numbered-requires-clause-is_valid c =
    subst (λ (f : Frame). IsValidEvent c.args.self.now (Sent f)) (sym (c.bare.ensures ∙ ap bare c.separate.ensures))
    (separate_valid c.args.self.now c.requires.sound c.requires.up c.free_number-number.result)

pub log-requires : goal.log-requires
log-requires c =
    separated_down_valid c.args.self.now c.requires.sound c.requires.up c.send_numbered.new.self c.free_number-number.result
    (c.in_ok-send_numbered.ensures.after ∙ ap (λ (f : Frame). after_number c.args.self.now f c.free_number-number.result) (c.bare.ensures ∙ ap bare c.separate.ensures))

pub returns : goal.returns
returns c =
    let frame = c.bare.ensures ∙ ap bare c.separate.ensures in
    then_ok c.log.result c.log.ensures
    (λ down. record {
      does = does_then c.args.self.now c.send_numbered.new.self c.log.new.self c.args.entries.now.items c.send_numbered.new.entries.items c.log.new.entries.items (asks separate_req ∷ []) (logs Down ∷ [])
          (c.in_ok-send_numbered.ensures.does separate_req (sym frame)) down.does;
      sound = separated_sound c.args.self.now c.requires.sound c.requires.up c.send_numbered.new.self c.log.new.self c.free_number-number.result
          (c.in_ok-send_numbered.ensures.after ∙ ap (λ (f : Frame). after_number c.args.self.now f c.free_number-number.result) frame) down.after;
    })
