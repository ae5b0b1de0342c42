use Rattle.std.proofs.Common.{sym, ap, subst, ◌∙◌}
use Rattle.hsms_frame.specs.Frame.{Frame}
use Rattle.hsms_machine.specs.declared.entry.Event.TheVariants.{Sent}
use Rattle.hsms_endpoint.specs.Frame.{bare, linktest_req}
use Rattle.hsms_endpoint.specs.InnerInternals.{after_number}
use Rattle.hsms_endpoint.specs.InnerActionSteps.{IsValidEvent}
use Rattle.hsms_endpoint.specs.Invariant.{IsSound}
use Rattle.hsms_endpoint.proofs.Acts.{then_ok}
use Rattle.hsms_endpoint.proofs.Requests.{linktest_valid, linktest_sound}
use Rattle.hsms_endpoint.proofs.state.State.test_link.Goals as goal

pub send_numbered-requires-clause-is_valid : goal.send_numbered-requires-clause-is_valid
send_numbered-requires-clause-is_valid c =
    subst (λ (f : Frame). IsValidEvent c.args.self.now (Sent f)) (sym (c.bare.ensures ∙ ap bare c.linktest_req.ensures))
    (linktest_valid c.args.self.now c.requires.sound c.requires.up c.free_number-number.result c.free_number-number.ensures.free)

pub returns : goal.returns
returns c =
    then_ok c.send_numbered.result c.send_numbered.ensures
    (λ sent. record {
      does = sent.does linktest_req (sym (c.bare.ensures ∙ ap bare c.linktest_req.ensures));
      sound = subst IsSound (sym (sent.after ∙ ap (λ (f : Frame). after_number c.args.self.now f c.free_number-number.result) (c.bare.ensures ∙ ap bare c.linktest_req.ensures)))
          (linktest_sound c.args.self.now c.requires.sound c.requires.up c.free_number-number.result c.requires.room c.free_number-number.ensures.free);
    })
