use Rattle.std.proofs.Common.{◌≡◌, subst}
use Rattle.hsms_machine.specs.declared.entry.Entry.{Entry}
use Rattle.hsms_machine.specs.declared.entry.Event.TheVariants.{Taken}
use Rattle.hsms_machine.specs.ViewRules.{IsBrokenAt}
use Rattle.hsms_endpoint.proofs.Requests.{frame_broken}
use Rattle.hsms_endpoint.proofs.AcceptedFrames.{checked_valid}
use Rattle.hsms_endpoint.proofs.state.State.judge.Goals as goal

pub returns-clause-broken : goal.returns-clause-broken
returns-clause-broken c =
    let taken : ◌≡◌ {A = Entry} c.of_frame-taken.result (record { time = c.args.self.now.moment; event = Taken c.args.frame.now }) =
    (let e1 = c.of_frame-taken.ensures in let e2 = c.as_slice-text.ensures.value in let e3 = c.frame.view_is in cc) in
    frame_broken c.args.self.now c.requires.sound c.requires.up c.args.frame.now c.check_ref.result
    (subst (λ (x : Entry). IsBrokenAt c.args.self.now.tracker x c.check_ref.result) taken c.check_ref.ensures.named_rule)

pub returns-clause-is_valid : goal.returns-clause-is_valid
returns-clause-is_valid c =
    let taken : ◌≡◌ {A = Entry} c.of_frame-taken.result (record { time = c.args.self.now.moment; event = Taken c.args.frame.now }) =
    (let e1 = c.of_frame-taken.ensures in let e2 = c.as_slice-text.ensures.value in let e3 = c.frame.view_is in cc) in
    checked_valid c.args.self.now c.requires.sound c.requires.up c.args.frame.now c.check_ref.result
    (subst (λ (x : Entry). IsBrokenAt c.args.self.now.tracker x c.check_ref.result) taken c.check_ref.ensures.named_rule)
