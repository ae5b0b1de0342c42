use Rattle.std.proofs.Common.{◌≡◌, [], ◌∷◌, sym, ap, subst, ◌∙◌}
use Rattle.hsms_frame.specs.Frame.{Frame}
use Rattle.hsms_machine.specs.declared.entry.Event.TheVariants.{Sent, Up}
use Rattle.hsms_machine.specs.declared.settings.Side.{Side}
use Rattle.hsms_machine.specs.declared.settings.Side.TheVariants.{Active}
use Rattle.hsms_machine.specs.Settings.{Parameters}
use Rattle.hsms_endpoint.specs.declared.state.State.{State}
use Rattle.hsms_endpoint.specs.Frame.{bare, select_req}
use Rattle.hsms_endpoint.specs.Action.{logs, asks}
use Rattle.hsms_endpoint.specs.InnerInternals.{after_number}
use Rattle.hsms_endpoint.specs.InnerActionSteps.{IsValidEvent, Performs}
use Rattle.hsms_endpoint.specs.Invariant.{IsSound}
use Rattle.hsms_endpoint.specs.Turn.{opening_of}
use Rattle.hsms_endpoint.proofs.Acts.{does_then, then_ok}
use Rattle.hsms_endpoint.proofs.Requests.{start_valid, started_sound, started_room, started_up, started_settings, is_before_phase, select_valid, select_sound}
use Rattle.hsms_endpoint.proofs.state.State.start.Goals as goal

pub log-requires : goal.log-requires
log-requires c = start_valid c.args.self.now c.args.now c.requires.sound (is_before_phase c.args.self.now.tracker.phase c.requires.before)

pub send_numbered-requires-clause-is_valid : goal.send_numbered-requires-clause-is_valid
send_numbered-requires-clause-is_valid c =
    let after = c.in_ok-log.ensures.after in
    subst (λ (f : Frame). IsValidEvent c.log.new.self (Sent f)) (sym (c.bare.ensures ∙ ap bare c.select_req.ensures))
    (select_valid c.log.new.self (started_sound c.args.self.now c.args.now c.requires.sound (is_before_phase c.args.self.now.tracker.phase c.requires.before) c.log.new.self after)
    (started_up c.args.self.now c.args.now c.requires.sound (is_before_phase c.args.self.now.tracker.phase c.requires.before) c.log.new.self after)
    c.free_number-number.result (sym c.in-Active.ensures) c.free_number-number.ensures.free)

pub returns-in-Active : goal.returns-in-Active
returns-in-Active c =
    let start : State = record c.args.self.now { moment = c.args.now } in
    let after = c.in_ok-log.ensures.after in
    let before = is_before_phase c.args.self.now.tracker.phase c.requires.before in
    let active : c.args.self.now.settings.link ≡ Active =
    ap (λ (p : Parameters). p.link) (sym (started_settings c.args.self.now c.args.now c.requires.sound before c.log.new.self after)) ∙ sym c.in-Active.ensures in
    then_ok c.send_numbered.result c.send_numbered.ensures
    (λ sent. record {
      does = subst (λ (link : Side). Performs start c.args.entries.now.items (opening_of link) c.send_numbered.new.self c.send_numbered.new.entries.items) (sym active)
          (does_then start c.log.new.self c.send_numbered.new.self c.args.entries.now.items c.log.new.entries.items c.send_numbered.new.entries.items (logs Up ∷ []) (asks select_req ∷ [])
          c.in_ok-log.ensures.does (sent.does select_req (sym (c.bare.ensures ∙ ap bare c.select_req.ensures))));
      sound = subst IsSound (sym (sent.after ∙ ap (λ (f : Frame). after_number c.log.new.self f c.free_number-number.result) (c.bare.ensures ∙ ap bare c.select_req.ensures)))
          (select_sound c.log.new.self (started_sound c.args.self.now c.args.now c.requires.sound before c.log.new.self after)
          (started_up c.args.self.now c.args.now c.requires.sound before c.log.new.self after)
          c.free_number-number.result (started_room c.args.self.now c.args.now c.requires.sound before c.log.new.self after) c.free_number-number.ensures.free);
    })

pub send_numbered-requires-clause-free : goal.send_numbered-requires-clause-free
send_numbered-requires-clause-free c = c.free_number-number.ensures
