use Rattle.hsms_frame.specs.declared.fault.FrameFault.TheVariants.{TooShort, TooLong}
use Rattle.hsms_machine.specs.declared.entry.Cause.TheVariants.{Length}
use Rattle.std.proofs.Common.{◌++◌, Ok, Err, Some, None, ◌≡◌, length, refl, sym, ap, subst, ◌∙◌, arith, ◌<◌}
use Rattle.hsms_frame.specs.Framing.{FramerState, FramesAs}
use Rattle.hsms_endpoint.specs.declared.state.State.{State}
use Rattle.hsms_endpoint.specs.Turn.{cut_by, warns_too_long}
use Rattle.hsms_endpoint.specs.InnerInternals.{known}
use Rattle.hsms_endpoint.specs.InnerInvariant.{Completes}
use Rattle.hsms_endpoint.proofs.Receptions.{begun, within_max, one_more_at, went_down, waits_for_more, is_too_short, is_too_long, shorter, reframed, off_up, kept}
use Rattle.hsms_endpoint.proofs.Acts.{then_ok}
use Rattle.hsms_endpoint.proofs.Requests.{can_cut}
use Rattle.hsms_endpoint.proofs.state.State.receive_all.Goals as goal

pub messages-init : goal.messages-init
messages-init g c = begun (g.D.TurnDesk.answers_after c.args.desk.now) c.args.self.now c.args.entries.now.items c.requires

pub handle-requires-clause-sound : goal.handle-requires-clause-sound
handle-requires-clause-sound g c = reframed c.messages.self c.next_message.new.self c.next_message.new.self.framer.pending c.next_message.ensures.off c.messages.invariant.sound

pub cut-requires : goal.cut-requires
cut-requires g c =
    can_cut c.next_message.new.self (reframed c.messages.self c.next_message.new.self c.next_message.new.self.framer.pending c.next_message.ensures.off c.messages.invariant.sound)
    (off_up c.messages.self c.next_message.new.self c.next_message.new.self.framer.pending c.next_message.ensures.off (sym c.is_up.ensures ∙ c.messages-test.true))

pub cut_too_long-requires-clause-sound : goal.cut_too_long-requires-clause-sound
cut_too_long-requires-clause-sound g c = reframed c.messages.self c.next_message.new.self c.next_message.new.self.framer.pending c.next_message.ensures.off c.messages.invariant.sound

pub messages-preserved : goal.messages-preserved
messages-preserved g c =
    let front : FramesAs c.messages.self.settings.max c.messages.self.framer.pending (Ok (Some c.in-Ok-Some.frame)) c.next_message.new.self.framer.pending =
    within_max c.messages.self (Ok (Some c.in-Ok-Some.frame)) c.next_message.new.self.framer.pending c.messages.invariant.sound (rw c.in-Ok-Some.field-0-is at c.in-Ok-Some.ensures.front) in
    one_more_at (g.D.TurnDesk.answers_after c.args.desk.now) c.args.self.now c.messages.self c.next_message.new.self c.handle.new.self c.args.entries.now.items c.messages.entries.items c.handle.new.entries.items c.in-Ok-Some.frame c.next_message.new.self.framer.pending
    c.messages.invariant (sym c.is_up.ensures ∙ c.messages-test.true) front c.next_message.ensures.off c.in_ok-handle-in-Ok-Some.ensures

pub messages-smaller : goal.messages-smaller
messages-smaller g c =
    let front : FramesAs c.messages.self.settings.max c.messages.self.framer.pending (Ok (Some c.in-Ok-Some.frame)) c.next_message.new.self.framer.pending =
    within_max c.messages.self (Ok (Some c.in-Ok-Some.frame)) c.next_message.new.self.framer.pending c.messages.invariant.sound (rw c.in-Ok-Some.field-0-is at c.in-Ok-Some.ensures.front) in
    let less : length c.next_message.new.self.framer.pending < length c.messages.self.framer.pending = shorter c.in-Ok-Some.frame c.messages.self.framer.pending c.next_message.new.self.framer.pending front.0 in
    let same : length c.handle.new.self.framer.pending ≡ length c.next_message.new.self.framer.pending = ap (λ (f : FramerState). length f.pending) c.in_ok-handle-in-Ok-Some.ensures.framer in
    omega arith

pub returns : goal.returns
returns g c = went_down (g.D.TurnDesk.answers_after c.args.desk.now) c.args.self.now c.messages.self c.args.entries.now.items c.messages.entries.items c.messages.invariant (sym c.is_up.ensures ∙ c.messages-test.false)

pub returns-in-Ok-None : goal.returns-in-Ok-None
returns-in-Ok-None g c =
    let front : FramesAs c.messages.self.settings.max c.messages.self.framer.pending (Ok None) c.next_message.new.self.framer.pending =
    within_max c.messages.self (Ok None) c.next_message.new.self.framer.pending c.messages.invariant.sound (rw c.in-Ok-None.field-0-is at c.in-Ok-None.ensures.front) in
    waits_for_more (g.D.TurnDesk.answers_after c.args.desk.now) c.args.self.now c.messages.self c.next_message.new.self c.args.entries.now.items c.messages.entries.items c.messages.invariant
    (sym c.is_up.ensures ∙ c.messages-test.true) (front.0, front.1, refl) (kept c.messages.self c.next_message.new.self c.next_message.new.self.framer.pending c.next_message.ensures.off front.2)

pub returns-in-Err-TooShort : goal.returns-in-Err-TooShort
returns-in-Err-TooShort g c =
    let front : FramesAs c.messages.self.settings.max c.messages.self.framer.pending (Err (TooShort c.in-Err-TooShort.field-0-0)) c.next_message.new.self.framer.pending =
    within_max c.messages.self (Err (TooShort c.in-Err-TooShort.field-0-0)) c.next_message.new.self.framer.pending c.messages.invariant.sound (rw c.in-Err-TooShort.field-0-is at c.in-Err-TooShort.ensures.front) in
    let same : c.next_message.new.self ≡ c.messages.self = kept c.messages.self c.next_message.new.self c.next_message.new.self.framer.pending c.next_message.ensures.off front.1 in
    then_ok c.cut.result c.cut.ensures (λ d. is_too_short (g.D.TurnDesk.answers_after c.args.desk.now) c.args.self.now c.messages.self c.cut.new.self c.args.entries.now.items c.messages.entries.items c.cut.new.entries.items c.in-Err-TooShort.field-0-0 c.messages.invariant
    (sym c.is_up.ensures ∙ c.messages-test.true) (front.0, refl) (subst (λ (s : State). Completes s c.messages.entries.items (cut_by Length) c.cut.new.self c.cut.new.entries.items) same d))

pub returns-in-Err-TooLong : goal.returns-in-Err-TooLong
returns-in-Err-TooLong g c =
    let front : FramesAs c.messages.self.settings.max c.messages.self.framer.pending (Err (TooLong c.in-Err-TooLong.field-0-0 c.in-Err-TooLong.header)) c.next_message.new.self.framer.pending =
    within_max c.messages.self (Err (TooLong c.in-Err-TooLong.field-0-0 c.in-Err-TooLong.header)) c.next_message.new.self.framer.pending c.messages.invariant.sound (rw c.in-Err-TooLong.field-0-is at c.in-Err-TooLong.ensures.front) in
    let same : c.next_message.new.self ≡ c.messages.self = kept c.messages.self c.next_message.new.self c.next_message.new.self.framer.pending c.next_message.ensures.off front.1 in
    then_ok c.cut_too_long.result c.cut_too_long.ensures (λ d. is_too_long (g.D.TurnDesk.answers_after c.args.desk.now) c.args.self.now c.messages.self c.cut_too_long.new.self c.args.entries.now.items c.messages.entries.items c.cut_too_long.new.entries.items c.in-Err-TooLong.field-0-0 c.in-Err-TooLong.header c.messages.invariant
    (sym c.is_up.ensures ∙ c.messages-test.true) (front.0, refl) (subst (λ (s : State). Completes s c.messages.entries.items (warns_too_long (known s) c.in-Err-TooLong.header ++ cut_by Length) c.cut_too_long.new.self c.cut_too_long.new.entries.items) same d))
