use Rattle.std.proofs.Common.{◌≡◌, ℕ, [], ◌∷◌, ◌∙◌, Bool, true, refl, ap, sym, if◌then◌else◌}
use Rattle.std.specs.Int.{from_bool}
use Rattle.hsms_frame.specs.Build.{control_header_of}
use Rattle.hsms_frame.specs.declared.header.Header.{Header}
use Rattle.hsms_frame.specs.Frame.{Frame}
use Rattle.hsms_machine.specs.ViewRules.{is_selected}
use Rattle.hsms_frame.specs.Header.{kind_of}
use Rattle.hsms_frame.specs.declared.kinds.Kind.TheVariants.{SelectReq, LinktestReq, Separate, Primary}
use Rattle.hsms_machine.specs.declared.entry.Event.TheVariants.{Taken, Down}
use Rattle.hsms_endpoint.specs.declared.state.State.{State}
use Rattle.hsms_endpoint.specs.Answer.{quiet}
use Rattle.hsms_endpoint.specs.Action.{logs}
use Rattle.hsms_endpoint.specs.Frame.{bare, select_rsp, linktest_rsp}
use Rattle.hsms_endpoint.specs.InnerAwaitingReply.{is_silent}
use Rattle.hsms_endpoint.proofs.Acts.{does_then, then_ok}
use Rattle.hsms_endpoint.proofs.Controls.{select_rsp_valid, select_settles, linktest_rsp_valid, linktest_settles, status_of}
use Rattle.hsms_endpoint.proofs.AwaitingReplies.{peers_transactions_are_none_between_calls}
use Rattle.hsms_endpoint.proofs.AcceptedFrames.{handled_kind, handled_settled, handled_silent, asked_to_select, asked_for_link, separated_down, separated_sound, awaits_nothing, silent_of}
use Rattle.hsms_endpoint.proofs.state.State.take.Goals as goal

-- ---- Select.req

-- The status is 1 if the session is already selected.
select_frame : (request inside : Header) (selected given : Bool) (status : ℕ) (header : Header) (frame : Frame) → inside ≡ request → given ≡ selected → status ≡ from_bool given → header ≡ control_header_of 2 status inside.system → frame ≡ bare header
    → frame ≡ select_rsp request (if selected then 1 else 0)
select_frame request inside selected given status header frame same is status_is header_is frame_is =
    frame_is ∙ ap bare (header_is ∙ ap (λ (n : ℕ). control_header_of 2 n inside.system) (status_is ∙ ap from_bool is ∙ status_of selected))
    ∙ ap (λ (h : Header). select_rsp h (if selected then 1 else 0)) same

pub log-requires-in-SelectReq : goal.log-requires-in-SelectReq
log-requires-in-SelectReq g c =
    let kind : kind_of c.args.frame.header ≡ SelectReq = ap (λ (f : Frame). kind_of f.header) (sym c.frame.view_is) ∙ sym c.in-SelectReq.ensures in
    let asked = asked_to_select c.args.self.now c.args.frame c.requires c.log.new.self c.in_ok-log-in-SelectReq.ensures.after kind in
    select_rsp_valid c.log.new.self c.args.frame.header (is_selected c.args.self.now.tracker.phase) asked c.bare-response.result
    (select_frame c.args.frame.header c.frame.inside.header (is_selected c.args.self.now.tracker.phase) c.is_selected.result c.from-status.result c.select_rsp.result c.bare-response.result
    (ap (λ (f : Frame). f.header) c.frame.view_is) c.is_selected.ensures c.from-status.ensures c.select_rsp.ensures c.bare-response.ensures)

pub returns-in_ok-log-in-SelectReq : goal.returns-in_ok-log-in-SelectReq
returns-in_ok-log-in-SelectReq g c =
    let kind : kind_of c.args.frame.header ≡ SelectReq = ap (λ (f : Frame). kind_of f.header) (sym c.frame.view_is) ∙ sym c.in-SelectReq.ensures in
    let mid = c.log.new in
    let late = c.log-in-SelectReq.new in
    let first = c.in_ok-log-in-SelectReq.ensures in
    let asked = asked_to_select c.args.self.now c.args.frame c.requires mid.self first.after kind in
    then_ok c.log-in-SelectReq.result c.log-in-SelectReq.ensures
    (λ sent. handled_settled (g.D.TurnDesk.answers_after c.args.desk.now) c.args.self.now mid.self late.self c.args.entries.now.items mid.entries.items late.entries.items c.args.frame SelectReq c.requires.broken kind
    (λ e. let d : SelectReq ≡ Primary = e in cc) refl first
    (select_settles mid.self c.args.frame.header (is_selected c.args.self.now.tracker.phase) asked late.self c.bare-response.result mid.entries.items late.entries.items
    (select_frame c.args.frame.header c.frame.inside.header (is_selected c.args.self.now.tracker.phase) c.is_selected.result c.from-status.result c.select_rsp.result c.bare-response.result
    (ap (λ (f : Frame). f.header) c.frame.view_is) c.is_selected.ensures c.from-status.ensures c.select_rsp.ensures c.bare-response.ensures) sent))

-- ---- Linktest.req

pub log-requires-in-LinktestReq-2 : goal.log-requires-in-LinktestReq-2
log-requires-in-LinktestReq-2 g c =
    let kind : kind_of c.args.frame.header ≡ LinktestReq = ap (λ (f : Frame). kind_of f.header) (sym c.frame.view_is) ∙ sym c.in-LinktestReq.ensures in
    linktest_rsp_valid c.log-in-LinktestReq.new.self c.args.frame.header (asked_for_link c.args.self.now c.args.frame c.requires c.log-in-LinktestReq.new.self c.in_ok-log-in-LinktestReq.ensures.after kind) c.bare.result
    (c.bare.ensures ∙ ap bare c.linktest_rsp.ensures ∙ ap (λ (f : Frame). linktest_rsp f.header) c.frame.view_is)

pub returns-in_ok-log-in-LinktestReq : goal.returns-in_ok-log-in-LinktestReq
returns-in_ok-log-in-LinktestReq g c =
    let kind : kind_of c.args.frame.header ≡ LinktestReq = ap (λ (f : Frame). kind_of f.header) (sym c.frame.view_is) ∙ sym c.in-LinktestReq.ensures in
    let mid = c.log-in-LinktestReq.new in
    let late = c.log-in-LinktestReq-2.new in
    let first = c.in_ok-log-in-LinktestReq.ensures in
    then_ok c.log-in-LinktestReq-2.result c.log-in-LinktestReq-2.ensures
    (λ sent. handled_settled (g.D.TurnDesk.answers_after c.args.desk.now) c.args.self.now mid.self late.self c.args.entries.now.items mid.entries.items late.entries.items c.args.frame LinktestReq c.requires.broken kind
    (λ e. let d : LinktestReq ≡ Primary = e in cc) refl first
    (linktest_settles mid.self c.args.frame.header (asked_for_link c.args.self.now c.args.frame c.requires mid.self first.after kind) late.self c.bare.result mid.entries.items late.entries.items
    (c.bare.ensures ∙ ap bare c.linktest_rsp.ensures ∙ ap (λ (f : Frame). linktest_rsp f.header) c.frame.view_is) sent))

-- ---- Separate.req

pub log-requires-in-Separate-2 : goal.log-requires-in-Separate-2
log-requires-in-Separate-2 g c =
    let kind : kind_of c.args.frame.header ≡ Separate = ap (λ (f : Frame). kind_of f.header) (sym c.frame.view_is) ∙ sym c.in-Separate.ensures in
    separated_down c.args.self.now c.args.frame c.requires c.log-in-Separate.new.self c.in_ok-log-in-Separate.ensures.after kind

pub returns-in_ok-log-in-Separate : goal.returns-in_ok-log-in-Separate
returns-in_ok-log-in-Separate g c =
    let kind : kind_of c.args.frame.header ≡ Separate = ap (λ (f : Frame). kind_of f.header) (sym c.frame.view_is) ∙ sym c.in-Separate.ensures in
    let logged = c.log-in-Separate.new in
    let down = c.log-in-Separate-2.new in
    let first = c.in_ok-log-in-Separate.ensures in
    then_ok c.log-in-Separate-2.result c.log-in-Separate-2.ensures
    (λ second. handled_kind (g.D.TurnDesk.answers_after c.args.desk.now) c.args.self.now down.self c.args.entries.now.items down.entries.items c.args.frame Separate quiet c.requires.broken kind
    (λ e. absurd (let d : Separate ≡ Primary = e in cc))
    (does_then c.args.self.now logged.self down.self c.args.entries.now.items logged.entries.items down.entries.items (logs (Taken c.args.frame) ∷ []) (logs Down ∷ []) first.does second.does)
    (separated_sound c.args.self.now c.args.frame c.requires logged.self down.self first.after second.after)
    (ap (λ (s : State). s.framer) second.after ∙ ap (λ (s : State). s.framer) first.after))

-- ---- primaries

pub take_primary-requires-clause-primary : goal.take_primary-requires-clause-primary
take_primary-requires-clause-primary g c = ap (λ (f : Frame). kind_of f.header) (sym c.frame.view_is) ∙ sym c.in-Primary.ensures

-- ---- the others

pub returns-in_default : goal.returns-in_default
returns-in_default g c =
    let silent : is_silent (kind_of c.args.frame.header) ≡ true = ap (λ (f : Frame). is_silent (kind_of f.header)) (sym c.frame.view_is) ∙ ap is_silent (sym c.kind.ensures)
    ∙ silent_of c.kind.result c.in_default.not-SelectReq c.in_default.not-LinktestReq c.in_default.not-Separate c.in_default.not-Primary in
    then_ok c.log-in_default.result c.log-in_default.ensures
    (λ logged. handled_silent (g.D.TurnDesk.answers_after c.args.desk.now) c.args.self.now c.log-in_default.new.self c.args.entries.now.items c.log-in_default.new.entries.items c.args.frame c.requires.broken silent logged.does
    (peers_transactions_are_none_between_calls c.log-in_default.new.self (awaits_nothing c.args.self.now c.args.frame c.requires c.log-in_default.new.self logged.after silent))
    (ap (λ (s : State). s.framer) logged.after))
