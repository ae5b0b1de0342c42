-- The data messages that an endpoint sends break no rule of frames.
use Rattle.std.proofs.Common.{◌≡◌, ◌+◌, ◌≤◌, ◌==◌, Bool, true, false, ◌&&◌, ◌||◌, length, refl, sym, ap, subst, ◌∙◌, arith}
use Rattle.secs_item.specs.Encoding.{IsText}
use Rattle.hsms_frame.specs.Frame.{Frame}
use Rattle.hsms_frame.specs.declared.kinds.Kind.{Kind}
use Rattle.hsms_frame.specs.declared.kinds.Kind.TheVariants.{Primary, Reply}
use Rattle.hsms_frame.specs.Header.{kind_of, stream_of, wait_of}
use Rattle.hsms_machine.specs.declared.phase.Phase.TheVariants.{Selected}
use Rattle.hsms_machine.specs.declared.rule.Rule.TheVariants.{TooLong, PType, SType, ControlText, Session, Direction, NotSelected, WBit, Text, SystemInUse, NoTransaction, SelectStatus}
use Rattle.hsms_machine.specs.declared.direction.Flow.TheVariants.{Outgoing}
use Rattle.hsms_machine.specs.declared.view.View.{View}
use Rattle.hsms_machine.specs.Message.{is_data, is_control, is_response, establishes, has_right_session, has_right_direction, has_right_wait, is_data_request, is_control_request, is_from_active, is_from_equipment, is_data_kind, is_control_kind, is_response_kind, is_select_response, is_session, is_direction, is_wait, opens_data, opens_control}
use Rattle.hsms_machine.specs.Rule.{IsAnswer}
use Rattle.hsms_machine.specs.ViewRules.{facts_of}
use Rattle.hsms_endpoint.specs.SystemBytes.{IsFree}
use Rattle.hsms_endpoint.proofs.OwnFrames.{IsFine, or_neither}

not_control : (kind : Kind) → is_data_kind kind ≡ true → is_control_kind kind ≡ true → ⊥
not_control Primary d c = let e : false ≡ true = c in cc
not_control Reply d c = let e : false ≡ true = c in cc
not_control kind d c = let e : false ≡ true = d in cc

only_data : (kind : Kind) (wait : Bool) → is_data_kind kind ≡ true → (opens_data kind wait || opens_control kind) ≡ true → opens_data kind wait ≡ true
only_data Primary true d c = refl
only_data Primary false d c = c
only_data Reply wait d c = c
only_data kind wait d c = absurd (let e : false ≡ true = d in cc)

not_select : (kind : Kind) (zero : Bool) → is_data_kind kind ≡ true → (is_select_response kind && zero) ≡ true → ⊥
not_select Primary zero d c = let e : false ≡ true = c in cc
not_select Reply zero d c = let e : false ≡ true = c in cc
not_select kind zero d c = let e : false ≡ true = d in cc

-- The properties of data that the rules require, by its kind.
pub record IsSendable (view : View) (frame : Frame) (kind : Kind) : Type 0 where
  pub kind_is : kind_of frame.header ≡ kind
  pub carries : is_data_kind kind ≡ true
  pub size : 10 + length frame.text ≤ view.settings.max
  pub session : is_session kind view.settings.device frame.header.session ≡ true
  pub direction : is_direction kind (is_from_active view.settings.link Outgoing) (is_from_equipment view.settings.role Outgoing) (stream_of frame.header == 9) ≡ true
  pub wait : is_wait kind (wait_of frame.header) (stream_of frame.header == 9) ≡ true
  pub selected : view.phase ≡ Selected
  pub text : IsText view.settings.depth frame.text
  pub free : opens_data kind (wait_of frame.header) ≡ true → IsFree view frame.header.system
  pub answer : is_response_kind kind ≡ true → IsAnswer (facts_of view) Outgoing frame.header

pub data_fine : (view : View) (frame : Frame) (kind : Kind) → IsSendable view frame kind → IsFine view frame
unfolding is_data is_control is_response establishes has_right_session has_right_direction has_right_wait is_data_request is_control_request
data_fine view frame kind h TooLong b = let s : 10 + length frame.text ≤ view.settings.max = h.size in absurd (omega arith)
data_fine view frame kind h PType b = let e : false ≡ true = ap is_data_kind (sym b ∙ h.kind_is) ∙ h.carries in cc
data_fine view frame kind h SType b = let e : false ≡ true = ap is_data_kind (sym b ∙ h.kind_is) ∙ h.carries in cc
data_fine view frame kind h ControlText b = not_control kind h.carries (subst (λ k. is_control_kind k ≡ true) h.kind_is b.0)
data_fine view frame kind h Session b = b (subst (λ k. is_session k view.settings.device frame.header.session ≡ true) (sym h.kind_is) h.session)
data_fine view frame kind h Direction b = b (subst (λ k. is_direction k (is_from_active view.settings.link Outgoing) (is_from_equipment view.settings.role Outgoing) (stream_of frame.header == 9) ≡ true) (sym h.kind_is) h.direction)
data_fine view frame kind h NotSelected b = b.1 h.selected
data_fine view frame kind h WBit b = b (subst (λ k. is_wait k (wait_of frame.header) (stream_of frame.header == 9) ≡ true) (sym h.kind_is) h.wait)
data_fine view frame kind h Text b = b.1 h.text
data_fine view frame kind h SystemInUse b =
    or_neither _ _ (h.free (only_data kind (wait_of frame.header) h.carries (subst (λ k. (opens_data k (wait_of frame.header) || opens_control k) ≡ true) h.kind_is b.0))) b.1
data_fine view frame kind h NoTransaction b = b.1 (h.answer (subst (λ k. is_response_kind k ≡ true) h.kind_is b.0))
data_fine view frame kind h SelectStatus b = not_select kind (frame.header.byte3 == 0) h.carries (subst (λ k. (is_select_response k && (frame.header.byte3 == 0)) ≡ true) h.kind_is b.0)
data_fine view frame kind h rule b = b
