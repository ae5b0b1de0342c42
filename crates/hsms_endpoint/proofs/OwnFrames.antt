-- The frames that an endpoint sends break no rule of frames.
use Rattle.std.proofs.Common.{◌≡◌, ℕ, ◌+◌, ◌<◌, Bool, true, false, ◌||◌, refl, sym, ap, ◌∙◌, inl, inr, ◌⊎◌, arith}
use Rattle.hsms_frame.specs.Frame.{Frame}
use Rattle.hsms_frame.specs.declared.kinds.Kind.TheVariants.{SelectReq, LinktestReq, Separate, OtherSType, OtherPType}
use Rattle.hsms_machine.specs.declared.settings.Side.TheVariants.{Active}
use Rattle.hsms_machine.specs.declared.rule.Rule.{Rule}
use Rattle.hsms_machine.specs.declared.rule.Rule.TheVariants.{TooLong, PType, SType, ControlText, Session, Direction, NotSelected, WBit, Text, SystemInUse, NoTransaction, SelectStatus}
use Rattle.hsms_machine.specs.declared.direction.Flow.TheVariants.{Outgoing}
use Rattle.hsms_machine.specs.declared.view.View.{View}
use Rattle.hsms_machine.specs.Settings.{IsWithinLimits}
use Rattle.hsms_machine.specs.Message.{is_data, is_control, is_response, establishes, has_right_session, has_right_direction, has_right_wait, is_data_request, is_control_request, is_from_active}
use Rattle.hsms_machine.specs.Rule.{FrameBreaks}
use Rattle.hsms_machine.specs.ViewRules.{facts_of}
use Rattle.hsms_endpoint.specs.SystemBytes.{IsFree}
use Rattle.hsms_endpoint.specs.Frame.{select_req, linktest_req, separate_req}

-- Holds if no rule of frames is broken.
abbrev pub IsFine : View → Frame → Type 0
IsFine view frame = (rule : Rule) → FrameBreaks (facts_of view) view.settings Outgoing frame rule → ⊥

pub or_neither : (a b : Bool) → (a || b) ≡ false → (a ≡ true) ⊎ (b ≡ true) → ⊥
or_neither true b e h = let d : true ≡ false = e in cc
or_neither false b e h = elim h [ inl p ↦ let d : false ≡ true = p in cc | inr q ↦ let d : true ≡ false = sym q ∙ e in cc ]

module _ (view : View) (within : IsWithinLimits view.settings) where
  small : view.settings.max < 10 + 0 → ⊥
  small b = let h = within.least_max in absurd (omega arith)

  pub select_req_fine : (number : ℕ) → view.settings.link ≡ Active → IsFree view number → IsFine view (select_req number)
  unfolding is_data is_control is_response establishes has_right_session has_right_direction has_right_wait is_data_request is_control_request
  select_req_fine number active free TooLong b = small b
  select_req_fine number active free PType b = let d : SelectReq ≡ OtherPType = b in cc
  select_req_fine number active free SType b = let d : SelectReq ≡ OtherSType = b in cc
  select_req_fine number active free ControlText b = let d : 0 < 0 = b.1 in absurd (omega arith)
  select_req_fine number active free Session b = b refl
  select_req_fine number active free Direction b = b (ap (λ link. is_from_active link Outgoing) active)
  select_req_fine number active free NotSelected b = let d : false ≡ true = b.0 in cc
  select_req_fine number active free WBit b = b refl
  select_req_fine number active free Text b = let d : false ≡ true = b.0 in cc
  select_req_fine number active free SystemInUse b = or_neither _ _ free b.1
  select_req_fine number active free NoTransaction b = let d : false ≡ true = b.0 in cc
  select_req_fine number active free SelectStatus b = let d : false ≡ true = b.0 in cc
  select_req_fine number active free rule b = b

  pub linktest_req_fine : (number : ℕ) → IsFree view number → IsFine view (linktest_req number)
  unfolding is_data is_control is_response establishes has_right_session has_right_direction has_right_wait is_data_request is_control_request
  linktest_req_fine number free TooLong b = small b
  linktest_req_fine number free PType b = let d : LinktestReq ≡ OtherPType = b in cc
  linktest_req_fine number free SType b = let d : LinktestReq ≡ OtherSType = b in cc
  linktest_req_fine number free ControlText b = let d : 0 < 0 = b.1 in absurd (omega arith)
  linktest_req_fine number free Session b = b refl
  linktest_req_fine number free Direction b = b refl
  linktest_req_fine number free NotSelected b = let d : false ≡ true = b.0 in cc
  linktest_req_fine number free WBit b = b refl
  linktest_req_fine number free Text b = let d : false ≡ true = b.0 in cc
  linktest_req_fine number free SystemInUse b = or_neither _ _ free b.1
  linktest_req_fine number free NoTransaction b = let d : false ≡ true = b.0 in cc
  linktest_req_fine number free SelectStatus b = let d : false ≡ true = b.0 in cc
  linktest_req_fine number free rule b = b

  pub separate_req_fine : (number : ℕ) → IsFine view (separate_req number)
  unfolding is_data is_control is_response establishes has_right_session has_right_direction has_right_wait is_data_request is_control_request
  separate_req_fine number TooLong b = small b
  separate_req_fine number PType b = let d : Separate ≡ OtherPType = b in cc
  separate_req_fine number SType b = let d : Separate ≡ OtherSType = b in cc
  separate_req_fine number ControlText b = let d : 0 < 0 = b.1 in absurd (omega arith)
  separate_req_fine number Session b = b refl
  separate_req_fine number Direction b = b refl
  separate_req_fine number NotSelected b = let d : false ≡ true = b.0 in cc
  separate_req_fine number WBit b = b refl
  separate_req_fine number Text b = let d : false ≡ true = b.0 in cc
  separate_req_fine number SystemInUse b = let d : false ≡ true = b.0 in cc
  separate_req_fine number NoTransaction b = let d : false ≡ true = b.0 in cc
  separate_req_fine number SelectStatus b = let d : false ≡ true = b.0 in cc
  separate_req_fine number rule b = b
