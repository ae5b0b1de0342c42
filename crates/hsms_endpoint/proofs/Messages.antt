-- Sent messages: they are valid, and a sound endpoint remains sound.
use Rattle.std.proofs.Common.{◌≡◌, ℕ, ◌+◌, ◌-◌, ◌<◌, ◌≤◌, ◌%◌, ◌^◌, ◌==◌, Bool, true, false, ◌&&◌, ◌||◌, not, nat_le, List, length, Option, None, Some, option_map, refl, sym, ap, subst, ◌∙◌, inr, arith, if◌then◌else◌}
use Rattle.std.specs.Prelude.{IfSome}
use Rattle.std.proofs.lemmas.Bool.Decides.{nat_tests}
use Rattle.secs_item.specs.Item.{Value, nest}
use Rattle.secs_item.specs.Encoding.{IsText}
use Rattle.secs_text.specs.Content.{Content}
use Rattle.hsms_frame.specs.declared.kinds.Kind.{Kind}
use Rattle.hsms_frame.specs.declared.kinds.Kind.TheVariants.{Primary, Reply}
use Rattle.hsms_frame.specs.Header.{kind_of, wait_of, stream_of}
use Rattle.hsms_machine.specs.declared.entry.Event.TheVariants.{Sent}
use Rattle.hsms_machine.specs.declared.phase.Phase.{Phase}
use Rattle.hsms_machine.specs.declared.phase.Phase.TheVariants as phase
use Rattle.hsms_machine.specs.declared.direction.Flow.TheVariants.{Outgoing}
use Rattle.hsms_machine.specs.Settings.{Parameters}
use Rattle.hsms_machine.specs.View.{own_open_of}
use Rattle.hsms_machine.specs.ViewRules.{is_selected}
use Rattle.hsms_machine.specs.Message.{is_data_request, is_control_request, establishes, separates, opens_data, opens_control, is_select_response, is_separate_kind, is_from_equipment}
use Rattle.hsms_endpoint.specs.declared.state.State.{State}
use Rattle.hsms_endpoint.specs.declared.fault.EndFault.{EndFault}
use Rattle.hsms_endpoint.specs.SystemBytes.{IsFree}
use Rattle.hsms_endpoint.specs.Frame.{is_within_depth, is_within_max, fitting, text_of, fitting_text, message_frame}
use Rattle.hsms_endpoint.specs.InnerInternals.{after_event, after_number}
use Rattle.hsms_endpoint.specs.Turn.{is_up}
use Rattle.hsms_endpoint.specs.InnerActionSteps.{IsValidEvent}
use Rattle.hsms_endpoint.specs.Invariant.{IsSound}
use Rattle.hsms_endpoint.specs.InnerSending.{hindrance_by, hindrance_of, IsSpelt}
use Rattle.hsms_endpoint.proofs.ValidOutputs.{sent_valid}
use Rattle.hsms_endpoint.proofs.DataFrames.{IsSendable, data_fine}
use Rattle.hsms_endpoint.proofs.Steadiness.{IsSteadySend, sent_sound, renumbered}

-- ---- the text

at_most : (a b : ℕ) → nat_le a b ≡ true → a ≤ b
at_most a b e = grind (arith, nat_tests)

pub text_is : (depth : ℕ) (item : Option Value) (octets : List ℕ) → is_within_depth depth item ≡ true → IsSpelt item octets → IsText depth octets
text_is depth None octets within h = (None, h)
text_is depth (Some v) octets within h = (Some v, (h, at_most (nest v) depth within))

pub text_is_some : {V : Type 0} (items : V → List ℕ) (depth : ℕ) (item : Option Value) (o : Option V) (v : V) → is_within_depth depth item ≡ true → o ≡ Some v → IfSome o (λ octets. IsSpelt item (items octets)) → IsText depth (items v)
text_is_some items depth item o v within is h = text_is depth item (items v) within (subst (λ o. IfSome o (λ octets. IsSpelt item (items octets))) is h)

within : (max : ℕ) (text : List ℕ) → 10 + length text ≤ max → is_within_max max text ≡ true
within max text le = grind (arith, nat_tests)

beyond : (max : ℕ) (text : List ℕ) → (10 + length text ≤ max → ⊥) → is_within_max max text ≡ false
beyond max text gt = grind (arith, nat_tests)

pub has_room : (len most length max : ℕ) → len ≡ length → most ≡ max → 256 ≤ most → len ≤ most - 10 → 10 + length ≤ max
has_room len most length max len_is most_is least le = omega arith

pub has_no_room : (len most length max : ℕ) → len ≡ length → most ≡ max → 256 ≤ most → most - 10 < len → 10 + length ≤ max → ⊥
has_no_room len most length max len_is most_is least gt le = omega arith

-- An item that is too deep has no fitting text.
pub too_deep : (settings : Parameters) (item : Option Value) → is_within_depth settings.depth item ≡ false → None ≡ fitting_text settings item
too_deep settings item deep = sym (ap (λ (b : Bool). if b then fitting settings.max (text_of item) else None) deep)

-- The text of an item that is within the depth, by whether it has one and how long it is.
module _ {V : Type 0} (items : V → List ℕ) (settings : Parameters) (item : Option Value) (shallow : is_within_depth settings.depth item ≡ true) where
  fitted : (o : Option V) → option_map items o ≡ text_of item → fitting settings.max (option_map items o) ≡ fitting_text settings item
  fitted o is = ap (λ t. fitting settings.max t) is ∙ sym (ap (λ (b : Bool). if b then fitting settings.max (text_of item) else None) shallow)

  pub short_enough : (o : Option V) (v : V) → option_map items o ≡ text_of item → o ≡ Some v → 10 + length (items v) ≤ settings.max → Some (items v) ≡ fitting_text settings item
  short_enough o v is some le =
      sym (ap (λ (b : Bool). if b then Some (items v) else None) (within settings.max (items v) le))
      ∙ ap (λ o. fitting settings.max (option_map items o)) (sym some) ∙ fitted o is

  pub too_long : (o : Option V) (v : V) → option_map items o ≡ text_of item → o ≡ Some v → (10 + length (items v) ≤ settings.max → ⊥) → None ≡ fitting_text settings item
  too_long o v is some gt =
      sym (ap (λ (b : Bool). if b then Some (items v) else None) (beyond settings.max (items v) gt))
      ∙ ap (λ o. fitting settings.max (option_map items o)) (sym some) ∙ fitted o is

  pub no_text : (o : Option V) → option_map items o ≡ text_of item → ((v : V) → o ≡ Some v → ⊥) → None ≡ fitting_text settings item
  no_text None is never = fitted None is
  no_text (Some v) is never = absurd (never v refl)

fits_if : (b : Bool) (text got : List ℕ) → ◌≡◌ {A = Option (List ℕ)} (if b then Some text else None) (Some got) → (b ≡ true) × (text ≡ got)
fits_if true text got e = (refl, (let d : ◌≡◌ {A = Option (List ℕ)} (Some text) (Some got) = e in cc))
fits_if false text got e = absurd (let d : ◌≡◌ {A = Option (List ℕ)} None (Some got) = e in cc)

fits : (max : ℕ) (text : Option (List ℕ)) (got : List ℕ) → fitting max text ≡ Some got → 10 + length got ≤ max
fits max None got e = absurd (let d : ◌≡◌ {A = Option (List ℕ)} None (Some got) = e in cc)
fits max (Some text) got e =
    let h = fits_if (is_within_max max text) text got e in
    subst (λ octets. 10 + length octets ≤ max) h.1 (at_most (10 + length text) max h.0)

fits_within : (b : Bool) (fitted : Option (List ℕ)) (got : List ℕ) → ◌≡◌ {A = Option (List ℕ)} (if b then fitted else None) (Some got) → fitted ≡ Some got
fits_within true fitted got e = e
fits_within false fitted got e = absurd (let d : ◌≡◌ {A = Option (List ℕ)} None (Some got) = e in cc)

pub text_fits : (settings : Parameters) (item : Option Value) (text : List ℕ) → fitting_text settings item ≡ Some text → 10 + length text ≤ settings.max
text_fits settings item text e =
    fits settings.max (text_of item) text (fits_within (is_within_depth settings.depth item) (fitting settings.max (text_of item)) text e)

-- ---- a message that no error prevents

pub record IsUnhindered (unselected even nine full deep : Bool) : Type 0 where
  pub selected : unselected ≡ false
  pub odd : even ≡ false
  pub other : nine ≡ false
  pub room : full ≡ false
  pub shallow : deep ≡ false

some_is_none : (fault : EndFault) → ◌≡◌ {A = Option EndFault} (Some fault) None → ⊥
some_is_none fault e = cc

pub unhindered : (b1 b2 b3 b4 b5 : Bool) → hindrance_by b1 b2 b3 b4 b5 ≡ None → IsUnhindered b1 b2 b3 b4 b5
unhindered true b2 b3 b4 b5 e = absurd (some_is_none _ e)
unhindered false true b3 b4 b5 e = absurd (some_is_none _ e)
unhindered false false true b4 b5 e = absurd (some_is_none _ e)
unhindered false false false true b5 e = absurd (some_is_none _ e)
unhindered false false false false true e = absurd (some_is_none _ e)
unhindered false false false false false e = record { selected = refl; odd = refl; other = refl; room = refl; shallow = refl }

selected_phase : (p : Phase) → not (is_selected p) ≡ false → p ≡ phase.Selected
selected_phase phase.Selected e = refl
selected_phase phase.Before e = absurd (let d : true ≡ false = e in cc)
selected_phase phase.NotSelected e = absurd (let d : true ≡ false = e in cc)
selected_phase phase.Over e = absurd (let d : true ≡ false = e in cc)
selected_phase phase.Gone e = absurd (let d : true ≡ false = e in cc)

odd_function : (n : ℕ) → (n % 2 == 0) ≡ false → (n % 2 == 1) ≡ true
odd_function n e = grind (arith, nat_tests)

same_number : (n : ℕ) → (n == n) ≡ true
same_number n = grind (arith, nat_tests)

stream_is : (stream : ℕ) (wait : Bool) → stream < 128 → (if wait then stream + 128 else stream) % 128 ≡ stream
stream_is stream true lt = omega arith
stream_is stream false lt = omega arith

wait_is : (stream : ℕ) (wait : Bool) → stream < 128 → nat_le 128 (if wait then stream + 128 else stream) ≡ wait
wait_is stream true lt = grind (arith, nat_tests)
wait_is stream false lt = grind (arith, nat_tests)

not_nine_wait : (wait nine : Bool) → nine ≡ false → not (wait && nine) ≡ true
not_nine_wait true nine e = ap not e
not_nine_wait false nine e = refl

not_nine_from : (nine from : Bool) → nine ≡ false → (not nine || from) ≡ true
not_nine_from nine from e = ap (λ b. not b || from) e

room_for : (wait : Bool) (opened : ℕ) → opened ≤ 64 → (wait && nat_le 64 opened) ≡ false → opened + (if wait then 1 else 0) ≤ 64
room_for true opened few e = let lt : opened < 64 = below opened e in omega arith
  where
    below : (n : ℕ) → nat_le 64 n ≡ false → n < 64
    below n e = grind (arith, nat_tests)
room_for false opened few e = omega arith

zero_if : (b : Bool) → b ≡ false → ◌≡◌ {A = ℕ} (if b then 1 else 0) 0
zero_if true e = absurd (let d : true ≡ false = e in cc)
zero_if false e = refl

module _ (end : State) (sound : IsSound end) (message : Content) (text : List ℕ) (clear : hindrance_of end message ≡ None) (fit : fitting_text end.settings message.item ≡ Some text) (small : message.stream < 128) (number : ℕ) (free : IsFree end.tracker number) where
  flags : IsUnhindered (not (is_selected end.tracker.phase)) (message.function % 2 == 0) (message.stream == 9) (message.wait && nat_le 64 (own_open_of end.tracker)) (not (is_within_depth end.settings.depth message.item))
  flags = unhindered (not (is_selected end.tracker.phase)) (message.function % 2 == 0) (message.stream == 9) (message.wait && nat_le 64 (own_open_of end.tracker)) (not (is_within_depth end.settings.depth message.item)) clear

  selected : end.tracker.phase ≡ phase.Selected
  selected = selected_phase end.tracker.phase flags.selected

  pub sending_up : is_up end.tracker.phase ≡ true
  sending_up = ap is_up selected

  kind : kind_of (message_frame end.settings message text number).header ≡ Primary
  kind = ap (λ (b : Bool). if b then Primary else Reply) (odd_function message.function flags.odd)

  not_nine : (stream_of (message_frame end.settings message text number).header == 9) ≡ false
  not_nine = ap (λ (n : ℕ). n == 9) (stream_is message.stream message.wait small) ∙ flags.other

  wait_same : wait_of (message_frame end.settings message text number).header ≡ message.wait
  wait_same = wait_is message.stream message.wait small

  sendable : IsText end.settings.depth text → IsSendable end.tracker (message_frame end.settings message text number) Primary
  sendable encoded_bytes =
      record {
        kind_is = kind;
        carries = refl;
        size = subst (λ (p : Parameters). 10 + length text ≤ p.max) sound.settings (text_fits end.settings message.item text fit);
        session = ap (λ (p : Parameters). end.settings.device == p.device) (sym sound.settings) ∙ same_number end.settings.device;
        direction = not_nine_from (stream_of (message_frame end.settings message text number).header == 9) (is_from_equipment end.tracker.settings.role Outgoing) not_nine;
        wait = not_nine_wait (wait_of (message_frame end.settings message text number).header) (stream_of (message_frame end.settings message text number).header == 9) not_nine;
        selected = selected;
        text = subst (λ (p : Parameters). IsText p.depth text) sound.settings encoded_bytes;
        free = λ e. free;
        answer = λ e. absurd (let d : false ≡ true = e in cc);
      }

  pub message_valid : IsText end.settings.depth text → IsValidEvent end (Sent (message_frame end.settings message text number))
  message_valid encoded_bytes =
      sent_valid end sending_up (sound.steady sending_up).calm (message_frame end.settings message text number)
      (data_fine end.tracker (message_frame end.settings message text number) Primary (sendable encoded_bytes))

  data_by_wait : is_data_request (message_frame end.settings message text number).header ≡ message.wait
  unfolding is_data_request
  data_by_wait = ap (λ (k : Kind). opens_data k (wait_of (message_frame end.settings message text number).header)) kind ∙ wait_same

  not_control : is_control_request (message_frame end.settings message text number).header ≡ false
  unfolding is_control_request
  not_control = ap opens_control kind

  no_separation : separates (message_frame end.settings message text number).header ≡ false
  unfolding separates
  no_separation = ap is_separate_kind kind

  no_selection : establishes (message_frame end.settings message text number).header ≡ false
  unfolding establishes
  no_selection = ap (λ (k : Kind). is_select_response k && (message.function == 0)) kind

  send : IsSteadySend end (message_frame end.settings message text number)
  send =
      let one : Bool → ℕ = λ b. if b then 1 else 0 in
      let e1 : ◌≡◌ {A = ℕ} (if is_data_request (message_frame end.settings message text number).header then 1 else 0) (if message.wait then 1 else 0) = ap one data_by_wait in
      let e2 : ◌≡◌ {A = ℕ} (if is_control_request (message_frame end.settings message text number).header then 1 else 0) 0 = zero_if (is_control_request (message_frame end.settings message text number).header) not_control in
      let room : length end.tracker.sent_data + length end.tracker.sent_control + (if message.wait then 1 else 0) ≤ 64 = room_for message.wait (own_open_of end.tracker) (sound.steady sending_up).few flags.room in
      record {
        stays = no_separation;
        no_selection = no_selection;
        room = omega arith;
        data_selected = inr selected;
      }

  pub message_sound : (end' : State) → end' ≡ after_number end (message_frame end.settings message text number) number → IsSound end'
  message_sound end' is =
      subst IsSound (sym is)
      (renumbered (after_event end (Sent (message_frame end.settings message text number))) ((number + 1) % 2 ^ 32)
      (sent_sound end (message_frame end.settings message text number) sending_up (sound.steady sending_up) send sound.settings sound.within sound.limit))

-- Mapping the item when it was borrowed.
pub option_through : {A B C : Type 0} (f : A → B) (g : B → C) (o : Option A) → option_map (λ x. g (f x)) o ≡ option_map g (option_map f o)
option_through f g None = refl
option_through f g (Some x) = refl

pub none_through : {A B : Type 0} (f : A → B) (o : Option A) → ((x : A) → o ≡ Some x → ⊥) → option_map f o ≡ None
none_through f None never = refl
none_through f (Some x) never = absurd (never x refl)

pub differ : (a b : ℕ) → (a ≡ b → ⊥) → (a == b) ≡ false
differ a b n = grind (arith, nat_tests)
