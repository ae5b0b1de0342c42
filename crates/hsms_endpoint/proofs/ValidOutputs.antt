-- Own entries break no rule.
use Rattle.std.proofs.Common.{◌≡◌, ◌≢◌, ℕ, ◌-◌, ◌<◌, ◌≤◌, Bool, true, false, ◌&&◌, nat_lt, List, [], ◌∷◌, ◌++◌, Option, Some, None, refl, sym, ap, subst, ◌∙◌, inl, inr, ◌⊎◌, arith}
use Rattle.hsms_frame.specs.Frame.{Frame}
use Rattle.hsms_machine.specs.declared.entry.Event.TheVariants.{Sent, Taken, Discarded, Cut, Down}
use Rattle.hsms_machine.specs.declared.entry.Cause.TheVariants.{Length}
use Rattle.hsms_machine.specs.declared.phase.Phase.{Phase}
use Rattle.hsms_machine.specs.declared.phase.Phase.TheVariants as phase
use Rattle.hsms_machine.specs.declared.rule.Rule.{Rule}
use Rattle.hsms_machine.specs.declared.rule.Rule.TheVariants.{Backwards, NotUp, Ended, T3Overdue, LinkOverdue, NotDue, NoCause}
use Rattle.hsms_machine.specs.declared.direction.Flow.TheVariants.{Outgoing, Incoming}
use Rattle.hsms_machine.specs.Rule.{Breaks, FrameBreaks, IsFirst, all_rules, format_rules, transaction_rules}
use Rattle.hsms_machine.specs.Timer.{IsT3Overdue, IsT6Overdue, IsT7Overdue}
use Rattle.hsms_machine.specs.ViewRules.{facts_of, is_connected}
use Rattle.hsms_endpoint.specs.InnerInternals.{entry_of}
use Rattle.hsms_endpoint.specs.declared.state.State.{State}
use Rattle.hsms_endpoint.specs.Turn.{is_up, is_unselected}
use Rattle.hsms_endpoint.specs.ActionSteps.{IsCalm}
use Rattle.hsms_endpoint.specs.InnerActionSteps.{IsValidEvent}

pub none_of : (Applies : Rule → Type 0) (rules : List Rule) → ((rule : Rule) → Applies rule → ⊥) → IsFirst Applies rules None
none_of Applies [] never = refl
none_of Applies (rule ∷ rules) never = inr (never rule, none_of Applies rules never)

pub first_none : (Applies : Rule → Type 0) (rules : List Rule) (answer : Option Rule) → ((rule : Rule) → Applies rule → ⊥) → IsFirst Applies rules answer → answer ≡ None
first_none Applies [] answer never h = h
first_none Applies (rule ∷ rules) answer never h = elim h [
  | inl p ↦ absurd (never rule p.0)
  | inr q ↦ first_none Applies rules answer never q.1
]

-- There is at most one first rule.
pub first_same : (Applies : Rule → Type 0) (rules : List Rule) (a b : Option Rule) → IsFirst Applies rules a → IsFirst Applies rules b → a ≡ b
first_same Applies [] a b h k = h ∙ sym k
first_same Applies (rule ∷ rules) a b h k = elim h [
  | inl p ↦ elim k [ inl q ↦ p.1 ∙ sym q.1 | inr q ↦ absurd (q.0 p.0) ]
  | inr p ↦ elim k [ inl q ↦ absurd (p.0 q.0) | inr q ↦ first_same Applies rules a b p.1 q.1 ]
]

up_not_before : (p : Phase) → is_up p ≡ true → p ≡ phase.Before → ⊥
up_not_before p up e = let d : false ≡ true = ap is_up (sym e) ∙ up in cc

up_not_gone : (p : Phase) → is_up p ≡ true → p ≡ phase.Gone → ⊥
up_not_gone p up e = let d : false ≡ true = ap is_up (sym e) ∙ up in cc

up_not_over : (p : Phase) → is_up p ≡ true → p ≡ phase.Over → ⊥
up_not_over p up e = let d : false ≡ true = ap is_up (sym e) ∙ up in cc

true_not_false : (b : Bool) → b ≡ false → b ≡ true → ⊥
true_not_false b f t = let d : true ≡ false = sym t ∙ f in cc

past : (Applies : Rule → Type 0) (rule : Rule) (rules : List Rule) (answer : Option Rule) → (Applies rule → ⊥) → IsFirst Applies (rule ∷ rules) answer → IsFirst Applies rules answer
past Applies rule rules answer never h = elim h [ inl p ↦ absurd (never p.0) | inr q ↦ q.1 ]

without_last : (Applies : Rule → Type 0) (rules : List Rule) (last : Rule) (answer : Option Rule) → (Applies last → ⊥) → IsFirst Applies (rules ++ last ∷ []) answer → IsFirst Applies rules answer
without_last Applies [] last answer never h = elim h [ inl p ↦ absurd (never p.0) | inr q ↦ q.1 ]
without_last Applies (rule ∷ rules) last answer never h = elim h [
  | inl p ↦ inl p
  | inr q ↦ inr (q.0, without_last Applies rules last answer never q.1)
]

-- The rule that is returned applies.
pub applies : (Applies : Rule → Type 0) (rules : List Rule) (rule : Rule) → IsFirst Applies rules (Some rule) → Applies rule
applies Applies [] rule h = absurd (let e : ◌≡◌ {A = Option Rule} (Some rule) None = h in cc)
applies Applies (first ∷ rules) rule h = elim h [
  | inl p ↦ let e : first ≡ rule = (let d : ◌≡◌ {A = Option Rule} (Some rule) (Some first) = p.1 in cc) in subst Applies e p.0
  | inr q ↦ applies Applies rules rule q.1
]

-- ---- events of a connection that is up, with nothing overdue

t7_in_time : (p : Phase) (late : Bool) → (p ≡ phase.Selected → ⊥) → is_up p ≡ true → (is_connected p && late) ≡ true → (is_unselected p && late) ≡ false → ⊥
t7_in_time phase.Before late n up t f = let d : false ≡ true = up in cc
t7_in_time phase.NotSelected late n up t f = true_not_false late f t
t7_in_time phase.Selected late n up t f = n refl
t7_in_time phase.Over late n up t f = let d : false ≡ true = up in cc
t7_in_time phase.Gone late n up t f = let d : false ≡ true = up in cc

module _ (end : State) (up : is_up end.tracker.phase ≡ true) (calm : IsCalm end) where
  not_backwards : end.moment < end.tracker.last_time → ⊥
  not_backwards b = let h : end.tracker.last_time ≤ end.moment = calm.not_past in absurd (omega arith)

  not_down : ((¬ (end.tracker.phase ≢ phase.Before)) ⊎ (end.tracker.phase ≡ phase.Gone)) → ⊥
  not_down b = elim b [ inl n ↦ n (up_not_before end.tracker.phase up) | inr g ↦ up_not_gone end.tracker.phase up g ]

  not_t3 : (time : ℕ) → time ≡ end.moment → IsT3Overdue (facts_of end.tracker) end.tracker.settings end.moment → ⊥
  not_t3 time e b = true_not_false _ calm.data_in_time b.1

  not_link : (IsT6Overdue (facts_of end.tracker) end.tracker.settings end.moment ⊎ IsT7Overdue (facts_of end.tracker) end.tracker.settings end.moment) → ⊥
  not_link b = elim b [
    | inl p ↦ true_not_false _ calm.control_in_time p.1
    | inr p ↦ t7_in_time end.tracker.phase (nat_lt end.tracker.settings.t7 (end.moment - end.tracker.up_time)) p.1 up p.2 calm.selected_in_time
  ]

  sent_never : (frame : Frame) → ((rule : Rule) → FrameBreaks (facts_of end.tracker) end.tracker.settings Outgoing frame rule → ⊥) → (rule : Rule) → Breaks (facts_of end.tracker) end.tracker.settings (entry_of end (Sent frame)) rule → ⊥
  sent_never frame fine Backwards b = not_backwards b
  sent_never frame fine NotUp b = not_down b
  sent_never frame fine Ended b = up_not_over end.tracker.phase up b.1
  sent_never frame fine T3Overdue b = not_t3 end.moment refl b.1
  sent_never frame fine LinkOverdue b = not_link b.1
  sent_never frame fine NotDue b = b
  sent_never frame fine NoCause b = b
  sent_never frame fine rule b = fine rule b

  -- A frame that breaks no rule of frames may be sent.
  pub sent_valid : (frame : Frame) → ((rule : Rule) → FrameBreaks (facts_of end.tracker) end.tracker.settings Outgoing frame rule → ⊥) → IsValidEvent end (Sent frame)
  unfolding IsValidEvent
  sent_valid frame fine = none_of _ all_rules (sent_never frame fine)

  down_never : (rule : Rule) → Breaks (facts_of end.tracker) end.tracker.settings (entry_of end Down) rule → ⊥
  down_never Backwards b = not_backwards b
  down_never NotUp b = not_down b
  down_never Ended b = let d : false ≡ true = b.0 in cc
  down_never T3Overdue b = not_t3 end.moment refl b.1
  down_never LinkOverdue b = not_link b.1
  down_never NotDue b = b
  down_never NoCause b = b
  down_never rule b = b

  pub down_valid : IsValidEvent end Down
  unfolding IsValidEvent
  down_valid = none_of _ all_rules down_never

  cut_never : (rule : Rule) → Breaks (facts_of end.tracker) end.tracker.settings (entry_of end (Cut Length)) rule → ⊥
  cut_never Backwards b = not_backwards b
  cut_never NotUp b = not_down b
  cut_never Ended b = up_not_over end.tracker.phase up b.1
  cut_never T3Overdue b = not_t3 end.moment refl b.1
  cut_never LinkOverdue b = not_link b.1
  cut_never NotDue b = b
  cut_never NoCause b = b
  cut_never rule b = b

  -- Bytes that are no message cut an established connection.
  pub cut_valid : IsValidEvent end (Cut Length)
  unfolding IsValidEvent
  cut_valid = none_of (Breaks (facts_of end.tracker) end.tracker.settings (entry_of end (Cut Length))) all_rules cut_never

  -- The rule that an accepted frame breaks is one of the rules of frames.
  pub taken_broken : (frame : Frame) (answer : Option Rule) → IsFirst (Breaks (facts_of end.tracker) end.tracker.settings (entry_of end (Taken frame))) all_rules answer → IsFirst (FrameBreaks (facts_of end.tracker) end.tracker.settings Incoming frame) (format_rules ++ transaction_rules) answer
  taken_broken frame answer h =
      let Applies : Rule → Type 0 = Breaks (facts_of end.tracker) end.tracker.settings (entry_of end (Taken frame)) in
      let subsequent : List Rule = format_rules ++ (transaction_rules ++ NoCause ∷ []) in
      let h1 = past Applies Backwards (NotUp ∷ Ended ∷ T3Overdue ∷ LinkOverdue ∷ NotDue ∷ subsequent) answer (λ b. not_backwards b) h in
      let h2 = past Applies NotUp (Ended ∷ T3Overdue ∷ LinkOverdue ∷ NotDue ∷ subsequent) answer (λ b. not_down b) h1 in
      let h3 = past Applies Ended (T3Overdue ∷ LinkOverdue ∷ NotDue ∷ subsequent) answer (λ b. up_not_over end.tracker.phase up b.1) h2 in
      let h4 = past Applies T3Overdue (LinkOverdue ∷ NotDue ∷ subsequent) answer (λ b. not_t3 end.moment refl b.1) h3 in
      let h5 = past Applies LinkOverdue (NotDue ∷ subsequent) answer (λ b. not_link b.1) h4 in
      let h6 = past Applies NotDue subsequent answer (λ b. b) h5 in
      without_last Applies (format_rules ++ transaction_rules) NoCause answer (λ b. b) h6

  discarded_never : (frame : Frame) (broken : Rule) → FrameBreaks (facts_of end.tracker) end.tracker.settings Incoming frame broken → (rule : Rule) → Breaks (facts_of end.tracker) end.tracker.settings (entry_of end (Discarded frame)) rule → ⊥
  discarded_never frame broken is Backwards b = not_backwards b
  discarded_never frame broken is NotUp b = not_down b
  discarded_never frame broken is Ended b = let d : false ≡ true = b.0 in cc
  discarded_never frame broken is T3Overdue b = not_t3 end.moment refl b.1
  discarded_never frame broken is LinkOverdue b = not_link b.1
  discarded_never frame broken is NotDue b = b
  discarded_never frame broken is NoCause b = b.1 broken is
  discarded_never frame broken is rule b = b

  -- A frame that would break a rule if it were accepted may be discarded.
  pub discarded_valid : (frame : Frame) (broken : Rule) → IsFirst (FrameBreaks (facts_of end.tracker) end.tracker.settings Incoming frame) (format_rules ++ transaction_rules) (Some broken) → IsValidEvent end (Discarded frame)
  unfolding IsValidEvent
  discarded_valid frame broken h = none_of _ all_rules (discarded_never frame broken (applies (FrameBreaks (facts_of end.tracker) end.tracker.settings Incoming frame) (format_rules ++ transaction_rules) broken h))

-- Once the session has ended the connection may be closed.
down_over_never : (end : State) → end.tracker.phase ≡ phase.Over → end.tracker.last_time ≤ end.moment → (rule : Rule) → Breaks (facts_of end.tracker) end.tracker.settings (entry_of end Down) rule → ⊥
down_over_never end over time Backwards b = absurd (omega arith)
down_over_never end over time NotUp b = elim b [
  | inl n ↦ n (λ e. let d : phase.Over ≡ phase.Before = sym over ∙ e in cc)
  | inr g ↦ let d : phase.Over ≡ phase.Gone = sym over ∙ g in cc
]
down_over_never end over time Ended b = let d : false ≡ true = b.0 in cc
down_over_never end over time T3Overdue b = b.1.0.0 over
down_over_never end over time LinkOverdue b = elim b.1 [ inl p ↦ p.0.0 over | inr p ↦ p.0.0 over ]
down_over_never end over time NotDue b = b
down_over_never end over time NoCause b = b
down_over_never end over time rule b = b

pub down_over_valid : (end : State) → end.tracker.phase ≡ phase.Over → end.tracker.last_time ≤ end.moment → IsValidEvent end Down
unfolding IsValidEvent
down_over_valid end over time = none_of (Breaks (facts_of end.tracker) end.tracker.settings (entry_of end Down)) all_rules (down_over_never end over time)
