-- Each entry has a result: every rule is broken or not.
use Rattle.std.proofs.Common.{◌≡◌, ℕ, ◌-◌, ◌<◌, Bool, true, false, ◌&&◌, List, [], ◌∷◌, ◌++◌, length, Option, Some, None, IsTrue, ◌⊎◌, inl, inr, refl, arith, nat_lt, nat_le, ◌==◌}
use Rattle.std.specs.List.{list_any}
use Rattle.std.proofs.lemmas.Bool.{cases_lt, cases_order}
use Rattle.secs_item.specs.Encoding.{IsOctets, IsText}
use Rattle.secs_item.specs.Laws.{SomeTextAnswer, NotBothOfText}
use Rattle.hsms_frame.specs.Header.{kind_of}
use Rattle.hsms_frame.specs.Frame.{Frame}
use Rattle.hsms_frame.specs.declared.kinds.Kind.{Kind}
use Rattle.hsms_frame.specs.declared.kinds.Kind.TheVariants.{OtherSType, OtherPType}
use Rattle.hsms_machine.specs.declared.entry.Entry.{Entry}
use Rattle.hsms_machine.specs.declared.entry.Event.{Event}
use Rattle.hsms_machine.specs.declared.entry.Event.TheVariants.{Up, Sent, Taken, Discarded, T3, Cut}
use Rattle.hsms_machine.specs.declared.entry.Cause.{Cause}
use Rattle.hsms_machine.specs.declared.entry.Cause.TheVariants.{T6, T7}
use Rattle.hsms_machine.specs.declared.phase.Phase.{Phase}
use Rattle.hsms_machine.specs.declared.phase.Phase.TheVariants.{Before, Selected, Over, Gone}
use Rattle.hsms_machine.specs.declared.view.View.{View}
use Rattle.hsms_machine.specs.declared.rule.Rule.{Rule}
use Rattle.hsms_machine.specs.declared.rule.Rule.TheVariants.{Backwards, NotUp, Ended, T3Overdue, LinkOverdue, NotDue, TooLong, PType, SType, ControlText, Session, Direction, NotSelected, WBit, Text, SystemInUse, NoTransaction, SelectStatus, NoCause}
use Rattle.hsms_machine.specs.declared.open_transactions.Transaction.{Transaction}
use Rattle.hsms_machine.specs.declared.direction.Flow.{Flow}
use Rattle.hsms_machine.specs.declared.direction.Flow.TheVariants.{Outgoing, Incoming}
use Rattle.hsms_machine.specs.Settings.{Parameters}
use Rattle.hsms_machine.specs.Entry.{is_up, is_down, is_t3}
use Rattle.hsms_machine.specs.Message.{is_data, is_control, is_response, is_request, establishes, has_right_session, has_right_direction, has_right_wait}
use Rattle.hsms_machine.specs.Transaction.{answers, Pool, SentData, SentControl, TakenData, TakenControl}
use Rattle.hsms_machine.specs.Session.{Facts, facts_before, selects, ends_session}
use Rattle.hsms_machine.specs.Timer.{IsTimed, IsT3Overdue, IsT6Overdue, IsT7Overdue, IsCutNotDue, IsNotDue}
use Rattle.hsms_machine.specs.Rule.{IsNotUp, needs_session, is_expiry, SomeOpenOf, opposite, FrameBreaks, IsNoCause, EventBreaks, Breaks, IsFirst, all_rules, format_rules, transaction_rules}
use Rattle.hsms_machine.specs.Run.{Broken}
use Rattle.hsms_machine.specs.ViewRules.{facts_of, is_connected, pool_of}
use Rattle.hsms_machine.specs.Laws.{HasOctets, EachEntryHasAnAnswer}
use Rattle.hsms_machine.proofs.Steps.{no_cause_iff}
use Rattle.hsms_machine.proofs.ViewsOfRuns.{past_from, past_to}
use Rattle.hsms_machine.proofs.ValidEntries.{before_cases, follows_cases, open_cases}

-- It holds, or it does not.
abbrev pub Decided : Type 0 → Type 0
Decided P = P ⊎ (P → ⊥)

true_decided : (b : Bool) → Decided (IsTrue b)
true_decided true = inl refl
true_decided false = inr (λ e. let d : false ≡ true = e in cc)

module _ (P Q : Type 0) where
  both_decided : Decided P → Decided Q → Decided (P × Q)
  both_decided p q = elim p [
    | inl x ↦ elim q [ inl y ↦ inl (x, y) | inr n ↦ inr (λ h. n h.1) ]
    | inr n ↦ inr (λ h. n h.0)
  ]

  either_decided : Decided P → Decided Q → Decided (P ⊎ Q)
  either_decided p q = elim p [
    | inl x ↦ inl (inl x)
    | inr n ↦ elim q [ inl y ↦ inl (inr y) | inr m ↦ inr (λ h. elim h [ inl x ↦ n x | inr y ↦ m y ]) ]
  ]

  -- If each implies the other, both are decided.
  equivalent_decided : (P → Q) → (Q → P) → Decided P → Decided Q
  equivalent_decided to from p = elim p [ inl x ↦ inl (to x) | inr n ↦ inr (λ y. n (from y)) ]

not_decided : (P : Type 0) → Decided P → Decided (P → ⊥)
not_decided P p = elim p [ inl x ↦ inr (λ n. n x) | inr n ↦ inl n ]

less_decided : (a b : ℕ) → Decided (a < b)
less_decided a b = elim (cases_lt a b) [ inl lt ↦ inl lt | inr le ↦ inr (λ lt. omega arith) ]

same_decided : (a b : ℕ) → Decided (a ≡ b)
same_decided a b = elim (cases_order a b) [
  | inl same ↦ inl same
  | inr other ↦ elim other [ inl lt ↦ inr (λ e. omega arith) | inr gt ↦ inr (λ e. omega arith) ]
]

nothing_decided : Decided ⊥
nothing_decided = inr (λ e. e)

-- A text is allowed, or it has an error.
text_decided : SomeTextAnswer → NotBothOfText → (depth : ℕ) (octets : List ℕ) → IsOctets octets → Decided (IsText depth octets)
text_decided some not_both depth octets fits = elim (some depth octets fits) [
  | inl item ↦ inl item
  | inr fault ↦ inr (λ t. not_both depth octets t.0 fault.0 fault.1 t.1 fault.2)
]

-- ---- rules

-- Each fact holds, or it does not.
pub record Settled (F : Facts) : Type 0 where
  pub past : (time : ℕ) → Decided (F.IsPast time)
  pub entry : Decided F.HasEntry
  pub up : Decided F.HasUp
  pub down : Decided F.HasDown
  pub follows : Decided F.FollowsDown
  pub up_since : (test : ℕ → Bool) → Decided (F.IsUpSince test)
  pub selected : Decided F.IsSelected
  pub over : Decided F.IsOver
  pub some_open : (pool : Pool) (test : Transaction → Bool) → Decided (F.SomeOpen pool test)

pub settled : (log : List Entry) → Settled (facts_before log (length log))
settled log = record {
  past = λ time. equivalent_decided _ _ (past_to log time) (past_from log time) (less_decided _ _);
  entry = less_decided 0 (length log);
  up = before_cases log (length log) (omega arith) (λ entry. is_up entry.event);
  down = before_cases log (length log) (omega arith) (λ entry. is_down entry.event);
  follows = follows_cases log (length log);
  up_since = λ test. before_cases log (length log) (omega arith) (λ entry. is_up entry.event && test entry.time);
  selected = before_cases log (length log) (omega arith) (λ entry. selects entry.event);
  over = before_cases log (length log) (omega arith) (λ entry. ends_session entry.event);
  some_open = λ pool test. open_cases log (length log) (omega arith) pool test;
}

before_decided : (phase : Phase) → Decided (phase ≡ Before)
before_decided Before = inl refl
before_decided phase = inr (λ e. cc)

selected_decided : (phase : Phase) → Decided (phase ≡ Selected)
selected_decided Selected = inl refl
selected_decided phase = inr (λ e. cc)

over_decided : (phase : Phase) → Decided (phase ≡ Over)
over_decided Over = inl refl
over_decided phase = inr (λ e. cc)

gone_decided : (phase : Phase) → Decided (phase ≡ Gone)
gone_decided Gone = inl refl
gone_decided phase = inr (λ e. cc)

named_rule : (view : View) → Settled (facts_of view)
named_rule view = record {
  past = λ time. less_decided time view.last_time;
  entry = not_decided _ (before_decided view.phase);
  up = not_decided _ (before_decided view.phase);
  down = gone_decided view.phase;
  follows = gone_decided view.phase;
  up_since = λ test. true_decided (is_connected view.phase && test view.up_time);
  selected = selected_decided view.phase;
  over = over_decided view.phase;
  some_open = λ pool test. true_decided (list_any test (pool_of view pool));
}

ptype_decided : (kind : Kind) → Decided (kind ≡ OtherPType)
ptype_decided OtherPType = inl refl
ptype_decided kind = inr (λ e. cc)

stype_decided : (kind : Kind) → Decided (kind ≡ OtherSType)
stype_decided OtherSType = inl refl
stype_decided kind = inr (λ e. cc)

-- Some rule of the list is the first one that applies, or no rule applies.
first_decided : (Applies : Rule → Type 0) → ((rule : Rule) → Decided (Applies rule)) → (rules : List Rule) → (answer : Option Rule) × IsFirst Applies rules answer
first_decided Applies decided [] = (None, refl)
first_decided Applies decided (rule ∷ rules) = elim (decided rule) [
  | inl x ↦ (Some rule, inl (x, refl))
  | inr n ↦ let rest = first_decided Applies decided rules in (rest.0, inr (n, rest.1))
]

none_decided : (answer : Option Rule) → Decided (answer ≡ None)
none_decided None = inl refl
none_decided (Some rule) = inr (λ e. cc)

module _ (F : Facts) (s : Settled F) (settings : Parameters) where
  some_of_decided : (flow : Flow) (test : Transaction → Bool) → Decided (SomeOpenOf F flow test)
  some_of_decided Outgoing test = either_decided _ _ (s.some_open SentData test) (s.some_open SentControl test)
  some_of_decided Incoming test = either_decided _ _ (s.some_open TakenData test) (s.some_open TakenControl test)

  frame_decided : (flow : Flow) (frame : Frame) → Decided (IsText settings.depth frame.text) → (rule : Rule) → Decided (FrameBreaks F settings flow frame rule)
  frame_decided flow frame text TooLong = less_decided _ _
  frame_decided flow frame text PType = ptype_decided (kind_of frame.header)
  frame_decided flow frame text SType = stype_decided (kind_of frame.header)
  frame_decided flow frame text ControlText = both_decided _ _ (true_decided (is_control frame.header)) (less_decided _ _)
  frame_decided flow frame text Session = not_decided _ (true_decided (has_right_session settings frame.header))
  frame_decided flow frame text Direction = not_decided _ (true_decided (has_right_direction settings flow frame.header))
  frame_decided flow frame text NotSelected = both_decided _ _ (true_decided (is_data frame.header)) (not_decided _ s.selected)
  frame_decided flow frame text WBit = not_decided _ (true_decided (has_right_wait frame.header))
  frame_decided flow frame text Text = both_decided _ _ (true_decided (is_data frame.header)) (not_decided _ text)
  frame_decided flow frame text SystemInUse =
      both_decided _ _ (true_decided (is_request frame.header)) (some_of_decided flow (λ opened. opened.header.system == frame.header.system))
  frame_decided flow frame text NoTransaction =
      both_decided _ _ (true_decided (is_response frame.header)) (not_decided _ (some_of_decided (opposite flow) (λ opened. answers opened.header frame.header)))
  frame_decided flow frame text SelectStatus = both_decided _ _ (true_decided (establishes frame.header)) s.selected
  frame_decided flow frame text rule = nothing_decided

  not_up_decided : (event : Event) → Decided (IsNotUp F settings event)
  not_up_decided Up = both_decided _ _ s.entry (not_decided _ (both_decided _ _ (same_decided settings.version 2) s.follows))
  not_up_decided event = either_decided _ _ (not_decided _ s.up) s.down

  cut_decided : (time : ℕ) (cause : Cause) → Decided (IsCutNotDue F settings time cause)
  cut_decided time T6 = not_decided _ (s.some_open SentControl (λ opened. nat_le settings.t6 (time - opened.time)))
  cut_decided time T7 = either_decided _ _ s.selected (s.up_since (λ up. nat_lt (time - up) settings.t7))
  cut_decided time cause = nothing_decided

  due_decided : (time : ℕ) (event : Event) → Decided (IsNotDue F settings time event)
  due_decided time (T3 system) = not_decided _ (s.some_open SentData (λ opened. (opened.header.system == system) && nat_le settings.t3 (time - opened.time)))
  due_decided time (Cut cause) = cut_decided time cause
  due_decided time event = nothing_decided

  timed_decided : Decided (IsTimed F)
  timed_decided = both_decided _ _ (not_decided _ s.over) (not_decided _ s.follows)

  t3_decided : (time : ℕ) → Decided (IsT3Overdue F settings time)
  t3_decided time = both_decided _ _ timed_decided (s.some_open SentData (λ opened. nat_lt settings.t3 (time - opened.time)))

  t6_decided : (time : ℕ) → Decided (IsT6Overdue F settings time)
  t6_decided time = both_decided _ _ timed_decided (s.some_open SentControl (λ opened. nat_lt settings.t6 (time - opened.time)))

  t7_decided : (time : ℕ) → Decided (IsT7Overdue F settings time)
  t7_decided time = elim timed_decided [
    | inr n ↦ inr (λ h. n h.0)
    | inl timed ↦ elim (not_decided _ s.selected) [
      | inr n ↦ inr (λ h. n h.1)
      | inl selected ↦ elim (s.up_since (λ up. nat_lt settings.t7 (time - up))) [ inl up ↦ inl (timed, selected, up) | inr n ↦ inr (λ h. n h.2) ]
    ]
  ]

  -- A discarded frame lacks a cause if it breaks no rule as an accepted frame.
  cause_decided : (frame : Frame) → Decided (IsText settings.depth frame.text) → Decided (IsNoCause F settings (Discarded frame))
  cause_decided frame text =
      let first = first_decided (FrameBreaks F settings Incoming frame) (frame_decided Incoming frame text) (format_rules ++ transaction_rules) in
      let iff = no_cause_iff F settings frame first.0 first.1 in
      both_decided _ _ (not_decided _ s.over) (equivalent_decided _ _ iff.0 iff.1 (none_decided first.0))

  -- The texts of the event are items or not.
  abbrev pub TextDecided : Event → Type 0
  TextDecided (Sent frame) = Decided (IsText settings.depth frame.text)
  TextDecided (Taken frame) = Decided (IsText settings.depth frame.text)
  TextDecided (Discarded frame) = Decided (IsText settings.depth frame.text)
  TextDecided _ = Unit {0}

  no_cause_decided : (event : Event) → TextDecided event → Decided (IsNoCause F settings event)
  no_cause_decided (Discarded frame) text = cause_decided frame text
  no_cause_decided event text = nothing_decided

  event_decided : (event : Event) → TextDecided event → (rule : Rule) → Decided (EventBreaks F settings event rule)
  event_decided (Sent frame) text rule = frame_decided Outgoing frame text rule
  event_decided (Taken frame) text rule = frame_decided Incoming frame text rule
  event_decided event text rule = nothing_decided

  breaks_decided : (entry : Entry) → TextDecided entry.event → (rule : Rule) → Decided (Breaks F settings entry rule)
  breaks_decided entry text Backwards = s.past entry.time
  breaks_decided entry text NotUp = not_up_decided entry.event
  breaks_decided entry text Ended = both_decided _ _ (true_decided (needs_session entry.event)) s.over
  breaks_decided entry text T3Overdue = both_decided _ _ (not_decided _ (true_decided (is_t3 entry.event))) (t3_decided entry.time)
  breaks_decided entry text LinkOverdue =
      both_decided _ _ (not_decided _ (true_decided (is_expiry entry.event))) (either_decided _ _ (t6_decided entry.time) (t7_decided entry.time))
  breaks_decided entry text NotDue = due_decided entry.time entry.event
  breaks_decided entry text NoCause = no_cause_decided entry.event text
  breaks_decided entry text rule = event_decided entry.event text rule

module _ (some : SomeTextAnswer) (not_both : NotBothOfText) where
  texts_decided : (F : Facts) (s : Settled F) (settings : Parameters) (event : Event) → HasOctets event → TextDecided F s settings event
  texts_decided F s settings (Sent frame) fits = text_decided some not_both settings.depth frame.text fits
  texts_decided F s settings (Taken frame) fits = text_decided some not_both settings.depth frame.text fits
  texts_decided F s settings (Discarded frame) fits = text_decided some not_both settings.depth frame.text fits
  texts_decided F s settings event fits = tt

  pub some_answer : EachEntryHasAnAnswer
  unfolding Broken
  some_answer settings log entry run fits =
      let F = facts_before log (length log) in
      let s = settled log in
      first_decided (Breaks F settings entry) (breaks_decided F s settings entry (texts_decided F s settings entry.event fits)) all_rules

  -- The view gives this result too.
  pub returned_result : (view : View) (settings : Parameters) (entry : Entry) → HasOctets entry.event
      → (answer : Option Rule) × IsFirst (Breaks (facts_of view) settings entry) all_rules answer
  returned_result view settings entry fits =
      let F = facts_of view in
      let s = named_rule view in
      first_decided (Breaks F settings entry) (breaks_decided F s settings entry (texts_decided F s settings entry.event fits)) all_rules
