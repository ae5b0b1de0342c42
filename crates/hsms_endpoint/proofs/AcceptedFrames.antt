-- The state of an endpoint after a frame was accepted or discarded.
use Rattle.std.proofs.Common.{◌≡◌, ◌==◌, ℕ, Bool, true, false, ◌&&◌, ◌||◌, List, [], ◌∷◌, ◌++◌, option_to_list, Option, Some, None, refl, sym, ap, subst, ◌∙◌, inl, inr, arith, if◌then◌else◌}
use Rattle.secs_text.specs.Content.{Content}
use Rattle.secs_item.specs.Encoding.{IsText}
use Rattle.hsms_frame.specs.declared.header.Header.{Header}
use Rattle.hsms_frame.specs.Frame.{Frame}
use Rattle.hsms_frame.specs.declared.kinds.Kind.{Kind}
use Rattle.hsms_frame.specs.declared.kinds.Kind.TheVariants.{Primary, Reply, SelectReq, SelectRsp, LinktestReq, LinktestRsp, Reject, Separate, OtherSType, OtherPType}
use Rattle.hsms_frame.specs.Header.{kind_of, stream_of, function_of, wait_of}
use Rattle.hsms_machine.specs.declared.entry.Entry.{Entry}
use Rattle.hsms_machine.specs.declared.entry.Event.TheVariants.{Taken, Discarded, Down}
use Rattle.hsms_machine.specs.declared.phase.Phase.{Phase}
use Rattle.hsms_machine.specs.declared.phase.Phase.TheVariants as phase
use Rattle.hsms_machine.specs.declared.settings.Side.{Side}
use Rattle.hsms_machine.specs.declared.settings.Side.TheVariants.{Active, Passive}
use Rattle.hsms_machine.specs.declared.rule.Rule.{Rule}
use Rattle.hsms_machine.specs.declared.rule.Rule.TheVariants.{Backwards, NotUp, Ended, T3Overdue, LinkOverdue, NotDue, NoCause, TooLong, PType, SType, ControlText, Session, Direction, NotSelected, WBit, Text, SystemInUse, NoTransaction, SelectStatus}
use Rattle.hsms_machine.specs.declared.direction.Flow.TheVariants.{Incoming}
use Rattle.hsms_machine.specs.Settings.{Parameters}
use Rattle.hsms_machine.specs.Message.{is_data, is_data_kind, is_data_request, is_control_request, establishes, separates, is_select_response, is_separate_kind, opens_data, opens_control, has_right_direction, is_direction, is_from_active, is_from_equipment}
use Rattle.hsms_machine.specs.Transaction.{opened_by}
use Rattle.hsms_machine.specs.View.{phase_by}
use Rattle.hsms_machine.specs.Rule.{Breaks, FrameBreaks, IsFirst, all_rules, format_rules, transaction_rules}
use Rattle.hsms_machine.specs.ViewRules.{facts_of, phase_after, is_selected, is_gone, is_over}
use Rattle.hsms_endpoint.specs.declared.state.State.{State}
use Rattle.hsms_endpoint.specs.Answer.{Answered, quiet}
use Rattle.hsms_endpoint.specs.Action.{Act, logs}
use Rattle.hsms_endpoint.specs.PrimaryCounts.{name_of, name_in, times, once_more}
use Rattle.hsms_endpoint.specs.InnerInternals.{after_event, after_asking}
use Rattle.hsms_endpoint.specs.Reaction.{reaction, answers_taken, answers_primary, answers_discarded, rejects, warns, is_control_response}
use Rattle.hsms_endpoint.specs.Turn.{is_up, BreaksAsTaken, received_as, IsAnswerOf, asked_with}
use Rattle.hsms_endpoint.specs.InnerActionSteps.{Performs, IsValidEvent, HasLogged}
use Rattle.hsms_endpoint.specs.Invariant.{IsSound}
use Rattle.hsms_endpoint.specs.InnerReceiving.{HasHandled}
use Rattle.hsms_endpoint.specs.InnerAwaitingReply.{PeerAwaits, Settles, Interjects, IsAsked, IsAskedToSelect, IsAskedForLink, CanTake, CanDiscard, IsAnsweredBy, is_silent}
use Rattle.hsms_endpoint.proofs.ValidOutputs.{down_over_valid, applies}
use Rattle.hsms_endpoint.proofs.Requests.{frame_taken, frame_discarded}
use Rattle.hsms_endpoint.proofs.Steadiness.{kept_phase, sound_down}
use Rattle.hsms_endpoint.proofs.AwaitingReplies.{taken_awaits, discarded_awaits, sound_awaits, peers_transactions_are_none_between_calls, does_nothing}
use Rattle.hsms_endpoint.proofs.Acts.{does_then}

-- ---- rules that a frame does not break

subsequent : (Applies : Rule → Type 0) (rule : Rule) (rules : List Rule) (answer : Option Rule) → (answer ≡ Some rule → ⊥) → IsFirst Applies (rule ∷ rules) answer → (Applies rule → ⊥) × IsFirst Applies rules answer
subsequent Applies rule rules answer never h = elim h [ inl p ↦ absurd (never p.1) | inr q ↦ (q.0, q.1) ]

surely : (b : Bool) → ((b ≡ true → ⊥) → ⊥) → b ≡ true
surely true h = refl
surely false h = absurd (h (λ e. let d : false ≡ true = e in cc))

surely_selected : (p : Phase) → ((p ≡ phase.Selected → ⊥) → ⊥) → p ≡ phase.Selected
surely_selected phase.Before h = absurd (h (λ e. let d : phase.Before ≡ phase.Selected = e in cc))
surely_selected phase.NotSelected h = absurd (h (λ e. let d : phase.NotSelected ≡ phase.Selected = e in cc))
surely_selected phase.Selected h = refl
surely_selected phase.Over h = absurd (h (λ e. let d : phase.Over ≡ phase.Selected = e in cc))
surely_selected phase.Gone h = absurd (h (λ e. let d : phase.Gone ≡ phase.Selected = e in cc))

passive_of : (link : Side) → is_from_active link Incoming ≡ true → link ≡ Passive
passive_of Active e = absurd (let d : false ≡ true = e in cc)
passive_of Passive e = refl

module _ (end : State) (frame : Frame) (answer : Option Rule) (broken : BreaksAsTaken end.tracker frame answer) where
  abbrev Broken : Rule → Type 0
  Broken = FrameBreaks (facts_of end.tracker) end.tracker.settings Incoming frame

  to_direction : (answer ≡ Some TooLong → ⊥) → (answer ≡ Some PType → ⊥) → (answer ≡ Some SType → ⊥) → (answer ≡ Some ControlText → ⊥) → (answer ≡ Some Session → ⊥) → IsFirst Broken (Direction ∷ transaction_rules) answer
  to_direction n1 n2 n3 n4 n5 =
      let h1 = subsequent Broken TooLong (PType ∷ SType ∷ ControlText ∷ Session ∷ Direction ∷ transaction_rules) answer n1 broken in
      let h2 = subsequent Broken PType (SType ∷ ControlText ∷ Session ∷ Direction ∷ transaction_rules) answer n2 h1.1 in
      let h3 = subsequent Broken SType (ControlText ∷ Session ∷ Direction ∷ transaction_rules) answer n3 h2.1 in
      let h4 = subsequent Broken ControlText (Session ∷ Direction ∷ transaction_rules) answer n4 h3.1 in
      (subsequent Broken Session (Direction ∷ transaction_rules) answer n5 h4.1).1

none_some : (rule : Rule) → ◌≡◌ {A = Option Rule} None (Some rule) → ⊥
none_some rule e = let d : ◌≡◌ {A = Option Rule} None (Some rule) = e in cc

module _ (end : State) (frame : Frame) (can : CanTake end frame) where
  at_direction : IsFirst (FrameBreaks (facts_of end.tracker) end.tracker.settings Incoming frame) (Direction ∷ transaction_rules) None
  at_direction = to_direction end frame None can.broken (none_some TooLong) (none_some PType) (none_some SType) (none_some ControlText) (none_some Session)

  past_direction : (FrameBreaks (facts_of end.tracker) end.tracker.settings Incoming frame Direction → ⊥) × IsFirst (FrameBreaks (facts_of end.tracker) end.tracker.settings Incoming frame) transaction_rules None
  past_direction = subsequent (FrameBreaks (facts_of end.tracker) end.tracker.settings Incoming frame) Direction transaction_rules None (none_some Direction) at_direction

  past_selected : (FrameBreaks (facts_of end.tracker) end.tracker.settings Incoming frame NotSelected → ⊥) × IsFirst (FrameBreaks (facts_of end.tracker) end.tracker.settings Incoming frame) (WBit ∷ Text ∷ SystemInUse ∷ NoTransaction ∷ SelectStatus ∷ []) None
  past_selected = subsequent (FrameBreaks (facts_of end.tracker) end.tracker.settings Incoming frame) NotSelected (WBit ∷ Text ∷ SystemInUse ∷ NoTransaction ∷ SelectStatus ∷ []) None (none_some NotSelected) past_direction.1

  past_wait : (FrameBreaks (facts_of end.tracker) end.tracker.settings Incoming frame WBit → ⊥) × IsFirst (FrameBreaks (facts_of end.tracker) end.tracker.settings Incoming frame) (Text ∷ SystemInUse ∷ NoTransaction ∷ SelectStatus ∷ []) None
  past_wait = subsequent (FrameBreaks (facts_of end.tracker) end.tracker.settings Incoming frame) WBit (Text ∷ SystemInUse ∷ NoTransaction ∷ SelectStatus ∷ []) None (none_some WBit) past_selected.1

  past_text : (FrameBreaks (facts_of end.tracker) end.tracker.settings Incoming frame Text → ⊥) × IsFirst (FrameBreaks (facts_of end.tracker) end.tracker.settings Incoming frame) (SystemInUse ∷ NoTransaction ∷ SelectStatus ∷ []) None
  past_text = subsequent (FrameBreaks (facts_of end.tracker) end.tracker.settings Incoming frame) Text (SystemInUse ∷ NoTransaction ∷ SelectStatus ∷ []) None (none_some Text) past_wait.1

  data_selected : is_data frame.header ≡ true → end.tracker.phase ≡ phase.Selected
  data_selected d = surely_selected end.tracker.phase (λ n. past_selected.0 (d, n))

  primary_is_data : kind_of frame.header ≡ Primary → is_data frame.header ≡ true
  unfolding is_data
  primary_is_data kind = ap is_data_kind kind

  pub readable : kind_of frame.header ≡ Primary → (IsText end.settings.depth frame.text → ⊥) → ⊥
  readable kind n = past_text.0 (primary_is_data kind, λ is. n (subst (λ (s : Parameters). IsText s.depth frame.text) (sym can.awaits.settings) is))

  from_active : kind_of frame.header ≡ SelectReq → is_from_active end.tracker.settings.link Incoming ≡ true
  unfolding has_right_direction
  from_active kind =
      sym (ap (λ k. is_direction k (is_from_active end.tracker.settings.link Incoming) (is_from_equipment end.tracker.settings.role Incoming) (stream_of frame.header == 9)) kind)
      ∙ surely (is_direction (kind_of frame.header) (is_from_active end.tracker.settings.link Incoming) (is_from_equipment end.tracker.settings.role Incoming) (stream_of frame.header == 9)) past_direction.0

  -- A message that neither selects nor separates does not change the phase.
  same_phase : (kind : Kind) → kind_of frame.header ≡ kind → is_separate_kind kind ≡ false → is_select_response kind ≡ false → phase_after end.tracker.phase (Taken frame) ≡ end.tracker.phase
  unfolding separates establishes
  same_phase kind is e f =
      kept_phase end.tracker.phase (is_separate_kind (kind_of frame.header)) (is_select_response (kind_of frame.header) && (frame.header.byte3 == 0)) can.awaits.up
      (ap is_separate_kind is ∙ e)
      (ap (λ k. is_select_response k && (frame.header.byte3 == 0)) is ∙ ap (λ b. b && (frame.header.byte3 == 0)) f)

  stays_on : (kind : Kind) → kind_of frame.header ≡ kind → is_separate_kind kind ≡ false → separates frame.header ≡ false
  unfolding separates
  stays_on kind is e = ap is_separate_kind is ∙ e

  no_primary : (kind : Kind) → kind_of frame.header ≡ kind → opens_data kind (wait_of frame.header) ≡ false → option_to_list (opened_by is_data_request end.moment frame.header) ≡ []
  unfolding is_data_request
  no_primary kind is e = ap (λ (b : Bool). option_to_list (if b then Some (record { time = end.moment; header = frame.header }) else None)) (ap (λ k. opens_data k (wait_of frame.header)) is ∙ e)

  no_request : (kind : Kind) → kind_of frame.header ≡ kind → opens_control kind ≡ false → option_to_list (opened_by is_control_request end.moment frame.header) ≡ []
  unfolding is_control_request
  no_request kind is e = ap (λ (b : Bool). option_to_list (if b then Some (record { time = end.moment; header = frame.header }) else None)) (ap opens_control is ∙ e)

  one_request : (kind : Kind) → kind_of frame.header ≡ kind → opens_control kind ≡ true → option_to_list (opened_by is_control_request end.moment frame.header) ≡ record { time = end.moment; header = frame.header } ∷ []
  unfolding is_control_request
  one_request kind is e = ap (λ (b : Bool). option_to_list (if b then Some (record { time = end.moment; header = frame.header }) else None)) (ap opens_control is ∙ e)

  pub asked_to_select : (mid : State) → mid ≡ after_event end (Taken frame) → kind_of frame.header ≡ SelectReq → IsAskedToSelect mid frame.header (is_selected end.tracker.phase)
  asked_to_select mid is kind =
      subst (λ (s : State). IsAskedToSelect s frame.header (is_selected end.tracker.phase)) (sym is)
      (record {
        time = end.moment;
        awaits = subst (λ xs. PeerAwaits (after_event end (Taken frame)) [] xs) (one_request SelectReq kind refl)
            (subst (λ xs. PeerAwaits (after_event end (Taken frame)) xs (option_to_list (opened_by is_control_request end.moment frame.header))) (no_primary SelectReq kind refl)
            (taken_awaits end frame can.awaits (stays_on SelectReq kind refl)));
        kind = kind;
        passive = passive_of end.settings.link (ap (λ (s : Parameters). is_from_active s.link Incoming) can.awaits.settings ∙ from_active kind);
        before = ap is_selected (same_phase SelectReq kind refl refl);
      })

  pub asked_for_link : (mid : State) → mid ≡ after_event end (Taken frame) → kind_of frame.header ≡ LinktestReq → IsAskedForLink mid frame.header
  asked_for_link mid is kind =
      subst (λ (s : State). IsAskedForLink s frame.header) (sym is)
      (record {
        time = end.moment;
        awaits = subst (λ xs. PeerAwaits (after_event end (Taken frame)) [] xs) (one_request LinktestReq kind refl)
            (subst (λ xs. PeerAwaits (after_event end (Taken frame)) xs (option_to_list (opened_by is_control_request end.moment frame.header))) (no_primary LinktestReq kind refl)
            (taken_awaits end frame can.awaits (stays_on LinktestReq kind refl)));
        kind = kind;
      })

  pub asked_by_primary : (mid : State) → mid ≡ after_event end (Taken frame) → kind_of frame.header ≡ Primary → IsAsked mid frame.header
  asked_by_primary mid is kind =
      subst (λ (s : State). IsAsked s frame.header) (sym is)
      (record {
        time = end.moment;
        awaits = subst (λ xs. PeerAwaits (after_event end (Taken frame)) (option_to_list (opened_by is_data_request end.moment frame.header)) xs) (no_request Primary kind refl)
            (taken_awaits end frame can.awaits (stays_on Primary kind refl));
        kind = kind;
        selected = same_phase Primary kind refl refl ∙ data_selected (primary_is_data kind);
      })

  silent_opens : (kind : Kind) (wait : Bool) → is_silent kind ≡ true → (is_separate_kind kind ≡ false) × (opens_data kind wait ≡ false) × (opens_control kind ≡ false)
  silent_opens Primary wait s = absurd (let d : false ≡ true = s in cc)
  silent_opens Reply wait s = (refl, refl, refl)
  silent_opens SelectReq wait s = absurd (let d : false ≡ true = s in cc)
  silent_opens SelectRsp wait s = (refl, refl, refl)
  silent_opens LinktestReq wait s = absurd (let d : false ≡ true = s in cc)
  silent_opens LinktestRsp wait s = (refl, refl, refl)
  silent_opens Reject wait s = (refl, refl, refl)
  silent_opens Separate wait s = absurd (let d : false ≡ true = s in cc)
  silent_opens OtherSType wait s = (refl, refl, refl)
  silent_opens OtherPType wait s = (refl, refl, refl)

  pub awaits_nothing : (mid : State) → mid ≡ after_event end (Taken frame) → is_silent (kind_of frame.header) ≡ true → PeerAwaits mid [] []
  awaits_nothing mid is silent =
      let opens = silent_opens (kind_of frame.header) (wait_of frame.header) silent in
      subst (λ (s : State). PeerAwaits s [] []) (sym is)
      (subst (λ xs. PeerAwaits (after_event end (Taken frame)) [] xs) (no_request (kind_of frame.header) refl opens.2)
      (subst (λ xs. PeerAwaits (after_event end (Taken frame)) xs (option_to_list (opened_by is_control_request end.moment frame.header))) (no_primary (kind_of frame.header) refl opens.1)
      (taken_awaits end frame can.awaits (stays_on (kind_of frame.header) refl opens.0))))

  over_phase : (p : Phase) (ends selects : Bool) → is_up p ≡ true → ends ≡ true → phase_by (is_gone p || false) (is_over p || ends) (is_selected p || selects) ≡ phase.Over
  over_phase phase.Before ends selects up e = absurd (let d : false ≡ true = up in cc)
  over_phase phase.NotSelected ends selects up e = ap (λ b. phase_by false b selects) e
  over_phase phase.Selected ends selects up e = ap (λ b. phase_by false b true) e
  over_phase phase.Over ends selects up e = absurd (let d : false ≡ true = up in cc)
  over_phase phase.Gone ends selects up e = absurd (let d : false ≡ true = up in cc)

  separated : kind_of frame.header ≡ Separate → separates frame.header ≡ true
  unfolding separates
  separated kind = ap is_separate_kind kind

  pub separated_down : (mid : State) → mid ≡ after_event end (Taken frame) → kind_of frame.header ≡ Separate → IsValidEvent mid Down
  separated_down mid is kind =
      subst (λ (s : State). IsValidEvent s Down) (sym is)
      (down_over_valid (after_event end (Taken frame)) (over_phase end.tracker.phase (separates frame.header) (establishes frame.header) can.awaits.up (separated kind)) (omega arith))

  pub separated_sound : (mid end' : State) → mid ≡ after_event end (Taken frame) → end' ≡ after_event mid Down → IsSound end'
  separated_sound mid end' is down =
      sound_down (after_event end (Taken frame)) end' can.awaits.settings can.awaits.within can.awaits.limit (down ∙ ap (λ (s : State). after_event s Down) is)

-- ---- frames that were handled

-- The endpoint with these counts of messages passed to the handler.
abbrev asked_so : State → List (ℕ × ℕ) → State
asked_so end asked = record end { asked = asked }

-- The counts do not affect which frames may be accepted.
can_take_asked : (end : State) (frame : Frame) (asked : List (ℕ × ℕ)) → CanTake end frame → CanTake (asked_so end asked) frame
unfolding IsValidEvent
can_take_asked end frame asked can =
    record {
      awaits = record {
        settings = can.awaits.settings;
        within = can.awaits.within;
        limit = can.awaits.limit;
        up = can.awaits.up;
        calm = record { not_past = can.awaits.calm.not_past; data_in_time = can.awaits.calm.data_in_time; control_in_time = can.awaits.calm.control_in_time; selected_in_time = can.awaits.calm.selected_in_time };
        taken_data = can.awaits.taken_data;
        taken_control = can.awaits.taken_control;
        few = can.awaits.few;
        unselected = can.awaits.unselected;
      };
      is_valid = can.is_valid;
      broken = can.broken;
    }

-- A primary with this header was passed to the handler.
pub counted : (end : State) (header : Header) (stream function : ℕ) (asked : List (ℕ × ℕ)) → stream ≡ stream_of header → function ≡ function_of header → asked ≡ once_more (name_of stream function) end.asked → record end { asked = asked } ≡ after_asking end header
counted end header stream function asked is_stream is_function more =
    ap (λ (a : List (ℕ × ℕ)). record end { asked = a })
    (more ∙ ap (λ (s : ℕ). once_more (name_of s function) end.asked) is_stream ∙ ap (λ (f : ℕ). once_more (name_of (stream_of header) f) end.asked) is_function)

pub can_take_later : (end mid : State) (frame : Frame) (header : Header) → mid ≡ after_asking end header → CanTake end frame → CanTake mid frame
can_take_later end mid frame header is can =
    subst (λ (s : State). CanTake s frame) (sym is) (can_take_asked end frame (once_more (name_in header) end.asked) can)

handled_as : (desk : ℕ → Content → Answered) (end end' : State) (before entries : List Entry) (frame : Frame) (broken : Option Rule) (answer : Answered) → BreaksAsTaken end.tracker frame broken → IsAnswerOf (desk (times (name_in frame.header) end.asked)) end.settings.depth frame broken answer → Performs (asked_so end (asked_with (kind_of frame.header) broken (name_in frame.header) end.asked)) before (logs (received_as frame broken) ∷ reaction end.settings (is_selected end.tracker.phase) frame.header broken answer) end' entries → IsSound end' → end'.framer ≡ end.framer → HasHandled desk end before frame end' entries
handled_as desk end end' before entries frame broken answer is answers does sound framer =
    record { new = does.new; added = does.added; handled = (broken, answer, is, answers, does.done); run = does.run; sound = sound; framer = framer }

-- An accepted frame of this kind.
pub handled_kind : (desk : ℕ → Content → Answered) (end end' : State) (before entries : List Entry) (frame : Frame) (kind : Kind) (answer : Answered) → BreaksAsTaken end.tracker frame None → kind_of frame.header ≡ kind → (kind ≡ Primary → IsAnsweredBy (desk (times (name_in frame.header) end.asked)) end.settings.depth frame answer) → Performs (asked_so end (asked_with kind None (name_in frame.header) end.asked)) before (logs (Taken frame) ∷ answers_taken end.settings (is_selected end.tracker.phase) kind frame.header answer) end' entries → IsSound end' → end'.framer ≡ end.framer → HasHandled desk end before frame end' entries
handled_kind desk end end' before entries frame kind answer is kind_is answers does sound framer =
    handled_as desk end end' before entries frame None answer is (λ e primary. answers (sym kind_is ∙ primary))
    (subst (λ k. Performs (asked_so end (asked_with k None (name_in frame.header) end.asked)) before (logs (Taken frame) ∷ answers_taken end.settings (is_selected end.tracker.phase) k frame.header answer) end' entries) (sym kind_is) does) sound framer

-- An accepted primary that was passed to the handler.
pub handled_primary : (desk : ℕ → Content → Answered) (end after mid end' : State) (before middle entries : List Entry) (frame : Frame) (answer : Answered) → BreaksAsTaken end.tracker frame None → kind_of frame.header ≡ Primary → IsAnsweredBy (desk (times (name_in frame.header) end.asked)) end.settings.depth frame answer
    → after ≡ after_asking end frame.header → HasLogged after before (Taken frame) mid middle
    → Settles mid middle (answers_primary mid.settings frame.header answer) end' entries → HasHandled desk end before frame end' entries
handled_primary desk end after mid end' before middle entries frame answer is kind_is answers asked first second =
    let settings : mid.settings ≡ end.settings = ap (λ (s : State). s.settings) first.after ∙ ap (λ (s : State). s.settings) asked in
    handled_kind desk end end' before entries frame Primary answer is kind_is (λ e. answers)
    (subst (λ (s : State). Performs s before (logs (Taken frame) ∷ answers_primary end.settings frame.header answer) end' entries) asked
    (does_then after mid end' before middle entries (logs (Taken frame) ∷ []) (answers_primary end.settings frame.header answer) first.does
    (subst (λ (s : Parameters). Performs mid middle (answers_primary s frame.header answer) end' entries) settings second.does)))
    (peers_transactions_are_none_between_calls end' second.awaits)
    (second.framer ∙ ap (λ (s : State). s.framer) first.after ∙ ap (λ (s : State). s.framer) asked)

-- An accepted request that was answered at once.
pub handled_settled : (desk : ℕ → Content → Answered) (end mid end' : State) (before middle entries : List Entry) (frame : Frame) (kind : Kind) → BreaksAsTaken end.tracker frame None → kind_of frame.header ≡ kind → (kind ≡ Primary → ⊥)
    → asked_with kind None (name_in frame.header) end.asked ≡ end.asked → HasLogged end before (Taken frame) mid middle
    → Settles mid middle (answers_taken end.settings (is_selected end.tracker.phase) kind frame.header quiet) end' entries → HasHandled desk end before frame end' entries
handled_settled desk end mid end' before middle entries frame kind is kind_is never unasked first second =
    handled_kind desk end end' before entries frame kind quiet is kind_is (λ e. absurd (never e))
    (subst (λ asked. Performs (asked_so end asked) before (logs (Taken frame) ∷ answers_taken end.settings (is_selected end.tracker.phase) kind frame.header quiet) end' entries) (sym unasked)
    (does_then end mid end' before middle entries (logs (Taken frame) ∷ []) (answers_taken end.settings (is_selected end.tracker.phase) kind frame.header quiet) first.does second.does))
    (peers_transactions_are_none_between_calls end' second.awaits)
    (second.framer ∙ ap (λ (s : State). s.framer) first.after)

-- Such a message is not passed to the handler.
silent_asks : (kind : Kind) (name : ℕ) (asked : List (ℕ × ℕ)) → is_silent kind ≡ true → asked_with kind None name asked ≡ asked
silent_asks Primary name asked s = absurd (let d : false ≡ true = s in cc)
silent_asks Reply name asked s = refl
silent_asks SelectReq name asked s = refl
silent_asks SelectRsp name asked s = refl
silent_asks LinktestReq name asked s = refl
silent_asks LinktestRsp name asked s = refl
silent_asks Reject name asked s = refl
silent_asks Separate name asked s = refl
silent_asks OtherSType name asked s = refl
silent_asks OtherPType name asked s = refl

discarded_asks : (kind : Kind) (rule : Rule) (name : ℕ) (asked : List (ℕ × ℕ)) → asked_with kind (Some rule) name asked ≡ asked
discarded_asks Primary rule name asked = refl
discarded_asks Reply rule name asked = refl
discarded_asks SelectReq rule name asked = refl
discarded_asks SelectRsp rule name asked = refl
discarded_asks LinktestReq rule name asked = refl
discarded_asks LinktestRsp rule name asked = refl
discarded_asks Reject rule name asked = refl
discarded_asks Separate rule name asked = refl
discarded_asks OtherSType rule name asked = refl
discarded_asks OtherPType rule name asked = refl

silent_kind : (settings : Parameters) (selected : Bool) (kind : Kind) (header : Header) → is_silent kind ≡ true → answers_taken settings selected kind header quiet ≡ []
silent_kind settings selected Primary header s = absurd (let d : false ≡ true = s in cc)
silent_kind settings selected Reply header s = refl
silent_kind settings selected SelectReq header s = absurd (let d : false ≡ true = s in cc)
silent_kind settings selected SelectRsp header s = refl
silent_kind settings selected LinktestReq header s = absurd (let d : false ≡ true = s in cc)
silent_kind settings selected LinktestRsp header s = refl
silent_kind settings selected Reject header s = refl
silent_kind settings selected Separate header s = absurd (let d : false ≡ true = s in cc)
silent_kind settings selected OtherSType header s = refl
silent_kind settings selected OtherPType header s = refl

silent_answers : (kind : Kind) → is_silent kind ≡ true → kind ≡ Primary → ⊥
silent_answers kind s e = let d : false ≡ true = ap is_silent (sym e) ∙ s in cc

pub handled_silent : (desk : ℕ → Content → Answered) (end end' : State) (before entries : List Entry) (frame : Frame) → BreaksAsTaken end.tracker frame None → is_silent (kind_of frame.header) ≡ true → Performs end before (logs (Taken frame) ∷ []) end' entries → IsSound end' → end'.framer ≡ end.framer → HasHandled desk end before frame end' entries
handled_silent desk end end' before entries frame is silent does sound framer =
    handled_kind desk end end' before entries frame (kind_of frame.header) quiet is refl (λ e. absurd (silent_answers (kind_of frame.header) silent e))
    (subst (λ asked. Performs (asked_so end asked) before (logs (Taken frame) ∷ answers_taken end.settings (is_selected end.tracker.phase) (kind_of frame.header) frame.header quiet) end' entries) (sym (silent_asks (kind_of frame.header) (name_in frame.header) end.asked silent))
    (subst (λ (acts : List Act). Performs end before (logs (Taken frame) ∷ acts) end' entries) (sym (silent_kind end.settings (is_selected end.tracker.phase) (kind_of frame.header) frame.header silent)) does)) sound framer

pub handled_discarded : (desk : ℕ → Content → Answered) (end end' : State) (before entries : List Entry) (frame : Frame) (rule : Rule) → BreaksAsTaken end.tracker frame (Some rule) → Performs end before (logs (Discarded frame) ∷ reaction end.settings (is_selected end.tracker.phase) frame.header (Some rule) quiet) end' entries → IsSound end' → end'.framer ≡ end.framer → HasHandled desk end before frame end' entries
handled_discarded desk end end' before entries frame rule is does sound framer =
    handled_as desk end end' before entries frame (Some rule) quiet is (λ e primary. absurd (let d : ◌≡◌ {A = Option Rule} (Some rule) None = e in cc))
    (subst (λ asked. Performs (asked_so end asked) before (logs (Discarded frame) ∷ reaction end.settings (is_selected end.tracker.phase) frame.header (Some rule) quiet) end' entries) (sym (discarded_asks (kind_of frame.header) rule (name_in frame.header) end.asked)) does) sound framer

-- ---- a frame that is checked

pub checked_valid : (end : State) → IsSound end → is_up end.tracker.phase ≡ true → (frame : Frame) (answer : Option Rule) → IsFirst (Breaks (facts_of end.tracker) end.tracker.settings (record { time = end.moment; event = Taken frame })) all_rules answer → IsValidEvent end (received_as frame answer)
checked_valid end sound up frame None input_event = frame_taken end sound up frame input_event
checked_valid end sound up frame (Some rule) input_event = frame_discarded end sound up frame rule input_event

-- ---- a frame that was discarded

some_other : (rule other : Rule) → (rule ≡ other → ⊥) → ◌≡◌ {A = Option Rule} (Some rule) (Some other) → ⊥
some_other rule other never e = never (let d : ◌≡◌ {A = Option Rule} (Some rule) (Some other) = e in cc)

module _ (end : State) (frame : Frame) (rule : Rule) (can : CanDiscard end frame rule) where
  pub discarded_awaits_none : (mid : State) → mid ≡ after_event end (Discarded frame) → PeerAwaits mid [] []
  discarded_awaits_none mid is = subst (λ (s : State). PeerAwaits s [] []) (sym is) (discarded_awaits end frame can.awaits)

  discarded_phase : phase_after end.tracker.phase (Discarded frame) ≡ end.tracker.phase
  discarded_phase = kept_phase end.tracker.phase false false can.awaits.up refl refl

  pub discarded_selected : (mid : State) → mid ≡ after_event end (Discarded frame) → is_selected mid.tracker.phase ≡ is_selected end.tracker.phase
  discarded_selected mid is = ap (λ (s : State). is_selected s.tracker.phase) is ∙ ap is_selected discarded_phase

  unreadable_selected : BreaksAsTaken end.tracker frame (Some Text) → end.tracker.phase ≡ phase.Selected
  unreadable_selected broken =
      let Fails : Rule → Type 0 = FrameBreaks (facts_of end.tracker) end.tracker.settings Incoming frame in
      let h1 = to_direction end frame (Some Text) broken (some_other Text TooLong (λ e. let d : Text ≡ TooLong = e in cc)) (some_other Text PType (λ e. let d : Text ≡ PType = e in cc)) (some_other Text SType (λ e. let d : Text ≡ SType = e in cc)) (some_other Text ControlText (λ e. let d : Text ≡ ControlText = e in cc)) (some_other Text Session (λ e. let d : Text ≡ Session = e in cc)) in
      let h2 = subsequent Fails Direction transaction_rules (Some Text) (some_other Text Direction (λ e. let d : Text ≡ Direction = e in cc)) h1 in
      let h3 = subsequent Fails NotSelected (WBit ∷ Text ∷ SystemInUse ∷ NoTransaction ∷ SelectStatus ∷ []) (Some Text) (some_other Text NotSelected (λ e. let d : Text ≡ NotSelected = e in cc)) h2.1 in
      surely_selected end.tracker.phase (λ n. h3.0 ((applies Fails (format_rules ++ transaction_rules) Text broken).0, n))

  pub discarded_readable : (mid : State) → mid ≡ after_event end (Discarded frame) → rule ≡ Text → mid.tracker.phase ≡ phase.Selected
  discarded_readable mid is e =
      ap (λ (s : State). s.tracker.phase) is ∙ discarded_phase ∙ unreadable_selected (subst (λ r. BreaksAsTaken end.tracker frame (Some r)) e can.broken)

-- A rule without a reaction.
pub no_reaction : (settings : Parameters) (selected : Bool) (header : Header) (rule : Rule)
    → (rule ≡ PType → ⊥) → (rule ≡ SType → ⊥) → (rule ≡ NotSelected → ⊥) → (rule ≡ Text → ⊥)
    → (rule ≡ NoTransaction → ⊥) → (rule ≡ Session → ⊥)
    → answers_discarded settings selected header rule ≡ []
no_reaction settings selected header PType n1 n2 n3 n4 n5 n6 = absurd (n1 refl)
no_reaction settings selected header SType n1 n2 n3 n4 n5 n6 = absurd (n2 refl)
no_reaction settings selected header NotSelected n1 n2 n3 n4 n5 n6 = absurd (n3 refl)
no_reaction settings selected header Text n1 n2 n3 n4 n5 n6 = absurd (n4 refl)
no_reaction settings selected header NoTransaction n1 n2 n3 n4 n5 n6 = absurd (n5 refl)
no_reaction settings selected header Session n1 n2 n3 n4 n5 n6 = absurd (n6 refl)
no_reaction settings selected header Backwards n1 n2 n3 n4 n5 n6 = refl
no_reaction settings selected header NotUp n1 n2 n3 n4 n5 n6 = refl
no_reaction settings selected header Ended n1 n2 n3 n4 n5 n6 = refl
no_reaction settings selected header T3Overdue n1 n2 n3 n4 n5 n6 = refl
no_reaction settings selected header LinkOverdue n1 n2 n3 n4 n5 n6 = refl
no_reaction settings selected header NotDue n1 n2 n3 n4 n5 n6 = refl
no_reaction settings selected header NoCause n1 n2 n3 n4 n5 n6 = refl
no_reaction settings selected header TooLong n1 n2 n3 n4 n5 n6 = refl
no_reaction settings selected header ControlText n1 n2 n3 n4 n5 n6 = refl
no_reaction settings selected header Direction n1 n2 n3 n4 n5 n6 = refl
no_reaction settings selected header WBit n1 n2 n3 n4 n5 n6 = refl
no_reaction settings selected header SystemInUse n1 n2 n3 n4 n5 n6 = refl
no_reaction settings selected header SelectStatus n1 n2 n3 n4 n5 n6 = refl

pub data_kind : (header : Header) → is_data header ≡ is_data_kind (kind_of header)
unfolding is_data
data_kind header = refl

-- ---- messages sent for a discarded frame

pub nothing_settles : (end : State) (before : List Entry) (acts : List Act) → acts ≡ [] → PeerAwaits end [] [] → Settles end before acts end before
nothing_settles end before acts none awaits =
    record { does = subst (λ (l : List Act). Performs end before l end before) (sym none) (does_nothing end before); awaits = awaits; framer = refl }

pub settles_as : (end end' : State) (before entries : List Entry) (acts others : List Act) → acts ≡ others → Settles end before others end' entries → Settles end before acts end' entries
settles_as end end' before entries acts others same h = subst (λ (l : List Act). Settles end before l end' entries) (sym same) h

pub warned_settles : (end end' : State) (before entries : List Entry) (acts others : List Act) → acts ≡ others → PeerAwaits end [] [] → Interjects end before others end' entries → Settles end before acts end' entries
warned_settles end end' before entries acts others same awaits h =
    settles_as end end' before entries acts others same (record { does = h.does; awaits = h.awaits [] [] awaits; framer = h.same.framer })

-- ---- what may follow a checked frame

pub can_take : (end : State) (frame : Frame) (answer : Option Rule) → IsSound end → is_up end.tracker.phase ≡ true → answer ≡ None → BreaksAsTaken end.tracker frame answer → IsValidEvent end (received_as frame answer) → CanTake end frame
can_take end frame answer sound up none broken is_valid =
    record { awaits = sound_awaits end sound up; is_valid = subst (λ (a : Option Rule). IsValidEvent end (received_as frame a)) none is_valid; broken = subst (λ (a : Option Rule). BreaksAsTaken end.tracker frame a) none broken }

pub can_discard : (end : State) (frame : Frame) (answer : Option Rule) (rule : Rule) → IsSound end → is_up end.tracker.phase ≡ true → answer ≡ Some rule → BreaksAsTaken end.tracker frame answer → IsValidEvent end (received_as frame answer) → CanDiscard end frame rule
can_discard end frame answer rule sound up some broken is_valid =
    record { awaits = sound_awaits end sound up; is_valid = subst (λ (a : Option Rule). IsValidEvent end (received_as frame a)) some is_valid; broken = subst (λ (a : Option Rule). BreaksAsTaken end.tracker frame a) some broken }

-- ---- distinguishing kinds and rules

pub silent_of : (kind : Kind) → (kind ≡ SelectReq → ⊥) → (kind ≡ LinktestReq → ⊥) → (kind ≡ Separate → ⊥) → (kind ≡ Primary → ⊥) → is_silent kind ≡ true
silent_of SelectReq n1 n2 n3 n4 = absurd (n1 refl)
silent_of LinktestReq n1 n2 n3 n4 = absurd (n2 refl)
silent_of Separate n1 n2 n3 n4 = absurd (n3 refl)
silent_of Primary n1 n2 n3 n4 = absurd (n4 refl)
silent_of Reply n1 n2 n3 n4 = refl
silent_of SelectRsp n1 n2 n3 n4 = refl
silent_of LinktestRsp n1 n2 n3 n4 = refl
silent_of Reject n1 n2 n3 n4 = refl
silent_of OtherSType n1 n2 n3 n4 = refl
silent_of OtherPType n1 n2 n3 n4 = refl

-- The reaction to a response without a request.
pub answers_nothing : (settings : Parameters) (selected : Bool) (header : Header) (rule : Rule) (b : Bool) → rule ≡ NoTransaction → b ≡ is_control_response (kind_of header) → answers_discarded settings selected header rule ≡ (if b then rejects header 3 else [])
answers_nothing settings selected header rule b is e =
    ap (λ (r : Rule). answers_discarded settings selected header r) is ∙ ap (λ (b : Bool). if b then rejects header 3 else []) (sym e)

-- The reaction to data for another device.
pub other_device : (settings : Parameters) (selected : Bool) (header : Header) (rule : Rule) (b : Bool) → rule ≡ Session → b ≡ (is_data header && selected) → answers_discarded settings selected header rule ≡ (if b then warns settings 1 header else [])
other_device settings selected header rule b is e =
    ap (λ (r : Rule). answers_discarded settings selected header r) is ∙ ap (λ (b : Bool). if b then warns settings 1 header else []) (sym e)
