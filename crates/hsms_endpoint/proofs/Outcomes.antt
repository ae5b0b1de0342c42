-- A turn has one outcome, and so has a list of inputs.
use Rattle.std.proofs.Common.{◌≡◌, ◌≢◌, ℕ, Bool, true, false, List, [], ◌∷◌, ◌++◌, max, Option, Some, None, Result, Ok, Err, refl, sym, ap, subst, ◌∙◌, inl, inr, ◌⊎◌}
use Rattle.secs_item.specs.Laws.{OneText}
use Rattle.secs_text.specs.Content.{Content}
use Rattle.hsms_frame.specs.declared.header.Header.{Header}
use Rattle.hsms_frame.specs.Frame.{Frame}
use Rattle.hsms_frame.specs.declared.fault.FrameFault.{FrameFault}
use Rattle.hsms_frame.specs.declared.fault.FrameFault.TheVariants.{TooShort, TooLong, Memory}
use Rattle.hsms_frame.specs.declared.kinds.Kind.{Kind}
use Rattle.hsms_frame.specs.declared.kinds.Kind.TheVariants as kind
use Rattle.hsms_frame.specs.Header.{kind_of}
use Rattle.hsms_frame.specs.Framing.{FramesAs}
use Rattle.hsms_frame.specs.Laws.{OneAnswerToPending}
use Rattle.hsms_machine.specs.declared.entry.Entry.{Entry}
use Rattle.hsms_machine.specs.declared.entry.Cause.TheVariants.{Length}
use Rattle.hsms_machine.specs.declared.entry.Event.TheVariants.{Down}
use Rattle.hsms_machine.specs.declared.direction.Flow.TheVariants.{Incoming}
use Rattle.hsms_machine.specs.declared.rule.Rule.{Rule}
use Rattle.hsms_machine.specs.declared.view.View.{View}
use Rattle.hsms_machine.specs.Settings.{Parameters}
use Rattle.hsms_machine.specs.Rule.{FrameBreaks, IsFirst, format_rules, transaction_rules}
use Rattle.hsms_machine.specs.ViewRules.{facts_of, is_selected}
use Rattle.hsms_endpoint.specs.Answer.{Answered}
use Rattle.hsms_endpoint.specs.PrimaryCounts.{name_in, times}
use Rattle.hsms_endpoint.specs.EndState.{EndState}
use Rattle.hsms_endpoint.specs.Frame.{linktest_req, separate_req, message_frame, message_of}
use Rattle.hsms_endpoint.specs.Action.{Act, logs, asks, Acts}
use Rattle.hsms_endpoint.specs.Reaction.{answers_primary, answers_taken, reaction}
use Rattle.hsms_endpoint.specs.Turn.{is_up, opening_of, cut_by, expiries, BreaksAsTaken, received_as, IsAnswerOf, with_asked, Handles, warns_too_long, Rests, is_down, waits, too_short, too_long, TakesOff, Receives, with_octets, InputEvent, start, tick, bytes, send, linktest, separate, lost, Turn}
use Rattle.hsms_endpoint.specs.Drive.{Responds, is_refused, is_accepted, Drives}
use Rattle.hsms_endpoint.proofs.Single.{fault_is_unique, acts_have_one_outcome}

-- ---- a received frame

first_rule_is_one : (Applies : Rule → Type 0) (rules : List Rule) (one other : Option Rule) → IsFirst Applies rules one → IsFirst Applies rules other → one ≡ other
first_rule_is_one Applies [] one other h k = h ∙ sym k
first_rule_is_one Applies (rule ∷ rules) one other h k = elim h [
  | inl p ↦ elim k [ inl q ↦ p.1 ∙ sym q.1 | inr q ↦ absurd (q.0 p.0) ]
  | inr p ↦ elim k [ inl q ↦ absurd (p.0 q.0) | inr q ↦ first_rule_is_one Applies rules one other p.1 q.1 ]
]

broken_rule_is_one : (view : View) (frame : Frame) (one other : Option Rule) → BreaksAsTaken view frame one → BreaksAsTaken view frame other → one ≡ other
broken_rule_is_one view frame one other h k =
    first_rule_is_one (FrameBreaks (facts_of view) view.settings Incoming frame) (format_rules ++ transaction_rules) one other h k

-- The handler's answer matters only for a primary.
answers_agree : (settings : Parameters) (selected : Bool) (k : Kind) (header : Header) (one other : Answered) → (k ≡ kind.Primary → one ≡ other) → answers_taken settings selected k header one ≡ answers_taken settings selected k header other
answers_agree settings selected kind.Primary header one other same = ap (λ answer. answers_primary settings header answer) (same refl)
answers_agree settings selected kind.Reply header one other same = refl
answers_agree settings selected kind.SelectReq header one other same = refl
answers_agree settings selected kind.SelectRsp header one other same = refl
answers_agree settings selected kind.LinktestReq header one other same = refl
answers_agree settings selected kind.LinktestRsp header one other same = refl
answers_agree settings selected kind.Reject header one other same = refl
answers_agree settings selected kind.Separate header one other same = refl
answers_agree settings selected kind.OtherSType header one other same = refl
answers_agree settings selected kind.OtherPType header one other same = refl

-- It matters only if the primary is accepted.
reaction_agrees : (settings : Parameters) (selected : Bool) (header : Header) (broken : Option Rule) (one other : Answered) → (broken ≡ None → kind_of header ≡ kind.Primary → one ≡ other) → reaction settings selected header broken one ≡ reaction settings selected header broken other
reaction_agrees settings selected header None one other same = answers_agree settings selected (kind_of header) header one other (same refl)
reaction_agrees settings selected header (Some rule) one other same = refl

-- ---- no further message at the start of the pending bytes

abbrev Answer : Type 0
Answer = Result (Option Frame) FrameFault

abbrev gives : Answer → Bool
gives (Ok (Some frame)) = true
gives (Ok None) = false
gives (Err fault) = false

abbrev last_acts : EndState → Answer → List Act
last_acts end (Ok message) = []
last_acts end (Err (TooShort n)) = cut_by Length
last_acts end (Err (TooLong n header)) = warns_too_long end header ++ cut_by Length
last_acts end (Err Memory) = []

-- The connection is up, and the pending bytes give no message.
record Stops (end : EndState) (entries : List Entry) (end' : EndState) : Type 0 where
  up : is_up end.view.phase ≡ true
  answer : Answer
  no_message : gives answer ≡ false
  decides : answer ≢ Err Memory
  front : FramesAs end.settings.max end.pending answer end.pending
  acts : Acts end (last_acts end answer) entries end'

rests_as : (end : EndState) (entries : List Entry) (end' : EndState) → Rests end entries end' → ((is_up end.view.phase ≡ false) × Acts end [] entries end') ⊎ Stops end entries end'
rests_as end entries end' (is_down down none same) = inl (down, (none, same))
rests_as end entries end' (waits up front none same) = inr (record {
  up = up;
  answer = Ok None;
  no_message = refl;
  decides = λ e. let d : ◌≡◌ {A = Answer} (Ok None) (Err Memory) = e in cc;
  front = front;
  acts = (none, same);
})
rests_as end entries end' (too_short n up front acts) = inr (record {
  up = up;
  answer = Err (TooShort n);
  no_message = refl;
  decides = λ e. let d : ◌≡◌ {A = Answer} (Err (TooShort n)) (Err Memory) = e in cc;
  front = front;
  acts = acts;
})
rests_as end entries end' (too_long n header up front acts) = inr (record {
  up = up;
  answer = Err (TooLong n header);
  no_message = refl;
  decides = λ e. let d : ◌≡◌ {A = Answer} (Err (TooLong n header)) (Err Memory) = e in cc;
  front = front;
  acts = acts;
})

both : (b : Bool) → b ≡ true → b ≡ false → ⊥
both b e f = let d : true ≡ false = sym e ∙ f in cc

message_decides : (frame : Frame) → ◌≢◌ {A = Answer} (Ok (Some frame)) (Err Memory)
message_decides frame e = let d : ◌≡◌ {A = Answer} (Ok (Some frame)) (Err Memory) = e in cc

module _ (one_answer : OneAnswerToPending) where
  stops_one : (end : EndState) (one other : List Entry) (end' end'' : EndState) → Stops end one end' → Stops end other end'' → (one ≡ other) × (end' ≡ end'')
  stops_one end one other end' end'' h k =
      let same = one_answer end.settings.max end.pending h.answer k.answer end.pending end.pending h.decides k.decides h.front k.front in
      acts_have_one_outcome end (last_acts end h.answer) one other end' end'' h.acts
      (subst (λ (answer : Answer). Acts end (last_acts end answer) other end'') (sym same.0) k.acts)

  rests_one : (end : EndState) (one other : List Entry) (end' end'' : EndState) → Rests end one end' → Rests end other end'' → (one ≡ other) × (end' ≡ end'')
  rests_one end one other end' end'' h k = elim (rests_as end one end' h) [
    | inl p ↦ elim (rests_as end other end'' k) [
      | inl q ↦ acts_have_one_outcome end [] one other end' end'' p.1 q.1
      | inr q ↦ absurd (both (is_up end.view.phase) q.up p.0)
    ]
    | inr p ↦ elim (rests_as end other end'' k) [
      | inl q ↦ absurd (both (is_up end.view.phase) p.up q.0)
      | inr q ↦ stops_one end one other end' end'' p q
    ]
  ]

  -- If a message is removed from the pending bytes, `Rests` does not hold.
  no_rest : (end : EndState) (entries : List Entry) (end' : EndState) (frame : Frame) (off : EndState) → Rests end entries end' → TakesOff end frame off → ⊥
  no_rest end entries end' frame off h k = elim (rests_as end entries end' h) [
    | inl p ↦ both (is_up end.view.phase) k.up p.0
    | inr p ↦
        let same = one_answer end.settings.max end.pending p.answer (Ok (Some frame)) end.pending k.rest p.decides (message_decides frame) p.front k.front in
        both (gives p.answer) (ap gives same.0) p.no_message
  ]

  takes_off_one : (end : EndState) (one other : Frame) (end' end'' : EndState) → TakesOff end one end' → TakesOff end other end'' → (one ≡ other) × (end' ≡ end'')
  takes_off_one end one other end' end'' h k =
      let same = one_answer end.settings.max end.pending (Ok (Some one)) (Ok (Some other)) h.rest k.rest (message_decides one) (message_decides other) h.front k.front in
      let frames : ◌≡◌ {A = Answer} (Ok (Some one)) (Ok (Some other)) = same.0 in
      ((let e : one ≡ other = cc in e), h.off ∙ ap (λ rest. record end { pending = rest }) same.1 ∙ sym k.off)

module _ (one_answer : OneAnswerToPending) (one_text : OneText) (desk : ℕ → Content → Answered) where
  answer_is_one : (before depth : ℕ) (frame : Frame) (broken : Option Rule) (one other : Answered) → IsAnswerOf (desk before) depth frame broken one → IsAnswerOf (desk before) depth frame broken other → broken ≡ None → kind_of frame.header ≡ kind.Primary → one ≡ other
  answer_is_one before depth frame broken one other h k none primary =
      let p = h none primary in
      let q = k none primary in
      p.2 ∙ ap (λ item. desk before (message_of frame.header item)) (one_text depth frame.text p.0 q.0 p.1 q.1) ∙ sym q.2

  abbrev acts_of : EndState → Frame → Option Rule → Answered → List Act
  acts_of end frame broken answer = logs (received_as frame broken) ∷ reaction end.settings (is_selected end.view.phase) frame.header broken answer

  handles_one : (end : EndState) (frame : Frame) (one other : List Entry) (end' end'' : EndState) → Handles desk end frame one end' → Handles desk end frame other end'' → (one ≡ other) × (end' ≡ end'')
  handles_one end frame one other end' end'' h k =
      let same : k.0 ≡ h.0 = broken_rule_is_one end.view frame k.0 h.0 k.2 h.2 in
      let before = times (name_in frame.header) end.asked in
      let answered : IsAnswerOf (desk before) end.settings.depth frame h.0 k.1 = subst (λ broken. IsAnswerOf (desk before) end.settings.depth frame broken k.1) same k.3 in
      let acts : Acts (with_asked end frame h.0) (acts_of end frame h.0 k.1) other end'' = subst (λ broken. Acts (with_asked end frame broken) (acts_of end frame broken k.1) other end'') same k.4 in
      let alike = reaction_agrees end.settings (is_selected end.view.phase) frame.header h.0 k.1 h.1 (answer_is_one before end.settings.depth frame h.0 k.1 h.1 answered h.3) in
      acts_have_one_outcome (with_asked end frame h.0) (acts_of end frame h.0 h.1) one other end' end'' h.4
      (subst (λ later. Acts (with_asked end frame h.0) (logs (received_as frame h.0) ∷ later) other end'') alike acts)

  receives_one : (end : EndState) (frames others : List Frame) (one other : List Entry) (end' end'' : EndState) → Receives desk end frames one end' → Receives desk end others other end'' → (one ≡ other) × (end' ≡ end'')
  receives_one end [] [] one other end' end'' h k = rests_one one_answer end one other end' end'' h k
  receives_one end [] (frame ∷ others) one other end' end'' h k = absurd (no_rest one_answer end one end' frame k.0 h k.4)
  receives_one end (frame ∷ frames) [] one other end' end'' h k = absurd (no_rest one_answer end other end'' frame h.0 k h.4)
  receives_one end (frame ∷ frames) (message ∷ others) one other end' end'' h k =
      let same = takes_off_one one_answer end message frame k.0 h.0 k.4 h.4 in
      let again : Handles desk h.0 frame k.2 k.1 =
      subst (λ (f : Frame). Handles desk h.0 f k.2 k.1) same.0 (subst (λ (off : EndState). Handles desk off message k.2 k.1) same.1 k.5) in
      let first = handles_one h.0 frame h.2 k.2 h.1 k.1 h.5 again in
      let subsequent : Receives desk h.1 others k.3 end'' = subst (λ (next : EndState). Receives desk next others k.3 end'') (sym first.1) k.6 in
      let rest = receives_one h.1 frames others h.3 k.3 end' end'' h.6 subsequent in
      (h.7 ∙ ap (λ es. es ++ h.3) first.0 ∙ ap (λ es. k.2 ++ es) rest.0 ∙ sym k.7, rest.1)

-- ---- a turn

module _ (one_answer : OneAnswerToPending) (one_text : OneText) where
  pub turn_has_one_outcome : (desk : ℕ → Content → Answered) (end : EndState) (input : InputEvent) (one other : List Entry) (end' end'' : EndState) → Turn desk end input one end' → Turn desk end input other end'' → (one ≡ other) × (end' ≡ end'')
  turn_has_one_outcome desk end (start now) one other end' end'' h k =
      acts_have_one_outcome (record end { moment = max end.moment now }) (opening_of end.settings.link) one other end' end'' h k
  turn_has_one_outcome desk end (tick now) one other end' end'' h k =
      let later : EndState = record end { moment = max end.moment now } in
      acts_have_one_outcome later (expiries later) one other end' end'' h k
  turn_has_one_outcome desk end (bytes octets) one other end' end'' h k =
      receives_one one_answer one_text desk (with_octets end octets) h.0 k.0 one other end' end'' h.1 k.1
  turn_has_one_outcome desk end (send message) one other end' end'' h k =
      let texts : Some k.0 ≡ Some h.0 = sym k.1 ∙ h.1 in
      let same : k.0 ≡ h.0 = cc in
      acts_have_one_outcome end (asks (message_frame end.settings message h.0) ∷ []) one other end' end'' h.2
      (subst (λ (text : List ℕ). Acts end (asks (message_frame end.settings message text) ∷ []) other end'') same k.2)
  turn_has_one_outcome desk end linktest one other end' end'' h k = acts_have_one_outcome end (asks linktest_req ∷ []) one other end' end'' h k
  turn_has_one_outcome desk end separate one other end' end'' h k = acts_have_one_outcome end (asks separate_req ∷ logs Down ∷ []) one other end' end'' h k
  turn_has_one_outcome desk end lost one other end' end'' h k = acts_have_one_outcome end (logs Down ∷ []) one other end' end'' h k

  -- ---- a list of inputs

  responds_one : (desk : ℕ → Content → Answered) (end : EndState) (input : InputEvent) (accepted others : List InputEvent) (one other : List Entry) (end' end'' : EndState) → Responds desk end input accepted one end' → Responds desk end input others other end'' → (accepted ≡ others) × (one ≡ other) × (end' ≡ end'')
  responds_one desk end input accepted others one other end' end'' (is_refused fault encounters none empty same) (is_refused fault' encounters' none' empty' same') =
      (none ∙ sym none', empty ∙ sym empty', same ∙ sym same')
  responds_one desk end input accepted others one other end' end'' (is_refused fault encounters none empty same) (is_accepted encounters' turn' single') =
      absurd (let e : None ≡ Some fault = fault_is_unique end input None (Some fault) encounters' encounters in cc)
  responds_one desk end input accepted others one other end' end'' (is_accepted encounters turn single) (is_refused fault' encounters' none' empty' same') =
      absurd (let e : None ≡ Some fault' = fault_is_unique end input None (Some fault') encounters encounters' in cc)
  responds_one desk end input accepted others one other end' end'' (is_accepted encounters turn single) (is_accepted encounters' turn' single') =
      let same = turn_has_one_outcome desk end input one other end' end'' turn turn' in
      (single ∙ sym single', same.0, same.1)

  pub drive_has_one_outcome : (desk : ℕ → Content → Answered) (end : EndState) (inputs accepted others : List InputEvent) (one other : List Entry) (end' end'' : EndState) → Drives desk end inputs accepted one end' → Drives desk end inputs others other end'' → (accepted ≡ others) × (one ≡ other) × (end' ≡ end'')
  drive_has_one_outcome desk end [] accepted others one other end' end'' h k = (h.0 ∙ sym k.0, h.1 ∙ sym k.1, h.2 ∙ sym k.2)
  drive_has_one_outcome desk end (input ∷ inputs) accepted others one other end' end'' h k =
      let same = responds_one desk end input h.1 k.1 h.3 k.3 h.0 k.0 h.5 k.5 in
      let subsequent : Drives desk h.0 inputs k.2 k.4 end'' = subst (λ (next : EndState). Drives desk next inputs k.2 k.4 end'') (sym same.2) k.6 in
      let rest = drive_has_one_outcome desk h.0 inputs h.2 k.2 h.4 k.4 end' end'' h.6 subsequent in (
        h.7 ∙ ap (λ xs. xs ++ h.2) same.0 ∙ ap (λ xs. k.1 ++ xs) rest.0 ∙ sym k.7,
        h.8 ∙ ap (λ es. es ++ h.4) same.1 ∙ ap (λ es. k.3 ++ es) rest.1 ∙ sym k.8,
        rest.2,
      )
