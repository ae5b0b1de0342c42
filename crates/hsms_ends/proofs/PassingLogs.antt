-- The log of a served connection is the text of a run.
use Rattle.std.proofs.Common.{◌≡◌, ◌≤◌, ◌<◌, ◌+◌, ◌*◌, ◌++◌, ◌^◌, ℕ, List, [], ◌∷◌, length, get_or, Ok, Err, true, false, refl, sym, ap, ◌∙◌, subst, arith, append_assoc, length-append}
use Rattle.std.specs.Prelude.{Option, Result, All, codes, decimal}
use Rattle.std.proofs.lemmas.Fmt.{length-decimal-le}
use Rattle.std.proofs.lemmas.List.Elements.{All-append, All-nil, All-from_get_or}
use Rattle.hex.specs.Hex.{encode_lower, lower_digits}
use Rattle.hex.proofs.HexLemmas.{length-encode_with}
use Rattle.secs_text.specs.Content.{Content}
use Rattle.hsms_frame.specs.Frame.{Frame}
use Rattle.hsms_frame.specs.Header.{header_octets}
use Rattle.hsms_frame.specs.Io.{SinkState}
use Rattle.hsms_machine.specs.declared.entry.Entry.{Entry}
use Rattle.hsms_machine.specs.declared.entry.Cause.TheVariants.{T6, T7, T8, Length}
use Rattle.hsms_machine.specs.declared.entry.Event.{Event}
use Rattle.hsms_machine.specs.declared.entry.Event.TheVariants.{Up, Sent, Taken, Discarded, T3, Cut, Down}
use Rattle.hsms_machine.specs.declared.view.View.{View}
use Rattle.hsms_machine.specs.Settings.{Parameters, IsWithinLimits}
use Rattle.hsms_machine.specs.Run.{IsRun}
use Rattle.hsms_machine.specs.View.{HasView}
use Rattle.hsms_machine.proofs.Runs.{empty_run}
use Rattle.hsms_log.specs.LineFormat.{IsEntry, entry_line, event_text, line_limit, message_octets, system_octets, settings_line}
use Rattle.hsms_log.specs.Log.{LogText, written_log}
use Rattle.hsms_log.proofs.WrittenLog.{log_written}
use Rattle.hsms_endpoint.specs.Answer.{Answered}
use Rattle.hsms_endpoint.specs.EndState.{EndOf, initial_state, initial_since}
use Rattle.hsms_endpoint.specs.Turn.{InputEvent as Input}
use Rattle.hsms_endpoint.specs.End.{Accepts}
use Rattle.hsms_ends.specs.declared.step.Step.{Step}
use Rattle.hsms_ends.specs.declared.serving.ServedScript.{ServedScript}
use Rattle.hsms_ends.specs.declared.fault.ServeFault.{ServeFault}
use Rattle.hsms_ends.specs.declared.fault.ServeFault.TheVariants as serve
use Rattle.hsms_ends.specs.Link.{LinkState}
use Rattle.hsms_ends.specs.Output.{LogGrows, LogFails, LogStops}
use Rattle.hsms_ends.specs.InnerOutput.{log_lines}
use Rattle.hsms_ends.specs.Turns.{has_gone}
use Rattle.hsms_ends.specs.Serving.{Story, Unopened, Unstarted, Started, IsStory, entries_of, ends_down, Answers, LogStopsIn, LogHolds, is_log_fault, ServesTesting}
use Rattle.hsms_ends.specs.InnerServeSteps.{AnswersEnd, HoldsLines, ServesEnd}
use Rattle.hsms_ends.specs.Laws.{ServedLogPasses}
use Rattle.hsms_ends.proofs.TurnPrefixes.{along_story}
use Rattle.hsms_ends.proofs.Downs.{gone_of_view}
use Rattle.hsms_ends.proofs.Ending.{holds_then}
use Rattle.hsms_ends.proofs.ReceivedBytes.{grows_none, processes_nothing}
use Rattle.hsms_ends.proofs.OutputSteps.{whole_is}
use Rattle.hsms_ends.proofs.Readiness.{IsSized, run_sized}
use Rattle.hsms_ends.proofs.Sizes.{IsDiscardSized, turn_kept}

-- ---- lengths of lines

message_length : (frame : Frame) → length (message_octets frame) ≡ 10 + length frame.text
unfolding message_octets
message_length frame = length-append (header_octets frame.header) frame.text

system_length : (system : ℕ) → length (system_octets system) ≡ 4
unfolding system_octets
system_length system = refl

hex_fits : (most : ℕ) (frame : Frame) → 10 + length frame.text ≤ most → length (encode_lower (message_octets frame)) ≤ 2 * most
hex_fits most frame sized = omega (arith, length-encode_with lower_digits (message_octets frame), message_length frame, sized)

-- A mark, and a message.
marked : (mark : List ℕ) (most : ℕ) (frame : Frame) → length mark ≡ 2 → 10 + length frame.text ≤ most → length (mark ++ encode_lower (message_octets frame)) ≤ 2 * most + 20
marked mark most frame two sized = omega (arith, length-append mark (encode_lower (message_octets frame)), two, hex_fits most frame sized)

system_fits : (most system : ℕ) (mark : List ℕ) → length mark ≡ 3 → length (mark ++ encode_lower (system_octets system)) ≤ 2 * most + 20
system_fits most system mark three =
    omega (arith, length-append mark (encode_lower (system_octets system)), three, length-encode_with lower_digits (system_octets system), system_length system)

short : (most size : ℕ) (text : List ℕ) → length text ≡ size → size ≤ 20 → length text ≤ 2 * most + 20
short most size text is small = omega (arith, is, small)

-- The text of an event.
event_fits : (most : ℕ) (event : Event) → IsSized most event → IsDiscardSized most event → length (event_text event) ≤ 2 * most + 20
event_fits most Up sized discard = short most 2 (codes "up") refl (omega arith)
event_fits most (Sent frame) sized discard = marked (codes "> ") most frame refl sized
event_fits most (Taken frame) sized discard = marked (codes "< ") most frame refl sized
event_fits most (Discarded frame) sized discard = marked (codes "! ") most frame refl discard
event_fits most (T3 system) sized discard = system_fits most system (codes "t3 ") refl
event_fits most (Cut T6) sized discard = short most 6 (codes "cut " ++ codes "t6") refl (omega arith)
event_fits most (Cut T7) sized discard = short most 6 (codes "cut " ++ codes "t7") refl (omega arith)
event_fits most (Cut T8) sized discard = short most 6 (codes "cut " ++ codes "t8") refl (omega arith)
event_fits most (Cut Length) sized discard = short most 10 (codes "cut " ++ codes "length") refl (omega arith)
event_fits most Down sized discard = short most 4 (codes "down") refl (omega arith)

line_fits : (most : ℕ) (entry : Entry) → entry.time < 2 ^ 64 → length (event_text entry.event) ≤ 2 * most + 20 → length (entry_line entry) ≤ line_limit most
unfolding entry_line
line_fits most entry time h =
    let number : length (decimal entry.time) ≤ 20 = length-decimal-le 20 entry.time (omega arith) (omega (arith, time)) time in
    omega (arith, number, h, length-append (decimal entry.time) (32 ∷ event_text entry.event))

-- ---- a run is written as its text

pub text_of_run : (s : Parameters) (log : List Entry) → IsWithinLimits s → IsRun s log → All (λ (entry : Entry). IsDiscardSized s.max entry.event) log → All IsEntry log
    → LogText (written_log s log) s log
text_of_run s log within run discards range =
    let sized : All (λ (entry : Entry). IsSized s.max entry.event) log =
    All-from_get_or (λ (entry : Entry). IsSized s.max entry.event) log (record { time = 0; event = Up }) (run_sized s log run) in
    log_written s log within
    (λ k d lt. (range k d lt, line_fits s.max (get_or log k d) (range k d lt).time (event_fits s.max (get_or log k d).event (sized k d lt) (discards k d lt))))

-- ---- the endpoint to which a story leads

-- The entries so far are a run with the endpoint's view, and the discarded messages are within the limit.
pub record IsReached {D : Type 0} (s : Parameters) (before : List Entry) (end : EndOf D) : Type 0 where
  pub seen : HasView s before end.known.view
  pub settings : end.known.settings ≡ s
  pub sized : All (λ (entry : Entry). IsDiscardSized s.max entry.event) before

module _ {D : Type 0} (answers : D → ℕ → Content → Answered) (pause : Option ℕ) where
  reached_next : (s : Parameters) (before : List Entry) (end : EndOf D) (input : Input) (entries : List Entry) (end' : EndOf D)
      → IsReached s before end → Accepts answers end input entries end' → IsReached s (before ++ entries) end'
  reached_next s before end input entries end' p h =
      let same : s ≡ end.known.view.settings = ap (λ (v : View). v.settings) p.seen.seen in
      let P : Parameters → Type 0 = λ x. HasView x before end.known.view in
      let Q : Parameters → Type 0 = λ x. HasView x (before ++ entries) end'.known.view in
      let R : Parameters → Type 0 = λ x. All (λ (entry : Entry). IsDiscardSized x.max entry.event) entries in
      let kept = turn_kept (answers end.desk) end.known input entries end'.known h.turn in
      record {
        seen = subst Q (sym same) (h.run before (subst P same p.seen));
        settings = kept.settings ∙ p.settings;
        sized = All-append (λ (entry : Entry). IsDiscardSized s.max entry.event) before entries p.sized (subst R p.settings kept.sized);
      }

  reached_new : (desk : D) (s : Parameters) (first_system since : ℕ) → IsReached s [] (record { desk = desk; known = initial_since s first_system since })
  reached_new desk s first_system since =
      record { seen = record { run = empty_run s; seen = refl }; settings = refl; sized = All-nil (λ (entry : Entry). IsDiscardSized s.max entry.event) }

  pub reached : (desk : D) (s : Parameters) (first_system since : ℕ) (script : List Step) (story : Story) (last : EndOf D)
      → IsStory answers pause (record { desk = desk; known = initial_since s first_system since }) script story last → IsReached s (entries_of story) last
  reached desk s first_system since script story last is =
      let P : List Entry → EndOf D → Type 0 = λ before end. IsReached s before end in
      along_story answers pause P (λ before end input entries end' p h. reached_next s before end input entries end' p h)
      (record { desk = desk; known = initial_since s first_system since }) script story last (reached_new desk s first_system since) is

  pub answers_by : (limit : ℕ) (result : Result ServedScript ServeFault) (story : Story) (last : EndOf D) → has_gone last ≡ ends_down (entries_of story) → AnswersEnd limit result story last → Answers limit result story
  answers_by limit (Ok served) story last same h = (h.0, sym same ∙ h.1, h.2, h.3)
  answers_by limit (Err serve.Turns) story last same h = (h.0, h.1, sym same ∙ h.2)
  answers_by limit (Err serve.Link) story last same h = (h.0, sym same ∙ h.1)
  answers_by limit (Err serve.Log) story last same h = tt
  answers_by limit (Err serve.Memory) story last same h = tt

  nothing_stops : (log log' : SinkState) (lines : List ℕ) (whole rest : List Entry) → [] ≡ whole ++ rest → LogStops log log' lines rest → ⊥
  nothing_stops log log' lines whole [] parted h = h
  nothing_stops log log' lines whole (entry ∷ rest) parted h =
      absurd (let e : 0 ≡ length whole + length (entry ∷ rest) = ap length parted ∙ length-append whole (entry ∷ rest) in omega (arith, e))

  stops_by : (story : Story) (log log' : SinkState) (s : Parameters) (whole rest : List Entry) → entries_of story ≡ whole ++ rest → LogStops log log' (written_log s whole) rest → LogStopsIn story log log' s whole rest
  stops_by Unopened log log' s whole rest parted h = absurd (nothing_stops log log' (written_log s whole) whole rest parted h)
  stops_by (Unstarted now) log log' s whole rest parted h = nothing_stops log log' (written_log s whole) whole rest parted h
  stops_by (Started now started turns cut loss) log log' s whole rest parted h = h

  held_by : (result : Result ServedScript ServeFault) (story : Story) (log log' : SinkState) (s : Parameters) (whole rest : List Entry) → entries_of story ≡ whole ++ rest → HoldsLines result log log' (written_log s whole) rest
      → LogHolds result story log log' s whole rest
  held_by (Ok served) story log log' s whole rest parted h = h
  held_by (Err serve.Turns) story log log' s whole rest parted h = h
  held_by (Err serve.Link) story log log' s whole rest parted h = h
  held_by (Err serve.Log) story log log' s whole rest parted h = stops_by story log log' s whole rest parted h
  held_by (Err serve.Memory) story log log' s whole rest parted h = h

  -- The settings line was written.
  pub opened : (end_new : EndOf D) (desk : D) (s : Parameters) (first_system : ℕ) (script : List Step) (limit : ℕ) (result : Result ServedScript ServeFault) (log mid log' : SinkState) (link link' : LinkState)
      → IsWithinLimits s → LogGrows log mid (settings_line s ++ 10 ∷ [])
      → ServesEnd answers pause (record { desk = desk; known = initial_state s first_system }) end_new script limit result mid log' link link'
      → ServesTesting answers pause (record { desk = desk; known = initial_state s first_system }) script limit result log log' link link'
  opened end_new desk s first_system script limit result log mid log' link link' within grows r =
      let there = reached desk s first_system 0 script r.story r.last r.is_story in
      let H : List ℕ → Type 0 = λ l. HoldsLines result log log' l r.rest in
      let held : HoldsLines result log log' (written_log s r.whole) r.rest =
      subst H (append_assoc (settings_line s) (10 ∷ []) (log_lines r.whole)) (holds_then result log mid log' (settings_line s ++ 10 ∷ []) (log_lines r.whole) r.rest grows r.log_holds) in
      record {
        story = r.story;
        last = r.last;
        is_story = r.is_story;
        bound = r.bound;
        run = there.seen.run;
        text = text_of_run s (entries_of r.story) within there.seen.run there.sized r.in_range;
        whole = r.whole;
        rest = r.rest;
        parted = r.parted;
        rest_is_last = r.rest_is_last;
        log_holds = held_by result r.story log log' s r.whole r.rest r.parted held;
        steps_left = r.steps_left;
        answer = answers_by limit result r.story r.last (gone_of_view s (entries_of r.story) r.last.known.view there.seen) r.answer;
        processes_input = r.processes_input;
        failed = r.failed;
        took = r.took;
        failures = r.failures;
        failed_is = r.failed_is;
        lost_is = r.lost_is;
      }

  -- The settings line was not written.
  pub unopened : (desk : D) (s : Parameters) (first_system : ℕ) (script : List Step) (limit : ℕ) (log log' : SinkState) (link : LinkState)
      → IsWithinLimits s → LogFails log log' (settings_line s ++ 10 ∷ [])
      → ServesTesting answers pause (record { desk = desk; known = initial_state s first_system }) script limit (Err serve.Log) log log' link link
  unopened desk s first_system script limit log log' link within fails = record {
    story = Unopened;
    last = record { desk = desk; known = initial_state s first_system };
    is_story = refl;
    bound = omega arith;
    run = empty_run s;
    text = text_of_run s [] within (empty_run s) (All-nil (λ (entry : Entry). IsDiscardSized s.max entry.event)) (All-nil IsEntry);
    whole = [];
    rest = [];
    parted = refl;
    rest_is_last = ([], refl);
    log_holds = fails;
    answer = tt;
    steps_left = tt;
    processes_input = processes_nothing link;
    failed = false;
    took = grows_none link.taken;
    failures = refl;
    failed_is = tt;
    lost_is = λ h. absurd (let e : false ≡ true = h in cc);
  }

  -- ---- the log passes the audit

  -- The text of all entries was logged.
  grown : (result : Result ServedScript ServeFault) (story : Story) (log log' : SinkState) (s : Parameters) (whole rest : List Entry) → is_log_fault result ≡ false → LogHolds result story log log' s whole rest
      → (rest ≡ []) × LogGrows log log' (written_log s whole)
  grown (Ok served) story log log' s whole rest fine h = h
  grown (Err serve.Turns) story log log' s whole rest fine h = h
  grown (Err serve.Link) story log log' s whole rest fine h = h
  grown (Err serve.Log) story log log' s whole rest fine h = absurd (let e : true ≡ false = fine in cc)
  grown (Err serve.Memory) story log log' s whole rest fine h = h

pub served_passes : {D : Type 0} (answers : D → ℕ → Content → Answered) → ServedLogPasses answers
served_passes answers pause new script limit result log log' link link' r fine empty =
    let s = new.known.settings in
    let entries = entries_of r.story in
    let text = written_log s entries in
    let all = grown answers pause result r.story log log' s r.whole r.rest fine r.log_holds in
    let P : List Entry → Type 0 = λ l. LogGrows log log' (written_log s l) in
    let logged = subst P (whole_is entries r.whole r.rest r.parted all.0) all.1 in (
      text,
      logged.0 [] empty,
      (s, entries, record { encoded_bytes = r.text; run = r.run }, refl),
    )
