-- Consecutive connections: their entries are one run, and its text is logged.
use Rattle.std.proofs.Common.{◌≡◌, ◌≤◌, ◌<◌, ◌+◌, ◌-◌, ◌++◌, ◌==◌, ℕ, suc, max, List, [], ◌∷◌, length, cond, Ok, Err, true, false, inl, inr, refl, sym, ap, ◌∙◌, subst, arith, append_assoc, length-append}
use Rattle.std.specs.Prelude.{Bool, ◌&&◌, Option, Result, All}
use Rattle.std.proofs.lemmas.Bool.Decides.{nat_tests}
use Rattle.std.proofs.lemmas.List.{append-nil, get_or-append-add}
use Rattle.std.proofs.lemmas.List.Elements.{All-append, All-nil}
use Rattle.secs_text.specs.Content.{Content}
use Rattle.hsms_frame.specs.Io.{SinkState}
use Rattle.hsms_machine.specs.declared.entry.Entry.{Entry}
use Rattle.hsms_machine.specs.declared.entry.Event.TheVariants.{Up}
use Rattle.hsms_machine.specs.declared.settings.Side.{Side}
use Rattle.hsms_machine.specs.declared.settings.Side.TheVariants.{Active, Passive}
use Rattle.hsms_machine.specs.declared.view.View.{View}
use Rattle.hsms_machine.specs.Settings.{Parameters, IsWithinLimits}
use Rattle.hsms_machine.specs.Entry.{entry_at, is_down}
use Rattle.hsms_machine.specs.Run.{IsRun}
use Rattle.hsms_machine.specs.Laws.{EndsDown, ContinuesWith}
use Rattle.hsms_machine.proofs.JoinedLogs.{run-joined}
use Rattle.hsms_machine.proofs.Runs.{empty_run}
use Rattle.hsms_log.specs.LineFormat.{IsEntry, settings_line}
use Rattle.hsms_log.specs.Log.{written_log}
use Rattle.hsms_endpoint.specs.Answer.{Answered}
use Rattle.hsms_endpoint.specs.EndState.{EndState, EndOf}
use Rattle.hsms_endpoint.specs.Turn.{opening_of}
use Rattle.hsms_endpoint.specs.Action.{Acts}
use Rattle.hsms_ends.specs.declared.reconnect.ServedAgain.{ServedAgain}
use Rattle.hsms_ends.specs.declared.step.Step.{Step}
use Rattle.hsms_ends.specs.declared.serving.ServedScript.{ServedScript}
use Rattle.hsms_ends.specs.declared.fault.ServeFault.{ServeFault}
use Rattle.hsms_ends.specs.declared.fault.ServeFault.TheVariants as serve
use Rattle.hsms_ends.specs.Link.{LinkState, processed_nothing, ProcessesInput}
use Rattle.hsms_ends.specs.Output.{LogGrows, LogFails, LogStops}
use Rattle.hsms_ends.specs.InnerOutput.{log_lines}
use Rattle.hsms_ends.specs.Turns.{entries_turns}
use Rattle.hsms_ends.specs.Serving.{Story, Unopened, Unstarted, Started, IsStory, entries_of, reception_of, entries_cut, lost_entries, ends_down, Answers, is_log_fault}
use Rattle.hsms_ends.specs.InnerServeSteps.{IsLeft, HoldsLines}
use Rattle.hsms_ends.specs.Reconnect.{Connection, new_end, IsServed, entries_all, processed_all, last_time, AreServed, completes, are_complete, AnswersAgain, LogStopsLast, LogHoldsAgain, is_log_fault_again, ServesAgain}
use Rattle.hsms_ends.specs.InnerReconnectSteps.{Onward, NextServed, LinesHeld, ServedEach, script_at}
use Rattle.hsms_ends.specs.Laws.{ServedAgainLogPasses}
use Rattle.hsms_ends.proofs.Downs.{gone_of_view}
use Rattle.hsms_ends.proofs.ReceivedBytes.{processes_then, processes_nothing, grows_none}
use Rattle.hsms_ends.proofs.PassingLogs.{IsReached, reached, answers_by, text_of_run}
use Rattle.hsms_ends.proofs.OutputSteps.{lines-append, log_then, stops_then, grows_along, whole_is}
use Rattle.hsms_ends.proofs.Sizes.{IsDiscardSized}

-- ---- the first entry and the last

opening_first : (side : Side) (end : EndState) (entries : List Entry) (end' : EndState) (rest : List Entry) → Acts end (opening_of side) entries end' → (entry_at (entries ++ rest) 0).time ≡ end.moment
opening_first Active end entries end' rest h = ap (λ l. (entry_at (l ++ rest) 0).time) h.1
opening_first Passive end entries end' rest h = ap (λ l. (entry_at (l ++ rest) 0).time) h.1

some_down : (log : List Entry) → ends_down log ≡ true → 0 < length log
some_down [] e = absurd (let d : false ≡ true = e in cc)
some_down (x ∷ xs) e = omega arith

last_of : (a b : List Entry) → 0 < length b → entry_at (a ++ b) (length (a ++ b) - 1) ≡ entry_at b (length b - 1)
last_of a b some =
    let e : length (a ++ b) - 1 ≡ length a + (length b - 1) = omega (arith, length-append a b) in
    ap (entry_at (a ++ b)) e ∙ get_or-append-add a b (length b - 1) (record { time = 0; event = Up })

down_all : (a b : List Entry) → ends_down b ≡ true → EndsDown (a ++ b)
down_all a b e some =
    (length (a ++ b) - 1, omega arith, ap (λ (x : Entry). is_down x.event) (last_of a b (some_down b e)) ∙ e)

-- ---- one more connection

entries_snoc : (cs : List Connection) (c : Connection) → entries_all (cs ++ c ∷ []) ≡ entries_all cs ++ entries_of c.story
entries_snoc [] c = append-nil (entries_of c.story)
entries_snoc (x ∷ cs) c = ap (λ l. entries_of x.story ++ l) (entries_snoc cs c) ∙ sym (append_assoc (entries_of x.story) (entries_all cs) (entries_of c.story))

and_true : (b : Bool) → (b && true) ≡ b
and_true true = refl
and_true false = refl

and_assoc : (a b c : Bool) → (a && (b && c)) ≡ ((a && b) && c)
and_assoc true b c = refl
and_assoc false b c = refl

complete_snoc : (cs : List Connection) (c : Connection) → are_complete (cs ++ c ∷ []) ≡ (are_complete cs && completes c.result)
complete_snoc [] c = and_true (completes c.result)
complete_snoc (x ∷ cs) c = ap (λ b. completes x.result && b) (complete_snoc cs c) ∙ and_assoc (completes x.result) (are_complete cs) (completes c.result)

-- The time from which the next endpoint continues.
abbrev pub since_at : ℕ → List Connection → ℕ
since_at since [] = since
since_at since (c ∷ cs) = since_at (last_time (entries_of c.story)) cs

since_snoc : (since : ℕ) (cs : List Connection) (c : Connection) → since_at since (cs ++ c ∷ []) ≡ last_time (entries_of c.story)
since_snoc since [] c = refl
since_snoc since (x ∷ cs) c = since_snoc (last_time (entries_of x.story)) cs c

both_later : (b : Bool) (later : List Step) → cond b later later ≡ later
both_later true later = refl
both_later false later = refl

is_later : (script later : List Step) (n : ℕ) → script_at script later (suc n) ≡ script_at later later n
is_later script later n =
    let e : (suc n == 0) ≡ false = grind (arith, nat_tests) in
    ap (λ b. cond b script later) e ∙ sym (both_later (n == 0) later)

module _ {D : Type 0} (answers : D → ℕ → Content → Answered) (pause : Option ℕ) (desk : D) (s : Parameters) (first_system limit : ℕ) where
  served_snoc : (script later : List Step) (since : ℕ) (cs : List Connection) (c : Connection) (link mid link' : LinkState)
      → AreServed answers pause desk s first_system limit script later since cs link mid → c.script ≡ script_at script later (length cs) → c.since ≡ since_at since cs
      → IsServed answers pause desk s first_system limit c mid link' → AreServed answers pause desk s first_system limit script later since (cs ++ c ∷ []) link link'
  served_snoc script later since [] c link mid link' h script_is since_is served =
      let P : LinkState → Type 0 = λ l. IsServed answers pause desk s first_system limit c l link' in
      (link', script_is, since_is, subst P h served, refl)
  served_snoc script later since (x ∷ cs) c link mid link' h script_is since_is served =
      (h.0, h.1, h.2, h.3, served_snoc later later (last_time (entries_of x.story)) cs c h.0 mid link' h.4 (script_is ∙ is_later script later (length cs)) since_is served)

  processes_all : (script later : List Step) (since : ℕ) (cs : List Connection) (link link' : LinkState) → AreServed answers pause desk s first_system limit script later since cs link link' → ProcessesInput link link' (processed_all cs)
  processes_all script later since [] link link' h = let P : LinkState → Type 0 = λ l. ProcessesInput link l processed_nothing in subst P (sym h) (processes_nothing link)
  processes_all script later since (c ∷ cs) link link' h =
      processes_then link h.0 link' (reception_of c.story) (processed_all cs) h.3.processes_input (processes_all later later (last_time (entries_of c.story)) cs h.0 link' h.4)

  -- The first entry is not earlier than the earliest time at which the endpoint starts.
  first_time : (since : ℕ) (script : List Step) (story : Story) (last : EndOf D) → IsStory answers pause (new_end desk s first_system since) script story last → 0 < length (entries_of story) → since ≤ (entry_at (entries_of story) 0).time
  first_time since script Unopened last is some = absurd (let l : 0 < 0 = some in omega arith)
  first_time since script (Unstarted now) last is some = absurd (let l : 0 < 0 = some in omega arith)
  first_time since script (Started now started turns cut loss) last is some =
      let begun : EndOf D = is.0 in
      let from : EndState = record (new_end desk s first_system since).known { moment = max since now } in
      let e : (entry_at (entries_of (Started now started turns cut loss)) 0).time ≡ max since now =
      opening_first s.link from started begun.known (entries_turns turns ++ (entries_cut cut ++ lost_entries loss)) is.4.turn in
      omega (arith, e)

  -- The connections served so far. The next endpoint continues from their last entry.
  pub record SoFar (script later : List Step) (since done : ℕ) (complete : Bool) (log log' : SinkState) (link link' : LinkState) : Type 0 where
    pub connections : List Connection
    pub are : AreServed answers pause desk s first_system limit script later 0 connections link link'
    pub counted : done ≡ length connections
    pub run : IsRun s (entries_all connections)
    pub down : EndsDown (entries_all connections)
    pub complete_is : complete ≡ are_complete connections
    pub last : last_time (entries_all connections) ≤ since
    pub since_is : since ≡ since_at 0 connections
    pub sized : All (λ (entry : Entry). IsDiscardSized s.max entry.event) (entries_all connections)
    pub in_range : All IsEntry (entries_all connections)
    pub logged : LogGrows log log' (log_lines (entries_all connections))

  pub none_so_far : (script later : List Step) (log : SinkState) (link : LinkState) → SoFar script later 0 0 true log log link link
  none_so_far script later log link = record {
    connections = [];
    are = refl;
    counted = refl;
    run = empty_run s;
    down = λ some. absurd (let l : 0 < 0 = some in omega arith);
    complete_is = refl;
    last = omega arith;
    since_is = refl;
    sized = All-nil (λ (entry : Entry). IsDiscardSized s.max entry.event);
    in_range = All-nil IsEntry;
    logged = (grows_none log.written, refl);
  }

  went : (result : Result ServedScript ServeFault) (moment : ℕ) (complete : Bool) (story : Story) (last end_new : EndOf D) (mid log' : SinkState) (lines : List ℕ) (rest : List Entry)
      → moment ≡ end_new.known.view.last_time → Onward (Ok complete) result → IsLeft result last end_new → Answers limit result story → HoldsLines result mid log' lines rest
      → (moment ≡ last.known.view.last_time) × (ends_down (entries_of story) ≡ true) × (rest ≡ []) × LogGrows mid log' lines × (complete ≡ completes result)
  went (Ok served) moment complete story last end_new mid log' lines rest at on left a holds = (at ∙ ap (λ (e : EndOf D). e.known.view.last_time) left, a.1, holds.0, holds.1, on)
  went (Err serve.Link) moment complete story last end_new mid log' lines rest at on left a holds = (at ∙ ap (λ (e : EndOf D). e.known.view.last_time) left, a.1, holds.0, holds.1, on)
  went (Err serve.Turns) moment complete story last end_new mid log' lines rest at on left a holds = absurd on
  went (Err serve.Memory) moment complete story last end_new mid log' lines rest at on left a holds = absurd on
  went (Err serve.Log) moment complete story last end_new mid log' lines rest at on left a holds = absurd on

  none_left : (result : Result ServedScript ServeFault) (mid log' : SinkState) (lines : List ℕ) (rest : List Entry) → HoldsLines result mid log' lines rest → is_log_fault result ≡ false → rest ≡ []
  none_left (Ok served) mid log' lines rest holds fine = holds.0
  none_left (Err serve.Link) mid log' lines rest holds fine = holds.0
  none_left (Err serve.Turns) mid log' lines rest holds fine = holds.0
  none_left (Err serve.Memory) mid log' lines rest holds fine = holds.0
  none_left (Err serve.Log) mid log' lines rest holds fine = absurd (let e : true ≡ false = fine in cc)

  stop_holds : (fault : ServeFault) (result : Result ServedScript ServeFault) (end_new : EndOf D) (log mid log' : SinkState) (lines : List ℕ) (rest : List Entry) (cs : List Connection)
      → (rest ≡ [] → LogGrows mid log' lines → LogGrows log log' (log_lines (entries_all cs))) → (LogStops mid log' lines rest → LogStopsLast log log' log_lines cs)
      → Onward (Err fault) result → HoldsLines result mid log' lines rest → LinesHeld (Err fault) log log' cs
  stop_holds serve.Log (Err serve.Log) end_new log mid log' lines rest cs grows stops on holds = stops holds
  stop_holds serve.Turns (Err serve.Turns) end_new log mid log' lines rest cs grows stops on holds = grows holds.0 holds.1
  stop_holds serve.Memory (Err serve.Memory) end_new log mid log' lines rest cs grows stops on holds = grows holds.0 holds.1
  stop_holds fault result end_new log mid log' lines rest cs grows stops on holds = absurd on

  stop_answers : (fault : ServeFault) (result : Result ServedScript ServeFault) (end_new : EndOf D) (front : List Connection) (c : Connection) → c.result ≡ result → Onward (Err fault) result → AnswersAgain (Err fault) (front ++ c ∷ [])
  stop_answers serve.Log (Err serve.Log) end_new front c is on = inr (front, c, refl, is)
  stop_answers serve.Turns (Err serve.Turns) end_new front c is on = (front, c, refl, is)
  stop_answers serve.Memory (Err serve.Memory) end_new front c is on = (front, c, refl, is)
  stop_answers fault result end_new front c is on = absurd on

  module _ (two : s.version ≡ 2) (within : IsWithinLimits s) (script later : List Step) where
    module _ (since done : ℕ) (complete : Bool) (log mid log' : SinkState) (link between link' : LinkState) (steps : List Step) (steps_are : steps ≡ script_at script later done) (far : SoFar script later since done complete log mid link between)
        (end_new : EndOf D) (outcome : Result Bool ServeFault) (n : NextServed answers pause (new_end desk s first_system since) end_new steps limit outcome mid log' between link') where
      story : Story
      story = n.served.story

      there : IsReached s (entries_of n.served.story) n.served.last
      there = reached answers pause desk s first_system since steps n.served.story n.served.last n.served.is_story

      abbrev one : Connection
      one = record { since = since; script = steps; story = n.served.story; result = n.result; failed = n.served.failed; whole = n.served.whole; rest = n.served.rest }

      answered : Answers limit n.result n.served.story
      answered =
          answers_by answers pause limit n.result n.served.story n.served.last (gone_of_view s (entries_of n.served.story) n.served.last.known.view there.seen) n.served.answer

      is_served : IsServed answers pause desk s first_system limit one between link'
      is_served = record {
        last = n.served.last;
        is_story = n.served.is_story;
        bound = n.served.bound;
        run = there.seen.run;
        answer = answered;
        steps_left = n.served.steps_left;
        parted = n.served.parted;
        rest_is_last = n.served.rest_is_last;
        rest_is = none_left n.result mid log' (log_lines n.served.whole) n.served.rest n.served.log_holds;
        processes_input = n.served.processes_input;
        took = n.served.took;
        failures = n.served.failures;
        failed_is = n.served.failed_is;
        lost_is = n.served.lost_is;
      }

      abbrev all : List Connection
      all = far.connections ++ one ∷ []

      same : entries_all far.connections ++ entries_of n.served.story ≡ entries_all all
      same = sym (entries_snoc far.connections one)

      are_all : AreServed answers pause desk s first_system limit script later 0 all link link'
      are_all = served_snoc script later 0 far.connections one link between link' far.are (steps_are ∙ ap (script_at script later) far.counted) far.since_is is_served

      can_continue : ContinuesWith (entries_all far.connections) (entries_of n.served.story)
      can_continue some more =
          let a : last_time (entries_all far.connections) ≤ since = far.last in
          let b : since ≤ (entry_at (entries_of n.served.story) 0).time = first_time since steps n.served.story n.served.last n.served.is_story more in
          omega arith

      run_all : IsRun s (entries_all all)
      run_all = let P : List Entry → Type 0 = λ l. IsRun s l in
          subst P same (run-joined s (entries_all far.connections) (entries_of n.served.story) two far.run far.down there.seen.run can_continue)

      sized_all : All (λ (entry : Entry). IsDiscardSized s.max entry.event) (entries_all all)
      sized_all = let P : List Entry → Type 0 = λ l. All (λ (entry : Entry). IsDiscardSized s.max entry.event) l in
          subst P same (All-append (λ (entry : Entry). IsDiscardSized s.max entry.event) (entries_all far.connections) (entries_of n.served.story) far.sized there.sized)

      in_range_all : All IsEntry (entries_all all)
      in_range_all = let P : List Entry → Type 0 = λ l. All IsEntry l in
          subst P same (All-append IsEntry (entries_all far.connections) (entries_of n.served.story) far.in_range n.served.in_range)

      grows_all : n.served.rest ≡ [] → LogGrows mid log' (log_lines n.served.whole) → LogGrows log log' (log_lines (entries_all all))
      grows_all none h =
          let a = entries_all far.connections in
          let b = entries_of n.served.story in
          let whole = whole_is b n.served.whole n.served.rest n.served.parted none in
          grows_along log log' (log_lines a ++ log_lines b) (log_lines (entries_all all)) (sym (lines-append a b) ∙ ap log_lines same)
          (log_then log mid log' (log_lines a) (log_lines b) far.logged (grows_along mid log' (log_lines n.served.whole) (log_lines b) (ap log_lines whole) h))

      stops_all : LogStops mid log' (log_lines n.served.whole) n.served.rest → LogStopsLast log log' log_lines all
      stops_all h =
          let a = entries_all far.connections in
          let T : List ℕ → Type 0 = λ l. LogStops log log' l n.served.rest in (
            far.connections,
            one,
            refl,
            subst T (sym (lines-append a n.served.whole)) (stops_then log mid log' (log_lines a) (log_lines n.served.whole) n.served.rest far.logged h),
          )

      count_all : length all ≡ done + 1
      count_all = omega (arith, length-append far.connections (one ∷ []), far.counted)

    pub one_more : (since done : ℕ) (complete : Bool) (end_new : EndOf D) (moment : ℕ) (further : Bool) (log mid log' : SinkState) (link between link' : LinkState) (steps : List Step) → steps ≡ script_at script later done → SoFar script later since done complete log mid link between
        → moment ≡ end_new.known.view.last_time → NextServed answers pause (new_end desk s first_system since) end_new steps limit (Ok further) mid log' between link' → SoFar script later moment (done + 1) (complete && further) log log' link link'
    one_more since done complete end_new moment further log mid log' link between link' steps steps_are far at n =
        let c = one since done complete log mid log' link between link' steps steps_are far end_new (Ok further) n in
        let reach = there since done complete log mid log' link between link' steps steps_are far end_new (Ok further) n in
        let es = entries_of n.served.story in
        let w = went n.result moment further n.served.story n.served.last end_new mid log' (log_lines n.served.whole) n.served.rest at n.onward n.served.left
        (answered since done complete log mid log' link between link' steps steps_are far end_new (Ok further) n) n.served.log_holds in
        let here : moment ≡ last_time es = w.0 ∙ sym (ap (λ (v : View). v.last_time) reach.seen.seen) in
        let ends : last_time (entries_all far.connections ++ es) ≡ last_time es = ap (λ (x : Entry). x.time) (last_of (entries_all far.connections) es (some_down es w.1)) in
        let eq = same since done complete log mid log' link between link' steps steps_are far end_new (Ok further) n in
        let Q : List Entry → Type 0 = λ l. EndsDown l in
        let R : List Entry → Type 0 = λ l. last_time l ≤ moment in
        record {
          connections = far.connections ++ c ∷ [];
          are = are_all since done complete log mid log' link between link' steps steps_are far end_new (Ok further) n;
          counted = sym (count_all since done complete log mid log' link between link' steps steps_are far end_new (Ok further) n);
          run = run_all since done complete log mid log' link between link' steps steps_are far end_new (Ok further) n;
          down = subst Q eq (down_all (entries_all far.connections) es w.1);
          last = subst R eq (omega (arith, ends, here));
          complete_is = ap (λ b. b && further) far.complete_is ∙ ap (λ b. are_complete far.connections && b) (w.4)
              ∙ sym (complete_snoc far.connections c);
          since_is = here ∙ sym (since_snoc 0 far.connections c);
          sized = sized_all since done complete log mid log' link between link' steps steps_are far end_new (Ok further) n;
          in_range = in_range_all since done complete log mid log' link between link' steps steps_are far end_new (Ok further) n;
          logged = grows_all since done complete log mid log' link between link' steps steps_are far end_new (Ok further) n w.2 w.3;
        }

    pub stopped_by : (fault : ServeFault) (end_new : EndOf D) (most since done : ℕ) (complete : Bool) (log mid log' : SinkState) (link between link' : LinkState) (steps : List Step) → done < most → steps ≡ script_at script later done → SoFar script later since done complete log mid link between
        → NextServed answers pause (new_end desk s first_system since) end_new steps limit (Err fault) mid log' between link' → ServedEach answers pause desk s first_system script later limit most (Err fault) log log' link link'
    stopped_by fault end_new most since done complete log mid log' link between link' steps fewer steps_are far n =
        let c = one since done complete log mid log' link between link' steps steps_are far end_new (Err fault) n in
        let all = far.connections ++ c ∷ [] in
        let run = run_all since done complete log mid log' link between link' steps steps_are far end_new (Err fault) n in
        record {
          connections = all;
          are = are_all since done complete log mid log' link between link' steps steps_are far end_new (Err fault) n;
          bound = omega (arith, fewer, count_all since done complete log mid log' link between link' steps steps_are far end_new (Err fault) n);
          run = run;
          text = text_of_run s (entries_all all) within run (sized_all since done complete log mid log' link between link' steps steps_are far end_new (Err fault) n) (in_range_all since done complete log mid log' link between link' steps steps_are far end_new (Err fault) n);
          log_holds = stop_holds fault n.result end_new log mid log' (log_lines n.served.whole) n.served.rest all
              (grows_all since done complete log mid log' link between link' steps steps_are far end_new (Err fault) n) (stops_all since done complete log mid log' link between link' steps steps_are far end_new (Err fault) n) n.onward n.served.log_holds;
          answer = stop_answers fault n.result end_new far.connections c refl n.onward;
        }

    pub all_done : (most since done : ℕ) (complete : Bool) (log log' : SinkState) (link link' : LinkState) → done ≤ most → SoFar script later since done complete log log' link link'
        → ServedEach answers pause desk s first_system script later limit most (Ok (record { connections = done; complete = complete })) log log' link link'
    all_done most since done complete log log' link link' few far = record {
      connections = far.connections;
      are = far.are;
      bound = omega (arith, few, far.counted);
      run = far.run;
      text = text_of_run s (entries_all far.connections) within far.run far.sized far.in_range;
      log_holds = far.logged;
      answer = (far.counted, far.down, far.complete_is);
    }

  -- The link moved to another connection.
  pub gone_over : (script later : List Step) (since done : ℕ) (complete : Bool) (log log' : SinkState) (link between link' : LinkState) → link' ≡ between → SoFar script later since done complete log log' link between → SoFar script later since done complete log log' link link'
  gone_over script later since done complete log log' link between link' e far =
      let P : LinkState → Type 0 = λ l. SoFar script later since done complete log log' link l in subst P (sym e) far

  -- ---- the settings line

  grows_text : (log mid log' : SinkState) (entries : List Entry) → LogGrows log mid (settings_line s ++ 10 ∷ []) → LogGrows mid log' (log_lines entries) → LogGrows log log' (written_log s entries)
  grows_text log mid log' entries h k =
      grows_along log log' ((settings_line s ++ 10 ∷ []) ++ log_lines entries) (written_log s entries) (append_assoc (settings_line s) (10 ∷ []) (log_lines entries))
      (log_then log mid log' (settings_line s ++ 10 ∷ []) (log_lines entries) h k)

  head_then : (result : Result ServedAgain ServeFault) (log mid log' : SinkState) (cs : List Connection) → LogGrows log mid (settings_line s ++ 10 ∷ []) → LinesHeld result mid log' cs → LogHoldsAgain result log log' s cs
  head_then (Ok n) log mid log' cs h k = grows_text log mid log' (entries_all cs) h k
  head_then (Err serve.Link) log mid log' cs h k = grows_text log mid log' (entries_all cs) h k
  head_then (Err serve.Turns) log mid log' cs h k = grows_text log mid log' (entries_all cs) h k
  head_then (Err serve.Memory) log mid log' cs h k = grows_text log mid log' (entries_all cs) h k
  head_then (Err serve.Log) log mid log' cs h k =
      let lines = log_lines (entries_all k.0 ++ k.1.whole) in
      let T : List ℕ → Type 0 = λ l. LogStops log log' l k.1.rest in
      inr (k.0, k.1, k.2, subst T (append_assoc (settings_line s) (10 ∷ []) lines) (stops_then log mid log' (settings_line s ++ 10 ∷ []) lines k.1.rest h k.3))

  pub opened_again : (script later : List Step) (most : ℕ) (result : Result ServedAgain ServeFault) (log mid log' : SinkState) (link link' : LinkState) → LogGrows log mid (settings_line s ++ 10 ∷ [])
      → ServedEach answers pause desk s first_system script later limit most result mid log' link link' → ServesAgain answers pause desk s first_system script later limit most result log log' link link'
  opened_again script later most result log mid log' link link' grows r =
      record {
        connections = r.connections;
        are = r.are;
        bound = r.bound;
        run = r.run;
        text = r.text;
        log_holds = head_then result log mid log' r.connections grows r.log_holds;
        answer = r.answer;
        processes_input = processes_all script later 0 r.connections link link' r.are;
      }

  pub unopened_again : (script later : List Step) (most : ℕ) (log log' : SinkState) (link : LinkState) → IsWithinLimits s → LogFails log log' (settings_line s ++ 10 ∷ [])
      → ServesAgain answers pause desk s first_system script later limit most (Err serve.Log) log log' link link
  unopened_again script later most log log' link within fails = record {
    connections = [];
    are = refl;
    bound = omega arith;
    run = empty_run s;
    text = text_of_run s [] within (empty_run s) (All-nil (λ (entry : Entry). IsDiscardSized s.max entry.event)) (All-nil IsEntry);
    log_holds = inl (refl, fails);
    answer = inl refl;
    processes_input = processes_nothing link;
  }

-- ---- the log passes the audit

grown_again : (result : Result ServedAgain ServeFault) (log log' : SinkState) (s : Parameters) (cs : List Connection) → is_log_fault_again result ≡ false → LogHoldsAgain result log log' s cs → LogGrows log log' (written_log s (entries_all cs))
grown_again (Ok n) log log' s cs fine h = h
grown_again (Err serve.Link) log log' s cs fine h = h
grown_again (Err serve.Turns) log log' s cs fine h = h
grown_again (Err serve.Memory) log log' s cs fine h = h
grown_again (Err serve.Log) log log' s cs fine h = absurd (let e : true ≡ false = fine in cc)

pub served_again_passes : {D : Type 0} (answers : D → ℕ → Content → Answered) → ServedAgainLogPasses answers
served_again_passes answers pause desk s first_system script later limit most result log log' link link' r fine empty =
    let entries = entries_all r.connections in
    let text = written_log s entries in (
      text,
      (grown_again result log log' s r.connections fine r.log_holds).0 [] empty,
      (s, entries, record { encoded_bytes = r.text; run = r.run }, refl),
    )
