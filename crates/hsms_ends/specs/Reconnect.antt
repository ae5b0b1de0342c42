-- Connections that are served one after the other, in one log (project-specific): the effect of `serve_again`.
use Rattle.std.specs.Prelude.{false, true, ◌≡◌, ◌≤◌, ◌-◌, ◌++◌, ◌&&◌, ◌⊎◌, ℕ, Bool, List, [], ◌∷◌, length, Option, Result, Ok, Err}
use Rattle.secs_text.specs.Content.{Content}
use Rattle.hsms_frame.specs.Io.{SinkState}
use Rattle.hsms_machine.specs.declared.entry.Entry.{Entry}
use Rattle.hsms_machine.specs.Settings.{Parameters, several_of}
use Rattle.hsms_machine.specs.Entry.{entry_at}
use Rattle.hsms_machine.specs.Run.{IsRun}
use Rattle.hsms_machine.specs.Laws.{EndsDown}
use Rattle.hsms_log.specs.LineFormat.{settings_line}
use Rattle.hsms_log.specs.Log.{LogText, written_log}
use Rattle.hsms_endpoint.specs.Answer.{Answered}
use Rattle.hsms_endpoint.specs.EndState.{EndOf, initial_since}
use Rattle.hsms_ends.specs.declared.reconnect.ServedAgain.{ServedAgain}
use Rattle.hsms_ends.specs.declared.serve_options.ServeAgainOptions.{ServeAgainOptions}
use Rattle.hsms_ends.specs.declared.step.Step.{Step}
use Rattle.hsms_ends.specs.declared.serving.ServedScript.{ServedScript}
use Rattle.hsms_ends.specs.declared.fault.ServeFault.{ServeFault}
use Rattle.hsms_ends.specs.declared.fault.ServeFault.TheVariants as serve
use Rattle.hsms_ends.specs.Link.{LinkState, LinkInput, both, processed_nothing, ProcessesInput}
use Rattle.hsms_ends.specs.Output.{LogGrows, LogFails, LogStops, IsEnding, sent_octets}
use Rattle.hsms_ends.specs.Serving.{Story, IsStory, has_lost, is_complete, entries_of, reception_of, last_call, turns_begun, Answers, LeavesSteps, MayHaveFailed, is_log_fault, LinkTook, failures_after}

-- One of the connections: the earliest time at which its endpoint starts, its script, its story, the result, and
-- whether the link failed. It also has its entries whose lines are complete in the log, and the others.
pub record Connection : Type 0 where
  pub since : ℕ
  pub script : List Step
  pub story : Story
  pub result : Result ServedScript ServeFault
  pub failed : Bool
  pub whole : List Entry
  pub rest : List Entry

-- Its endpoint, which has received no input.
abbrev pub new_end : {D : Type 0} → D → Parameters → ℕ → ℕ → EndOf D
new_end desk s first_system since = record { desk = desk; known = initial_since s first_system since }

-- Holds if it was served in at most `limit` turns, as `Serves` states for one connection.
pub record IsServed {D : Type 0} (answers : D → ℕ → Content → Answered) (pause : Option ℕ) (desk : D) (s : Parameters) (first_system limit : ℕ) (c : Connection) (link link' : LinkState) : Type 0 where
  pub last : EndOf D
  pub is_story : IsStory answers pause (new_end desk s first_system c.since) c.script c.story last
  pub bound : turns_begun c.story ≤ limit
  pub run : IsRun s (entries_of c.story)
  pub answer : Answers limit c.result c.story
  pub steps_left : LeavesSteps c.script c.result c.story
  -- Only an error of the log leaves entries out of the log, and only entries of the story's last call.
  pub parted : entries_of c.story ≡ c.whole ++ c.rest
  pub rest_is_last : IsEnding c.rest (last_call c.story)
  pub rest_is : is_log_fault c.result ≡ false → c.rest ≡ []
  pub processes_input : ProcessesInput link link' (reception_of c.story)
  pub took : LinkTook c.failed link link' (sent_octets c.whole)
  pub failures : link'.failures ≡ failures_after c.failed link.failures
  pub failed_is : MayHaveFailed c.result c.failed
  pub lost_is : has_lost c.story ≡ true → c.failed ≡ true

-- All new entries, in order.
abbrev pub entries_all : List Connection → List Entry
entries_all [] = []
entries_all (c ∷ cs) = entries_of c.story ++ entries_all cs

-- All input from the link.
abbrev pub processed_all : List Connection → LinkInput
processed_all [] = processed_nothing
processed_all (c ∷ cs) = both (reception_of c.story) (processed_all cs)

-- The time of the last entry, or 0 if there is none.
abbrev pub last_time : List Entry → ℕ
last_time log = (entry_at log (length log - 1)).time

-- Holds if the connections were served one after the other. The first one has a script, and each other one the later
-- script. Each endpoint but the first starts no earlier than at the time of the last entry before it.
abbrev pub AreServed : {D : Type 0} → (D → ℕ → Content → Answered) → Option ℕ → D → Parameters → ℕ → ℕ → List Step → List Step → ℕ → List Connection → LinkState → LinkState → Type 0
AreServed answers pause desk s first_system limit script later since [] link link' = link' ≡ link
AreServed answers pause desk s first_system limit script later since (c ∷ cs) link link' =
    (mid : LinkState) × (c.script ≡ script) × (c.since ≡ since) × IsServed answers pause desk s first_system limit c link mid
    × AreServed answers pause desk s first_system limit later later (last_time (entries_of c.story)) cs mid link'

-- Holds if the last of the connections ended with this error.
abbrev pub EndsBy : ServeFault → List Connection → Type 0
EndsBy fault cs = (front : List Connection) × (c : Connection) × (cs ≡ front ++ c ∷ []) × (c.result ≡ Err fault)

-- True if a connection was served until it ended, and each step of its script was taken.
abbrev pub completes : Result ServedScript ServeFault → Bool
completes (Ok served) = is_complete served
completes (Err fault) = false

-- True if this holds for each of the connections.
abbrev pub are_complete : List Connection → Bool
are_complete [] = true
are_complete (c ∷ cs) = completes c.result && are_complete cs

-- The connections that match a result: their number, with the last of them closed, and whether each was complete. Or
-- an error that is not the link's.
abbrev pub AnswersAgain : Result ServedAgain ServeFault → List Connection → Type 0
AnswersAgain (Ok served) cs =
    (served.connections ≡ length cs) × EndsDown (entries_all cs) × (served.complete ≡ are_complete cs)
AnswersAgain (Err serve.Link) cs = ⊥
AnswersAgain (Err serve.Turns) cs = EndsBy serve.Turns cs
AnswersAgain (Err serve.Memory) cs = EndsBy serve.Memory cs
AnswersAgain (Err serve.Log) cs = (cs ≡ []) ⊎ EndsBy serve.Log cs

-- Holds if the log failed in the last connection, in the line of the first entry of its rest, with this text before
-- it.
abbrev pub LogStopsLast : SinkState → SinkState → (List Entry → List ℕ) → List Connection → Type 0
LogStopsLast old new text cs =
    (front : List Connection) × (c : Connection) × (cs ≡ front ++ c ∷ [])
    × LogStops old new (text (entries_all front ++ c.whole)) c.rest

-- The content of the log: the text of all entries, or a prefix of it after an error of the log.
abbrev pub LogHoldsAgain : Result ServedAgain ServeFault → SinkState → SinkState → Parameters → List Connection → Type 0
LogHoldsAgain (Ok n) old new s cs = LogGrows old new (written_log s (entries_all cs))
LogHoldsAgain (Err serve.Link) old new s cs = LogGrows old new (written_log s (entries_all cs))
LogHoldsAgain (Err serve.Turns) old new s cs = LogGrows old new (written_log s (entries_all cs))
LogHoldsAgain (Err serve.Memory) old new s cs = LogGrows old new (written_log s (entries_all cs))
LogHoldsAgain (Err serve.Log) old new s cs =
    ((cs ≡ []) × LogFails old new (settings_line s ++ 10 ∷ [])) ⊎ LogStopsLast old new (written_log s) cs

abbrev pub is_log_fault_again : Result ServedAgain ServeFault → Bool
is_log_fault_again (Ok n) = false
is_log_fault_again (Err serve.Link) = false
is_log_fault_again (Err serve.Turns) = false
is_log_fault_again (Err serve.Memory) = false
is_log_fault_again (Err serve.Log) = true

-- The effect of serving connections under the settings of several ones, in at most `most` of them, with tests of the
-- link after this pause.
pub record ServesAgain {D : Type 0} (answers : D → ℕ → Content → Answered) (pause : Option ℕ) (desk : D) (s : Parameters) (first_system : ℕ) (script later : List Step) (limit most : ℕ) (result : Result ServedAgain ServeFault) (log log' : SinkState) (link link' : LinkState) : Type 0 where
  pub connections : List Connection
  pub are : AreServed answers pause desk s first_system limit script later 0 connections link link'
  pub bound : length connections ≤ most
  -- All new entries are one run of the session machine, and what is written of them is a text of that log.
  pub run : IsRun s (entries_all connections)
  pub text : LogText (written_log s (entries_all connections)) s (entries_all connections)
  -- That text was logged. After an error of the log, the lines of all entries except the last connection's rest were
  -- logged.
  pub log_holds : LogHoldsAgain result log log' s connections
  pub answer : AnswersAgain result connections
  -- The times, the bytes and the results of `wait` in the stories are those that the link gave.
  pub processes_input : ProcessesInput link link' (processed_all connections)

-- What `serve_again` did by its options, in one log of several connections, with endpoints that have this message
-- handler.
abbrev pub ServesAgainBy : {D : Type 0} → (D → ℕ → Content → Answered) → D → ServeAgainOptions → Result ServedAgain ServeFault → SinkState → SinkState → LinkState → LinkState → Type 0
ServesAgainBy answers desk options result log log' link link' =
    ServesAgain answers options.first.linktest desk (several_of options.first.settings) options.first.first_system
    options.first.script.now options.later_script.now options.first.turns options.connections result log log' link link'
