-- The effects of the parts of `serve_again`. Only private functions use this.
use Rattle.std.specs.Prelude.{◌≡◌, ◌≤◌, ◌==◌, Bool, false, ℕ, List, length, Option, Result, Ok, Err, if◌then◌else◌}
use Rattle.secs_text.specs.Content.{Content}
use Rattle.hsms_frame.specs.Io.{SinkState}
use Rattle.hsms_machine.specs.Settings.{Parameters}
use Rattle.hsms_machine.specs.Run.{IsRun}
use Rattle.hsms_log.specs.Log.{LogText, written_log}
use Rattle.hsms_endpoint.specs.Answer.{Answered}
use Rattle.hsms_endpoint.specs.EndState.{EndOf}
use Rattle.hsms_ends.specs.declared.reconnect.ServedAgain.{ServedAgain}
use Rattle.hsms_ends.specs.declared.step.Step.{Step}
use Rattle.hsms_ends.specs.declared.serving.ServedScript.{ServedScript}
use Rattle.hsms_ends.specs.declared.fault.ServeFault.{ServeFault}
use Rattle.hsms_ends.specs.declared.fault.ServeFault.TheVariants as serve
use Rattle.hsms_ends.specs.Link.{LinkState}
use Rattle.hsms_ends.specs.Output.{LogGrows}
use Rattle.hsms_ends.specs.InnerOutput.{log_lines}
use Rattle.hsms_ends.specs.Serving.{is_complete}
use Rattle.hsms_ends.specs.InnerServeSteps.{ServesEnd}
use Rattle.hsms_ends.specs.Reconnect.{Connection, entries_all, AreServed, AnswersAgain, LogStopsLast}

-- The script of a connection after `done` others.
abbrev pub script_at : List Step → List Step → ℕ → List Step
script_at script later done = if done == 0 then script else later

-- What follows the result of a connection: another connection, and whether this one was complete, or an error.
abbrev pub Onward : Result Bool ServeFault → Result ServedScript ServeFault → Type 0
Onward (Ok complete) (Ok served) = complete ≡ is_complete served
Onward (Ok complete) (Err serve.Link) = complete ≡ false
Onward (Ok complete) (Err _) = ⊥
Onward (Err serve.Log) (Err serve.Log) = Unit {0}
Onward (Err serve.Turns) (Err serve.Turns) = Unit {0}
Onward (Err serve.Memory) (Err serve.Memory) = Unit {0}
Onward _ _ = ⊥

-- Holds if one more connection was served, with a new endpoint.
pub record NextServed {D : Type 0} (answers : D → ℕ → Content → Answered) (pause : Option ℕ) (new end_new : EndOf D) (script : List Step) (limit : ℕ) (outcome : Result Bool ServeFault) (log log' : SinkState) (link link' : LinkState) : Type 0 where
  pub result : Result ServedScript ServeFault
  pub served : ServesEnd answers pause new end_new script limit result log log' link link'
  pub onward : Onward outcome result

-- What the log holds of the connections, without the settings line.
abbrev pub LinesHeld : Result ServedAgain ServeFault → SinkState → SinkState → List Connection → Type 0
LinesHeld (Ok n) old new cs = LogGrows old new (log_lines (entries_all cs))
LinesHeld (Err serve.Link) old new cs = LogGrows old new (log_lines (entries_all cs))
LinesHeld (Err serve.Turns) old new cs = LogGrows old new (log_lines (entries_all cs))
LinesHeld (Err serve.Memory) old new cs = LogGrows old new (log_lines (entries_all cs))
LinesHeld (Err serve.Log) old new cs = LogStopsLast old new log_lines cs

-- Holds if consecutive connections were served: the effect of `serve_again`, without the settings line.
pub record ServedEach {D : Type 0} (answers : D → ℕ → Content → Answered) (pause : Option ℕ) (desk : D) (s : Parameters) (first_system : ℕ) (script later : List Step) (limit most : ℕ) (result : Result ServedAgain ServeFault) (log log' : SinkState) (link link' : LinkState) : Type 0 where
  pub connections : List Connection
  pub are : AreServed answers pause desk s first_system limit script later 0 connections link link'
  pub bound : length connections ≤ most
  pub run : IsRun s (entries_all connections)
  pub text : LogText (written_log s (entries_all connections)) s (entries_all connections)
  pub log_holds : LinesHeld result log log' connections
  pub answer : AnswersAgain result connections
