-- The result of a call of an endpoint (project-specific).
use Rattle.std.specs.Prelude.{◌≡◌, ◌⊎◌, ℕ, true, List, ◌++◌, Some, None, Result, MatchResult, Vec}
use Rattle.std.specs.declared.alloc.Global.{Global}
use Rattle.secs_text.specs.Content.{Content}
use Rattle.hsms_machine.specs.declared.entry.Entry.{Entry}
use Rattle.hsms_machine.specs.declared.view.View.{View}
use Rattle.hsms_machine.specs.View.{ForEachRun, HasView}
use Rattle.hsms_endpoint.specs.declared.fault.EndFault.{EndFault}
use Rattle.hsms_endpoint.specs.declared.fault.EndFault.TheVariants.{TooLong, Memory}
use Rattle.hsms_endpoint.specs.Answer.{Answered}
use Rattle.hsms_endpoint.specs.EndState.{EndOf}
use Rattle.hsms_endpoint.specs.Turn.{InputEvent, Turn}
use Rattle.hsms_endpoint.specs.Fault.{Encounters}

-- Holds if each run that has the view is a run with the entries after it, and then has the later view.
abbrev pub Extends : View → List Entry → View → Type 0
Extends view entries later = ForEachRun view (λ log. HasView view.settings (log ++ entries) later)

-- Holds if the input has no error: its turn is taken, and each run that has the endpoint's view continues by the new
-- entries.
pub record Accepts {D : Type 0} (answers : D → ℕ → Content → Answered) (end : EndOf D) (input : InputEvent) (entries : List Entry) (end' : EndOf D) : Type 0 where
  pub encounters : Encounters end.known input None
  pub turn : Turn (answers end.desk) end.known input entries end'.known
  pub run : Extends end.known.view entries end'.known.view
  pub desk : end'.desk ≡ end.desk

-- A failed allocation may replace a result or `TooLong`; the endpoint is then spent. Any other error is the input's
-- first one, and changes nothing.
abbrev pub Refuses : {D : Type 0} → EndOf D → InputEvent → EndFault → EndOf D → Type 0
Refuses end input Memory end' =
    (Encounters end.known input None ⊎ Encounters end.known input (Some TooLong)) × (end'.known.spent ≡ true)
Refuses end input fault end' = Encounters end.known input (Some fault) × (end' ≡ end)

-- The result of a call: it is accepted and gives these entries, or it is rejected.
abbrev pub Answers : {D : Type 0} → (D → ℕ → Content → Answered) → EndOf D → InputEvent → Result (Vec Entry Global) EndFault → EndOf D → Type 0
Answers answers end input result end' =
    MatchResult result (λ entries. Accepts answers end input entries.items end') (λ fault. Refuses end input fault end')
