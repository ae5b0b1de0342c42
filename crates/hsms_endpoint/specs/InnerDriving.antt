-- What a part of `drive` has done. Only private functions use this.
use Rattle.std.specs.Prelude.{◌≡◌, ℕ, List}
use Rattle.secs_text.specs.Content.{Content}
use Rattle.hsms_machine.specs.declared.entry.Entry.{Entry}
use Rattle.hsms_machine.specs.Settings.{Parameters}
use Rattle.hsms_machine.specs.View.{HasView}
use Rattle.hsms_endpoint.specs.Answer.{Answered}
use Rattle.hsms_endpoint.specs.EndState.{EndOf, initial_state}
use Rattle.hsms_endpoint.specs.Turn.{InputEvent}
use Rattle.hsms_endpoint.specs.Drive.{Drives}

-- Holds if the inputs so far gave these entries, which are a run, and led to this endpoint.
pub record HasDriven {D : Type 0} (answers : D → ℕ → Content → Answered) (settings : Parameters) (desk : D) (first_system : ℕ) (inputs : List InputEvent) (entries : List Entry) (end : EndOf D) : Type 0 where
  pub accepted : List InputEvent
  pub drives : Drives (answers desk) (initial_state settings first_system) inputs accepted entries end.known
  pub seen : HasView settings entries end.known.view
  pub same_desk : end.desk ≡ desk
