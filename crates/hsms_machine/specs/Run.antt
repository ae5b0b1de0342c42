-- The first rule that an entry breaks after a log, and the logs that break none (this project's profile).
use Rattle.std.specs.Prelude.{ℕ, ◌<◌, List, Option, None, length}
use Rattle.hsms_machine.specs.declared.entry.Entry.{Entry}
use Rattle.hsms_machine.specs.declared.rule.Rule.{Rule}
use Rattle.hsms_machine.specs.Settings.{Parameters}
use Rattle.hsms_machine.specs.Entry.{entry_at}
use Rattle.hsms_machine.specs.Session.{facts_before}
use Rattle.hsms_machine.specs.Rule.{Breaks, IsFirst, all_rules}

-- Holds if the result is the first rule that the entry breaks after the log, or none.
unfoldable pub Broken : Parameters → List Entry → Entry → Option Rule → Type 0
Broken settings log entry answer =
    IsFirst (Breaks (facts_before log (length log)) settings entry) all_rules answer

-- Holds if no entry of the log breaks a rule after the entries before it.
unfoldable pub IsRun : Parameters → List Entry → Type 0
IsRun settings log =
    (i : ℕ) → i < length log → IsFirst (Breaks (facts_before log i) settings (entry_at log i)) all_rules None
