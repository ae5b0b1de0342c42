-- What only contracts of private functions use, besides the definitions of `MidstreamItems`.
use Rattle.std.specs.Prelude.{◌≡◌, ◌++◌, max, ℕ, List, [], Option, Some, None, Box}
use Rattle.std.specs.declared.alloc.Global.{Global}
use Rattle.hsms_machine.specs.Settings.{Parameters}
use Rattle.capture_log.specs.declared.both_logs.BothLogs.{BothLogs}
use Rattle.capture_log.specs.declared.written_log.WrittenLog.{WrittenLog}
use Rattle.capture_log.specs.declared.socket_pair.Pair.{Pair}
use Rattle.cli_capture.specs.declared.progress.Progress.{Progress}
use Rattle.cli_capture.specs.declared.progress.Progress.TheVariants as progress
use Rattle.cli_capture.specs.declared.report.OutputMode.{OutputMode}
use Rattle.cli_capture.specs.declared.report.OutputMode.TheVariants.{Log, Verdicts}
use Rattle.cli_capture.specs.declared.report.Report.{Report}
use Rattle.cli_capture.specs.MidstreamItems.{Item, HaveItems, EndsHaveItems, LogsItems}

-- ---- the logs of both ends

-- nothing more is logged
abbrev pub EndsHadItems : Parameters → Parameters → List Item → Option (Box BothLogs Global) → Type 0
EndsHadItems a p xs None = xs ≡ []
EndsHadItems a p xs (Some box) = (last : ℕ) × HaveItems a p xs last box.value

abbrev pub EndsItemsBy : Progress → Parameters → Parameters → List Item → Option (Box BothLogs Global) → Type 0
EndsItemsBy progress.Proceeds a p xs ends = EndsHaveItems a p xs ends
EndsItemsBy (progress.Over lack) a p xs ends = EndsHadItems a p xs ends

-- ---- what is told

-- both logs have more, behind what they have
abbrev pub HaveMore : Parameters → Parameters → Progress → List Item → Option (Box BothLogs Global) → Option (Box BothLogs Global) → Type 0
HaveMore a p c xs ends left = (before : List Item) → EndsHaveItems a p before ends → EndsItemsBy c a p (before ++ xs) left

-- these items are logged, and more may follow, or nothing does: where verdicts are told in the logs of both ends, and else
-- on the page of one end's log
unfoldable pub TakesItems : Pair → Progress → List Item → Option (Box BothLogs Global) → Report → Option (Box BothLogs Global) → Report → Type 0
TakesItems pair c xs ends old left new =
    (old.manner ≡ Verdicts → (new ≡ old) × HaveMore old.active old.passive c xs ends left)
    × ((j : WrittenLog) → old.manner ≡ Log j → LogsItems pair c xs j old new)

-- the greatest length of a message, by the settings of the logs
abbrev pub most_in : OutputMode → Parameters → ℕ
most_in Verdicts a = a.max
most_in (Log j) a = j.settings.max

abbrev pub most_of : Report → ℕ
most_of report = most_in report.manner report.active
