-- What only contracts of private functions use, besides the definitions of `ReportState`.
use Rattle.std.specs.Prelude.{◌≡◌, ℕ, ◌||◌, cond, Bool, true, List, [], ◌∷◌, ◌++◌, Option, Some, None}
use Rattle.hsms_machine.specs.declared.entry.Event.{Event as LogEvent}
use Rattle.capture_tcp.specs.declared.packet.Side.TheVariants.{Active, Passive}
use Rattle.capture_log.specs.AuditedLog.{Note}
use Rattle.capture_log.specs.contracts.socket_pair.PairPartialEq.TheImpl as same_pair
use Rattle.capture_log.specs.declared.audited_log.LogComment.{LogComment}
use Rattle.capture_log.specs.declared.socket_pair.Pair.{Pair}
use Rattle.capture_events.specs.declared.log_item.LogItem.{LogItem}
use Rattle.capture_events.specs.declared.incomplete.Shortfall.{Shortfall}
use Rattle.capture_events.specs.ConnectionItems.{is_there}
use Rattle.capture_verdicts.specs.declared.pair_logs.PairLogs.{PairLogs}
use Rattle.capture_verdicts.specs.declared.verdict_report.VerdictReport.{VerdictReport}
use Rattle.capture_verdicts.specs.declared.verdict_report.LogVerdicts.{LogVerdicts}
use Rattle.capture_verdicts.specs.VerdictReport.{HasVerdict, PairVerdicts, fails_log, shortfall_or, verdict_lines}
use Rattle.capture_verdicts.specs.ReportState.{HaveLogged, both_of, LogIs}

-- ---- the logs of both endpoints

abbrev pub note_by : LogComment → ℕ → LogEvent → Note
note_by remark time event = record { remark = remark; entry = Some (record { time = time; event = event }) }

-- ---- steps

-- `eq` is symmetric, and equal values are equal to the same values.
pub record AreAlike {K : Type 0} (eq : K → K → Bool) : Type 0 where
  pub symm : (x y : K) → eq x y ≡ eq y x
  pub alike : (x y z : K) → eq x y ≡ true → eq x z ≡ eq y z

-- The pair has these logs after the step, or none. No other pair's logs change.
abbrev pub Sets : Pair → Option PairLogs → VerdictReport → VerdictReport → Type 0
Sets pair both old new = (q : Pair) → both_of new q ≡ cond ((same_pair.ghosts).eq pair q) both (both_of old q)

abbrev pub SetsLog : Pair → Option PairLogs → VerdictReport → VerdictReport → Type 0
SetsLog pair both old new = (new ≡ record old { logs = new.logs }) × Sets pair both old new

abbrev pub HasOpened : VerdictReport → Pair → PairLogs → Type 0
HasOpened r pair both = (items : List LogItem) → LogIs r.active r.passive items (both_of r pair) → HaveLogged r.active r.passive items both

abbrev pub LogsOn : Pair → LogItem → VerdictReport → VerdictReport → Type 0
LogsOn pair item old new =
    (both : PairLogs) × SetsLog pair (Some both) old new
    × ((items : List LogItem) → LogIs old.active old.passive items (both_of old pair) → HaveLogged old.active old.passive (items ++ item ∷ []) both)

abbrev pub HaveVerdicts : VerdictReport → Pair → LogVerdicts → Type 0
HaveVerdicts r pair v =
    (items : List LogItem) → LogIs r.active r.passive items (both_of r pair)
    → HasVerdict (is_there items) r.active Active items v.active × HasVerdict (is_there items) r.passive Passive items v.passive

pub record AppendsLines (t : PairVerdicts) (old new : VerdictReport) : Type 0 where
  pub same : new ≡ record old { page = new.page; has_failed = new.has_failed }
  pub page : new.page.octets ≡ old.page.octets ++ verdict_lines old.active old.passive t
  pub failed : new.has_failed ≡ (old.has_failed || (fails_log t.active || fails_log t.passive))

pub record Concludes (pair : Pair) (shortfall : Option Shortfall) (old new : VerdictReport) : Type 0 where
  pub verdicts : LogVerdicts
  pub says : HaveVerdicts old pair verdicts
  pub gone : Sets pair None old new
  pub same : new ≡ record old { logs = new.logs; shortfall = shortfall_or old.shortfall shortfall; has_failed = new.has_failed; has_verdicts = true; page = new.page }
  pub page : new.page.octets
      ≡ old.page.octets ++ verdict_lines old.active old.passive (record { pair = pair; shortfall = shortfall; active = verdicts.active; passive = verdicts.passive })
  pub failed : new.has_failed ≡ (old.has_failed || (fails_log verdicts.active || fails_log verdicts.passive))
