-- The state of an audit between two lines.
use Rattle.std.specs.Prelude.{◌≡◌, ◌+◌, ◌≤◌, ℕ, List, [], length, count_by, Option, Some, None, MatchOption}
use Rattle.hsms_machine.specs.declared.entry.Entry.{Entry}
use Rattle.hsms_machine.specs.declared.entry.Event.{Event}
use Rattle.hsms_machine.specs.declared.entry.Event.TheVariants.{Sent, Taken, Discarded}
use Rattle.hsms_machine.specs.View.{HasView}
use Rattle.hsms_log.specs.declared.audit_state.Session.{Session}
use Rattle.hsms_log.specs.declared.audit_state.LineChecker.{LineChecker}
use Rattle.hsms_log.specs.LineFormat.{settings_limit, line_limit}
use Rattle.hsms_log.specs.Log.{EncodesLog}
use Rattle.hsms_log.specs.Counters.{Counters}
use Rattle.hsms_log.specs.Verdict.{is_sent, is_taken, is_discarded, is_expired}

-- Holds if these are the numbers of entries by kind.
pub record Counts (tally : Counters) (log : List Entry) : Type 0 where
  pub entries : tally.entries ≡ length log
  pub sent : tally.sent ≡ count_by (λ entry. is_sent entry.event) log
  pub taken : tally.taken ≡ count_by (λ entry. is_taken entry.event) log
  pub discarded : tally.discarded ≡ count_by (λ entry. is_discarded entry.event) log
  pub expired : tally.expired ≡ count_by (λ entry. is_expired entry.event) log

-- Holds if the session and the tally are those after these lines, which encode a run.
abbrev pub Tracks : Session → Counters → List (List ℕ) → Type 0
Tracks session tally lines =
    (log : List Entry) × EncodesLog lines session.settings log × HasView session.settings log session.tracker × Counts tally log

-- Holds if this is the state after these lines, which do not fail.
pub record Follows (line_checker : LineChecker) (lines : List (List ℕ)) : Type 0 where
  pub number : line_checker.tally.lines ≡ length lines
  pub state : MatchOption line_checker.session ((lines ≡ []) × Counts line_checker.tally []) (λ session. Tracks session line_checker.tally lines)

-- The maximum length of the next line, without its end.
abbrev pub limit_after : Option Session → ℕ
limit_after None = settings_limit
limit_after (Some session) = line_limit session.settings.max

-- The number of bytes of header and text of an event's message.
abbrev pub message_size : Event → ℕ
message_size (Sent frame) = 10 + length frame.text
message_size (Taken frame) = 10 + length frame.text
message_size (Discarded frame) = 10 + length frame.text
message_size _ = 0

-- Holds if the settings were read, and they allow the message of an entry.
abbrev pub Allows : Option Session → Entry → Type 0
Allows None entry = ⊥
Allows (Some session) entry = message_size entry.event ≤ session.settings.max
