-- The next time at which a timer of an endpoint expires (SEMI E37, section 10, parameters), and the time at which its
-- link is to be tested.
use Rattle.std.specs.Prelude.{ℕ, Bool, max, nat_lt, ◌==◌, ◌&&◌, Option, None, if◌then◌else◌}
use Rattle.hsms_machine.specs.Timer.{due_at, least_of}
use Rattle.hsms_machine.specs.ViewRules.{is_selected}
use Rattle.hsms_machine.specs.View.{next_due_of, own_open_of, waiting_of}
use Rattle.hsms_endpoint.specs.EndState.{EndState}
use Rattle.hsms_endpoint.specs.Turn.{is_up, is_pending}

-- T8 of pending bytes, from the time of the last received byte.
abbrev pub octets_due : EndState → Option ℕ
octets_due end =
    if is_up end.view.phase && is_pending end.pending then due_at end.settings.t8 end.reception else None

-- The earliest of that and of the timers that the log shows.
abbrev pub next_due : EndState → Option ℕ
next_due end = least_of (next_due_of end.view) (octets_due end)

-- The time after which nothing was received and nothing was logged.
abbrev pub quiet_since : EndState → ℕ
quiet_since end = max end.reception end.view.last_time

-- True if the link can be tested: the session is selected, each open own transaction is a primary's, and one more may
-- be open.
abbrev pub may_test : EndState → Bool
may_test end =
    is_selected end.view.phase && (own_open_of end.view == waiting_of end.view) && nat_lt (own_open_of end.view) 64

-- The time from which the link is to be tested, after a pause of this length.
abbrev pub test_due : ℕ → EndState → Option ℕ
test_due pause end = if may_test end then due_at pause (quiet_since end) else None
