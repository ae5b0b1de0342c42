-- What only contracts of private functions use: what a log is searched for.
use Rattle.std.specs.Prelude.{Bool}
use Rattle.hsms_machine.specs.declared.entry.Entry.{Entry}
use Rattle.hsms_machine.specs.Session.{ends_session}
use Rattle.hsms_machine.specs.Transaction.{closes_sent, closes_taken}
use Rattle.hsms_compare_causes.specs.declared.wanted.Wanted.{Wanted}
use Rattle.hsms_compare_causes.specs.declared.wanted.Wanted.TheVariants.{Closing, Conclusion, Reply, Cut, Sent, Received, SessionEnd, ConnectionEnd}
use Rattle.hsms_compare_causes.specs.Events.{answers_by, ends_connection, is_received, is_sent}
use Rattle.hsms_compare_causes.specs.OwnOutcome.{is_cut_after}

abbrev pub is_wanted : Wanted → Entry → Bool
is_wanted (Closing request) entry = closes_sent request entry.event
is_wanted (Conclusion request) entry = closes_taken request entry.event
is_wanted (Reply request) entry = answers_by request entry.event
is_wanted (Cut since limit) entry = is_cut_after since limit entry
is_wanted Sent entry = is_sent entry.event
is_wanted Received entry = is_received entry.event
is_wanted SessionEnd entry = ends_session entry.event
is_wanted ConnectionEnd entry = ends_connection entry.event
