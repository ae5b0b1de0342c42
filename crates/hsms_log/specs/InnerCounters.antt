-- What only contracts of private functions use, besides the definitions of `Counters`.
use Rattle.std.specs.Prelude.{◌≤◌}
use Rattle.hsms_log.specs.Counters.{Counters}

-- Holds if no kind has more entries than there are lines.
pub record IsBounded (counters : Counters) : Type 0 where
  pub entries : counters.entries ≤ counters.lines
  pub sent : counters.sent ≤ counters.entries
  pub taken : counters.taken ≤ counters.entries
  pub discarded : counters.discarded ≤ counters.entries
  pub expired : counters.expired ≤ counters.entries
