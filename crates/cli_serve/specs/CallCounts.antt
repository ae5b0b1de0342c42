-- What a link over a socket records of its calls: how often they returned and failed, but not the bytes.
use Rattle.std.specs.Prelude.{None}
use Rattle.hsms_ends.specs.Link.{LinkState}
use Rattle.cli_serve.specs.declared.call_counts.Counters.{Counters}

abbrev pub recorded_of : Counters → LinkState
recorded_of counters = record {
  moments = None;
  given = None;
  taken = None;
  waits = counters.waits;
  closes = counters.closes;
  closed = counters.is_closed;
  failures = counters.failures;
}
