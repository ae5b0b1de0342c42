-- Text in memory, as a sink.
use Rattle.std.specs.Prelude.{ℕ, List, Some}
use Rattle.hsms_frame.specs.Io.{SinkState}

-- the octets, how often it was called, and how often it failed
pub record Kept : Type 0 where
  pub octets : List ℕ
  pub calls : ℕ
  pub failures : ℕ

abbrev pub sink_of : Kept → SinkState
sink_of kept = record { written = Some kept.octets; gives = kept.calls; failures = kept.failures }
