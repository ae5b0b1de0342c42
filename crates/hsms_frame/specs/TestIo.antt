-- The state of sources and sinks in memory that contracts see.
use Rattle.std.specs.Prelude.{ℕ, List, Some}
use Rattle.hsms_frame.specs.Io.{SourceState, SinkState}

-- The state of a source: the bytes that are left, how many a call returns at most, and the number of calls after which
-- each call fails.
pub record FeedState : Type 0 where
  pub left : List ℕ
  pub piece : ℕ
  pub fuse : ℕ
  pub pulls : ℕ
  pub empty_pulls : ℕ
  pub ends : ℕ
  pub failures : ℕ

-- The state of a source before the first call.
abbrev pub feed_of : List ℕ → ℕ → ℕ → FeedState
feed_of octets piece fuse =
    record { left = octets; piece = piece; fuse = fuse; pulls = 0; empty_pulls = 0; ends = 0; failures = 0 }

-- The state as that of any source.
abbrev pub source_of : FeedState → SourceState
source_of f = record {
  left = Some f.left;
  pulls = f.pulls;
  empty_pulls = f.empty_pulls;
  ends = f.ends;
  failures = f.failures;
}

-- The state of a sink: what was written, the memory after it, and the limits as above.
pub record StoreState : Type 0 where
  pub written : List ℕ
  pub room : List ℕ
  pub piece : ℕ
  pub fuse : ℕ
  pub gives : ℕ
  pub failures : ℕ

-- The state as that of any sink.
abbrev pub sink_of : StoreState → SinkState
sink_of s = record { written = Some s.written; gives = s.gives; failures = s.failures }
