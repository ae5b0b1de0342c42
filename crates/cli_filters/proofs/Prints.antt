-- What is printed.
use Rattle.std.proofs.Common.{◌≡◌, ℕ, List, Ok, Err, refl}
use Rattle.hsms_frame.specs.CallCounts.{next_count}
use Rattle.hsms_frame.specs.declared.io.Failed.{Failed}
use Rattle.hsms_frame.specs.Io.{SourceState, SinkState, Grows, GrowsByFront}
use Rattle.cli_filters.specs.Dispatch.{HasPrinted}
use Rattle.cli_filters.proofs.Lines.{front_as, grows_as}

pub printed : (text octets : List ℕ) (state : SourceState) (before after : SinkState) → octets ≡ text → Grows before.written after.written octets
    → after.failures ≡ before.failures → HasPrinted text (Ok tt) state state before after
printed text octets state before after is grows counts =
    record { ok = grows_as before.written after.written octets text is grows; err = tt; reads = refl; writes = counts }

pub unprinted : (text octets : List ℕ) (fault : Failed) (state : SourceState) (before after : SinkState) → octets ≡ text → GrowsByFront before.written after.written octets
    → after.failures ≡ next_count before.failures → HasPrinted text (Err fault) state state before after
unprinted text octets fault state before after is grows counts =
    record { ok = tt; err = front_as before.written after.written octets text is grows; reads = refl; writes = counts }
