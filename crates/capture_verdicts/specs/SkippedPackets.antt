-- The skipped packets, counted by reason, and the line with the counts.
use Rattle.std.specs.Prelude.{ℕ, List, [], ◌∷◌, ◌++◌, ◌+◌, ◌-◌, ◌^◌, ◌==◌, min, length, if◌then◌else◌, codes, decimal}
use Rattle.hsms_frame.specs.CallCounts.{next_count}
use Rattle.capture_pcap.specs.declared.segment.Reason.{Reason}
use Rattle.capture_pcap.specs.declared.segment.Reason.TheVariants.{Link, Short, Fragment, Cut, Header, Damaged}
use Rattle.capture_verdicts.specs.declared.skipped_packets.SkippedPackets.{SkippedPackets}

-- None is skipped.
abbrev pub none_skipped : SkippedPackets
none_skipped = record { link = 0; short = 0; fragment = 0; cut = 0; header = 0; damaged = 0 }

-- One more is skipped for this reason.
abbrev pub skipped_after : SkippedPackets → Reason → SkippedPackets
skipped_after counts Link = record counts { link = next_count counts.link }
skipped_after counts Short = record counts { short = next_count counts.short }
skipped_after counts Fragment = record counts { fragment = next_count counts.fragment }
skipped_after counts Cut = record counts { cut = next_count counts.cut }
skipped_after counts Header = record counts { header = next_count counts.header }
skipped_after counts Damaged = record counts { damaged = next_count counts.damaged }

-- Their number, at most 2^64 - 1.
abbrev pub all_of : SkippedPackets → ℕ
all_of counts = min (counts.link + counts.short + counts.fragment + counts.cut + counts.header + counts.damaged) (2 ^ 64 - 1)

-- Appends a kind with its count, if the count is not 0, after a comma if there is text before it.
abbrev pub with_kind : List ℕ → List ℕ → ℕ → List ℕ
with_kind text kind count =
    if count == 0 then text else text ++ (if length text == 0 then [] else codes ", ") ++ kind ++ 32 ∷ decimal count

-- The kinds with their counts.
abbrev pub kinds_of : SkippedPackets → List ℕ
kinds_of counts =
    let link = with_kind [] (codes "link") counts.link in
    let short = with_kind link (codes "short") counts.short in
    let fragment = with_kind short (codes "fragment") counts.fragment in
    let cut = with_kind fragment (codes "truncated") counts.cut in
    let header = with_kind cut (codes "header") counts.header in
    with_kind header (codes "damaged") counts.damaged

-- The number of packets, in words.
abbrev pub packets_words : ℕ → List ℕ
packets_words n = if n == 1 then codes "1 packet" else decimal n ++ codes " packets"

-- The line, with its end. Empty if none is skipped.
abbrev pub line_of : SkippedPackets → List ℕ
line_of counts =
    if all_of counts == 0 then [] else codes "# " ++ packets_words (all_of counts) ++ codes " skipped: " ++ kinds_of counts ++ 10 ∷ []
