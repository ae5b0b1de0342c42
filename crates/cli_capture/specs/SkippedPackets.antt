-- The packets that were left out, counted by the reason, and the line that tells them.
use Rattle.std.specs.Prelude.{ℕ, List, [], ◌∷◌, ◌++◌, ◌+◌, ◌-◌, ◌^◌, ◌==◌, min, length, if◌then◌else◌, codes, decimal}
use Rattle.hsms_frame.specs.CallCounts.{next_count}
use Rattle.capture_pcap.specs.declared.segment.Reason.{Reason}
use Rattle.capture_pcap.specs.declared.segment.Reason.TheVariants.{Link, Short, Fragment, Cut, Header, Damaged}
use Rattle.cli_capture.specs.declared.skipped_packets.LeftOut.{LeftOut}

-- none is left out
abbrev pub none_left_out : LeftOut
none_left_out = record { link = 0; short = 0; fragment = 0; cut = 0; header = 0; damaged = 0 }

-- one more is left out for this reason
abbrev pub left_out_after : LeftOut → Reason → LeftOut
left_out_after counts Link = record counts { link = next_count counts.link }
left_out_after counts Short = record counts { short = next_count counts.short }
left_out_after counts Fragment = record counts { fragment = next_count counts.fragment }
left_out_after counts Cut = record counts { cut = next_count counts.cut }
left_out_after counts Header = record counts { header = next_count counts.header }
left_out_after counts Damaged = record counts { damaged = next_count counts.damaged }

-- how many there are, at most as many as 64 bits hold
abbrev pub all_of : LeftOut → ℕ
all_of counts = min (counts.link + counts.short + counts.fragment + counts.cut + counts.header + counts.damaged) (2 ^ 64 - 1)

-- a kind with its count behind those that are told already, and behind a comma if there are some; it isn't told where
-- there is none of it
abbrev pub with_kind : List ℕ → List ℕ → ℕ → List ℕ
with_kind emitted kind count =
    if count == 0 then emitted else emitted ++ (if length emitted == 0 then [] else codes ", ") ++ kind ++ 32 ∷ decimal count

-- the kinds with their counts
abbrev pub kinds_of : LeftOut → List ℕ
kinds_of counts =
    let link = with_kind [] (codes "link") counts.link in
    let short = with_kind link (codes "short") counts.short in
    let fragment = with_kind short (codes "fragment") counts.fragment in
    let cut = with_kind fragment (codes "truncated") counts.cut in
    let header = with_kind cut (codes "header") counts.header in
    with_kind header (codes "damaged") counts.damaged

-- how many packets there are
abbrev pub packets_words : ℕ → List ℕ
packets_words n = if n == 1 then codes "1 packet" else decimal n ++ codes " packets"

-- the line, with its end; nothing where none is left out
abbrev pub line_of : LeftOut → List ℕ
line_of counts =
    if all_of counts == 0 then [] else codes "# " ++ packets_words (all_of counts) ++ codes " skipped: " ++ kinds_of counts ++ 10 ∷ []
