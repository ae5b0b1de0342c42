-- How many primaries in a log request a reply, and how many replies they got.
use Rattle.std.specs.Prelude.{◌≡◌, ◌==◌, ◌⊎◌, ◌&&◌, not, ℕ, Bool, true, false, List, if◌then◌else◌}
use Rattle.hsms_frame.specs.CallCounts.{next_count}
use Rattle.hsms_frame.specs.Header.{function_of, kind_of, wait_of}
use Rattle.hsms_frame.specs.declared.header.Header.{Header}
use Rattle.hsms_frame.specs.declared.kinds.Kind.{Kind}
use Rattle.hsms_frame.specs.declared.kinds.Kind.TheVariants.{Primary, Reply}
use Rattle.hsms_machine.specs.declared.entry.Entry.{Entry}
use Rattle.hsms_machine.specs.declared.entry.Event.{Event}
use Rattle.hsms_machine.specs.declared.entry.Event.TheVariants.{Up, Sent, Taken, Discarded, T3, Cut, Down}
use Rattle.hsms_log.specs.LineContent.{EncodesNoFrame}
use Rattle.hsms_log.specs.LineFormat.{EncodesEntry}
use Rattle.cli_serve.specs.declared.answer_counts.AnswerCounts.{AnswerCounts}

abbrev pub is_primary_kind : Kind → Bool
is_primary_kind Primary = true
is_primary_kind _ = false

abbrev pub is_reply_kind : Kind → Bool
is_reply_kind Reply = true
is_reply_kind _ = false

-- True for a primary with W.
abbrev pub asks : Header → Bool
asks header = is_primary_kind (kind_of header) && wait_of header

-- True for a reply that aborts nothing: its function is not 0.
abbrev pub answers : Header → Bool
answers header = is_reply_kind (kind_of header) && not (function_of header == 0)

-- The counts after an event.
abbrev pub counted : AnswerCounts → Event → AnswerCounts
counted counts (Sent frame) = if asks frame.header then record counts { asked = next_count counts.asked } else counts
counted counts (Taken frame) =
    if answers frame.header then record counts { answered = next_count counts.answered } else counts
counted counts (Discarded frame) = counts
counted counts Up = counts
counted counts (T3 system) = counts
counted counts (Cut cause) = counts
counted counts Down = counts

-- Holds if the counts changed by the entry of a line, or stayed since it has no message.
abbrev pub CountsLine : List ℕ → AnswerCounts → AnswerCounts → Type 0
CountsLine line old new =
    ((entry : Entry) × EncodesEntry line entry × (new ≡ counted old entry.event)) ⊎ (EncodesNoFrame line × (new ≡ old))
