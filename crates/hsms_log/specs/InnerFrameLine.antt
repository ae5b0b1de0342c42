-- A line with a frame, for private contracts.
use Rattle.std.specs.Prelude.{ℕ, List, codes}
use Rattle.hsms_frame.specs.declared.header.Header.{Header}
use Rattle.hsms_machine.specs.declared.entry.Mark.{Mark}
use Rattle.hsms_machine.specs.declared.entry.Mark.TheVariants.{Sent, Taken, Discarded}
use Rattle.hsms_log.specs.LineFormat.{IsMessage, IsHexOf, message_octets}

abbrev pub mark_word : Mark → List ℕ
mark_word Sent = codes ">"
mark_word Taken = codes "<"
mark_word Discarded = codes "!"

-- Holds if the digits encode the message of this header and text.
abbrev pub IsEncoded : List ℕ → Header → List ℕ → Type 0
IsEncoded digits header text =
    IsMessage (record { header = header; text = text }) × IsHexOf digits (message_octets (record { header = header; text = text }))
