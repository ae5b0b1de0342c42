-- The output for the entries of a call: a line of the log for each, and the bytes of each sent message.
use Rattle.std.specs.Prelude.{◌≡◌, ◌≤◌, ◌<◌, ◌++◌, ℕ, List, [], ◌∷◌, length, take, Option, Some}
use Rattle.std.specs.List.{flat_map}
use Rattle.hsms_frame.specs.CallCounts.{next_count}
use Rattle.hsms_frame.specs.Io.{SinkState, IfRecorded, Grows, GrowsByFront}
use Rattle.hsms_frame.specs.Frame.{frame_octets}
use Rattle.hsms_machine.specs.declared.entry.Entry.{Entry}
use Rattle.hsms_machine.specs.declared.entry.Event.{Event}
use Rattle.hsms_machine.specs.declared.entry.Event.TheVariants.{Sent}
use Rattle.hsms_log.specs.LineFormat.{entry_line}

-- The bytes of the message that an entry records as sent.
abbrev pub sent_of : Event → List ℕ
sent_of (Sent frame) = frame_octets frame
sent_of _ = []

-- The bytes of the sent messages, in order.
abbrev pub sent_octets : List Entry → List ℕ
sent_octets entries = flat_map (λ entry. sent_of entry.event) entries

-- Holds if a prefix of these bytes, or all of them, was appended.
abbrev pub GrowsByPart : Option (List ℕ) → Option (List ℕ) → List ℕ → Type 0
GrowsByPart old new added = IfRecorded old (λ octets. (n : ℕ) × (n ≤ length added) × (new ≡ Some (octets ++ take n added)))

-- Holds if all bytes are in the log, and it did not fail.
abbrev pub LogGrows : SinkState → SinkState → List ℕ → Type 0
LogGrows old new octets = Grows old.written new.written octets × (new.failures ≡ old.failures)

-- Holds if the log failed, with a prefix of these bytes in it.
abbrev pub LogFails : SinkState → SinkState → List ℕ → Type 0
LogFails old new octets = GrowsByFront old.written new.written octets × (new.failures ≡ next_count old.failures)

-- Holds if these bytes were appended, and then a proper prefix of a line.
abbrev pub GrowsInto : Option (List ℕ) → Option (List ℕ) → List ℕ → List ℕ → Type 0
GrowsInto old new added line =
    IfRecorded old (λ octets. (n : ℕ) × (n < length line) × (new ≡ Some (octets ++ (added ++ take n line))))

-- Holds if the log failed in the line of the first of these entries. It has what came before, and a part of that
-- line.
abbrev pub LogStops : SinkState → SinkState → List ℕ → List Entry → Type 0
LogStops old new before [] = ⊥
LogStops old new before (entry ∷ rest) =
    GrowsInto old.written new.written before (entry_line entry ++ 10 ∷ []) × (new.failures ≡ next_count old.failures)

-- Holds if `rest` is a suffix of the entries.
abbrev pub IsEnding : List Entry → List Entry → Type 0
IsEnding rest entries = (front : List Entry) × (entries ≡ front ++ rest)
