-- What only contracts of private functions use, besides the definitions of `Output`.
use Rattle.std.specs.Prelude.{◌≡◌, ◌<◌, ◌+◌, ◌^◌, ◌⊎◌, ◌++◌, ℕ, List, [], ◌∷◌, length, Result, Ok, Err, All}
use Rattle.std.specs.List.{flat_map}
use Rattle.hsms_frame.specs.CallCounts.{next_count}
use Rattle.hsms_frame.specs.Io.{SinkState, Grows, GrowsByFront}
use Rattle.hsms_machine.specs.declared.entry.Entry.{Entry}
use Rattle.hsms_machine.specs.declared.entry.Event.{Event}
use Rattle.hsms_machine.specs.declared.entry.Event.TheVariants.{Sent}
use Rattle.hsms_log.specs.declared.fault.LogFault.{LogFault}
use Rattle.hsms_log.specs.LineFormat.{entry_line}
use Rattle.hsms_ends.specs.declared.fault.LinkFault.{LinkFault}
use Rattle.hsms_ends.specs.declared.output.Stop.{Stop}
use Rattle.hsms_ends.specs.declared.output.Stop.TheVariants.{Link, Log, Memory}
use Rattle.hsms_ends.specs.Link.{LinkState, LinkInput, ProcessesInput, processed_nothing}
use Rattle.hsms_ends.specs.Output.{sent_octets, GrowsByPart, LogGrows, LogStops}

-- Holds if header and text of a sent message have no more bytes than its length field counts (SEMI E37, section 8).
abbrev pub FitsLengthField : Event → Type 0
FitsLengthField (Sent frame) = 10 + length frame.text < 2 ^ 32
FitsLengthField _ = Unit {0}

abbrev pub AllFitLengthField : List Entry → Type 0
AllFitLengthField entries = All (λ entry. FitsLengthField entry.event) entries

-- The lines of the entries, in order.
abbrev pub log_lines : List Entry → List ℕ
log_lines entries = flat_map (λ entry. entry_line entry ++ 10 ∷ []) entries

-- Holds if all bytes were sent, or the link failed and a prefix was sent.
abbrev pub SendsAll : LinkState → LinkState → List ℕ → Result (Unit {0}) LinkFault → Type 0
SendsAll old new octets (Ok _) =
    ProcessesInput old new processed_nothing × Grows old.taken new.taken octets × (new.failures ≡ old.failures)
SendsAll old new octets (Err _) =
    ProcessesInput old new processed_nothing × GrowsByFront old.taken new.taken octets × (new.failures ≡ next_count old.failures)

-- Holds if the log failed in the line of one of these entries. The lines of the entries before it are complete.
pub record LogFailsIn (old new : SinkState) (entries : List Entry) : Type 0 where
  pub whole : List Entry
  pub rest : List Entry
  pub parted : entries ≡ whole ++ rest
  pub stops : LogStops old new (log_lines whole) rest

-- Holds if the lines of all entries were logged, or the log failed in one of them.
abbrev pub LogsAll : Result (Unit {0}) LogFault → SinkState → SinkState → List Entry → Type 0
LogsAll (Ok _) old new entries = LogGrows old new (log_lines entries)
LogsAll (Err _) old new entries = LogFailsIn old new entries

-- Holds if the rest was logged after the link failed, or the log failed too.
abbrev pub RestLogged : Result (Unit {0}) Stop → SinkState → SinkState → List Entry → Type 0
RestLogged (Ok _) old new entries = ⊥
RestLogged (Err Link) old new entries = LogGrows old new (log_lines entries)
RestLogged (Err Log) old new entries = LogFailsIn old new entries
RestLogged (Err Memory) old new entries = ⊥

-- The content of the log: these lines, and no entry remains. If the log failed, it also has a part of the next
-- entry's line.
abbrev pub Logged : Result (Unit {0}) Stop → SinkState → SinkState → List ℕ → List Entry → Type 0
Logged (Ok _) old new lines rest = (rest ≡ []) × LogGrows old new lines
Logged (Err Link) old new lines rest = (rest ≡ []) × LogGrows old new lines
Logged (Err Log) old new lines rest = LogStops old new lines rest
Logged (Err Memory) old new lines rest = (rest ≡ []) × LogGrows old new lines

-- Holds if the link sent all bytes and did not fail.
abbrev pub TakesAll : LinkState → LinkState → List ℕ → Type 0
TakesAll old new octets = Grows old.taken new.taken octets × (new.failures ≡ old.failures)

-- Holds if the link failed and sent a prefix of the bytes.
abbrev pub TakesPart : LinkState → LinkState → List ℕ → Type 0
TakesPart old new octets = GrowsByPart old.taken new.taken octets × (new.failures ≡ next_count old.failures)

-- What the link sent: all bytes, unless it failed.
abbrev pub Delivered : Result (Unit {0}) Stop → LinkState → LinkState → List ℕ → Type 0
Delivered (Ok _) old new octets = TakesAll old new octets
Delivered (Err Link) old new octets = TakesPart old new octets
Delivered (Err Log) old new octets = TakesAll old new octets ⊎ TakesPart old new octets
Delivered (Err Memory) old new octets = TakesAll old new octets

-- Holds if the entries were written, up to the point that the result gives, and the link gave this input. The lines
-- of the entries in `whole` are complete in the log, and the link sent only the messages of these entries.
pub record PutsOut (result : Result (Unit {0}) Stop) (log log' : SinkState) (link link' : LinkState) (entries : List Entry) (reception : LinkInput) : Type 0 where
  pub whole : List Entry
  pub rest : List Entry
  pub parted : entries ≡ whole ++ rest
  pub logged : Logged result log log' (log_lines whole) rest
  pub sent : Delivered result link link' (sent_octets whole)
  pub processes_input : ProcessesInput link link' reception
