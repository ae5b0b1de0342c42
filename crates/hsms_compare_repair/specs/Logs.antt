-- The facts of two logs that may agree.
use Rattle.std.specs.Prelude.{◌≡◌, ◌<◌, ℕ, List, Bool, Option, None, length, map, take, drop}
use Rattle.std.specs.List.{flat_map}
use Rattle.hsms_frame.specs.Frame.{Frame}
use Rattle.hsms_machine.specs.declared.entry.Entry.{Entry}
use Rattle.hsms_compare.specs.declared.contradiction.Contradiction.{Contradiction}
use Rattle.hsms_compare.specs.Conversation.{Agree, Line, entries, sent_by, received_by}
use Rattle.hsms_compare.specs.Agreement.{CanAgree, FirstContradiction, MayHave}
use Rattle.hsms_compare.specs.LineContradiction.{number_at}
use Rattle.hsms_compare_repair.specs.declared.numbered_frame.NumberedFrame.{NumberedFrame}
use Rattle.hsms_compare_repair.specs.declared.fact.Fact.{Fact}
use Rattle.hsms_compare_repair.specs.declared.pair.LogFrames.{LogFrames}
use Rattle.hsms_compare_repair.specs.Facts.{AreFacts, IsShown}
use Rattle.hsms_compare_repair.specs.Laws.{AreLater}

-- The frames that a log sends, and those that it receives, with their lines.
abbrev pub numbered_frame : ℕ → Frame → NumberedFrame
numbered_frame line frame = record { line = line; frame = frame }

abbrev pub sent_of : List Line → List NumberedFrame
sent_of lines = flat_map (λ (line : Line). map (numbered_frame line.position) (sent_by line.entry.event)) lines

abbrev pub received_of : List Line → List NumberedFrame
received_of lines = flat_map (λ (line : Line). map (numbered_frame line.position) (received_by line.entry.event)) lines

-- Holds if these are the frames of a log.
pub record HasFramesOf (lines : List Line) (log : LogFrames) : Type 0 where
  pub sent_so : log.sent.items ≡ sent_of lines
  pub received_so : log.received.items ≡ received_of lines

-- Holds if the line numbers rise from 1 or more.
pub record HasLineNumbers (lines : List Line) : Type 0 where
  pub positive : (i : ℕ) → i < length lines → 0 < number_at lines i
  pub rising : (i k : ℕ) → i < k → k < length lines → number_at lines i < number_at lines k

-- Two logs that agree with what may follow them have no facts but of frames that may be sent later.
abbrev pub NoFactsOfLogsThatCanAgree : Type 0
NoFactsOfLogsThatCanAgree =
    (sender receiver : List Line) (sender_open receiver_open : Bool) (shown : ℕ) (facts : List Fact)
    → HasLineNumbers receiver → CanAgree sender_open receiver_open (entries sender) (entries receiver)
    → IsShown (sent_of receiver) (received_of sender) receiver_open shown
    → AreFacts (sent_of sender) (received_of receiver) sender_open shown facts → AreLater facts

abbrev pub CanAgreeBothWays : Type 0
CanAgreeBothWays =
    (host_open equipment_open : Bool) (host equipment : List Entry)
    → CanAgree host_open equipment_open host equipment → CanAgree equipment_open host_open equipment host

-- The prefixes of two logs that agree have no contradiction. A log of which a part is left out is open.
abbrev pub LogsThatEndEarlyAgree : Type 0
LogsThatEndEarlyAgree =
    (host equipment : List Entry) (i j : ℕ) (host_open equipment_open : Bool) → Agree host equipment
    → MayHave host_open (drop i host) → MayHave equipment_open (drop j equipment)
    → CanAgree host_open equipment_open (take i host) (take j equipment)

abbrev pub NoContradictionOfLogsThatEndEarly : Type 0
NoContradictionOfLogsThatEndEarly =
    (host equipment : List Entry) (i j : ℕ) (host_open equipment_open : Bool) (found : Option Contradiction) → Agree host equipment
    → MayHave host_open (drop i host) → MayHave equipment_open (drop j equipment)
    → FirstContradiction host_open equipment_open (take i host) (take j equipment) found → found ≡ None
