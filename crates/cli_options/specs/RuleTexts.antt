-- What is wrong with an entry that breaks a rule.
use Rattle.std.specs.Prelude.{ℕ, List, codes}
use Rattle.hsms_machine.specs.declared.rule.Rule.{Rule}
use Rattle.hsms_machine.specs.declared.rule.Rule.TheVariants.{Backwards, NotUp, Ended, T3Overdue, LinkOverdue, NotDue, TooLong, PType, SType, ControlText, Session, Direction, NotSelected, WBit, Text, SystemInUse, NoTransaction, SelectStatus, NoCause}

-- The rule in a few words.
abbrev pub sentence_of : Rule → List ℕ
sentence_of Backwards = codes "the time is earlier than the previous entry's"
sentence_of NotUp = codes "the connection is not up, or this `up` is out of place"
sentence_of Ended = codes "the session has ended"
sentence_of T3Overdue = codes "no reply came within T3, and no `t3` is logged"
sentence_of LinkOverdue = codes "T6 or T7 has expired, and no `cut` is logged"
sentence_of NotDue = codes "no such timer has expired"
sentence_of TooLong = codes "the message is longer than MAX"
sentence_of PType = codes "PType is not 0"
sentence_of SType = codes "HSMS-SS does not use this SType"
sentence_of ControlText = codes "a control message has message text"
sentence_of Session = codes "wrong session ID for this kind of message"
sentence_of Direction = codes "this end may not send or receive this message"
sentence_of NotSelected = codes "data message while the session is not selected"
sentence_of WBit = codes "the W bit is set in a reply"
sentence_of Text = codes "the text is not one valid item, or is nested too deeply"
sentence_of SystemInUse = codes "an open transaction already has these system bytes"
sentence_of NoTransaction = codes "no matching open transaction"
sentence_of SelectStatus = codes "status 0, but the session is already selected"
sentence_of NoCause = codes "a discarded message that breaks no rule"
