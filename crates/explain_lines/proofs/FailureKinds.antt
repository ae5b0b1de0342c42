-- Failures of the same kind are similar.
use Rattle.std.proofs.Common.{◌≡◌, ◌<◌, ◌+◌, ◌*◌, ◌^◌, ℕ, nat_eq, refl, sym, ◌∙◌, ap, arith, lit<}
use Rattle.std.specs.Prelude.{if◌then◌else◌}
use Rattle.hsms_frame.specs.Header.{IsHeader, kind_of}
use Rattle.hsms_frame.specs.declared.header.Header.{Header}
use Rattle.hsms_frame.specs.declared.kinds.Kind.{Kind}
use Rattle.hsms_frame.specs.declared.kinds.Kind.TheVariants.{Primary, Reply, SelectReq, SelectRsp, LinktestReq, LinktestRsp, Reject, Separate, OtherSType, OtherPType}
use Rattle.hsms_machine.specs.declared.entry.Cause.TheVariants.{T6, T7, T8, Length}
use Rattle.hsms_machine.specs.declared.entry.Mark.TheVariants.{Sent, Taken, Discarded}
use Rattle.hsms_machine.specs.declared.rule.Rule.{Rule}
use Rattle.hsms_machine.specs.declared.rule.Rule.TheVariants.{Backwards, NotUp, Ended, T3Overdue, LinkOverdue, NotDue, TooLong, PType, SType, ControlText, Session, Direction, NotSelected, WBit, Text, SystemInUse, NoTransaction, SelectStatus, NoCause}
use Rattle.hsms_log.specs.declared.step.What.{What}
use Rattle.hsms_log.specs.declared.step.What.TheVariants.{Up, Frame, T3, Cut, Down}
use Rattle.hsms_machine.specs.Rule.{rule_number}
use Rattle.explain_lines.specs.FailureKind.{kind_number, detail_of, frame_number, event_number, frame_of, IsInRange, SortsAreApart, FramesAreApart}

-- ---- numbers, and what they represent

rule_at : ℕ → Rule
rule_at n = if nat_eq n 0 then Backwards else (if nat_eq n 1 then NotUp else (if nat_eq n 2 then Ended else (if nat_eq n 3 then T3Overdue else (if nat_eq n 4 then LinkOverdue else (if nat_eq n 5 then NotDue else (if nat_eq n 6 then TooLong else (if nat_eq n 7 then PType else (if nat_eq n 8 then SType else (if nat_eq n 9 then ControlText else (if nat_eq n 10 then Session else (if nat_eq n 11 then Direction else (if nat_eq n 12 then NotSelected else (if nat_eq n 13 then WBit else (if nat_eq n 14 then Text else (if nat_eq n 15 then SystemInUse else (if nat_eq n 16 then NoTransaction else (if nat_eq n 17 then SelectStatus else (NoCause))))))))))))))))))

at_rule : (rule : Rule) → rule_at (rule_number rule) ≡ rule
unfolding rule_at
at_rule Backwards = refl
at_rule NotUp = refl
at_rule Ended = refl
at_rule T3Overdue = refl
at_rule LinkOverdue = refl
at_rule NotDue = refl
at_rule TooLong = refl
at_rule PType = refl
at_rule SType = refl
at_rule ControlText = refl
at_rule Session = refl
at_rule Direction = refl
at_rule NotSelected = refl
at_rule WBit = refl
at_rule Text = refl
at_rule SystemInUse = refl
at_rule NoTransaction = refl
at_rule SelectStatus = refl
at_rule NoCause = refl

same_rule : (rule other : Rule) → rule_number rule ≡ rule_number other → rule ≡ other
same_rule rule other is = sym (at_rule rule) ∙ ap rule_at is ∙ at_rule other

kind_at : ℕ → Kind
kind_at n = if nat_eq n 0 then Primary else (if nat_eq n 1 then Reply else (if nat_eq n 2 then SelectReq else (if nat_eq n 3 then SelectRsp else (if nat_eq n 4 then LinktestReq else (if nat_eq n 5 then LinktestRsp else (if nat_eq n 6 then Reject else (if nat_eq n 7 then Separate else (if nat_eq n 8 then OtherSType else (OtherPType)))))))))

at_kind : (kind : Kind) → kind_at (kind_number kind) ≡ kind
unfolding kind_at
at_kind Primary = refl
at_kind Reply = refl
at_kind SelectReq = refl
at_kind SelectRsp = refl
at_kind LinktestReq = refl
at_kind LinktestRsp = refl
at_kind Reject = refl
at_kind Separate = refl
at_kind OtherSType = refl
at_kind OtherPType = refl

same_kind : (kind other : Kind) → kind_number kind ≡ kind_number other → kind ≡ other
same_kind kind other is = sym (at_kind kind) ∙ ap kind_at is ∙ at_kind other

-- ---- their ranges

kind_small : (kind : Kind) → kind_number kind < 16
kind_small Primary = lit< tt
kind_small Reply = lit< tt
kind_small SelectReq = lit< tt
kind_small SelectRsp = lit< tt
kind_small LinktestReq = lit< tt
kind_small LinktestRsp = lit< tt
kind_small Reject = lit< tt
kind_small Separate = lit< tt
kind_small OtherSType = lit< tt
kind_small OtherPType = lit< tt

detail_small : (kind : Kind) (header : Header) → IsHeader header → detail_of kind header < 65536
detail_small Primary header fits = omega (arith, fits.byte2, fits.byte3)
detail_small Reply header fits = omega (arith, fits.byte2, fits.byte3)
detail_small SelectReq header fits = lit< tt
detail_small SelectRsp header fits = lit< tt
detail_small LinktestReq header fits = lit< tt
detail_small LinktestRsp header fits = lit< tt
detail_small Reject header fits = lit< tt
detail_small Separate header fits = lit< tt
detail_small OtherSType header fits = lit< tt
detail_small OtherPType header fits = lit< tt

event_small : (what : What) → event_number what < 16
event_small (Frame Sent header) = lit< tt
event_small (Frame Taken header) = lit< tt
event_small (Frame Discarded header) = lit< tt
event_small Up = lit< tt
event_small (T3 system) = lit< tt
event_small (Cut T6) = lit< tt
event_small (Cut T7) = lit< tt
event_small (Cut T8) = lit< tt
event_small (Cut Length) = lit< tt
event_small Down = lit< tt

frame_small : (header : Header) → IsHeader header → frame_number header < 2 ^ 36
frame_small header fits =
    let kind = kind_small (kind_of header) in
    let detail = detail_small (kind_of header) header fits in
    omega (arith, kind, detail, fits.session)

what_small : (what : What) → IsInRange what → frame_of what < 2 ^ 36
what_small (Frame mark header) fits = frame_small header fits
what_small Up fits = lit< tt
what_small (T3 system) fits = lit< tt
what_small (Cut cause) fits = lit< tt
what_small Down fits = lit< tt

-- ---- what is equal if the number is

apart_36 : (a b c d : ℕ) → b < 2 ^ 36 → d < 2 ^ 36 → a * 2 ^ 36 + b ≡ c * 2 ^ 36 + d → (a ≡ c) × (b ≡ d)
apart_36 a b c d one other is = (omega (arith, one, other, is), omega (arith, one, other, is))

apart_16 : (a b c d : ℕ) → b < 65536 → d < 65536 → a * 65536 + b ≡ c * 65536 + d → (a ≡ c) × (b ≡ d)
apart_16 a b c d one other is = (omega (arith, one, other, is), omega (arith, one, other, is))

apart_4 : (a b c d : ℕ) → b < 16 → d < 16 → a * 16 + b ≡ c * 16 + d → (a ≡ c) × (b ≡ d)
apart_4 a b c d one other is = (omega (arith, one, other, is), omega (arith, one, other, is))

one_less : (a b : ℕ) → a + 1 ≡ b + 1 → a ≡ b
one_less a b is = omega (arith, is)

pub sorts : SortsAreApart
sorts rule other what that fits too is =
    let outer = apart_36 _ _ _ _ (what_small what fits) (what_small that too) is in
    let inner = apart_4 _ _ _ _ (event_small what) (event_small that) outer.0 in
    (same_rule rule other (one_less _ _ inner.0), inner.1, outer.1)

pub frames : FramesAreApart
frames header other fits too is =
    let outer = apart_16 _ _ _ _ (detail_small (kind_of header) header fits) (detail_small (kind_of other) other too) is in
    let inner = apart_4 _ _ _ _ (kind_small (kind_of header)) (kind_small (kind_of other)) outer.0 in
    (inner.0, same_kind (kind_of header) (kind_of other) inner.1, outer.1)
