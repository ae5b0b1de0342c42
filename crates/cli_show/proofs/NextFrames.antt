-- The next message of an input that is read ahead.
use Rattle.std.proofs.Common.{◌≡◌, ◌≢◌, ◌≤◌, ◌<◌, ◌+◌, ◌++◌, ℕ, List, [], length, take, drop, None, Some, Ok, Err, true, false, refl, sym, ◌∙◌, ap, subst, inl, inr, arith}
use Rattle.std.specs.Int.{w32, from_be_bytes}
use Rattle.std.specs.Prelude.{Option, Result, IfOk}
use Rattle.std.proofs.lemmas.List.{append-nil, drop-append-le, length-append, length-take-le, take-append-drop, take-append-le}
use Rattle.hsms_frame.specs.declared.fault.FrameFault.{FrameFault}
use Rattle.hsms_frame.specs.declared.fault.FrameFault.TheVariants as frame
use Rattle.hsms_frame.specs.declared.fault.ReadFault.{ReadFault}
use Rattle.hsms_frame.specs.declared.fault.ReadFault.TheVariants.{TooShort, TooLong, Memory, CutOff, Read}
use Rattle.hsms_frame.specs.declared.header.Header.{Header}
use Rattle.hsms_frame.specs.ReadAhead.{ReadsMore}
use Rattle.hsms_frame.specs.Io.{IfRecorded}
use Rattle.hsms_frame.specs.Frame.{Frame, frame_octets, length_field, IsFaultless, IsProperFront, IsTooLong, IsTooShort}
use Rattle.hsms_frame.specs.Framing.{FrontAs}
use Rattle.cli_show.specs.InnerReadAhead.{EndsAs, FindsNext, IsUnread, found_of, is_open, read_fault_of}
use Rattle.cli_show.specs.Show.{IsStopped}
use Rattle.cli_output.specs.IoErrors.{LeavesPart}

pub if_ok_map : {T E : Type 0} (r : Result T E) (P Q : T → Type 0) → ((x : T) → P x → Q x) → IfOk r P → IfOk r Q
if_ok_map (Ok x) P Q f h = f x h
if_ok_map (Err e) P Q f h = tt

-- ---- reading more

pub reads_on : (before mid now : List ℕ) (input : List ℕ) (left new : Option (List ℕ)) → ReadsMore before input mid left
    → IfRecorded left (λ rest. ReadsMore mid rest now new) → ReadsMore before input now new
reads_on before mid now input left new (rest, known_input, same) more =
    let m = more rest known_input in
    (m.0, m.1, same ∙ m.2)

-- ---- what is at the start

-- Holds if a part of a message is at the start.
abbrev pub IsOpen : ℕ → List ℕ → Type 0
IsOpen max ahead = IsFaultless max ahead × IsProperFront ahead

pub open_front : (max : ℕ) (ahead : List ℕ) (found : Result (Option (Header × ℕ)) FrameFault) → is_open found ≡ true → FrontAs max ahead found → IsOpen max ahead
open_front max ahead (Ok (Some m)) is front = cc
open_front max ahead (Ok None) is front = front
open_front max ahead (Err fault) is front = cc

-- A part of a message is shorter than the maximum message.
pub open_is_short : (max : ℕ) (ahead : List ℕ) → IsOpen max ahead → length ahead < 4294967310
open_is_short max ahead (fine, begun) =
    let f : Frame = begun.0 in
    let more : List ℕ = begun.1 in
    let whole : length (frame_octets f) ≡ 14 + length f.text = omega arith in
    let size : length (frame_octets f) ≡ length ahead + length more = ap length begun.4 ∙ length-append ahead more in
    let bound : 10 + length f.text < 4294967296 = begun.2.size in
    omega (arith, whole, size, bound)

-- The source failed, or an allocation failed for what it returned.
pub stopped : (max : ℕ) (input ahead rest : List ℕ) (fault : ReadFault) (left : Option (List ℕ)) → input ≡ ahead ++ rest → IsOpen max ahead
    → IsUnread fault → left ≡ Some rest → IsStopped max input fault left
stopped max input ahead rest Read left parts begun unread is = (ahead, rest, parts, is, begun.0, begun.1)
stopped max input ahead rest Memory left parts begun unread is = (ahead, rest, parts, is)
stopped max input ahead rest CutOff left parts begun (inl ne) is = cc
stopped max input ahead rest CutOff left parts begun (inr ne) is = cc
stopped max input ahead rest (TooShort n) left parts begun (inl ne) is = cc
stopped max input ahead rest (TooShort n) left parts begun (inr ne) is = cc
stopped max input ahead rest (TooLong n h) left parts begun (inl ne) is = cc
stopped max input ahead rest (TooLong n h) left parts begun (inr ne) is = cc

all_of : (input : List ℕ) (left : Option (List ℕ)) → left ≡ Some [] → LeavesPart input left
all_of input left is = (input, [], sym (append-nil input), is)

-- The input ends.
pub at_the_end : (max : ℕ) (input ahead : List ℕ) (result : Result (Option (Header × ℕ)) ReadFault) (left : Option (List ℕ)) → input ≡ ahead
    → left ≡ Some [] → IsOpen max ahead → EndsAs ahead result → FindsNext max input result ahead left
at_the_end max input ahead (Ok (Some m)) left same is begun (none, found) = cc
at_the_end max input ahead (Ok None) left same is begun (none, found) = (same ∙ none, is)
at_the_end max input ahead (Err fault) left same is begun (some, cut) =
    let P : List ℕ → Type 0 = λ o. (o ≢ []) × IsFaultless max o × IsProperFront o in
    let cut_off = subst P (sym same) (some, begun.0, begun.1) in
    let Q : ReadFault → Type 0 = λ f. IsStopped max input f left in
    subst Q (sym cut) ((Some [], (cut_off.0, cut_off.1, cut_off.2, refl)), all_of input left is)

-- ---- an error at the start

field_before : (ahead rest : List ℕ) → 4 ≤ length ahead → length_field (ahead ++ rest) ≡ length_field ahead
field_before ahead rest there = ap (λ (xs : List ℕ). from_be_bytes w32 xs) (take-append-le 4 ahead rest there)

too_short : (ahead rest : List ℕ) (n : ℕ) → IsTooShort ahead n → IsTooShort (ahead ++ rest) n
too_short ahead rest n is = record {
  there = omega (arith, is.there, length-append ahead rest);
  field = is.field ∙ sym (field_before ahead rest is.there);
  short = is.short;
}

too_long : (max : ℕ) (ahead rest : List ℕ) (n : ℕ) (h : Header) → IsTooLong max ahead n h → IsTooLong max (ahead ++ rest) n h
too_long max ahead rest n h is =
    let there : 4 ≤ length ahead = omega (arith, is.there) in
    let parts : length ahead ≡ length (take 4 ahead) + length (drop 4 ahead) = ap length (sym (take-append-drop 4 ahead)) ∙ length-append (take 4 ahead) (drop 4 ahead) in
    let subsequent : 10 ≤ length (drop 4 ahead) = omega (arith, parts, length-take-le 4 ahead there, is.there) in
    record {
      there = omega (arith, is.there, length-append ahead rest);
      field = is.field ∙ sym (field_before ahead rest there);
      header = ap (take 10) (drop-append-le 4 ahead rest there) ∙ take-append-le 10 (drop 4 ahead) rest subsequent ∙ is.header;
      header_fits = is.header_fits;
      enough = is.enough;
      long = is.long;
    }

part_left : (input ahead rest : List ℕ) (left : Option (List ℕ)) → left ≡ Some rest → input ≡ ahead ++ rest → LeavesPart input left
part_left input ahead rest left is parts = (ahead, rest, parts, is)

stopped_at : (max : ℕ) (input ahead rest : List ℕ) (fault : FrameFault) (left : Option (List ℕ)) → left ≡ Some rest
    → input ≡ ahead ++ rest → FrontAs max ahead (Err fault) → IsStopped max input (read_fault_of fault) left
stopped_at max input ahead rest frame.Memory left is parts front = absurd front
stopped_at max input ahead rest (frame.TooShort n) left is parts front =
    let P : List ℕ → Type 0 = λ o. IsTooShort o n in
    ((Some (drop 4 input), (subst P (sym parts) (too_short ahead rest n front), refl)), part_left input ahead rest left is parts)
stopped_at max input ahead rest (frame.TooLong n h) left is parts front =
    let P : List ℕ → Type 0 = λ o. IsTooLong max o n h in
    ((Some (drop 14 input), (subst P (sym parts) (too_long max ahead rest n h front), refl)), part_left input ahead rest left is parts)

-- The result for what is at the start.
pub found_is_returned : (max : ℕ) (input ahead : List ℕ) (found : Result (Option (Header × ℕ)) FrameFault) (left : Option (List ℕ)) → is_open found ≡ false
    → FrontAs max ahead found → (rest : List ℕ) × (left ≡ Some rest) × (input ≡ ahead ++ rest) → FindsNext max input (found_of found) ahead left
found_is_returned max input ahead (Ok (Some m)) left closed front reads = reads
found_is_returned max input ahead (Ok None) left closed front reads = cc
found_is_returned max input ahead (Err fault) left closed front (rest, left_is, parts) = stopped_at max input ahead rest fault left left_is parts front
