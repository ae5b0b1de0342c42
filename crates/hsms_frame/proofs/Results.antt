-- Each input has a result that is not a refusal, and so have pending bytes.
use Rattle.std.proofs.Common.{◌≡◌, ◌≢◌, ◌≤◌, ◌<◌, ◌+◌, ◌-◌, ◌^◌, ℕ, List, [], length, take, drop, Some, None, Ok, Err, refl, sym, ◌∙◌, ap, subst, inl, inr, arith}
use Rattle.std.specs.Prelude.{Option, Result}
use Rattle.std.proofs.lemmas.Bool.{cases_lt}
use Rattle.std.proofs.lemmas.List.{length-drop, length-take-le, nil_from_length, append_cancel_left}
use Rattle.hsms_frame.specs.declared.header.Header.{Header}
use Rattle.hsms_frame.specs.declared.fault.ReadFault.{ReadFault}
use Rattle.hsms_frame.specs.declared.fault.ReadFault.TheVariants.{TooShort, TooLong, Memory, CutOff, Read}
use Rattle.hsms_frame.specs.declared.fault.FrameFault.{FrameFault}
use Rattle.hsms_frame.specs.declared.fault.FrameFault.TheVariants as framing
use Rattle.hsms_frame.specs.Frame.{Frame, frame_octets, IsOctets, IsFaultless, IsProperFront, length_field}
use Rattle.hsms_frame.specs.Reading.{ReadsAs, IsRefusal}
use Rattle.hsms_frame.specs.Framing.{FramesAs}
use Rattle.hsms_frame.proofs.Octets.{IsOctets-take, IsOctets-drop}
use Rattle.hsms_frame.proofs.FramedMessages.{subsequent, length-subsequent, header_of, header_octets-header_of, IsHeader-header_of, cut_within, faultless}
use Rattle.hsms_frame.proofs.ReadResults.{nonempty, too_short, too_long, read_whole}
use Rattle.hsms_frame.proofs.Prefixes.{cut_in_field}
use Rattle.hsms_frame.proofs.Determined.{one_answer, one_framed}

-- A result for an input that the input decides.
abbrev Decided : ℕ → List ℕ → Type 0
Decided max input =
    (answer : Result (Option Frame) ReadFault) × (left : Option (List ℕ)) × (IsRefusal answer → ⊥) × ReadsAs max input answer left

ok_decides : (frame : Option Frame) → IsRefusal (Ok frame) → ⊥
ok_decides frame (inl e) = absurd cc
ok_decides frame (inr e) = absurd cc

short_decides : (n : ℕ) → IsRefusal (Err (TooShort n)) → ⊥
short_decides n (inl e) = absurd cc
short_decides n (inr e) = absurd cc

long_decides : (n : ℕ) (h : Header) → IsRefusal (Err (TooLong n h)) → ⊥
long_decides n h (inl e) = absurd cc
long_decides n h (inr e) = absurd cc

cut_decides : IsRefusal (Err CutOff) → ⊥
cut_decides (inl e) = absurd cc
cut_decides (inr e) = absurd cc

-- The input ends within a message.
ends_within : (max : ℕ) (input : List ℕ) → 0 < length input → IsFaultless max input → IsProperFront input → Decided max input
ends_within max input some none front = (Err CutOff, Some [], cut_decides, (nonempty input some, none, front, refl))

-- There is a complete message.
whole_message : (max : ℕ) (input : List ℕ) → IsOctets input → 14 ≤ length input → 10 ≤ length_field input → length_field input ≤ max
    → 4 + length_field input ≤ length input → Decided max input
whole_message max input fits there enough within whole =
    let size : ℕ = length_field input - 10 in
    let text : List ℕ = take size (subsequent input) in
    let front : List ℕ = take 10 (drop 4 input) in
    let octets : IsOctets front = IsOctets-take 10 (drop 4 input) (IsOctets-drop 4 input fits) in
    let count : length front ≡ 10 = length-take-le 10 (drop 4 input) (omega (arith, length-drop 4 input)) in
    let bound : length_field input < 2 ^ 32 = (let a = IsOctets-take 4 input fits in omega (arith, a 0, a 1, a 2, a 3)) in
    let left : Option (List ℕ) = Some (drop size (subsequent input)) in (
      Ok (Some (record { header = header_of front; text = text })),
      left,
      ok_decides _,
      read_whole max input text (length_field input) (header_of front) left there refl enough within bound (IsOctets-take 4 input fits)
          (header_octets-header_of front count octets) (IsHeader-header_of front octets)
          (omega (arith, length-subsequent input), refl, IsOctets-take size (subsequent input) (IsOctets-drop 10 (drop 4 input) (IsOctets-drop 4 input fits)), refl),
    )

-- The header is present.
past_header : (max : ℕ) (input : List ℕ) → IsOctets input → 14 ≤ length input → 10 ≤ length_field input → Decided max input
past_header max input fits there enough =
    let front : List ℕ = take 10 (drop 4 input) in
    let octets : IsOctets front = IsOctets-take 10 (drop 4 input) (IsOctets-drop 4 input fits) in
    let count : length front ≡ 10 = length-take-le 10 (drop 4 input) (omega (arith, length-drop 4 input)) in
    elim (cases_lt max (length_field input)) [
      | inl long ↦ (
        Err (TooLong (length_field input) (header_of front)),
        Some (drop 14 input),
        long_decides _ _,
        (
          too_long max input (length_field input) (header_of front) there refl (header_octets-header_of front count octets) (IsHeader-header_of front octets) enough long,
          refl,
        ),
      )
      | inr within ↦ elim (cases_lt (length input) (4 + length_field input)) [
        | inl short ↦
            ends_within max input (omega arith) (faultless max input (λ _. enough) (λ _. within)) (cut_within input fits (omega arith) enough short)
        | inr whole ↦ whole_message max input fits there enough within whole
      ]
    ]

-- The length field is present.
past_field : (max : ℕ) (input : List ℕ) → IsOctets input → 4 ≤ length input → Decided max input
past_field max input fits there =
    elim (cases_lt (length_field input) 10) [
      | inl short ↦ (
        Err (TooShort (length_field input)),
        Some (drop 4 input),
        short_decides _,
        (too_short input (length_field input) there refl short, refl),
      )
      | inr enough ↦ elim (cases_lt (length input) 14) [
        | inl few ↦
            ends_within max input (omega arith) (faultless max input (λ _. enough) (λ full. absurd (omega arith))) (cut_within input fits there enough (omega arith))
        | inr full ↦ past_header max input fits full enough
      ]
    ]

pub some_answer : (max : ℕ) (input : List ℕ) → IsOctets input
    → (answer : Result (Option Frame) ReadFault) × (left : Option (List ℕ)) × (IsRefusal answer → ⊥) × ReadsAs max input answer left
some_answer max input fits =
    elim (cases_lt (length input) 4) [
      | inl few ↦ elim (cases_lt 0 (length input)) [
        | inl some ↦ (let cut = cut_in_field max input fits few in ends_within max input some cut.0 cut.1)
        | inr none ↦ (Ok None, Some [], ok_decides None, (nil_from_length input (omega arith), refl))
      ]
      | inr there ↦ past_field max input fits there
    ]

-- A result determines what is left.
one_left : (max : ℕ) (input : List ℕ) (answer : Result (Option Frame) ReadFault) (left other : Option (List ℕ)) → (IsRefusal answer → ⊥)
    → ReadsAs max input answer left → ReadsAs max input answer other → left ≡ other
one_left max input (Ok (Some f)) left other decides h k =
    h.2 ∙ ap Some (append_cancel_left (frame_octets f) h.0 k.0 (sym h.1 ∙ k.1)) ∙ sym k.2
one_left max input (Ok None) left other decides h k = h.1 ∙ sym k.1
one_left max input (Err (TooShort n)) left other decides h k = h.1 ∙ sym k.1
one_left max input (Err (TooLong n g)) left other decides h k = h.1 ∙ sym k.1
one_left max input (Err CutOff) left other decides h k = h.3 ∙ sym k.3
one_left max input (Err Memory) left other decides h k = absurd (decides (inl refl))
one_left max input (Err Read) left other decides h k = absurd (decides (inr refl))

pub no_other : (max : ℕ) (input : List ℕ) (a b : Result (Option Frame) ReadFault) (left other : Option (List ℕ)) → (IsRefusal a → ⊥)
    → (IsRefusal b → ⊥) → ReadsAs max input a left → ReadsAs max input b other → (a ≡ b) × (left ≡ other)
no_other max input a b left other decides decides_too h k =
    let same : a ≡ b = (elim (one_answer max input a b left other h k) [
      | inl r ↦ absurd (decides_too r)
      | inr (inl r) ↦ absurd (decides r)
      | inr (inr p) ↦ p
    ]) in
    let P : Result (Option Frame) ReadFault → Type 0 = λ x. ReadsAs max input x left in
    (same, one_left max input b left other decides_too (subst P same h) k)

-- A result of a read is a result for pending bytes.
as_pending : (max : ℕ) (pending : List ℕ) (answer : Result (Option Frame) ReadFault) (left : Option (List ℕ)) → IsOctets pending
    → (IsRefusal answer → ⊥) → ReadsAs max pending answer left
    → (framed : Result (Option Frame) FrameFault) × (rest : List ℕ) × (framed ≢ Err framing.Memory) × FramesAs max pending framed rest
as_pending max pending (Ok (Some f)) left fits decides h = (Ok (Some f), h.0, (λ e. absurd cc), (h.1, h.3, h.4))
as_pending max pending (Ok None) left fits decides h =
    let none : length pending ≡ 0 = ap length h.0 in
    let cut = cut_in_field max pending fits (omega arith) in
    (Ok None, pending, (λ e. absurd cc), (cut.0, cut.1, refl))
as_pending max pending (Err (TooShort n)) left fits decides h = (Err (framing.TooShort n), pending, (λ e. absurd cc), (h.0, refl))
as_pending max pending (Err (TooLong n g)) left fits decides h = (Err (framing.TooLong n g), pending, (λ e. absurd cc), (h.0, refl))
as_pending max pending (Err CutOff) left fits decides h = (Ok None, pending, (λ e. absurd cc), (h.1, h.2, refl))
as_pending max pending (Err Memory) left fits decides h = absurd (decides (inl refl))
as_pending max pending (Err Read) left fits decides h = absurd (decides (inr refl))

pub some_framed : (max : ℕ) (pending : List ℕ) → IsOctets pending
    → (answer : Result (Option Frame) FrameFault) × (rest : List ℕ) × (answer ≢ Err framing.Memory) × FramesAs max pending answer rest
some_framed max pending fits =
    let a = some_answer max pending fits in
    as_pending max pending a.0 a.1 fits a.2 a.3

one_rest : (max : ℕ) (pending : List ℕ) (answer : Result (Option Frame) FrameFault) (rest other : List ℕ) → answer ≢ Err framing.Memory
    → FramesAs max pending answer rest → FramesAs max pending answer other → rest ≡ other
one_rest max pending (Ok (Some f)) rest other decides h k = append_cancel_left (frame_octets f) rest other (sym h.0 ∙ k.0)
one_rest max pending (Ok None) rest other decides h k = h.2 ∙ sym k.2
one_rest max pending (Err (framing.TooShort n)) rest other decides h k = h.1 ∙ sym k.1
one_rest max pending (Err (framing.TooLong n g)) rest other decides h k = h.1 ∙ sym k.1
one_rest max pending (Err framing.Memory) rest other decides h k = absurd (decides refl)

pub no_other_framed : (max : ℕ) (pending : List ℕ) (a b : Result (Option Frame) FrameFault) (rest other : List ℕ) → a ≢ Err framing.Memory
    → b ≢ Err framing.Memory → FramesAs max pending a rest → FramesAs max pending b other → (a ≡ b) × (rest ≡ other)
no_other_framed max pending a b rest other decides decides_too h k =
    let same : a ≡ b = (elim (one_framed max pending a b rest other h k) [
      | inl r ↦ absurd (decides_too r)
      | inr (inl r) ↦ absurd (decides r)
      | inr (inr p) ↦ p
    ]) in
    let P : Result (Option Frame) FrameFault → Type 0 = λ x. FramesAs max pending x rest in
    (same, one_rest max pending b rest other decides_too (subst P same h) k)
