-- Frames that are written as lines, one after another.
use Rattle.std.proofs.Common.{◌≡◌, ◌≤◌, ◌<◌, ◌+◌, ◌-◌, ◌++◌, ℕ, true, List, [], ◌∷◌, length, take, drop, Ok, Err, refl, sym, ◌∙◌, ap, subst, arith}
use Rattle.std.proofs.lemmas.List.{append-nil, append_assoc, length-append, length-take-le, take_at, drop_at}
use Rattle.std.proofs.lemmas.Nat.{from_be_bytes-to_be_bytes_4}
use Rattle.std.specs.Int.{w32, to_be_bytes}
use Rattle.std.specs.Prelude.{Option, Result, OnOk, OnErr}
use Rattle.hsms_frame.specs.declared.io.Failed.{Failed}
use Rattle.hsms_frame.specs.Io.{Grows, GrowsByFront}
use Rattle.hsms_frame.specs.Frame.{Frame, frame_octets, length_field}
use Rattle.hsms_frame.specs.Header.{header_octets}
use Rattle.cli_output.specs.LineBuffer.{GrowsHolding}
use Rattle.cli_output.specs.Line.{hex_line}
use Rattle.hsms_log.proofs.Parts.{front_of_first, halves}
use Rattle.cli_show.proofs.Runs.{holding_front, holding_out, holding_then}
use Rattle.cli_filters.specs.InnerEncode.{AreFrames, outputs_of}

-- ---- the start of frames

-- The fourteen bytes before a text.
abbrev before_text : Frame → List ℕ
before_text f = to_be_bytes w32 (10 + length f.text) ++ header_octets f.header

-- Holds if there are fourteen bytes, and these follow them.
abbrev pub IsParted : List ℕ → List ℕ → List ℕ → Type 0
IsParted octets front subsequent = (front ≡ take 14 octets) × (subsequent ≡ drop 14 octets) × (length subsequent + 14 ≡ length octets)

-- Holds if they come before the text of the first frame, and count it.
abbrev pub IsAtFront : List Frame → List ℕ → List ℕ → Type 0
IsAtFront fs front subsequent =
    (others : List Frame) × (10 ≤ length_field front) × (length_field front - 10 ≤ length subsequent)
    × AreFrames others (drop (length_field front - 10) subsequent)
    × (outputs_of true fs ≡ hex_line (front ++ take (length_field front - 10) subsequent) ++ outputs_of true others)

pub at_front : (fs : List Frame) (octets front subsequent : List ℕ) → AreFrames fs octets → IsParted octets front subsequent → IsAtFront fs front subsequent
at_front [] octets front subsequent none parted =
    let no : length octets ≡ 0 = ap length none in absurd (omega (arith, no, parted.2))
at_front (f ∷ fs) octets front subsequent (rest, fits, others, is) parted =
    let long : length front ≡ 14 = ap length parted.0 ∙ length-take-le 14 octets (omega (arith, parted.2)) in
    let parts : octets ≡ front ++ subsequent = halves 14 octets front subsequent parted.0 parted.1 in
    let whole : front ++ subsequent ≡ before_text f ++ (f.text ++ rest) = sym parts ∙ is ∙ append_assoc (before_text f) f.text rest in
    let one : front ≡ before_text f = sym (take_at front subsequent 14 long) ∙ ap (take 14) whole ∙ take_at (before_text f) (f.text ++ rest) 14 refl in
    let two : subsequent ≡ f.text ++ rest = sym (drop_at front subsequent 14 long) ∙ ap (drop 14) whole ∙ drop_at (before_text f) (f.text ++ rest) 14 refl in
    let field : length_field front ≡ 10 + length f.text = ap (λ o. length_field o) one ∙ from_be_bytes-to_be_bytes_4 (10 + length f.text) fits in
    let size : length f.text ≡ length_field front - 10 = omega (arith, field) in
    let n = length_field front - 10 in
    let room : length subsequent ≡ length f.text + length rest = ap length two ∙ length-append f.text rest in
    let text : take n subsequent ≡ f.text = ap (take n) two ∙ take_at f.text rest n size in
    let after : drop n subsequent ≡ rest = ap (drop n) two ∙ drop_at f.text rest n size in
    let P : List ℕ → Type 0 = λ o. AreFrames fs o in (
      fs,
      omega (arith, field),
      omega (arith, field, room),
      subst P (sym after) others,
      ap (λ o. hex_line o ++ outputs_of true fs) (ap (λ o. before_text f ++ o) (sym text) ∙ ap (λ o. o ++ take n subsequent) (sym one)),
    )

-- If there are fewer, there is no frame.
pub none_at_front : (fs : List Frame) (octets : List ℕ) → AreFrames fs octets → length octets < 14 → outputs_of true fs ≡ []
none_at_front [] octets none short = refl
none_at_front (f ∷ fs) octets (rest, fits, others, is) short =
    let whole : length (frame_octets f) ≡ 14 + length f.text = omega arith in
    let size : length octets ≡ length (frame_octets f) + length rest = ap length is ∙ length-append (frame_octets f) rest in
    absurd (omega (arith, whole, size, short))

-- ---- lines that are appended

-- Holds if the lines of the frames that were passed are written or buffered, and the bytes of the others are left.
abbrev pub LinesSoFar : List ℕ → List ℕ → Option (List ℕ) → List ℕ → Option (List ℕ) → List ℕ → Type 0
LinesSoFar octets rest old held new now =
    (fs : List Frame) → AreFrames fs octets → (appended_text : List ℕ) × (others : List Frame) × AreFrames others rest
    × (outputs_of true fs ≡ appended_text ++ outputs_of true others) × GrowsHolding old held new now appended_text

-- One more line.
pub appends_more : (octets rest front subsequent text after : List ℕ) (size : ℕ) (old : Option (List ℕ)) (held : List ℕ) (mid : Option (List ℕ)) (then : List ℕ) (new : Option (List ℕ)) (now : List ℕ)
    → LinesSoFar octets rest old held mid then → IsParted rest front subsequent → size ≡ length_field front - 10 → text ≡ take size subsequent
    → after ≡ drop size subsequent → GrowsHolding mid then new now (hex_line (front ++ text)) → LinesSoFar octets after old held new now
appends_more octets rest front subsequent text after size old held mid then new now so_far parted size_is front_is back_is grows = λ fs are.
    let text_is : text ≡ take (length_field front - 10) subsequent = front_is ∙ ap (λ n. take n subsequent) size_is in
    let after_is : after ≡ drop (length_field front - 10) subsequent = back_is ∙ ap (λ n. drop n subsequent) size_is in
    let s = so_far fs are in
    let a = at_front s.1 rest front subsequent s.2 parted in
    let line = hex_line (front ++ text) in
    let others = outputs_of true a.0 in
    let P : List ℕ → Type 0 = λ o. AreFrames a.0 o in (
      s.0 ++ line,
      a.0,
      subst P (sym after_is) a.3,
      s.3 ∙ ap (λ o. s.0 ++ o) (a.4 ∙ ap (λ o. hex_line (front ++ o) ++ others) (sym text_is)) ∙ sym (append_assoc s.0 line others),
      holding_then old held mid then new now s.0 line s.4 grows,
    )

-- A write failed.
pub appends_part : (octets rest front subsequent text : List ℕ) (size : ℕ) (old : Option (List ℕ)) (held : List ℕ) (mid : Option (List ℕ)) (then : List ℕ) (new : Option (List ℕ))
    → LinesSoFar octets rest old held mid then → IsParted rest front subsequent → size ≡ length_field front - 10 → text ≡ take size subsequent
    → GrowsByFront mid new (then ++ hex_line (front ++ text)) → (fs : List Frame) → AreFrames fs octets → GrowsByFront old new (held ++ outputs_of true fs)
appends_part octets rest front subsequent text size old held mid then new so_far parted size_is front_is front_only = λ fs are.
    let text_is : text ≡ take (length_field front - 10) subsequent = front_is ∙ ap (λ n. take n subsequent) size_is in
    let s = so_far fs are in
    let a = at_front s.1 rest front subsequent s.2 parted in
    let line = hex_line (front ++ text) in
    let others = outputs_of true a.0 in
    let P : List ℕ → Type 0 = λ o. GrowsByFront old new o in
    let whole : held ++ s.0 ++ line ++ others ≡ held ++ outputs_of true fs =
    append_assoc (held ++ s.0) line others ∙ append_assoc held s.0 (line ++ others)
    ∙ ap (λ o. held ++ o) (ap (λ o. s.0 ++ o) (ap (λ o. hex_line (front ++ o) ++ others) text_is ∙ sym a.4) ∙ sym s.3) in
    subst P whole (front_of_first old new (held ++ s.0 ++ line) others (holding_front old held mid then new s.0 line s.4 front_only))

-- All lines were appended.
stored_all : (octets rest : List ℕ) (old : Option (List ℕ)) (held : List ℕ) (mid : Option (List ℕ)) (then : List ℕ) → LinesSoFar octets rest old held mid then → length rest < 14
    → (fs : List Frame) → AreFrames fs octets → GrowsHolding old held mid then (outputs_of true fs)
stored_all octets rest old held mid then so_far short fs are =
    let s = so_far fs are in
    let P : List ℕ → Type 0 = λ o. GrowsHolding old held mid then o in
    subst P (sym (s.3 ∙ ap (λ o. s.0 ++ o) (none_at_front s.1 rest s.2 short) ∙ append-nil s.0)) s.4

-- What is buffered at the end is written.
pub appends_all : (r : Result (Unit {0}) Failed) (octets rest : List ℕ) (old : Option (List ℕ)) (held : List ℕ) (mid : Option (List ℕ)) (then : List ℕ) (new : Option (List ℕ))
    → LinesSoFar octets rest old held mid then → length rest < 14 → OnOk r (Grows mid new then) → (fs : List Frame) → AreFrames fs octets
    → OnOk r (Grows old new (held ++ outputs_of true fs))
appends_all (Ok _) octets rest old held mid then new so_far short grows = λ fs are.
    holding_out old held mid then new (outputs_of true fs) (stored_all octets rest old held mid then so_far short fs are) grows
appends_all (Err _) octets rest old held mid then new so_far short grows = λ fs are. tt

-- A write failed at the end.
pub appends_not_all : (r : Result (Unit {0}) Failed) (octets rest : List ℕ) (old : Option (List ℕ)) (held : List ℕ) (mid : Option (List ℕ)) (then : List ℕ) (new : Option (List ℕ))
    → LinesSoFar octets rest old held mid then → length rest < 14 → OnErr r (GrowsByFront mid new then) → (fs : List Frame) → AreFrames fs octets
    → OnErr r (GrowsByFront old new (held ++ outputs_of true fs))
appends_not_all (Ok _) octets rest old held mid then new so_far short grows = λ fs are. tt
appends_not_all (Err _) octets rest old held mid then new so_far short grows = λ fs are.
    let all = outputs_of true fs in
    let P : List ℕ → Type 0 = λ o. GrowsByFront mid new o in
    let Q : List ℕ → Type 0 = λ o. GrowsByFront old new o in
    subst Q (append-nil (held ++ all))
    (holding_front old held mid then new all [] (stored_all octets rest old held mid then so_far short fs are) (subst P (sym (append-nil then)) grows))

-- ---- what is written under another name

pub grows_as : (old new : Option (List ℕ)) (xs ys : List ℕ) → xs ≡ ys → Grows old new xs → Grows old new ys
grows_as old new xs ys is grows = let P : List ℕ → Type 0 = λ o. Grows old new o in subst P is grows

pub front_as : (old new : Option (List ℕ)) (xs ys : List ℕ) → xs ≡ ys → GrowsByFront old new xs → GrowsByFront old new ys
front_as old new xs ys is grows = let P : List ℕ → Type 0 = λ o. GrowsByFront old new o in subst P is grows
