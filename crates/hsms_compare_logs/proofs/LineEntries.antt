-- The entries of lines.
use Rattle.std.proofs.Common.{◌≡◌, ◌++◌, ◌+◌, ◌*◌, ◌-◌, ◌<◌, ◌≤◌, ◌⊎◌, inl, inr, ℕ, List, [], ◌∷◌, length, take, Some, None, Bool, true, false, eqb, cond, refl, sym, ◌∙◌, ap, subst, arith, append_assoc, length-append}
use Rattle.std.specs.Prelude.{Option, slice_index, ◌==◌}
use Rattle.std.specs.Str.Lines.{strip_carriage_return}
use Rattle.std.proofs.lemmas.List.{length-take}
use Rattle.std.proofs.lemmas.List.Elements.{All-cons, All-nil, All-append}
use Rattle.std.proofs.lemmas.Bool.{cases_eq, ne_eqb}
use Rattle.hsms_machine.specs.declared.entry.Entry.{Entry as LogEntry}
use Rattle.hsms_log.specs.Lines.{HasNone, ended_lines, open_line}
use Rattle.hsms_log.specs.LineFormat.{Carries, line_limit}
use Rattle.hsms_log.proofs.LineLemmas.{ended_lines-first, ended_lines-none, open_line-first, open_line-none}
use Rattle.hsms_log.proofs.Uniqueness.{Carries-unique}
use Rattle.hsms_compare.specs.Conversation.{Line}
use Rattle.hsms_compare_logs.specs.declared.read_entry.Content.{Content}
use Rattle.hsms_compare_logs.specs.declared.input.InputLine.{InputLine}
use Rattle.hsms_compare_logs.specs.declared.input.InputLine.TheVariants.{TooLong}
use Rattle.hsms_compare_logs.specs.InnerReader.{IsContent, IsLine}
use Rattle.hsms_compare_logs.specs.LogEntries.{AreEntries, AreLastEntries, IsUnreadable, at_line, has_frame, without_frame}
use Rattle.hsms_compare_logs.specs.Entries.{AreOfText}

-- ---- the first line

pub of_first : (max number : ℕ) (part left : List ℕ) (found : List Line) → HasNone 10 part → AreOfText max number (part ++ 10 ∷ left) found
    → AreEntries max number (strip_carriage_return part ∷ ended_lines left) (open_line left) found
of_first max number part left found none h =
    let P : List (List ℕ) → Type 0 = λ x. AreEntries max number x (open_line (part ++ 10 ∷ left)) found in
    let Q : List ℕ → Type 0 = λ x. AreEntries max number (strip_carriage_return part ∷ ended_lines left) x found in
    subst Q (open_line-first part left none) (subst P (ended_lines-first part left none) h)

pub of_last : (max number : ℕ) (part : List ℕ) (found : List Line) → HasNone 10 part → AreOfText max number part found → AreLastEntries max number part found
of_last max number part found none h =
    let P : List (List ℕ) → Type 0 = λ x. AreEntries max number x (open_line part) found in
    let Q : List ℕ → Type 0 = λ x. AreLastEntries max number x found in
    subst Q (open_line-none part none) (subst P (ended_lines-none part none) h)

-- ---- the content of an ended line

pub ended_unreadable : (max number : ℕ) (line : List ℕ) (lines : List (List ℕ)) (last : List ℕ) (found : List Line) → IsUnreadable max line → AreEntries max number (line ∷ lines) last found → found ≡ []
ended_unreadable max number line lines last found bad (inl h) = h.1
ended_unreadable max number line lines last found bad (inr h) = absurd (bad h.0 h.2)

pub ended_carries : (max number : ℕ) (line : List ℕ) (lines : List (List ℕ)) (last : List ℕ) (found : List Line) (carried : Option LogEntry) → Carries max line carried → AreEntries max number (line ∷ lines) last found
    → (later : List Line) × (found ≡ at_line number carried ++ later) × AreEntries max (number + 1) lines last later
ended_carries max number line lines last found carried good (inl h) = absurd (h.0 carried good)
ended_carries max number line lines last found carried good (inr h) =
    (h.1, h.4 ∙ ap (λ x. at_line number x ++ h.1) (Carries-unique max line h.0 carried h.2 good), h.3)

-- ---- the content of the last line

pub last_unreadable : (max number : ℕ) (line : List ℕ) (found : List Line) → IsUnreadable max (strip_carriage_return line) → AreLastEntries max number line found → found ≡ []
last_unreadable max number [] found bad h = h
last_unreadable max number (octet ∷ octets) found bad (inl h) = h.1
last_unreadable max number (octet ∷ octets) found bad (inr h) = absurd (bad h.0 h.1)

pub last_carries : (max number : ℕ) (line : List ℕ) (found : List Line) (carried : Option LogEntry) → (line ≡ [] → ⊥) → Carries max (strip_carriage_return line) carried → AreLastEntries max number line found → found ≡ at_line number (without_frame carried)
last_carries max number [] found carried some good h = absurd (some refl)
last_carries max number (octet ∷ octets) found carried some good (inl h) = absurd (h.0 carried good)
last_carries max number (octet ∷ octets) found carried some good (inr h) =
    h.2 ∙ ap (λ x. at_line number (without_frame x)) (Carries-unique max (strip_carriage_return (octet ∷ octets)) h.0 carried h.1 good)

pub last_blank : (max number : ℕ) (line : List ℕ) (found : List Line) → Carries max (strip_carriage_return line) None → AreLastEntries max number line found → found ≡ []
last_blank max number [] found good h = h
last_blank max number (octet ∷ octets) found good h = last_carries max number (octet ∷ octets) found None (λ e. cc e) good h

pub framed : (number : ℕ) (entry : LogEntry) (b : Bool) → b ≡ has_frame entry.event → b ≡ true → at_line number (without_frame (Some entry)) ≡ []
framed number entry b e f = let g : has_frame entry.event ≡ true = sym e ∙ f in rw g refl

pub unframed : (number : ℕ) (entry : LogEntry) (b : Bool) → b ≡ has_frame entry.event → b ≡ false → at_line number (without_frame (Some entry)) ≡ record { position = number; entry = entry } ∷ []
unframed number entry b e f = let g : has_frame entry.event ≡ false = sym e ∙ f in rw g refl

-- ---- a line that is too long

pub first_feed : (text : List ℕ) → HasNone 10 text ⊎ ((part : List ℕ) × (rest : List ℕ) × (text ≡ part ++ 10 ∷ rest) × HasNone 10 part)
first_feed [] = inl (All-nil (λ x. eqb x 10 ≡ false))
first_feed (octet ∷ text) =
    elim (cases_eq octet 10) [
      | inl feed ↦ inr ([], text, ap (λ x. x ∷ text) feed, All-nil (λ x. eqb x 10 ≡ false))
      | inr other ↦
          elim (first_feed text) [
            | inl none ↦ inl (All-cons (λ x. eqb x 10 ≡ false) octet text (ne_eqb octet 10 other) none)
            | inr found ↦ inr (octet ∷ found.0, found.1, ap (λ l. octet ∷ l) found.2, All-cons (λ x. eqb x 10 ≡ false) octet found.0 (ne_eqb octet 10 other) found.3)
          ]
    ]

strip_go : (b : Bool) (line : List ℕ) → length line ≤ length (cond b (take (length line - 1) line) line) + 1
strip_go true line = omega (arith, length-take (length line - 1) line)
strip_go false line = omega arith

pub strip-length : (line : List ℕ) → length line ≤ length (strip_carriage_return line) + 1
strip-length line = strip_go (slice_index line (length line - 1) == 13) line

carried_fits : (max : ℕ) (line : List ℕ) (carried : Option LogEntry) → Carries max line carried → length line ≤ line_limit max
carried_fits max line None h = h.0
carried_fits max line (Some entry) h = h.0

overlong_unreadable : (max : ℕ) (part more : List ℕ) → 2 * max + 64 + 1 < length part → IsUnreadable max (strip_carriage_return (part ++ more))
overlong_unreadable max part more long carried h =
    let a = carried_fits max (strip_carriage_return (part ++ more)) carried h in
    let b = strip-length (part ++ more) in
    let c = length-append part more in
    omega arith

pub too_long : (max number : ℕ) (text part more : List ℕ) (found : List Line) → text ≡ part ++ more → HasNone 10 part → 2 * max + 64 + 1 < length part → AreOfText max number text found → found ≡ []
too_long max number text part more found e none long h =
    elim (first_feed more) [
      | inl rest ↦
          let R : List ℕ → Type 0 = λ x. AreOfText max number x found in
          let all : HasNone 10 (part ++ more) = All-append (λ (x : ℕ). (x == 10) ≡ false) part more none rest in
          last_unreadable max number (part ++ more) found (overlong_unreadable max part more long) (of_last max number (part ++ more) found all (subst R e h))
      | inr feed ↦
          let R : List ℕ → Type 0 = λ x. AreOfText max number x found in
          let all : HasNone 10 (part ++ feed.0) = All-append (λ (x : ℕ). (x == 10) ≡ false) part feed.0 none feed.3 in
          let split : text ≡ (part ++ feed.0) ++ 10 ∷ feed.1 = e ∙ ap (λ x. part ++ x) feed.2 ∙ sym (append_assoc part feed.0 (10 ∷ feed.1)) in
          ended_unreadable max number (strip_carriage_return (part ++ feed.0)) (ended_lines feed.1) (open_line feed.1) found
          (overlong_unreadable max part feed.0 long) (of_first max number (part ++ feed.0) feed.1 found all (subst R split h))
    ]

pub too_long_line : (max number : ℕ) (text left : List ℕ) (line : InputLine) (found : List Line) → line ≡ TooLong → IsLine (2 * max + 64) text line left → AreOfText max number text found → found ≡ []
too_long_line max number text left line found is at h =
    let P : InputLine → Type 0 = λ x. IsLine (2 * max + 64) text x left in
    let a = subst P is at in
    too_long max number text a.0 a.1 found a.2 a.3 a.4 h

-- ---- the content that was read

pub content_as : (max : ℕ) (line stripped : List ℕ) (a b : Content) → a ≡ b → stripped ≡ strip_carriage_return line → IsContent max stripped a → IsContent max (strip_carriage_return line) b
content_as max line stripped a b e f h =
    let P : Content → Type 0 = λ x. IsContent max stripped x in
    let Q : List ℕ → Type 0 = λ x. IsContent max x b in
    subst Q f (subst P e h)

pub last_empty : (max number : ℕ) (line : List ℕ) (found : List Line) → length line ≡ 0 → AreLastEntries max number line found → found ≡ []
last_empty max number [] found none h = h
last_empty max number (octet ∷ octets) found none h = absurd (omega (arith, none))

pub not_empty : (line : List ℕ) → 0 < length line → line ≡ [] → ⊥
not_empty line some e = let l = ap length e in omega arith
