-- What was read of a text that continues.
use Rattle.std.proofs.Common.{◌≡◌, ◌<◌, ◌≤◌, ◌≢◌, ◌+◌, ◌-◌, ◌*◌, ◌++◌, ◌⊎◌, inl, inr, ℕ, zero, suc, List, [], ◌∷◌, length, take, Bool, true, false, cond, eqb, Some, None, refl, sym, ap, ◌∙◌, subst, arith, append_assoc, length-append}
use Rattle.std.specs.Prelude.{Option, slice_index, ◌==◌}
use Rattle.std.specs.Str.Lines.{strip_carriage_return}
use Rattle.std.proofs.lemmas.List.{append-nil, length-take}
use Rattle.std.proofs.lemmas.List.Elements.{All-cons, All-nil, All-append}
use Rattle.std.proofs.lemmas.Bool.{cases_eq, ne_eqb}
use Rattle.hsms_machine.specs.declared.entry.Entry.{Entry}
use Rattle.hsms_log.specs.declared.verdict.Why.{Why}
use Rattle.hsms_log.specs.declared.verdict.Why.TheVariants.{Unreadable}
use Rattle.hsms_log.specs.Lines.{HasNone, IsOverlong, ended_lines, open_line, lines_of, last_lines}
use Rattle.hsms_log.specs.LineFormat.{Carries, settings_limit, line_limit}
use Rattle.hsms_log.specs.Verdict.{FailsAfter, LineFails, OverlongAfter, FailsSoFar, FailsOnward}
use Rattle.hsms_log.proofs.LineLemmas.{ended_lines-first, ended_lines-none, open_line-first, open_line-none}

-- ---- lines of a text that continues

-- A text has no line feed, or a first one.
first_feed : (text : List ℕ) → HasNone 10 text ⊎ ((part : List ℕ) × (rest : List ℕ) × (text ≡ part ++ 10 ∷ rest) × HasNone 10 part)
first_feed [] = inl (All-nil (λ x. eqb x 10 ≡ false))
first_feed (octet ∷ text) =
    elim (cases_eq octet 10) [
      | inl feed ↦ inr ([], text, ap (λ x. x ∷ text) feed, All-nil (λ x. eqb x 10 ≡ false))
      | inr other ↦
          elim (first_feed text) [
            | inl none ↦ inl (All-cons (λ x. eqb x 10 ≡ false) octet text (ne_eqb octet 10 other) none)
            | inr found ↦ inr (octet ∷ found.0, found.1, ap (λ l. octet ∷ l) found.2, All-cons (λ x. eqb x 10 ≡ false) octet found.0 (ne_eqb octet 10 other) found.3)
          ]
    ]

append_go : (fuel : ℕ) (a b : List ℕ) → length a ≤ fuel
    → (ended_lines (a ++ b) ≡ ended_lines a ++ ended_lines (open_line a ++ b)) × (open_line (a ++ b) ≡ open_line (open_line a ++ b))
append_go zero [] b h =
    let none = All-nil (λ x. eqb x 10 ≡ false) in (
      ap (λ x. ended_lines (x ++ b)) (sym (open_line-none [] none)) ∙ ap (λ l. l ++ ended_lines (open_line [] ++ b)) (sym (ended_lines-none [] none)),
      ap (λ x. open_line (x ++ b)) (sym (open_line-none [] none)),
    )
append_go zero (x ∷ a) b h = absurd (omega arith)
append_go (suc fuel) a b h =
    elim (first_feed a) [
      | inl none ↦ (
        ap (λ x. ended_lines (x ++ b)) (sym (open_line-none a none)) ∙ ap (λ l. l ++ ended_lines (open_line a ++ b)) (sym (ended_lines-none a none)),
        ap (λ x. open_line (x ++ b)) (sym (open_line-none a none)),
      )
      | inr found ↦
          let size : length a ≡ length found.0 + length (10 ∷ found.1) = ap length found.2 ∙ length-append found.0 (10 ∷ found.1) in
          let later = append_go fuel found.1 b (omega (arith, size, h)) in
          let whole : a ++ b ≡ found.0 ++ 10 ∷ (found.1 ++ b) = ap (λ l. l ++ b) found.2 ∙ append_assoc found.0 (10 ∷ found.1) b in
          let line = strip_carriage_return found.0 in
          let ended : ended_lines a ≡ line ∷ ended_lines found.1 = ap ended_lines found.2 ∙ ended_lines-first found.0 found.1 found.3 in
          let open_is : open_line a ≡ open_line found.1 = ap open_line found.2 ∙ open_line-first found.0 found.1 found.3 in (
            ap ended_lines whole ∙ ended_lines-first found.0 (found.1 ++ b) found.3 ∙ ap (λ l. line ∷ l) later.0
                ∙ ap (λ l. l ++ ended_lines (open_line found.1 ++ b)) (sym ended) ∙ ap (λ o. ended_lines a ++ ended_lines (o ++ b)) (sym open_is),
            ap open_line whole ∙ open_line-first found.0 (found.1 ++ b) found.3 ∙ later.1 ∙ ap (λ o. open_line (o ++ b)) (sym open_is),
          )
    ]

-- The lines that have ended in what was read remain the first ones.
pub ended_lines-append : (a b : List ℕ) → ended_lines (a ++ b) ≡ ended_lines a ++ ended_lines (open_line a ++ b)
ended_lines-append a b = let both = append_go (length a) a b (omega arith) in both.0

pub open_line-append : (a b : List ℕ) → open_line (a ++ b) ≡ open_line (open_line a ++ b)
open_line-append a b = let both = append_go (length a) a b (omega arith) in both.1

-- The lines of what was read remain the first lines.
pub lines_of-append : (a b : List ℕ) → lines_of (a ++ b) ≡ ended_lines a ++ lines_of (open_line a ++ b)
lines_of-append a b =
    let rest = open_line a ++ b in
    ap (λ l. l ++ last_lines (open_line (a ++ b))) (ended_lines-append a b)
    ∙ ap (λ o. (ended_lines a ++ ended_lines rest) ++ last_lines o) (open_line-append a b)
    ∙ append_assoc (ended_lines a) (ended_lines rest) (last_lines (open_line rest))

-- What follows the last line feed has none.
open_go : (fuel : ℕ) (a : List ℕ) → length a ≤ fuel → HasNone 10 (open_line a)
open_go zero [] h =
    let none = All-nil (λ x. eqb x 10 ≡ false) in
    let P : List ℕ → Type 0 = λ x. HasNone 10 x in subst P (sym (open_line-none [] none)) none
open_go zero (x ∷ a) h = absurd (omega arith)
open_go (suc fuel) a h =
    let P : List ℕ → Type 0 = λ x. HasNone 10 x in
    elim (first_feed a) [
      | inl none ↦ subst P (sym (open_line-none a none)) none
      | inr found ↦
          let size : length a ≡ length found.0 + length (10 ∷ found.1) = ap length found.2 ∙ length-append found.0 (10 ∷ found.1) in
          subst P (sym (ap open_line found.2 ∙ open_line-first found.0 found.1 found.3)) (open_go fuel found.1 (omega (arith, size, h)))
    ]

pub HasNone-open_line : (a : List ℕ) → HasNone 10 (open_line a)
HasNone-open_line a = open_go (length a) a (omega arith)

-- The lines of a text with a line feed.
pub lines_of-first : (part rest : List ℕ) → HasNone 10 part → lines_of (part ++ 10 ∷ rest) ≡ strip_carriage_return part ∷ lines_of rest
lines_of-first part rest none =
    ap (λ l. l ++ last_lines (open_line (part ++ 10 ∷ rest))) (ended_lines-first part rest none)
    ∙ ap (λ o. (strip_carriage_return part ∷ ended_lines rest) ++ last_lines o) (open_line-first part rest none)

-- ---- lines that are too long

strip_go : (b : Bool) (line : List ℕ) → length line ≤ length (cond b (take (length line - 1) line) line) + 1
strip_go true line = omega (arith, length-take (length line - 1) line)
strip_go false line = omega arith

strip-length : (line : List ℕ) → length line ≤ length (strip_carriage_return line) + 1
strip-length line = strip_go (slice_index line (length line - 1) == 13) line

pub strip_kept : (line : List ℕ) → slice_index line (length line - 1) ≢ 13 → strip_carriage_return line ≡ line
strip_kept line other = rw (ne_eqb (slice_index line (length line - 1)) 13 other) refl

-- A line that begins with an overlong part exceeds the limit.
overlong_line : (limit : ℕ) (part more : List ℕ) → IsOverlong limit part → limit < length (strip_carriage_return (part ++ more))
overlong_line limit part more (inl long) =
    omega (arith, strip-length (part ++ more), length-append part more, long)
overlong_line limit part [] (inr long) =
    let P : List ℕ → Type 0 = λ l. limit < length (strip_carriage_return l) in
    let kept : length (strip_carriage_return part) ≡ length part = ap length (strip_kept part long.1) in
    subst P (sym (append-nil part)) (omega (arith, kept, long.0))
overlong_line limit part (octet ∷ more) (inr long) =
    omega (arith, strip-length (part ++ octet ∷ more), length-append part (octet ∷ more), long.0)

last_lines-some : (text : List ℕ) → 0 < length text → last_lines text ≡ strip_carriage_return text ∷ []
last_lines-some [] h = absurd (omega arith)
last_lines-some (octet ∷ octets) h = refl

-- The first line of a text that begins with a part of the line.
first_line : (part more : List ℕ) → HasNone 10 part → 0 < length part
    → (line : List ℕ) × (after : List (List ℕ)) × (lines_of (part ++ more) ≡ line ∷ after) × ((limit : ℕ) → IsOverlong limit part → limit < length line)
first_line part more none some =
    elim (first_feed more) [
      | inl rest ↦
          let whole = All-append (λ x. eqb x 10 ≡ false) part more none rest in
          let size : length (part ++ more) ≡ length part + length more = length-append part more in (
            strip_carriage_return (part ++ more),
            [],
            ap (λ l. l ++ last_lines (open_line (part ++ more))) (ended_lines-none (part ++ more) whole)
                ∙ ap last_lines (open_line-none (part ++ more) whole) ∙ last_lines-some (part ++ more) (omega (arith, size, some)),
            λ limit long. overlong_line limit part more long,
          )
      | inr found ↦
          let whole = All-append (λ x. eqb x 10 ≡ false) part found.0 none found.3 in (
            strip_carriage_return (part ++ found.0),
            lines_of found.1,
            ap (λ m. lines_of (part ++ m)) found.2 ∙ ap lines_of (sym (append_assoc part found.0 (10 ∷ found.1))) ∙ lines_of-first (part ++ found.0) found.1 whole,
            λ limit long. overlong_line limit part found.0 long,
          )
    ]

overlong_some : (limit : ℕ) (part : List ℕ) → IsOverlong limit part → 0 < length part
overlong_some limit part (inl long) = omega (arith, long)
overlong_some limit part (inr long) = omega (arith, long.0)

after_some : (before : List (List ℕ)) (part : List ℕ) → OverlongAfter before part → 0 < length part
after_some [] part long = overlong_some settings_limit part long
after_some (first ∷ others) part (s, log, encoded_bytes, long) = overlong_some (line_limit s.max) part long

-- ---- failures of a text that continues

fails_onward : (a b : List (List ℕ)) (n : ℕ) (why : Why) → LineFails a n why → LineFails (a ++ b) n why
fails_onward a b n why (before, line, after, split, number, fails) =
    (before, line, after ++ b, ap (λ l. l ++ b) split ∙ append_assoc before (line ∷ after) b, number, fails)

long_carries : (max : ℕ) (line : List ℕ) (carried : Option Entry) → 2 * max + 64 < length line → Carries max line carried → ⊥
long_carries max line None over h = let fits = h.0 in omega (arith, fits, over)
long_carries max line (Some entry) over h = let fits = h.0 in omega (arith, fits, over)

-- A line that is too long fails after a run.
long_fails : (before : List (List ℕ)) (part line : List ℕ) → OverlongAfter before part
    → ((limit : ℕ) → IsOverlong limit part → limit < length line) → FailsAfter before line Unreadable
long_fails [] part line long is = (λ s encoded_bytes. let fits = encoded_bytes.fits in let over = is 256 long in omega (arith, fits, over), refl)
long_fails (first ∷ others) part line (s, log, encoded_bytes, long) is =
    (s, log, encoded_bytes, λ carried. long_carries s.max line carried (is (2 * s.max + 64) long))

pub FailsSoFar-onward : (text : List ℕ) (n : ℕ) (why : Why) → FailsSoFar text n why → FailsOnward text n why
FailsSoFar-onward text n why (inl fails) more =
    let P : List (List ℕ) → Type 0 = λ l. LineFails l n why in
    inl (subst P (sym (lines_of-append text more)) (fails_onward (ended_lines text) (lines_of (open_line text ++ more)) n why fails))
FailsSoFar-onward text n why (inr (number, is, long)) more =
    let first = first_line (open_line text) more (HasNone-open_line text) (after_some (ended_lines text) (open_line text) long) in
    let fails = long_fails (ended_lines text) (open_line text) first.0 long first.3 in
    let P : Why → Type 0 = λ w. FailsAfter (ended_lines text) first.0 w in
    inl (ended_lines text, first.0, first.1, lines_of-append text more ∙ ap (λ l. ended_lines text ++ l) first.2, number, subst P (sym is) fails)
