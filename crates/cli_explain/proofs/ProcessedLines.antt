-- How the state after a text changes with its next bytes.
use Rattle.std.proofs.Common.{◌≡◌, ◌≢◌, ◌≤◌, ◌<◌, ◌+◌, ◌-◌, ◌++◌, inl, inr, min, ℕ, List, [], ◌∷◌, length, take, eqb, false, cond, true, Bool, None, refl, sym, ap, ◌∙◌, subst, arith, append_assoc, length-append}
use Rattle.std.specs.Prelude.{Option, MatchOption, slice_index, ◌==◌}
use Rattle.std.specs.Str.Lines.{strip_carriage_return}
use Rattle.std.proofs.lemmas.List.{append-nil, length-take, take_all, take_min, take-append-le}
use Rattle.std.proofs.lemmas.Bool.{cases_lt}
use Rattle.std.proofs.Math.Seq.{take-append-add}
use Rattle.std.proofs.lemmas.List.Elements.{All-nil, All-append}
use Rattle.hsms_log.specs.Lines.{HasNone, ended_lines, open_line, last_lines, lines_of}
use Rattle.hsms_log.proofs.LineLemmas.{ended_lines-first, ended_lines-none, open_line-first, open_line-none}
use Rattle.hsms_log.proofs.GrowingTexts.{ended_lines-append, open_line-append, HasNone-open_line}
use Rattle.cli_explain.specs.declared.explainer.Explainer.{Explainer}
use Rattle.cli_explain.specs.declared.audit_state.Stage.{Stage}
use Rattle.explain_statistics.specs.declared.failure_counts.Failed.{Failed}
use Rattle.explain_statistics.specs.declared.failure_counts.Tally.{Tally}
use Rattle.explain_statistics.specs.EntryCounts.{counts_of}
use Rattle.explain_statistics.specs.InnerFirstFailure.{FailsFirst}
use Rattle.cli_explain.specs.InnerLinesProcessed.{HasProcessed, IsShown, ProcessedAfter, UnjudgedAfter, limit_at}

none_of : HasNone 10 []
none_of = All-nil (λ x. eqb x 10 ≡ false)

-- ---- the buffered part of a line

-- The prefix of a prefix that continues is the prefix of the complete line.
held_more : (n : ℕ) (all part held : List ℕ) → held ≡ take n all
    → held ++ take (min (length part) (n - length held)) part ≡ take n (all ++ part)
held_more n all part held is =
    let P : List ℕ → Type 0 = λ h. h ++ take (min (length part) (n - length h)) part ≡ take n (all ++ part) in
    let size = length-take n all in
    subst P (sym is)
    (elim (cases_lt n (length all)) [
      | inl long ↦
          let none : min (length part) (n - length (take n all)) ≡ 0 = omega (arith, size, long) in
          ap (λ k. take n all ++ take k part) none ∙ append-nil (take n all) ∙ sym (take-append-le n all part (omega (arith, long)))
      | inr short ↦
          let kept : take n all ≡ all = take_all n all short in
          let more : n - length (take n all) ≡ n - length all = ap (λ l. n - length l) kept in
          let turned : min (length part) (n - length (take n all)) ≡ min (n - length all) (length part) = omega (arith, more) in
          let whole : length all + (n - length all) ≡ n = omega (arith, short) in
          ap (λ k. take n all ++ take k part) turned ∙ ap (λ l. take n all ++ l) (take_min (n - length all) part)
          ∙ ap (λ l. l ++ take (n - length all) part) kept ∙ sym (take-append-add all part (n - length all)) ∙ ap (λ k. take k (all ++ part)) whole
    ])

strip_go : (b : Bool) (line : List ℕ) → length line ≤ length (cond b (take (length line - 1) line) line) + 1
strip_go true line = omega (arith, length-take (length line - 1) line)
strip_go false line = omega arith

strip-length : (line : List ℕ) → length line ≤ length (strip_carriage_return line) + 1
strip-length line = strip_go (slice_index line (length line - 1) == 13) line

-- A prefix of a line that is too long is too long too.
front_long : (limit : ℕ) (whole : List ℕ) → limit + 2 ≤ length whole → IsShown limit (strip_carriage_return whole) (strip_carriage_return (take (limit + 2) whole))
front_long limit whole long =
    let size = length-take (limit + 2) whole in
    inr (omega (arith, long, strip-length whole), omega (arith, long, size, strip-length (take (limit + 2) whole)))

pub front_shown : (limit : ℕ) (whole front : List ℕ) → front ≡ take (limit + 2) whole → IsShown limit (strip_carriage_return whole) (strip_carriage_return front)
front_shown limit whole front is =
    let P : List ℕ → Type 0 = λ l. IsShown limit (strip_carriage_return whole) (strip_carriage_return l) in
    subst P (sym is)
    (elim (cases_lt (limit + 2) (length whole)) [
      | inl long ↦ front_long limit whole (omega (arith, long))
      | inr short ↦ inl (ap strip_carriage_return (sym (take_all (limit + 2) whole short)))
    ])

-- ---- the lines of a text that continues

held_none : (text part : List ℕ) → HasNone 10 part → HasNone 10 (open_line text ++ part)
held_none text part none = All-append (λ x. eqb x 10 ≡ false) (open_line text) part (HasNone-open_line text) none

part_lines : (text part : List ℕ) → HasNone 10 part
    → (ended_lines (text ++ part) ≡ ended_lines text) × (open_line (text ++ part) ≡ open_line text ++ part)
part_lines text part none =
    let both = held_none text part none in (
      ended_lines-append text part ∙ ap (λ l. ended_lines text ++ l) (ended_lines-none (open_line text ++ part) both) ∙ append-nil (ended_lines text),
      open_line-append text part ∙ open_line-none (open_line text ++ part) both,
    )

end_lines : (text part : List ℕ) → HasNone 10 part
    → (ended_lines (text ++ (part ++ 10 ∷ [])) ≡ ended_lines text ++ strip_carriage_return (open_line text ++ part) ∷ [])
    × (open_line (text ++ (part ++ 10 ∷ [])) ≡ [])
end_lines text part none =
    let both = held_none text part none in
    let joined : open_line text ++ (part ++ 10 ∷ []) ≡ (open_line text ++ part) ++ 10 ∷ [] = sym (append_assoc (open_line text) part (10 ∷ [])) in
    let line : ended_lines ((open_line text ++ part) ++ 10 ∷ []) ≡ strip_carriage_return (open_line text ++ part) ∷ [] =
    ended_lines-first (open_line text ++ part) [] both ∙ ap (λ l. strip_carriage_return (open_line text ++ part) ∷ l) (ended_lines-none [] none_of) in (
      ended_lines-append text (part ++ 10 ∷ []) ∙ ap (λ l. ended_lines text ++ ended_lines l) joined ∙ ap (λ l. ended_lines text ++ l) line,
      open_line-append text (part ++ 10 ∷ []) ∙ ap open_line joined ∙ open_line-first (open_line text ++ part) [] both ∙ open_line-none [] none_of,
    )

-- ---- what was processed

front_none : (n : ℕ) → ◌≡◌ {A = List ℕ} (take n []) []
front_none n = take_all n [] (omega arith)

pub none_emitted : (tally : Tally) → tally.first ≡ None → tally.entries ≡ counts_of [] → UnjudgedAfter 0 tally []
none_emitted tally first entries =
    let P : Option Failed → Type 0 = λ f. MatchOption f ((◌≡◌ {A = List (List ℕ)} [] []) × (◌≡◌ {A = ℕ} 0 0) × (tally.entries ≡ counts_of [])) (FailsFirst []) in
    (subst P (sym first) (refl, refl, entries), refl)

pub processed_none : (explainer : Explainer) → explainer.held.items ≡ [] → ProcessedAfter explainer.stage explainer.report.tally [] → HasProcessed explainer []
processed_none explainer none shown_line =
    let P : List (List ℕ) → Type 0 = λ l. ProcessedAfter explainer.stage explainer.report.tally l in
    let no_line = ended_lines-none [] none_of in
    record {
      lines = subst P (sym no_line) shown_line;
      held = none ∙ sym (ap (take (limit_at explainer.stage + 2)) (open_line-none [] none_of) ∙ front_none (limit_at explainer.stage + 2));
      few = omega (arith, ap length no_line);
    }

-- The line continues.
pub processed_part : (old new : Explainer) (text part : List ℕ) → HasNone 10 part → new.stage ≡ old.stage → new.report.tally ≡ old.report.tally
    → new.held.items ≡ old.held.items ++ take (min (length part) (limit_at old.stage + 2 - length old.held.items)) part
    → HasProcessed old text → HasProcessed new (text ++ part)
processed_part old new text part none stage tally held reception =
    let lines = part_lines text part none in
    let S : Stage → Type 0 = λ s. ProcessedAfter s old.report.tally (ended_lines text) in
    let T : Tally → Type 0 = λ t. ProcessedAfter new.stage t (ended_lines text) in
    let P : List (List ℕ) → Type 0 = λ l. ProcessedAfter new.stage new.report.tally l in
    let H : Stage → Type 0 = λ s. new.held.items ≡ take (limit_at s + 2) (open_line (text ++ part)) in
    let size = length-append text part in
    let same = ap length lines.0 in
    record {
      lines = subst P (sym lines.0) (subst T (sym tally) (subst S (sym stage) reception.lines));
      held = subst H (sym stage)
          (held ∙ held_more (limit_at old.stage + 2) (open_line text) part old.held.items reception.held ∙ ap (take (limit_at old.stage + 2)) (sym lines.1));
      few = omega (arith, reception.few, size, same);
    }

-- The line has ended.
pub processed_line : (old new : Explainer) (text part shown : List ℕ) → HasNone 10 part → new.held.items ≡ []
    → IsShown (limit_at old.stage) (strip_carriage_return (open_line text ++ part)) shown
    → ((before : List (List ℕ)) (real : List ℕ) → IsShown (limit_at old.stage) real shown → ProcessedAfter old.stage old.report.tally before
    → ProcessedAfter new.stage new.report.tally (before ++ real ∷ []))
    → HasProcessed old text → HasProcessed new (text ++ (part ++ 10 ∷ []))
processed_line old new text part shown none held is_shown shown_line reception =
    let lines = end_lines text part none in
    let line = strip_carriage_return (open_line text ++ part) in
    let P : List (List ℕ) → Type 0 = λ l. ProcessedAfter new.stage new.report.tally l in
    let size = length-append text (part ++ 10 ∷ []) in
    let more = length-append part (10 ∷ []) in
    let one = length-append (ended_lines text) (line ∷ []) in
    let same = ap length lines.0 in
    record {
      lines = subst P (sym lines.0) (shown_line (ended_lines text) line is_shown reception.lines);
      held = held ∙ sym (ap (take (limit_at new.stage + 2)) lines.1 ∙ front_none (limit_at new.stage + 2));
      few = omega (arith, reception.few, size, more, one, same);
    }

none_front : (n : ℕ) (all : List ℕ) → 0 < n → take n all ≡ [] → all ≡ []
none_front n [] some is = refl
none_front n (octet ∷ all) some is = let size = length-take n (octet ∷ all) in let none = ap length is in absurd (omega (arith, size, none, some))

-- If nothing is buffered, no line is incomplete.
pub nothing_open : (explainer : Explainer) (text : List ℕ) → explainer.held.items ≡ [] → HasProcessed explainer text → open_line text ≡ []
nothing_open explainer text none reception = none_front (limit_at explainer.stage + 2) (open_line text) (omega arith) (sym reception.held ∙ none)

-- The buffered line has ended.
pub processed_held : (old new : Explainer) (text shown : List ℕ) → shown ≡ strip_carriage_return old.held.items → new.held.items ≡ []
    → ((before : List (List ℕ)) (real : List ℕ) → IsShown (limit_at old.stage) real shown → ProcessedAfter old.stage old.report.tally before
    → ProcessedAfter new.stage new.report.tally (before ++ real ∷ []))
    → HasProcessed old text → HasProcessed new (text ++ 10 ∷ [])
processed_held old new text shown shown_is held shown_line reception =
    let line = open_line text in
    let P : List ℕ → Type 0 = λ l. IsShown (limit_at old.stage) (strip_carriage_return l) shown in
    let Q : List ℕ → Type 0 = λ l. IsShown (limit_at old.stage) (strip_carriage_return line) l in
    processed_line old new text [] shown none_of held
    (subst P (sym (append-nil line)) (subst Q (sym shown_is) (front_shown (limit_at old.stage) line old.held.items reception.held))) shown_line reception

-- A line has ended that is complete in the input.
pub processed_complete : (old new : Explainer) (text part shown : List ℕ) → HasNone 10 part → old.held.items ≡ [] → new.held.items ≡ []
    → shown ≡ strip_carriage_return part
    → ((before : List (List ℕ)) (real : List ℕ) → IsShown (limit_at old.stage) real shown → ProcessedAfter old.stage old.report.tally before
    → ProcessedAfter new.stage new.report.tally (before ++ real ∷ []))
    → HasProcessed old text → HasProcessed new (text ++ (part ++ 10 ∷ []))
processed_complete old new text part shown none empty held shown_is shown_line reception =
    processed_line old new text part shown none held
    (inl (ap (λ o. strip_carriage_return (o ++ part)) (nothing_open old text empty reception) ∙ sym shown_is)) shown_line reception

-- The end of the text, if it is after a line feed.
pub ended_all : (explainer : Explainer) (text : List ℕ) → explainer.held.items ≡ [] → HasProcessed explainer text
    → ProcessedAfter explainer.stage explainer.report.tally (lines_of text) × (length (lines_of text) ≤ length text + 1)
ended_all explainer text none reception =
    let all : lines_of text ≡ ended_lines text = ap (λ o. ended_lines text ++ last_lines o) (nothing_open explainer text none reception) ∙ append-nil (ended_lines text) in
    let P : List (List ℕ) → Type 0 = λ l. ProcessedAfter explainer.stage explainer.report.tally l in
    let same = ap length all in
    (subst P (sym all) reception.lines, omega (arith, same, reception.few))

last_line : (text : List ℕ) → text ≢ [] → last_lines text ≡ strip_carriage_return text ∷ []
last_line [] some = absurd (some refl)
last_line (octet ∷ octets) some = refl

-- The end of the text, if an incomplete line continues up to it.
pub last_ended : (old new : Explainer) (text : List ℕ) → old.held.items ≢ [] → (HasProcessed old text → HasProcessed new (text ++ 10 ∷ [])) → HasProcessed old text
    → ProcessedAfter new.stage new.report.tally (lines_of text) × (length (lines_of text) ≤ length text + 1)
last_ended old new text some next reception =
    let lines = end_lines text [] none_of in
    let then_processed = next reception in
    let open_some : open_line text ≢ [] = λ none. some (reception.held ∙ ap (take (limit_at old.stage + 2)) none ∙ front_none (limit_at old.stage + 2)) in
    let all : lines_of text ≡ ended_lines (text ++ 10 ∷ []) =
    ap (λ l. ended_lines text ++ l) (last_line (open_line text) open_some)
    ∙ ap (λ l. ended_lines text ++ strip_carriage_return l ∷ []) (sym (append-nil (open_line text))) ∙ sym lines.0 in
    let P : List (List ℕ) → Type 0 = λ l. ProcessedAfter new.stage new.report.tally l in
    let same = ap length all in
    let size = length-append text (10 ∷ []) in
    (subst P (sym all) then_processed.lines, omega (arith, same, size, then_processed.few))
