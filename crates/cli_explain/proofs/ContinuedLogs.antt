-- How the repaired log grows with a line.
use Rattle.std.proofs.Common.{◌≡◌, ◌+◌, ◌++◌, inl, inr, ℕ, List, [], ◌∷◌, length, map, refl, sym, ap, ◌∙◌, subst, arith, append_assoc, length-append}
use Rattle.std.proofs.lemmas.List.{append-nil}
use Rattle.hsms_machine.specs.declared.entry.Entry.{Entry}
use Rattle.hsms_machine.specs.OpeningLines.{at_place}
use Rattle.hsms_machine.specs.Repair.{Steps, RepairedBy}
use Rattle.hsms_machine.specs.Settings.{Parameters}
use Rattle.hsms_machine.specs.declared.view.View.{View}
use Rattle.hsms_log.specs.LineFormat.{EncodesSettings, line_limit, settings_limit}
use Rattle.explain_session.specs.declared.context.Known.{Known}
use Rattle.explain_lines.specs.declared.annotation.Note.{Note}
use Rattle.explain_lines.specs.declared.explained_line.Carried.{Carried}
use Rattle.explain_lines.specs.declared.explained_line.Carried.TheVariants as carried
use Rattle.explain_lines.specs.Counted.{counted}
use Rattle.explain_session.specs.RepairedSession.{CurrentState, HasProgress}
use Rattle.explain_session.specs.Clock.{by_clock, clock_after, steady}
use Rattle.explain_session.specs.RepairedLines.{LinePuts, LinesPut, last_time_of}
use Rattle.explain_session.specs.InnerRepairedLines.{ContinuesWith, RepairsLine, clock_after_line}
use Rattle.explain_session.specs.declared.clock.Clock.{Clock}
use Rattle.cli_explain.specs.InnerLinesProcessed.{IsShown}
use Rattle.explain_lines.specs.CarriedLine.{IsCarried}
use Rattle.explain_session.specs.RepairSteps.{put_of}
use Rattle.hsms_log.specs.Step.{entry_by}
use Rattle.cli_explain.proofs.FollowingLines.{carried_shown, next_progress, encoded_shown}
use Rattle.explain_session.proofs.RepairRows.{steps_repair}

-- ---- numbers

pub number_more : (so_far number : ℕ) (before : List (List ℕ)) (line : List ℕ) → number ≡ counted (so_far + 1) → so_far ≡ counted (length before)
    → number ≡ counted (length (before ++ line ∷ []))
number_more so_far number before line next so = let size = length-append before (line ∷ []) in omega (arith, next, so, size)

none_before : (before : List (List ℕ)) → 0 ≡ counted (length before) → before ≡ []
none_before [] is = refl
none_before (line ∷ before) is = absurd (omega (arith, is))

-- ---- one more line

lines_push : (s : Parameters) (number : ℕ) (log : List Entry) (clock mid next : Clock) (lines : List (List ℕ)) (line : List ℕ) (after placed put : List Entry)
    → LinesPut s number log clock lines after placed mid → LinePuts s (log ++ after) mid line put next
    → LinesPut s number log clock (lines ++ line ∷ []) (after ++ put) (placed ++ map (at_place (counted (number + length lines))) put) next
lines_push s number log clock mid next [] line after placed put (none, nowhere, still) puts =
    let places = map (at_place (counted number)) put in
    let same : map (at_place (counted (number + length {A = List ℕ} []))) put ≡ places = ap (λ n. map (at_place (counted n)) put) (omega arith) in
    let L : List Entry → Type 0 = λ l. LinePuts s l clock line put next in
    let M : Clock → Type 0 = λ c. LinePuts s (log ++ after) c line put next in (
      put,
      next,
      [],
      [],
      subst L (ap (λ l. log ++ l) none ∙ append-nil log) (subst M still puts),
      ap (λ l. l ++ put) none ∙ sym (append-nil put),
      ap (λ l. placed ++ l) same ∙ ap (λ l. l ++ places) nowhere ∙ sym (append-nil places),
      (refl, refl, refl),
    )
lines_push s number log clock mid next (first ∷ others) line after placed put (own, then, rest, places, own_puts, is, placed_is, more) puts =
    let here = at_place (counted number) in
    let there = map (at_place (counted (number + length (first ∷ others)))) put in
    let further = map (at_place (counted ((number + 1) + length others))) put in
    let same : further ≡ there = ap (λ n. map (at_place (counted n)) put) (omega arith) in
    let L : List Entry → Type 0 = λ l. LinePuts s l mid line put next in
    let subsequent = subst L (ap (λ l. log ++ l) is ∙ sym (append_assoc log own rest)) puts in (
      own,
      then,
      rest ++ put,
      places ++ further,
      own_puts,
      ap (λ l. l ++ put) is ∙ append_assoc own rest put,
      ap (λ l. l ++ there) placed_is ∙ append_assoc (map here own) places there ∙ ap (λ l. map here own ++ (places ++ l)) (sym same),
      lines_push s (number + 1) (log ++ own) then mid next others line rest places put more subsequent,
    )

-- The entries that the line appends, and the repaired session after it.
continues_so : (old new : Known) (mid : CurrentState) (line : List ℕ) (what : Carried) (notes : List Note) (log placed : List Entry)
    → IsCarried old.settings.max line what → RepairsLine mid old.clock what new.repaired_session notes
    → new.clock ≡ clock_after_line old.settings.t3 mid old.clock what → HasProgress old.settings log placed mid
    → (put : List Entry) × LinePuts old.settings log old.clock line put new.clock × HasProgress old.settings (log ++ put) (placed ++ map (at_place mid.line) put) new.repaired_session
continues_so old new mid line (carried.Entry step text) notes log placed carries (check_result, leads, noted, done) clocks has =
    let entry = entry_by step text.now in
    let audited = by_clock mid.tracker.last_time old.clock entry in
    let (are, later) = leads old.settings log placed has in
    let (steps, entry_repaired) = steps_repair old.settings log audited check_result are (done old.settings log placed has) in
    let put = put_of check_result (audited ∷ []) in
    let seen : last_time_of old.settings log ≡ mid.tracker.last_time = ap (λ (v : View). v.last_time) has.run.seen in
    let E : ℕ → Type 0 = λ n. ((steps : Steps) × RepairedBy old.settings log steps (by_clock n old.clock entry) put)
    × (new.clock ≡ clock_after old.settings.t3 n old.clock entry.time) in
    (put, inr (inr (entry, carries, subst E (sym seen) ((steps, entry_repaired), clocks))), later)
continues_so old new mid line carried.Nothing notes log placed carries (same, none) clocks has =
    let L : List Entry → Type 0 = λ l. HasProgress old.settings l (placed ++ []) new.repaired_session in
    let Q : List Entry → Type 0 = λ p. HasProgress old.settings log p new.repaired_session in
    let C : CurrentState → Type 0 = λ c. HasProgress old.settings log placed c in
    ([], inl (carries, refl, clocks), subst L (sym (append-nil log)) (subst Q (sym (append-nil placed)) (subst C (sym same) has)))
continues_so old new mid line (carried.Unreadable reasoned) notes log placed carries (same, noted) clocks has =
    let L : List Entry → Type 0 = λ l. HasProgress old.settings l (placed ++ []) new.repaired_session in
    let Q : List Entry → Type 0 = λ p. HasProgress old.settings log p new.repaired_session in
    let C : CurrentState → Type 0 = λ c. HasProgress old.settings log placed c in
    ([], inr (inl (carries, refl, clocks)), subst L (sym (append-nil log)) (subst Q (sym (append-nil placed)) (subst C (sym same) has)))

pub later_continues : (old new : Known) (mid : CurrentState) (before : List (List ℕ)) (line shown : List ℕ) (what : Carried) (notes : List Note)
    → mid ≡ next_progress old.repaired_session → IsShown (line_limit old.settings.max) line shown → IsCarried old.settings.max shown what
    → new.settings ≡ old.settings → new.repaired_session.line ≡ mid.line → RepairsLine mid old.clock what new.repaired_session notes
    → new.clock ≡ clock_after_line old.settings.t3 mid old.clock what → ContinuesWith old before
    → ContinuesWith new (before ++ line ∷ [])
later_continues old new mid [] line shown what notes mid_is is_shown is_carried same line_is repairs clocks proceeds = absurd proceeds
later_continues old new mid (first ∷ lines) line shown what notes mid_is is_shown is_carried same line_is repairs clocks (log, placed, encoded_bytes, puts, has, number) =
    let s = old.settings in
    let C : CurrentState → Type 0 = λ c. HasProgress s log placed c in
    let at_next : HasProgress s log placed (next_progress old.repaired_session) = record { run = has.run; lines = has.lines; times = has.times } in
    let (put, line_puts, later) = continues_so old new mid line what notes log placed (carried_shown s.max line shown what is_shown is_carried) repairs clocks (subst C (sym mid_is) at_next) in
    let mid_line : mid.line ≡ counted (old.repaired_session.line + 1) = ap (λ (c : CurrentState). c.line) mid_is in
    let next : mid.line ≡ counted (2 + length lines) = omega (arith, mid_line, number) in
    let all = lines ++ line ∷ [] in
    let N : ℕ → Type 0 = λ n. LinesPut s 2 [] steady all (log ++ put) (placed ++ map (at_place n) put) new.clock in
    let grown = subst N (sym next) (lines_push s 2 [] steady old.clock new.clock lines line log placed put puts line_puts) in
    let P : Parameters → Type 0 = λ p. EncodesSettings first p × LinesPut p 2 [] steady all (log ++ put) (placed ++ map (at_place mid.line) put) new.clock
    × HasProgress p (log ++ put) (placed ++ map (at_place mid.line) put) new.repaired_session in
    let (encoded_now, puts_now, has_now) = subst P (sym same) (encoded_bytes, grown, later) in
    let size = length-append lines (line ∷ []) in
    (log ++ put, placed ++ map (at_place mid.line) put, encoded_now, puts_now, has_now, omega (arith, line_is, next, size))

-- The first line.
pub first_continues : (known : Known) (settings : Parameters) (before : List (List ℕ)) (line shown : List ℕ) → 0 ≡ counted (length before)
    → IsShown settings_limit line shown → EncodesSettings shown settings → known.settings ≡ settings → HasProgress settings [] [] known.repaired_session
    → known.repaired_session.line ≡ 1 → known.clock ≡ steady → ContinuesWith known (before ++ line ∷ [])
first_continues known settings before line shown none is_shown encoded_bytes same has number still =
    let G : List (List ℕ) → Type 0 = λ l. ContinuesWith known (l ++ line ∷ []) in
    let P : Parameters → Type 0 = λ s. EncodesSettings line s × HasProgress s [] [] known.repaired_session in
    let both = subst P (sym same) (encoded_shown line shown settings is_shown encoded_bytes, has) in
    subst G (sym (none_before before none)) ([], [], both.0, (refl, refl, still), both.1, number)
