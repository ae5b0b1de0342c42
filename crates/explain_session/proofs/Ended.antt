-- The checks of an entry end.
use Rattle.std.proofs.Common.{◌≡◌, ◌≤◌, ◌+◌, ◌++◌, suc, inl, inr, ℕ, List, [], ◌∷◌, Some, None, refl, sym, ap, ◌∙◌, subst, arith, append_assoc, length}
use Rattle.std.proofs.lemmas.List.{append-nil}
use Rattle.secs_item.proofs.Texts.{some_text_answer, not_both_of_text}
use Rattle.secs_item.specs.Encoding.{IsOctets}
use Rattle.hsms_frame.specs.declared.header.Header.{Header}
use Rattle.hsms_machine.specs.declared.entry.Mark.{Mark}
use Rattle.hsms_machine.specs.declared.entry.Mark.TheVariants.{Sent as MarkSent, Taken as MarkTaken, Discarded as MarkDiscarded}
use Rattle.hsms_machine.specs.Entry.{frame_event}
use Rattle.hsms_machine.specs.declared.entry.Entry.{Entry}
use Rattle.hsms_machine.specs.Laws.{HasOctets}
use Rattle.hsms_machine.specs.RepairLaws.{judgements}
use Rattle.hsms_machine.specs.Repair.{Change, Other, First, Without, Asks, Steps, Passed, LeftOut, Changed, Preceded, RepairedBy, IsRepaired, change_by, repair_of}
use Rattle.hsms_machine.specs.Settings.{Parameters}
use Rattle.hsms_machine.specs.View.{view_of, waiting_of}
use Rattle.hsms_machine.proofs.ValidEntries.{one_first}
use Rattle.hsms_machine.proofs.RepairedLogs.{each_one_repaired}
use Rattle.hsms_machine.proofs.RepairEntries.{asks_not}
use Rattle.explain_session.specs.declared.repaired_session.Failure.{Failure}
use Rattle.explain_session.specs.declared.repaired_session.Checked.{Checked}
use Rattle.explain_session.specs.declared.repaired_session.Checked.TheVariants.{Lawful, Broken}
use Rattle.explain_lines.specs.declared.annotation.Note.{Note}
use Rattle.hsms_log.specs.declared.step.Step.{Step}
use Rattle.hsms_log.specs.declared.step.What.{What}
use Rattle.hsms_log.specs.declared.step.What.TheVariants as what
use Rattle.explain_session.specs.RepairedSession.{CurrentState}
use Rattle.explain_session.specs.Clock.{by_clock, clock_at}
use Rattle.explain_session.specs.declared.clock.Clock.{Clock}
use Rattle.explain_session.specs.RepairedLines.{AreTimed, LinesAreRepaired, LinesCarry, LinesPut, last_time_of}
use Rattle.explain_session.specs.RepairSteps.{AreChecked, IsChecked, RepairsEntry, changed, left_of}
use Rattle.explain_session.specs.InnerRepairSteps.{LeadsOn, most_steps}
use Rattle.hsms_log.specs.Step.{entry_by, entry_of_what}

at_least_one : (steps : Steps) → 1 ≤ judgements steps
at_least_one Passed = omega arith
at_least_one LeftOut = omega arith
at_least_one (Changed steps) = omega arith
at_least_one (Preceded one more) = omega arith

-- A failure requires the change that its repair makes.
asked : (s : Parameters) (log : List Entry) (entry : Entry) (failure : Failure) (change : Change) → IsChecked s log entry (Broken failure) → Asks s log entry change
    → change_by failure.repair_action entry ≡ change
asked s log entry failure change (broken, repair_action) (rule, asks, is) =
    let rules : Some failure.rule ≡ Some rule = one_first s log entry (Some failure.rule) (Some rule) broken asks in
    let same : failure.rule ≡ rule = cc in
    ap (λ r. change_by r entry) (repair_action ∙ ap (repair_of (view_of s log) entry) same) ∙ is

-- Holds if the checks of an entry, followed by other pending entries, come to its end, and other checks follow.
abbrev Ends : Parameters → List Entry → Steps → List Checked → List Entry → List Entry → List Entry → Type 0
Ends s log steps check_result entries more put =
    (rest : List Checked) × AreChecked s (log ++ put) rest more × (length check_result ≡ judgements steps + length rest)
    × (left_of check_result entries ≡ left_of rest more)

-- After a check that requires a change.
ends_on : (s : Parameters) (log : List Entry) (steps later : Steps) (failure : Failure) (change : Change) (rest : List Checked) (entry : Entry) (more put : List Entry)
    → change_by failure.repair_action entry ≡ change → judgements steps ≡ suc (judgements later)
    → Ends s log later rest (changed change entry more) more put → Ends s log steps (Broken failure ∷ rest) (entry ∷ more) more put
ends_on s log steps later failure change rest entry more put is count (last, are, size, left) =
    (last, are, omega (arith, count, size), ap (λ c. left_of rest (changed c entry more)) is ∙ left)

row_ends : (s : Parameters) (log : List Entry) (steps : Steps) (entry : Entry) (put : List Entry) (check_result : List Checked) (more : List Entry) → RepairedBy s log steps entry put
    → AreChecked s log check_result (entry ∷ more) → judgements steps ≤ length check_result → Ends s log steps check_result (entry ∷ more) more put
row_ends s log steps entry put [] more entry_repaired are few = let some = at_least_one steps in absurd (omega (arith, some, few))
row_ends s log Passed entry put (Lawful closed ∷ rest) more (is_valid, is) (so, are) few =
    (rest, subst (λ p. AreChecked s (log ++ p) rest more) (sym is) are, omega arith, refl)
row_ends s log Passed entry put (Broken failure ∷ rest) more (is_valid, is) (so, are) few =
    let d : None ≡ Some failure.rule = one_first s log entry None (Some failure.rule) is_valid so.0 in absurd cc
row_ends s log LeftOut entry put (Lawful closed ∷ rest) more (asks, is) (so, are) few = absurd (asks_not s log entry Without so asks)
row_ends s log LeftOut entry put (Broken failure ∷ rest) more (asks, is) (so, are) few =
    let change = asked s log entry failure Without so asks in
    let next : AreChecked s log rest more = subst (λ c. AreChecked s log rest (changed c entry more)) change are in (
      rest,
      subst (λ l. AreChecked s l rest more) (sym (append-nil log) ∙ ap (λ p. log ++ p) (sym is)) next,
      omega arith,
      ap (λ c. left_of rest (changed c entry more)) change,
    )
row_ends s log (Changed steps) entry put (Lawful closed ∷ rest) more (other, asks, entry_repaired) (so, are) few = absurd (asks_not s log entry (Other other) so asks)
row_ends s log (Changed steps) entry put (Broken failure ∷ rest) more (other, asks, entry_repaired) (so, are) few =
    let change = asked s log entry failure (Other other) so asks in
    let next : AreChecked s log rest (other ∷ more) = subst (λ c. AreChecked s log rest (changed c entry more)) change are in
    ends_on s log (Changed steps) steps failure (Other other) rest entry more put change refl
    (row_ends s log steps other put rest more entry_repaired next (omega (arith, few)))
row_ends s log (Preceded one further) entry put (Lawful closed ∷ rest) more (first, before, own, asks, first_repaired, own_repaired, split) (so, are) few =
    absurd (asks_not s log entry (First first) so asks)
row_ends s log (Preceded one further) entry put (Broken failure ∷ rest) more (first, before, own, asks, first_repaired, own_repaired, split) (so, are) few =
    let change = asked s log entry failure (First first) so asks in
    let next : AreChecked s log rest (first ∷ entry ∷ more) = subst (λ c. AreChecked s log rest (changed c entry more)) change are in
    let (mid, mid_are, mid_size, mid_left) = row_ends s log one first before rest (entry ∷ more) first_repaired next (omega (arith, few)) in
    let (last, last_are, last_size, last_left) = row_ends s (log ++ before) further entry own mid more own_repaired mid_are (omega (arith, few, mid_size)) in (
      last,
      subst (λ l. AreChecked s l last more) (append_assoc log before own ∙ ap (λ p. log ++ p) (sym split)) last_are,
      omega (arith, mid_size, last_size),
      ap (λ c. left_of rest (changed c entry more)) change ∙ mid_left ∙ last_left,
    )

-- No entry is left of a single entry.
alone_ends : (s : Parameters) (log : List Entry) (steps : Steps) (entry : Entry) (put : List Entry) (check_result : List Checked) → RepairedBy s log steps entry put
    → AreChecked s log check_result (entry ∷ []) → judgements steps ≤ length check_result → left_of check_result (entry ∷ []) ≡ []
alone_ends s log steps entry put check_result entry_repaired are few = none_left (row_ends s log steps entry put check_result [] entry_repaired are few) where
  none_left : Ends s log steps check_result (entry ∷ []) [] put → left_of check_result (entry ∷ []) ≡ []
  none_left ([], none, size, left) = left
  none_left (one ∷ rest, none, size, left) = absurd none

pub octets_of : (step : Step) (text : List ℕ) → IsOctets text → HasOctets (entry_by step text).event
octets_of step text octets = of_what step.what where
  of_mark : (mark : Mark) (header : Header) → HasOctets (frame_event mark (record { header = header; text = text }))
  of_mark MarkSent header = octets
  of_mark MarkTaken header = octets
  of_mark MarkDiscarded header = octets

  of_what : (w : What) → HasOctets (entry_of_what step.time w text).event
  of_what (what.Frame mark header) = of_mark mark header
  of_what what.Up = tt
  of_what (what.T3 system) = tt
  of_what (what.Cut cause) = tt
  of_what what.Down = tt

-- After the maximum number of checks, no entry is left.
pub all_done : (old new : CurrentState) (entry : Entry) (before after : List Note) → HasOctets entry.event
    → LeadsOn (most_steps (waiting_of old.tracker) + 1) old (entry ∷ []) before new after → RepairsEntry old entry before new after
all_done old new entry before after fits (check_result, leads, notes, (few, inl none)) = (check_result, leads, notes, λ s log placed has. none)
all_done old new entry before after fits (check_result, leads, notes, (few, inr all)) = (
  check_result,
  leads,
  notes,
  λ s log placed has.
      let found = each_one_repaired some_text_answer not_both_of_text s log entry has.run.run fits in
      let wait : waiting_of (view_of s log) ≡ waiting_of old.tracker = ap waiting_of has.run.seen in
      alone_ends s log found.0 entry found.1 check_result found.2 (leads s log placed has).0 (omega (arith, found.3, wait, all)),
)

-- ---- law

lines_repaired : (s : Parameters) (number : ℕ) (log : List Entry) (clock last : Clock) (lines : List (List ℕ)) (after placed : List Entry)
    → LinesPut s number log clock lines after placed last
    → (entries : List Entry) × (timed : List Entry) × LinesCarry s.max lines entries × AreTimed entries timed × IsRepaired s log timed after
lines_repaired s number log clock last [] after placed puts = ([], [], refl, refl, puts.0)
lines_repaired s number log clock last (line ∷ lines) after placed (put, next, rest, places, inl (blank, none, kept), is, placed_is, later) =
    let (entries, timed, carry, are, repaired) = lines_repaired s (number + 1) (log ++ put) next last lines rest places later in (
      entries,
      timed,
      ([], entries, inl (blank, refl), carry, refl),
      are,
      subst (λ l. IsRepaired s l timed after) (ap (λ p. log ++ p) none ∙ append-nil log)
          (subst (λ a. IsRepaired s (log ++ put) timed a) (sym (is ∙ ap (λ p. p ++ rest) none)) repaired),
    )
lines_repaired s number log clock last (line ∷ lines) after placed (put, next, rest, places, inr (inl (unread, none, kept)), is, placed_is, later) =
    let (entries, timed, carry, are, repaired) = lines_repaired s (number + 1) (log ++ put) next last lines rest places later in (
      entries,
      timed,
      ([], entries, inr (inl (unread, refl)), carry, refl),
      are,
      subst (λ l. IsRepaired s l timed after) (ap (λ p. log ++ p) none ∙ append-nil log)
          (subst (λ a. IsRepaired s (log ++ put) timed a) (sym (is ∙ ap (λ p. p ++ rest) none)) repaired),
    )
lines_repaired s number log clock last (line ∷ lines) after placed (put, next, rest, places, inr (inr (entry, carries, ((steps, entry_repaired), stepped))), is, placed_is, later) =
    let (entries, timed, carry, are, repaired) = lines_repaired s (number + 1) (log ++ put) next last lines rest places later in
    let at = last_time_of s log in (
      entry ∷ entries,
      by_clock at clock entry ∷ timed,
      (entry ∷ [], entries, inr (inr (entry, carries, refl)), carry, refl),
      ((clock_at at clock entry.time).offset, timed, are, refl),
      (steps, put, rest, entry_repaired, repaired, is),
    )

pub lines_are_repaired : LinesAreRepaired
lines_are_repaired s number clock last lines after placed puts = lines_repaired s number [] clock last lines after placed puts
