-- Consecutive checks.
use Rattle.std.proofs.Common.{◌≡◌, ◌<◌, ◌≤◌, ◌+◌, ◌++◌, inl, inr, ℕ, List, [], ◌∷◌, Some, None, refl, sym, ap, ◌∙◌, subst, arith, append_assoc, map, reverse, length, length-append, option_to_list}
use Rattle.std.proofs.lemmas.List.{append-nil, map-append, reverse-append, length-map, length-reverse}
use Rattle.std.specs.Prelude.{Option}
use Rattle.hsms_machine.specs.declared.entry.Entry.{Entry}
use Rattle.hsms_machine.specs.declared.repair.RepairAction.{RepairAction}
use Rattle.hsms_machine.specs.declared.repair.RepairAction.TheVariants.{Raise, Discard, LeaveOut}
use Rattle.hsms_machine.specs.declared.view.View.{View}
use Rattle.hsms_machine.specs.OpeningLines.{at_place}
use Rattle.hsms_machine.specs.Repair.{Change, Other, First, Without, Asks, Passed, LeftOut, Changed, Preceded, RepairedBy, IsRepaired, change_by, entry_of_event, repair_of, thrown_away}
use Rattle.hsms_machine.specs.Settings.{Parameters}
use Rattle.hsms_machine.specs.View.{waiting_of}
use Rattle.explain_session.specs.declared.repaired_session.Failure.{Failure}
use Rattle.explain_session.specs.declared.repaired_session.Opening.{Opening}
use Rattle.explain_session.specs.declared.repaired_session.Checked.{Checked}
use Rattle.explain_session.specs.declared.repaired_session.Checked.TheVariants.{Lawful, Broken}
use Rattle.explain_lines.specs.declared.annotation.Note.{Note}
use Rattle.hsms_log.specs.declared.step.Step.{Step}
use Rattle.hsms_log.specs.declared.step.What.{What}
use Rattle.hsms_log.specs.declared.step.What.TheVariants as what
use Rattle.explain_session.specs.RepairedSession.{CurrentState, HasProgress, ForEachProgress, ChecksAs}
use Rattle.explain_session.specs.RepairSteps.{AreChecked, IsChecked, LeadsBy, Notes, NotesSay, NoteSays, StepsRepair, changed, left_of, log_after, next_after, put_of, put_with, recorded_of, recorded_with}
use Rattle.explain_session.specs.InnerRepairSteps.{AreDone, LeadsOn, StepsOn, entries_of, most_steps}
use Rattle.hsms_log.specs.Step.{entry_by, entry_of_what}

-- ---- what a check appends, and what it records

put_before : (check_result : Checked) (log : List Entry) (entry : Entry) (later : List Entry) → log_after check_result log entry ++ later ≡ log ++ put_with check_result entry later
put_before (Lawful closed) log entry later = append_assoc log (entry ∷ []) later
put_before (Broken failure) log entry later = refl

put_further : (check_result : Checked) (entry : Entry) (one other : List Entry) → put_with check_result entry one ++ other ≡ put_with check_result entry (one ++ other)
put_further (Lawful closed) entry one other = refl
put_further (Broken failure) entry one other = refl

recorded_further : (check_result : Checked) (more : List Entry) (one other : List Checked) → recorded_with check_result more one ++ other ≡ recorded_with check_result more (one ++ other)
recorded_further check_result [] one other = refl
recorded_further check_result (entry ∷ more) one other = refl

-- ---- one more check

left_push : (check_result : List Checked) (one : Checked) (entries : List Entry) (entry : Entry) (more : List Entry) → left_of check_result entries ≡ entry ∷ more
    → left_of (check_result ++ one ∷ []) entries ≡ next_after one entry more
left_push [] one entries entry more is =
    let P : List Entry → Type 0 = λ e. left_of (one ∷ []) e ≡ next_after one entry more in subst P (sym is) refl
left_push (first ∷ others) one [] entry more is = absurd cc
left_push (first ∷ others) one (next ∷ entries) entry more is = left_push others one (next_after first next entries) entry more is

put_push : (check_result : List Checked) (one : Checked) (entries : List Entry) (entry : Entry) (more : List Entry) → left_of check_result entries ≡ entry ∷ more
    → put_of (check_result ++ one ∷ []) entries ≡ put_of check_result entries ++ put_with one entry []
put_push [] one entries entry more is =
    let P : List Entry → Type 0 = λ e. put_of (one ∷ []) e ≡ put_with one entry [] in subst P (sym is) refl
put_push (first ∷ others) one [] entry more is = absurd cc
put_push (first ∷ others) one (next ∷ entries) entry more is =
    let left = next_after first next entries in
    ap (put_with first next) (put_push others one left entry more is) ∙ sym (put_further first next (put_of others left) (put_with one entry []))

recorded_push : (check_result : List Checked) (one : Checked) (entries : List Entry) (entry : Entry) (more : List Entry) → left_of check_result entries ≡ entry ∷ more
    → recorded_of (check_result ++ one ∷ []) entries ≡ recorded_of check_result entries ++ recorded_with one more []
recorded_push [] one entries entry more is =
    let P : List Entry → Type 0 = λ e. recorded_of (one ∷ []) e ≡ recorded_with one more [] in subst P (sym is) refl
recorded_push (first ∷ others) one [] entry more is = absurd cc
recorded_push (first ∷ others) one (next ∷ entries) entry more is =
    let left = next_after first next entries in
    ap (recorded_with first entries) (recorded_push others one left entry more is) ∙ sym (recorded_further first entries (recorded_of others left) (recorded_with one more []))

checked_push : (s : Parameters) (log : List Entry) (check_result : List Checked) (one : Checked) (entries : List Entry) (entry : Entry) (more : List Entry)
    → left_of check_result entries ≡ entry ∷ more → AreChecked s log check_result entries → IsChecked s (log ++ put_of check_result entries) entry one
    → AreChecked s log (check_result ++ one ∷ []) entries
checked_push s log [] one entries entry more is none so =
    let P : List Entry → Type 0 = λ e. AreChecked s log (one ∷ []) e in
    let L : List Entry → Type 0 = λ l. IsChecked s l entry one in
    subst P (sym is) (subst L (append-nil log) so, tt)
checked_push s log (first ∷ others) one [] entry more is none so = absurd none
checked_push s log (first ∷ others) one (next ∷ entries) entry more is (first_so, others_so) so =
    let left = next_after first next entries in
    let L : List Entry → Type 0 = λ l. IsChecked s l entry one in
    (first_so, checked_push s (log_after first log next) others one left entry more is others_so (subst L (sym (put_before first log next (put_of others left))) so))

-- ---- annotations

notes_then : (shown_line other : List Checked) (notes last : List Note) → NotesSay shown_line notes → NotesSay other last → NotesSay (shown_line ++ other) (notes ++ last)
notes_then [] other notes last none says =
    let P : List Note → Type 0 = λ n. NotesSay other (n ++ last) in subst P (sym none) says
notes_then (first ∷ others) other notes last (one, rest, one_says, rest_say, is) says =
    (one, rest ++ last, one_says, notes_then others other rest last rest_say says, ap (λ n. n ++ last) is ∙ append_assoc one rest last)

notes_on : (before mid after : List Note) (shown_line other : List Checked) → Notes before shown_line mid → Notes mid other after → Notes before (shown_line ++ other) after
notes_on before mid after shown_line other (notes, say, is) (last, last_say, last_is) =
    (notes ++ last, notes_then shown_line other notes last say last_say, last_is ∙ ap (λ n. n ++ last) is ∙ append_assoc before notes last)

pub no_notes : (before : List Note) → Notes before [] before
no_notes before = ([], refl, sym (append-nil before))

pub quiet_note : (before : List Note) (one : Checked) → one ≡ Lawful None → Notes before (one ∷ []) before
quiet_note before one is =
    let P : Checked → Type 0 = λ j. Notes before (j ∷ []) before in
    subst P (sym is) ([], ([], [], refl, refl, refl), sym (append-nil before))

pub one_note : (before after notes : List Note) (one : Checked) → NoteSays one notes → after ≡ before ++ notes → Notes before (one ∷ []) after
one_note before after notes one says is = (notes, (notes, [], says, refl, sym (append-nil notes)), is)

-- ---- a repaired session

checked_next : (old new : CurrentState) (entry : Entry) (one : Checked) → ChecksAs old entry new one
    → ForEachProgress old (λ s log placed. IsChecked s log entry one
    × HasProgress s (log ++ put_with one entry []) (placed ++ map (at_place old.line) (put_with one entry [])) new)
checked_next old new entry (Lawful closed) (is_valid, leads, closes) s log placed has = (is_valid s log placed has, leads s log placed has)
checked_next old new entry (Broken failure) (broken, same, concerns, repair_action) s log placed has =
    let L : List Entry → Type 0 = λ l. HasProgress s l (placed ++ []) new in
    let Q : List Entry → Type 0 = λ p. HasProgress s log p new in
    let C : CurrentState → Type 0 = λ c. HasProgress s log placed c in (
      (broken s log placed has, repair_action ∙ ap (λ (v : View). repair_of v entry failure.rule) (sym has.run.seen)),
      subst L (sym (append-nil log)) (subst Q (sym (append-nil placed)) (subst C (sym same) has)),
    )

leads_push : (old mid new : CurrentState) (check_result : List Checked) (one : Checked) (entries : List Entry) (entry : Entry) (more : List Entry)
    → mid.line ≡ old.line → left_of check_result entries ≡ entry ∷ more → LeadsBy old check_result entries mid → ChecksAs mid entry new one
    → LeadsBy old (check_result ++ one ∷ []) entries new
leads_push old mid new check_result one entries entry more line left leads gives_verdict s log placed has =
    let (so_far, later) = leads s log placed has in
    let put = put_of check_result entries in
    let last = put_with one entry [] in
    let all = put_of (check_result ++ one ∷ []) entries in
    let place = at_place old.line in
    let (is, next) = checked_next mid new entry one gives_verdict s (log ++ put) (placed ++ map place put) later in
    let grown : put ++ last ≡ all = sym (put_push check_result one entries entry more left) in
    let log_is : (log ++ put) ++ last ≡ log ++ all = append_assoc log put last ∙ ap (λ l. log ++ l) grown in
    let placed_is : (placed ++ map place put) ++ map (at_place mid.line) last ≡ placed ++ map place all =
    append_assoc placed (map place put) (map (at_place mid.line) last) ∙ ap (λ n. placed ++ (map place put ++ map (at_place n) last)) line
    ∙ ap (λ l. placed ++ l) (sym (map-append place put last) ∙ ap (map place) grown) in
    let L : List Entry → Type 0 = λ l. HasProgress s l (placed ++ map place all) new in
    let Q : List Entry → Type 0 = λ p. HasProgress s ((log ++ put) ++ last) p new in
    (checked_push s log check_result one entries entry more left so_far is, subst L log_is (subst Q placed_is next))

-- Holds if this number of checks was made of these entries, and others are left.
pub record Stepped (old : CurrentState) (entries : List Entry) (before : List Note) (count : ℕ) (new : CurrentState) (left : List Entry) (after : List Note) : Type 0 where
  pub check_result : List Checked
  pub size : length check_result ≡ count
  pub left_is : left_of check_result entries ≡ left
  pub leads : LeadsBy old check_result entries new
  pub noted : Notes before (recorded_of check_result entries) after
  pub line : new.line ≡ old.line

pub none_stepped : (old : CurrentState) (entries : List Entry) (before : List Note) → Stepped old entries before 0 old entries before
none_stepped old entries before = record {
  check_result = [];
  size = refl;
  left_is = refl;
  leads = λ s log placed has.
      let L : List Entry → Type 0 = λ l. HasProgress s l (placed ++ []) old in
      let Q : List Entry → Type 0 = λ p. HasProgress s log p old in
      (tt, subst L (sym (append-nil log)) (subst Q (sym (append-nil placed)) has));
  noted = no_notes before;
  line = refl;
}

pub stepped_more : (old mid new : CurrentState) (entries : List Entry) (before after last : List Note) (count : ℕ) (entry : Entry) (left more next : List Entry)
    → Stepped old entries before count mid left after → left ≡ entry ∷ more → StepsOn mid entry more after new next last → new.line ≡ mid.line
    → Stepped old entries before (count + 1) new next last
stepped_more old mid new entries before after last count entry left more next so_far left_is (one, gives_verdict, says, next_is) line =
    let is : left_of so_far.check_result entries ≡ entry ∷ more = so_far.left_is ∙ left_is in
    let size = length-append so_far.check_result (one ∷ []) in
    let P : List Checked → Type 0 = λ t. Notes before t last in
    record {
      check_result = so_far.check_result ++ one ∷ [];
      size = size ∙ ap (λ n. n + 1) so_far.size;
      left_is = left_push so_far.check_result one entries entry more is ∙ sym next_is;
      leads = leads_push old mid new so_far.check_result one entries entry more so_far.line is so_far.leads gives_verdict;
      noted = subst P (sym (recorded_push so_far.check_result one entries entry more is)) (notes_on before after last (recorded_of so_far.check_result entries) (recorded_with one more []) so_far.noted says);
      line = line ∙ so_far.line;
    }

-- The checks are done: no entry is left.
pub stepped_none : (most : ℕ) (old new : CurrentState) (entries left : List Entry) (before after : List Note) (count : ℕ) → count ≤ most → left ≡ []
    → Stepped old entries before count new left after → LeadsOn most old entries before new after
stepped_none most old new entries left before after count few none all =
    let size = all.size in (all.check_result, all.leads, all.noted, (omega (arith, size, few), inl (all.left_is ∙ none)))

-- The checks are done: the maximum number was made.
pub stepped_most : (most : ℕ) (old new : CurrentState) (entries left : List Entry) (before after : List Note) (count : ℕ) → count ≡ most
    → Stepped old entries before count new left after → LeadsOn most old entries before new after
stepped_most most old new entries left before after count last all =
    let size = all.size in (all.check_result, all.leads, all.noted, (omega (arith, size, last), inr (size ∙ last)))

-- ---- an entry

pub valid_leads : (old mid new : CurrentState) (entry : Entry) (closed : Option Opening) (one : Checked) (before after : List Note) → one ≡ Lawful closed
    → ChecksAs old entry mid one → new ≡ mid → Notes before (one ∷ []) after → mid.line ≡ old.line
    → LeadsOn (most_steps (waiting_of old.tracker) + 1) old (entry ∷ []) before new after
valid_leads old mid new entry closed one before after is gives_verdict same says line =
    let J : CurrentState → Type 0 = λ s. ChecksAs old entry s one in
    let N : Checked → Type 0 = λ j. ◌≡◌ {A = List Entry} [] (next_after j entry []) in
    let next : ◌≡◌ {A = List Entry} [] (next_after one entry []) = subst N (sym is) refl in
    let steps : StepsOn old entry [] before new [] after = (one, subst J (sym same) gives_verdict, says, next) in
    stepped_none (most_steps (waiting_of old.tracker) + 1) old new (entry ∷ []) [] before after 1 (omega arith) refl
    (stepped_more old old new (entry ∷ []) before before after 0 entry (entry ∷ []) [] [] (none_stepped old (entry ∷ []) before) refl steps
    (ap (λ (s : CurrentState). s.line) same ∙ line))

pub broken_leads : (old mid new : CurrentState) (entry : Entry) (failure : Failure) (one : Checked) (before noted after : List Note) → one ≡ Broken failure
    → ChecksAs old entry mid one → Notes before (one ∷ []) noted
    → LeadsOn (most_steps (waiting_of mid.tracker)) mid (changed (change_by failure.repair_action entry) entry []) noted new after
    → LeadsOn (most_steps (waiting_of old.tracker) + 1) old (entry ∷ []) before new after
broken_leads old mid new entry failure one before noted after is gives_verdict says rest =
    let J : Checked → Type 0 = λ j. ChecksAs old entry mid j × Notes before (j ∷ []) noted in
    let ((broken, same, concerns, repair_action), note) = subst J is (gives_verdict, says) in
    let left = changed (change_by failure.repair_action entry) entry [] in
    let R : CurrentState → Type 0 = λ s. LeadsOn (most_steps (waiting_of s.tracker)) s left noted new after in
    let (check_result, leads, notes, done) = subst R same rest in (
      Broken failure ∷ check_result,
      λ s log placed has.
          let (so, later) = leads s log placed has in
          (((broken s log placed has, repair_action ∙ ap (λ (v : View). repair_of v entry failure.rule) (sym has.run.seen)), so), later),
      notes_on before noted after (Broken failure ∷ []) (recorded_of check_result left) note notes,
      one_done (most_steps (waiting_of old.tracker)) check_result failure left done,
    )
  where
    one_done : (most : ℕ) (check_result : List Checked) (failure : Failure) (left : List Entry) → AreDone most check_result (left_of check_result left)
        → AreDone (most + 1) (Broken failure ∷ check_result) (left_of check_result left)
    one_done most check_result failure left (few, inl none) = (omega (arith, few), inl none)
    one_done most check_result failure left (few, inr all) = (omega (arith, few), inr (omega (arith, all)))

-- ---- the entries of steps

pub steps_push : (text : List ℕ) (steps : List Step) (step : Step) → entries_of text (steps ++ step ∷ []) ≡ entry_by step text ∷ entries_of text steps
steps_push text steps step = ap (map (λ s. entry_by s text)) (reverse-append steps (step ∷ []))

pub steps_popped : (text : List ℕ) (old new : List Step) (step : Step) (popped : Option Step) → popped ≡ Some step → old ≡ new ++ option_to_list popped
    → entries_of text old ≡ entry_by step text ∷ entries_of text new
steps_popped text old new step popped some is =
    ap (entries_of text) (is ∙ ap (λ p. new ++ option_to_list p) some) ∙ steps_push text new step

steps-length : (text : List ℕ) (steps : List Step) → length (entries_of text steps) ≡ length steps
steps-length text steps = length-map (reverse steps) (λ s. entry_by s text) ∙ length-reverse steps

pub no_steps : (text : List ℕ) (steps : List Step) → length steps ≡ 0 → entries_of text steps ≡ []
no_steps text [] none = refl
no_steps text (step ∷ steps) none = absurd (omega (arith, none))

pub recorded_alone : (text : List ℕ) (steps : List Step) (one : Checked) → length steps ≡ 0 → recorded_with one (entries_of text steps) [] ≡ one ∷ []
recorded_alone text [] one none = refl
recorded_alone text (step ∷ steps) one none = absurd (omega (arith, none))

recorded_long : (entries : List Entry) (one : Checked) → 0 < length entries → recorded_with one entries [] ≡ []
recorded_long [] one some = absurd (omega (arith, some))
recorded_long (entry ∷ entries) one some = refl

pub recorded_before : (text : List ℕ) (steps : List Step) (one : Checked) → 0 < length steps → recorded_with one (entries_of text steps) [] ≡ []
recorded_before text steps one some = let size = steps-length text steps in recorded_long (entries_of text steps) one (omega (arith, size, some))

-- ---- what is checked next

at_time : (time other : ℕ) (w : What) (text : List ℕ) → entry_of_what time w text ≡ entry_of_event time (entry_of_what other w text).event
at_time time other (what.Frame mark header) text = refl
at_time time other what.Up text = refl
at_time time other (what.T3 system) text = refl
at_time time other (what.Cut cause) text = refl
at_time time other what.Down text = refl

-- Holds if the steps continue by the repair.
abbrev pub ContinuesBy : RepairAction → Step → List Step → List Step → Type 0
ContinuesBy repair_action step old new =
    (text : List ℕ) → entries_of text new ≡ changed (change_by repair_action (entry_by step text)) (entry_by step text) (entries_of text old)

pub raise_on : (repair_action : RepairAction) (step : Step) (time : ℕ) (old new : List Step) → repair_action ≡ Raise time
    → ((text : List ℕ) → entries_of text new ≡ entry_by (record { time = time; what = step.what }) text ∷ entries_of text old)
    → ContinuesBy repair_action step old new
raise_on repair_action step time old new is put text =
    put text ∙ ap (λ e. e ∷ entries_of text old) (at_time time step.time step.what text)
    ∙ ap (λ r. changed (change_by r (entry_by step text)) (entry_by step text) (entries_of text old)) (sym is)

pub discard_on : (repair_action : RepairAction) (step thrown : Step) (old new : List Step) → repair_action ≡ Discard
    → ((text : List ℕ) → entry_by thrown text ≡ entry_of_event step.time (thrown_away (entry_by step text).event))
    → ((text : List ℕ) → entries_of text new ≡ entry_by thrown text ∷ entries_of text old) → ContinuesBy repair_action step old new
discard_on repair_action step thrown old new is away put text =
    put text ∙ ap (λ e. e ∷ entries_of text old) (away text ∙ ap (λ t. entry_of_event t (thrown_away (entry_by step text).event)) (time_of step text))
    ∙ ap (λ r. changed (change_by r (entry_by step text)) (entry_by step text) (entries_of text old)) (sym is)
  where
    what_time : (time : ℕ) (w : What) (text : List ℕ) → time ≡ (entry_of_what time w text).time
    what_time time (what.Frame mark header) text = refl
    what_time time what.Up text = refl
    what_time time (what.T3 system) text = refl
    what_time time (what.Cut cause) text = refl
    what_time time what.Down text = refl

    time_of : (step : Step) (text : List ℕ) → step.time ≡ (entry_by step text).time
    time_of step text = what_time step.time step.what text

pub first_on : (repair_action : RepairAction) (step : Step) (first : Entry) (old new : List Step) → ((entry : Entry) → change_by repair_action entry ≡ First first)
    → ((text : List ℕ) → entries_of text new ≡ first ∷ entry_by step text ∷ entries_of text old) → ContinuesBy repair_action step old new
first_on repair_action step first old new is put text =
    put text ∙ ap (λ c. changed c (entry_by step text) (entries_of text old)) (sym (is (entry_by step text)))

pub without_on : (repair_action : RepairAction) (step : Step) (steps : List Step) → repair_action ≡ LeaveOut → ContinuesBy repair_action step steps steps
without_on repair_action step steps is text = ap (λ r. changed (change_by r (entry_by step text)) (entry_by step text) (entries_of text steps)) (sym is)

-- ---- law

without_row : (s : Parameters) (log : List Entry) (entry : Entry) (more put : List Entry) → Asks s log entry Without → IsRepaired s log more put
    → IsRepaired s log (entry ∷ more) put
without_row s log entry more put asks repaired =
    let P : List Entry → Type 0 = λ l. IsRepaired s l more put in
    (LeftOut, [], put, (asks, refl), subst P (sym (append-nil log)) repaired, refl)

other_row : (s : Parameters) (log : List Entry) (entry other : Entry) (more put : List Entry) → Asks s log entry (Other other)
    → IsRepaired s log (other ∷ more) put → IsRepaired s log (entry ∷ more) put
other_row s log entry other more put asks (steps, one, rest, entry_repaired, repaired, split) =
    (Changed steps, one, rest, (other, asks, entry_repaired), repaired, split)

first_row : (s : Parameters) (log : List Entry) (entry first : Entry) (more put : List Entry) → Asks s log entry (First first)
    → IsRepaired s log (first ∷ entry ∷ more) put → IsRepaired s log (entry ∷ more) put
first_row s log entry first more put asks (one, before, rest, entry_repaired, (further, own, last, own_repaired, repaired, own_split), split) =
    let P : List Entry → Type 0 = λ l. IsRepaired s l more last in (
      Preceded one further,
      before ++ own,
      last,
      (first, before, own, asks, entry_repaired, own_repaired, refl),
      subst P (append_assoc log before own) repaired,
      split ∙ ap (λ l. before ++ l) own_split ∙ sym (append_assoc before own last),
    )

changed_row : (s : Parameters) (log : List Entry) (entry : Entry) (more put : List Entry) (change : Change) → Asks s log entry change
    → IsRepaired s log (changed change entry more) put → IsRepaired s log (entry ∷ more) put
changed_row s log entry more put (Other other) asks repaired = other_row s log entry other more put asks repaired
changed_row s log entry more put (First first) asks repaired = first_row s log entry first more put asks repaired
changed_row s log entry more put Without asks repaired = without_row s log entry more put asks repaired

row_repairs : (s : Parameters) (log : List Entry) (check_result : List Checked) (entries : List Entry) → AreChecked s log check_result entries → left_of check_result entries ≡ []
    → IsRepaired s log entries (put_of check_result entries)
row_repairs s log [] entries so none = let P : List Entry → Type 0 = λ e. IsRepaired s log e [] in subst P (sym none) refl
row_repairs s log (check_result ∷ more) [] so none = absurd so
row_repairs s log (Lawful closed ∷ more) (entry ∷ entries) (is_valid, so) none =
    (Passed, entry ∷ [], put_of more entries, (is_valid, refl), row_repairs s (log ++ entry ∷ []) more entries so none, refl)
row_repairs s log (Broken failure ∷ more) (entry ∷ entries) ((broken, repair_action), so) none =
    let change = change_by failure.repair_action entry in
    let asks : Asks s log entry change = (failure.rule, broken, ap (λ r. change_by r entry) (sym repair_action)) in
    changed_row s log entry entries (put_of more (changed change entry entries)) change asks (row_repairs s log more (changed change entry entries) so none)

pub steps_repair : StepsRepair
steps_repair s log entry check_result so none =
    let (steps, one, rest, entry_repaired, nothing, split) = row_repairs s log check_result (entry ∷ []) so none in
    let P : List Entry → Type 0 = λ l. RepairedBy s log steps entry l in
    (steps, subst P (sym (split ∙ ap (λ l. one ++ l) nothing ∙ append-nil one)) entry_repaired)

-- ---- one check before pending entries

pub valid_steps : (old mid new : CurrentState) (entry : Entry) (closed : Option Opening) (one : Checked) (more : List Entry) (before after : List Note)
    → one ≡ Lawful closed → ChecksAs old entry mid one → new ≡ mid → Notes before (recorded_with one more []) after → StepsOn old entry more before new more after
valid_steps old mid new entry closed one more before after is gives_verdict same says =
    let J : CurrentState → Type 0 = λ s. ChecksAs old entry s one in
    let N : Checked → Type 0 = λ j. ◌≡◌ {A = List Entry} more (next_after j entry more) in
    (one, subst J (sym same) gives_verdict, says, subst N (sym is) refl)

pub broken_steps : (old new : CurrentState) (entry : Entry) (failure : Failure) (one : Checked) (more next : List Entry) (before after : List Note)
    → one ≡ Broken failure → ChecksAs old entry new one → Notes before (recorded_with one more []) after
    → next ≡ changed (change_by failure.repair_action entry) entry more → StepsOn old entry more before new next after
broken_steps old new entry failure one more next before after is gives_verdict says next_is =
    let N : Checked → Type 0 = λ j. next ≡ next_after j entry more in
    (one, gives_verdict, says, subst N (sym is) next_is)
