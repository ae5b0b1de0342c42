-- What a repaired log keeps.
use Rattle.std.proofs.Common.{◌≡◌, ℕ, List, [], ◌∷◌, ◌++◌, Some, None, refl, sym, ap, subst, ◌∙◌}
use Rattle.std.proofs.lemmas.List.{append-nil, append_assoc}
use Rattle.hsms_machine.specs.declared.entry.Entry.{Entry}
use Rattle.hsms_machine.specs.declared.entry.Act.{Act}
use Rattle.hsms_machine.specs.declared.entry.Act.TheVariants.{Up as ActUp, Sent as ActSent, Taken as ActTaken, Discarded as ActDiscarded, T3 as ActT3, Cut as ActCut, Down as ActDown}
use Rattle.hsms_machine.specs.declared.rule.Rule.{Rule}
use Rattle.hsms_machine.specs.declared.rule.Rule.TheVariants.{Backwards, NotUp, T3Overdue, LinkOverdue, NotDue, NoCause}
use Rattle.hsms_machine.specs.declared.view.View.{View}
use Rattle.hsms_machine.specs.EventParts.{event_of, entry_of}
use Rattle.hsms_machine.specs.Settings.{Parameters}
use Rattle.hsms_machine.specs.Run.{Broken, IsRun}
use Rattle.hsms_machine.specs.Repair.{Change, discarded, missing_down, repair_of, Steps, Passed, LeftOut, Changed, Preceded, Asks, RepairedBy, IsRepaired, RepairedLogPasses, ValidEntryIsKept, RunIsItsRepair, FrontIsKept}
use Rattle.hsms_machine.proofs.Runs.{run-push, run-next, empty_run}
use Rattle.hsms_machine.proofs.ValidEntries.{one_first}

pub repaired_is_run : (settings : Parameters) (log : List Entry) (steps : Steps) (entry : Entry) (put : List Entry) → IsRun settings log → RepairedBy settings log steps entry put → IsRun settings (log ++ put)
repaired_is_run settings log Passed entry put run h =
    subst (λ l. IsRun settings (log ++ l)) (sym h.1) (run-push settings log entry run h.0)
repaired_is_run settings log LeftOut entry put run h =
    subst (λ l. IsRun settings (log ++ l)) (sym h.1) (subst (λ l. IsRun settings l) (sym (append-nil log)) run)
repaired_is_run settings log (Changed steps) entry put run h = repaired_is_run settings log steps h.0 put run h.2
repaired_is_run settings log (Preceded one more) entry put run h =
    let before = h.1 in
    let rest = h.2 in
    let first_run = repaired_is_run settings log one h.0 before run h.4 in
    let all = repaired_is_run settings (log ++ before) more entry rest first_run h.5 in
    subst (λ l. IsRun settings (log ++ l)) (sym h.6) (subst (λ l. IsRun settings l) (append_assoc log before rest) all)

repaired_run : (settings : Parameters) (before log after : List Entry) → IsRun settings before → IsRepaired settings before log after → IsRun settings (before ++ after)
repaired_run settings before [] after run h =
    subst (λ l. IsRun settings (before ++ l)) (sym h) (subst (λ l. IsRun settings l) (sym (append-nil before)) run)
repaired_run settings before (entry ∷ entries) after run h =
    let put = h.1 in
    let rest = h.2 in
    let here = repaired_is_run settings before h.0 entry put run h.3 in
    let all = repaired_run settings (before ++ put) entries rest here h.4 in
    subst (λ l. IsRun settings (before ++ l)) (sym h.5) (subst (λ l. IsRun settings l) (append_assoc before put rest) all)

pub repaired_passes : RepairedLogPasses
repaired_passes settings log repaired h = repaired_run settings [] log repaired (empty_run settings) h

pub asks_not : (settings : Parameters) (log : List Entry) (entry : Entry) (change : Change) → Broken settings log entry None → Asks settings log entry change → ⊥
asks_not settings log entry change is_valid asks =
    let d : None ≡ Some asks.0 = one_first settings log entry None (Some asks.0) is_valid asks.1 in
    absurd cc

pub valid_kept : ValidEntryIsKept
valid_kept settings log Passed entry put is_valid h = h.1
valid_kept settings log LeftOut entry put is_valid h = absurd (asks_not settings log entry _ is_valid h.0)
valid_kept settings log (Changed steps) entry put is_valid h = absurd (asks_not settings log entry _ is_valid h.1)
valid_kept settings log (Preceded one more) entry put is_valid h = absurd (asks_not settings log entry _ is_valid h.3)

-- The repair after a prefix that was kept.
kept_from : (settings : Parameters) (before front more after : List Entry) → IsRun settings (before ++ front) → IsRepaired settings before (front ++ more) after → (rest : List Entry) × (after ≡ front ++ rest) × IsRepaired settings (before ++ front) more rest
kept_from settings before [] more after run h = (after, refl, subst (λ l. IsRepaired settings l more after) (sym (append-nil before)) h)
kept_from settings before (entry ∷ front) more after run h =
    let put = h.1 in
    let rest = h.2 in
    let is : put ≡ entry ∷ [] = valid_kept settings before h.0 entry put (run-next settings before entry front run) h.3 in
    let moved : (before ++ entry ∷ []) ++ front ≡ before ++ entry ∷ front = append_assoc before (entry ∷ []) front in
    let more_run : IsRun settings ((before ++ entry ∷ []) ++ front) = subst (λ l. IsRun settings l) (sym moved) run in
    let inner = kept_from settings (before ++ entry ∷ []) front more rest more_run (subst (λ l. IsRepaired settings (before ++ l) (front ++ more) rest) is h.4) in (
      inner.0,
      h.5 ∙ ap (λ l. l ++ rest) is ∙ ap (λ l. entry ∷ l) inner.1,
      subst (λ l. IsRepaired settings l more inner.0) moved inner.2,
    )

pub front_kept : FrontIsKept
front_kept settings front more repaired run h =
    let r = kept_from settings [] front more repaired run h in
    (r.0, r.1)

pub run_kept : RunIsItsRepair
run_kept settings log repaired run h =
    let r = kept_from settings [] log [] repaired run (subst (λ l. IsRepaired settings [] l repaired) (sym (append-nil log)) h) in
    r.1 ∙ ap (λ l. log ++ l) r.2 ∙ append-nil log

-- ---- no repair depends on a text

discarded_at : (act : Act) (text : List ℕ) → discarded (event_of act []) ≡ discarded (event_of act text)
discarded_at ActUp text = refl
discarded_at (ActSent header) text = refl
discarded_at (ActTaken header) text = refl
discarded_at (ActDiscarded header) text = refl
discarded_at (ActT3 system) text = refl
discarded_at (ActCut cause) text = refl
discarded_at ActDown text = refl

missing_down_at : (view : View) (time : ℕ) (act : Act) (text : List ℕ) → missing_down view time (event_of act []) ≡ missing_down view time (event_of act text)
missing_down_at view time ActUp text = refl
missing_down_at view time (ActSent header) text = refl
missing_down_at view time (ActTaken header) text = refl
missing_down_at view time (ActDiscarded header) text = refl
missing_down_at view time (ActT3 system) text = refl
missing_down_at view time (ActCut cause) text = refl
missing_down_at view time ActDown text = refl

pub repair_at : (view : View) (time : ℕ) (act : Act) (text : List ℕ) (rule : Rule) → repair_of view (entry_of time act []) rule ≡ repair_of view (entry_of time act text) rule
repair_at view time act text Backwards = refl
repair_at view time act text NotUp = missing_down_at view time act text
repair_at view time act text T3Overdue = refl
repair_at view time act text LinkOverdue = refl
repair_at view time act text NotDue = refl
repair_at view time act text NoCause = refl
repair_at view time act text rule = discarded_at act text
