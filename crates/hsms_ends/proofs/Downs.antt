-- A run whose connection was closed ends with `down`.
use Rattle.std.proofs.Common.{◌≡◌, ◌<◌, ◌+◌, ◌-◌, List, [], ◌∷◌, length, true, false, inl, inr, refl, sym, ap, ◌∙◌, arith}
use Rattle.std.proofs.lemmas.Bool.{cases_Bool}
use Rattle.hsms_machine.specs.declared.entry.Entry.{Entry}
use Rattle.hsms_machine.specs.declared.entry.Event.TheVariants.{Down}
use Rattle.hsms_machine.specs.declared.phase.Phase.{Phase}
use Rattle.hsms_machine.specs.declared.phase.Phase.TheVariants as phase
use Rattle.hsms_machine.specs.Settings.{Parameters}
use Rattle.hsms_machine.specs.Entry.{entry_at, is_down, connection_of}
use Rattle.hsms_machine.specs.Run.{IsRun}
use Rattle.hsms_machine.specs.View.{HasView, phase_of}
use Rattle.hsms_machine.specs.ViewRules.{is_gone, phase_after}
use Rattle.hsms_machine.specs.declared.view.View.{View}
use Rattle.hsms_ends.specs.Serving.{ends_down}
use Rattle.hsms_machine.proofs.ViewsOfRuns.{follows_to, follows_from}

gone_by : (p : Phase) → is_gone p ≡ true → p ≡ phase.Gone
gone_by phase.Before e = absurd (let d : false ≡ true = e in cc)
gone_by phase.NotSelected e = absurd (let d : false ≡ true = e in cc)
gone_by phase.Selected e = absurd (let d : false ≡ true = e in cc)
gone_by phase.Over e = absurd (let d : false ≡ true = e in cc)
gone_by phase.Gone e = refl

-- In a run that is not empty the connection is down if and only if the last entry is `down`.
gone_is_some : (s : Parameters) (log : List Entry) → IsRun s log → 0 < length log → is_gone (phase_of log) ≡ ends_down log
gone_is_some s log run some =
    let last : (length log - 1) + 1 ≡ length log = omega arith in
    elim (cases_Bool (ends_down log)) [
      | inl down ↦ ap is_gone (follows_to s log run some (length log - 1, last, down)) ∙ sym down
      | inr other ↦ elim (cases_Bool (is_gone (phase_of log))) [
        | inl gone ↦
            let follows = follows_from s log run some (gone_by (phase_of log) gone) in
            let next : follows.0 + 1 ≡ length log = follows.1 in
            let same : follows.0 ≡ length log - 1 = omega arith in
            absurd (let d : true ≡ false = sym follows.2 ∙ ap (λ k. is_down (entry_at log k).event) same ∙ other in cc)
        | inr up ↦ up ∙ sym other
      ]
    ]

-- In a run the connection is down if and only if the last entry is `down`.
pub gone_is_last : (s : Parameters) (log : List Entry) → IsRun s log → is_gone (phase_of log) ≡ ends_down log
unfolding connection_of
gone_is_last s [] run = refl
gone_is_last s (x ∷ xs) run = gone_is_some s (x ∷ xs) run (omega arith)

pub gone_of_view : (s : Parameters) (log : List Entry) (view : View) → HasView s log view → is_gone view.phase ≡ ends_down log
gone_of_view s log view h = ap (λ (v : View). is_gone v.phase) (sym h.seen) ∙ gone_is_last s log h.run

-- After `down` the connection is down.
pub gone_after : (p : Phase) → is_gone (phase_after p Down) ≡ true
gone_after phase.Before = refl
gone_after phase.NotSelected = refl
gone_after phase.Selected = refl
gone_after phase.Over = refl
gone_after phase.Gone = refl
