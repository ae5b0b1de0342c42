-- The messages with which equipment reports its expired own data.
use Rattle.std.proofs.Common.{◌≡◌, ℕ, Bool, true, false, refl, ◌+◌, ◌<◌, List, [], ◌∷◌, ◌++◌, length, map, take, get_or, sym, ap, subst, ◌∙◌, arith, if◌then◌else◌}
use Rattle.std.proofs.lemmas.List.{map-append, take_more}
use Rattle.hsms_frame.specs.declared.header.Header.{Header}
use Rattle.hsms_machine.specs.declared.entry.Entry.{Entry}
use Rattle.hsms_machine.specs.declared.phase.Phase.{Phase}
use Rattle.hsms_machine.specs.declared.phase.Phase.TheVariants as phase
use Rattle.hsms_machine.specs.Settings.{Parameters}
use Rattle.hsms_endpoint.specs.declared.state.State.{State}
use Rattle.hsms_endpoint.specs.Action.{Act}
use Rattle.hsms_endpoint.specs.Reaction.{is_equipment, warns}
use Rattle.hsms_endpoint.specs.InnerActionSteps.{Performs}
use Rattle.hsms_endpoint.specs.InnerExpiring.{warns_of, warnings_of, MayWarn}
use Rattle.hsms_endpoint.proofs.Acts.{does_then}

-- A host reports nothing.
pub no_warning : (equipment : Bool) → ◌≡◌ {A = List Act} [] (if equipment then [] else [])
no_warning true = refl
no_warning false = refl

emitted_more : (equipment : Bool) (input_event : List Act) (one : Act) → (if equipment then input_event else []) ++ (if equipment then one ∷ [] else []) ≡ (if equipment then input_event ++ one ∷ [] else [])
emitted_more true input_event one = refl
emitted_more false input_event one = refl

-- One more warning.
pub one_warned : (start end next : State) (before entries more : List Entry) (headers : List Header) (i : ℕ) (none : Header) → i < length headers → end.settings ≡ start.settings → Performs start before (warnings_of start.settings (take i headers)) end entries → Performs end entries (warns end.settings 9 (get_or headers i none)) next more → Performs start before (warnings_of start.settings (take (i + 1) headers)) next more
one_warned start end next before entries more headers i none lt settings h one =
    let header : Header = get_or headers i none in
    let equipment : Bool = is_equipment start.settings.role in
    let acts : warnings_of start.settings (take i headers) ++ warns end.settings 9 header ≡ warnings_of start.settings (take (i + 1) headers) =
    ap (λ (p : Parameters). warnings_of start.settings (take i headers) ++ warns p 9 header) settings
    ∙ emitted_more equipment (map (warns_of start.settings) (take i headers)) (warns_of start.settings header)
    ∙ ap (λ (input_event : List Act). if equipment then input_event else []) (sym (map-append (warns_of start.settings) (take i headers) (header ∷ [])))
    ∙ ap (λ hs. warnings_of start.settings hs) (sym (take_more headers i none lt)) in
    subst (λ acts. Performs start before acts next more) acts
    (does_then start end next before entries more (warnings_of start.settings (take i headers)) (warns end.settings 9 header) h one)

pub may_warn : (p : Phase) (headers : List Header) (i : ℕ) → i < length headers → MayWarn p headers → p ≡ phase.Selected
may_warn p [] i lt h = absurd (omega arith)
may_warn p (header ∷ headers) i lt h = h

pub still_may_warn : (p q : Phase) (headers : List Header) → q ≡ phase.Selected → MayWarn q headers
still_may_warn p q [] e = tt
still_may_warn p q (header ∷ headers) e = e
