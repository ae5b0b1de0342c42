-- The messages that an endpoint discards are within its limit.
use Rattle.std.proofs.Common.{◌≡◌, ◌≤◌, ◌+◌, ◌++◌, ℕ, List, [], ◌∷◌, length, Some, None, true, false, refl, sym, ap, ◌∙◌, subst, max}
use Rattle.std.specs.Prelude.{Option, All}
use Rattle.std.proofs.lemmas.List.Elements.{All-append, All-cons, All-nil}
use Rattle.secs_text.specs.Content.{Content}
use Rattle.hsms_frame.specs.Frame.{Frame}
use Rattle.hsms_machine.specs.declared.entry.Entry.{Entry}
use Rattle.hsms_machine.specs.declared.entry.Cause.TheVariants.{Length}
use Rattle.hsms_machine.specs.declared.entry.Event.{Event}
use Rattle.hsms_machine.specs.declared.entry.Event.TheVariants.{Up, Sent, Taken, Discarded, T3, Cut, Down}
use Rattle.hsms_machine.specs.declared.rule.Rule.{Rule}
use Rattle.hsms_machine.specs.Settings.{Parameters}
use Rattle.hsms_machine.specs.ViewRules.{is_selected}
use Rattle.hsms_endpoint.specs.Answer.{Answered}
use Rattle.hsms_endpoint.specs.EndState.{EndState}
use Rattle.hsms_endpoint.specs.Action.{Act, logs, asks, Acts, entry_now, with_event, with_number}
use Rattle.hsms_endpoint.specs.Drive.{octets_in}
use Rattle.hsms_endpoint.specs.Frame.{linktest_req, separate_req, message_frame}
use Rattle.hsms_endpoint.specs.Reaction.{reaction}
use Rattle.hsms_endpoint.specs.Turn.{is_pending, opening_of, cut_by, expiries, received_as, with_asked, Handles, warns_too_long, Rests, is_down, waits, too_short, too_long, Receives, with_octets, InputEvent, start, tick, bytes, send, linktest, separate, lost, Turn}
use Rattle.hsms_endpoint.proofs.KeptRequests.{receipts, reaction_none, opening_none, expiries_none, too_long_none}

-- Header and text of a discarded message are within the limit.
abbrev pub IsDiscardSized : ℕ → Event → Type 0
IsDiscardSized most Up = Unit {0}
IsDiscardSized most (Sent frame) = Unit {0}
IsDiscardSized most (Taken frame) = Unit {0}
IsDiscardSized most (Discarded frame) = 10 + length frame.text ≤ most
IsDiscardSized most (T3 system) = Unit {0}
IsDiscardSized most (Cut cause) = Unit {0}
IsDiscardSized most Down = Unit {0}

-- This holds for each entry, and the settings do not change.
pub record Keeps (end : EndState) (entries : List Entry) (end' : EndState) : Type 0 where
  pub settings : end'.settings ≡ end.settings
  pub sized : All (λ (entry : Entry). IsDiscardSized end.settings.max entry.event) entries

no_octets : (most : ℕ) (event : Event) → octets_in event ≡ [] → IsDiscardSized most event
no_octets most Up none = tt
no_octets most (Sent frame) none = tt
no_octets most (Taken frame) none = tt
no_octets most (Discarded frame) none = absurd (let e : true ≡ false = ap is_pending none in cc)
no_octets most (T3 system) none = tt
no_octets most (Cut cause) none = tt
no_octets most Down none = tt

first_empty : (xs ys : List ℕ) → xs ++ ys ≡ [] → xs ≡ []
first_empty [] ys e = refl
first_empty (x ∷ xs) ys e = absurd (let d : true ≡ false = ap is_pending e in cc)

later_empty : (xs ys : List ℕ) → xs ++ ys ≡ [] → ys ≡ []
later_empty [] ys e = e
later_empty (x ∷ xs) ys e = absurd (let d : true ≡ false = ap is_pending e in cc)

none_kept : (end : EndState) (entries : List Entry) (end' : EndState) → entries ≡ [] → end' ≡ end → Keeps end entries end'
none_kept end entries end' none same =
    let P : List Entry → Type 0 = λ l. All (λ (entry : Entry). IsDiscardSized end.settings.max entry.event) l in
    record { settings = ap (λ (k : EndState). k.settings) same; sized = subst P (sym none) (All-nil (λ (entry : Entry). IsDiscardSized end.settings.max entry.event)) }

one_kept : (end mid end' : EndState) (entry : Entry) (entries later : List Entry) → mid.settings ≡ end.settings → entries ≡ entry ∷ later → IsDiscardSized end.settings.max entry.event
    → Keeps mid later end' → Keeps end entries end'
one_kept end mid end' entry entries later same is sized rest =
    let Q : Entry → Type 0 = λ e. IsDiscardSized end.settings.max e.event in
    let P : List Entry → Type 0 = λ l. All Q l in
    let R : Parameters → Type 0 = λ s. All (λ (e : Entry). IsDiscardSized s.max e.event) later in
    record { settings = rest.settings ∙ same; sized = subst P (sym is) (All-cons Q entry later sized (subst R same rest.sized)) }

two_kept : (end mid end' : EndState) (entries first later : List Entry) → entries ≡ first ++ later → Keeps end first mid → Keeps mid later end' → Keeps end entries end'
two_kept end mid end' entries first later is one rest =
    let Q : Entry → Type 0 = λ e. IsDiscardSized end.settings.max e.event in
    let P : List Entry → Type 0 = λ l. All Q l in
    let R : Parameters → Type 0 = λ s. All (λ (e : Entry). IsDiscardSized s.max e.event) later in
    record { settings = rest.settings ∙ one.settings; sized = subst P (sym is) (All-append Q first later one.sized (subst R one.settings rest.sized)) }

-- Acts that receive nothing discard nothing.
acts_kept : (acts : List Act) (end : EndState) (entries : List Entry) (end' : EndState) → receipts acts ≡ [] → Acts end acts entries end' → Keeps end entries end'
acts_kept [] end entries end' none h = none_kept end entries end' h.0 h.1
acts_kept (logs event ∷ acts) end entries end' none h =
    one_kept end (with_event end event) end' (entry_now end event) entries h.0 refl h.1 (no_octets end.settings.max event (first_empty (octets_in event) (receipts acts) none))
    (acts_kept acts (with_event end event) h.0 end' (later_empty (octets_in event) (receipts acts) none) h.2)
acts_kept (asks frame ∷ acts) end entries end' none h =
    one_kept end (with_number end (frame h.0) h.0) end' (entry_now end (Sent (frame h.0))) entries h.1 refl h.3 tt
    (acts_kept acts (with_number end (frame h.0) h.0) h.1 end' none h.4)

received_sized : (most : ℕ) (frame : Frame) (broken : Option Rule) → 10 + length frame.text ≤ most → IsDiscardSized most (received_as frame broken)
received_sized most frame None sized = tt
received_sized most frame (Some broken) sized = sized

handled_kept : (desk : ℕ → Content → Answered) (end : EndState) (frame : Frame) (entries : List Entry) (end' : EndState) → 10 + length frame.text ≤ end.settings.max → Handles desk end frame entries end' → Keeps end entries end'
handled_kept desk end frame entries end' sized h =
    let event = received_as frame h.0 in
    let acts = reaction end.settings (is_selected end.view.phase) frame.header h.0 h.1 in
    let asked : EndState = with_asked end frame h.0 in
    let rest = h.4 in
    one_kept end (with_event asked event) end' (entry_now end event) entries rest.0 refl rest.1 (received_sized end.settings.max frame h.0 sized)
    (acts_kept acts (with_event asked event) rest.0 end' (reaction_none end.settings (is_selected end.view.phase) frame.header h.0 h.1) rest.2)

rests_kept : (end : EndState) (entries : List Entry) (end' : EndState) → Rests end entries end' → Keeps end entries end'
rests_kept end entries end' (is_down down none same) = none_kept end entries end' none same
rests_kept end entries end' (waits up front none same) = none_kept end entries end' none same
rests_kept end entries end' (too_short n up front acts) = acts_kept (cut_by Length) end entries end' refl acts
rests_kept end entries end' (too_long n header up front acts) = acts_kept (warns_too_long end header ++ cut_by Length) end entries end' (too_long_none end header) acts

receives_kept : (desk : ℕ → Content → Answered) (end : EndState) (frames : List Frame) (entries : List Entry) (end' : EndState) → Receives desk end frames entries end' → Keeps end entries end'
receives_kept desk end [] entries end' h = rests_kept end entries end' h
receives_kept desk end (frame ∷ frames) entries end' h =
    let same : h.0.settings ≡ end.settings = ap (λ (k : EndState). k.settings) h.4.off in
    let P : Parameters → Type 0 = λ s. 10 + length frame.text ≤ s.max in
    let R : Parameters → Type 0 = λ s. All (λ (e : Entry). IsDiscardSized s.max e.event) h.2 in
    let one = handled_kept desk h.0 frame h.2 h.1 (subst P (sym same) h.4.front.2) h.5 in
    two_kept end h.1 end' entries h.2 h.3 h.7 (record { settings = one.settings ∙ same; sized = subst R same one.sized }) (receives_kept desk h.1 frames h.3 end' h.6)

from_kept : (end from : EndState) (entries : List Entry) (end' : EndState) → from.settings ≡ end.settings → Keeps from entries end' → Keeps end entries end'
from_kept end from entries end' same h =
    let R : Parameters → Type 0 = λ s. All (λ (e : Entry). IsDiscardSized s.max e.event) entries in
    record { settings = h.settings ∙ same; sized = subst R same h.sized }

pub turn_kept : (desk : ℕ → Content → Answered) (end : EndState) (input : InputEvent) (entries : List Entry) (end' : EndState) → Turn desk end input entries end' → Keeps end entries end'
turn_kept desk end (start now) entries end' h =
    let from : EndState = record end { moment = max end.moment now } in
    from_kept end from entries end' refl (acts_kept (opening_of end.settings.link) from entries end' (opening_none end.settings.link) h)
turn_kept desk end (tick now) entries end' h =
    let later : EndState = record end { moment = max end.moment now } in
    from_kept end later entries end' refl (acts_kept (expiries later) later entries end' (expiries_none later) h)
turn_kept desk end (bytes octets) entries end' h =
    from_kept end (with_octets end octets) entries end' refl (receives_kept desk (with_octets end octets) h.0 entries end' h.1)
turn_kept desk end (send message) entries end' h = acts_kept (asks (message_frame end.settings message h.0) ∷ []) end entries end' refl h.2
turn_kept desk end linktest entries end' h = acts_kept (asks linktest_req ∷ []) end entries end' refl h
turn_kept desk end separate entries end' h = acts_kept (asks separate_req ∷ logs Down ∷ []) end entries end' refl h
turn_kept desk end lost entries end' h = acts_kept (logs Down ∷ []) end entries end' refl h
