-- Consecutive inputs.
use Rattle.std.proofs.Common.{◌≡◌, ℕ, ◌+◌, ◌<◌, ◌≤◌, List, [], ◌∷◌, ◌++◌, map, take, get_or, Some, length, refl, sym, ap, subst, ◌∙◌, append-nil, append_assoc, arith}
use Rattle.std.proofs.lemmas.List.{map-append, take_more, take_all}
use Rattle.secs_text.specs.Content.{Content}
use Rattle.hsms_machine.specs.declared.entry.Entry.{Entry}
use Rattle.hsms_machine.specs.Settings.{Parameters}
use Rattle.hsms_machine.specs.Run.{IsRun}
use Rattle.hsms_machine.specs.View.{HasView}
use Rattle.hsms_endpoint.specs.declared.input.Input.{Input}
use Rattle.hsms_endpoint.specs.declared.fault.EndFault.{EndFault}
use Rattle.hsms_endpoint.specs.declared.fault.EndFault.TheVariants.{Spent, NotUp, NotSelected, NotPrimary, Nine, Full, TooLong, TooDeep, Memory}
use Rattle.hsms_endpoint.specs.Answer.{Answered}
use Rattle.hsms_endpoint.specs.EndState.{EndState, EndOf, initial_state}
use Rattle.hsms_endpoint.specs.Turn.{InputEvent, Turn}
use Rattle.hsms_endpoint.specs.Fault.{Encounters}
use Rattle.hsms_endpoint.specs.End.{Accepts, Refuses}
use Rattle.hsms_endpoint.specs.Drive.{input_event, Responds, is_refused, is_accepted, Drives, octets_received, IsDriven}
use Rattle.hsms_endpoint.specs.InnerDriving.{HasDriven}
use Rattle.hsms_endpoint.proofs.Acts.{settings_of}
use Rattle.hsms_endpoint.proofs.KeptRequests.{drive_keeps_octets}

-- One more input.
drives_more : (desk : ℕ → Content → Answered) (inputs : List InputEvent) (end middle : EndState) (accepted : List InputEvent) (entries : List Entry) (input : InputEvent) (one : List InputEvent) (first : List Entry) (next : EndState) → Drives desk end inputs accepted entries middle → Responds desk middle input one first next → Drives desk end (inputs ++ input ∷ []) (accepted ++ one) (entries ++ first) next
drives_more desk [] end middle accepted entries input one first next h response = (
  next,
  one,
  [],
  first,
  [],
  subst (λ (k : EndState). Responds desk k input one first next) h.2 response,
  (refl, refl, refl),
  ap (λ xs. xs ++ one) h.0 ∙ sym (append-nil one),
  ap (λ es. es ++ first) h.1 ∙ sym (append-nil first),
)
drives_more desk (x ∷ xs) end middle accepted entries input one first next h response = (
  h.0,
  h.1,
  h.2 ++ one,
  h.3,
  h.4 ++ first,
  h.5,
  drives_more desk xs h.0 middle h.2 h.4 input one first next h.6 response,
  ap (λ ys. ys ++ one) h.7 ∙ append_assoc h.1 h.2 one,
  ap (λ es. es ++ first) h.8 ∙ append_assoc h.3 h.4 first,
)

empty_run : (settings : Parameters) → IsRun settings []
unfolding IsRun
empty_run settings = λ i lt. absurd (omega arith)

pub undriven : {D : Type 0} (answers : D → ℕ → Content → Answered) (settings : Parameters) (desk : D) (first_system : ℕ) (entries : List Entry) (end : EndOf D) → entries ≡ [] → end ≡ record { desk = desk; known = initial_state settings first_system } → HasDriven answers settings desk first_system [] entries end
undriven {D} answers settings desk first_system entries end none is =
    subst (λ (es : List Entry). HasDriven answers settings desk first_system [] es end) (sym none)
    (subst (λ (e : EndOf D). HasDriven answers settings desk first_system [] [] e) (sym is)
    (record {
      accepted = [];
      drives = (refl, refl, refl);
      seen = record { run = empty_run settings; seen = refl };
      same_desk = refl;
    }))

-- An input that was accepted.
pub one_accepted : {D : Type 0} (answers : D → ℕ → Content → Answered) (settings : Parameters) (desk : D) (first_system : ℕ) (inputs : List InputEvent) (entries more : List Entry) (end end' : EndOf D) (input : InputEvent) (new : List Entry) → HasDriven answers settings desk first_system inputs entries end → Accepts answers end input new end' → more ≡ entries ++ new → HasDriven answers settings desk first_system (inputs ++ input ∷ []) more end'
one_accepted {D} answers settings desk first_system inputs entries more end end' input new h a added =
    let same : settings ≡ end.known.view.settings = settings_of settings entries end.known.view h.seen in
    let turn : Turn (answers desk) end.known input new end'.known =
    subst (λ (d : D). Turn (answers d) end.known input new end'.known) h.same_desk a.turn in
    let seen : HasView settings (entries ++ new) end'.known.view =
    subst (λ (s : Parameters). HasView s (entries ++ new) end'.known.view) (sym same)
    (a.run entries (subst (λ (s : Parameters). HasView s entries end.known.view) same h.seen)) in
    subst (λ (es : List Entry). HasDriven answers settings desk first_system (inputs ++ input ∷ []) es end') (sym added)
    (record {
      accepted = h.accepted ++ input ∷ [];
      drives = drives_more (answers desk) inputs (initial_state settings first_system) end.known h.accepted entries input (input ∷ []) new end'.known h.drives (is_accepted a.encounters turn refl);
      seen = seen;
      same_desk = a.desk ∙ h.same_desk;
    })

-- Any error but a failed allocation changes nothing.
refused : {D : Type 0} (end end' : EndOf D) (input : InputEvent) (fault : EndFault) → (fault ≡ Memory → ⊥) → Refuses end input fault end' → Encounters end.known input (Some fault) × (end' ≡ end)
refused end end' input Spent n h = h
refused end end' input NotUp n h = h
refused end end' input NotSelected n h = h
refused end end' input NotPrimary n h = h
refused end end' input Nine n h = h
refused end end' input Full n h = h
refused end end' input TooLong n h = h
refused end end' input TooDeep n h = h
refused end end' input Memory n h = absurd (n refl)

-- An input that was rejected.
pub one_refused : {D : Type 0} (answers : D → ℕ → Content → Answered) (settings : Parameters) (desk : D) (first_system : ℕ) (inputs : List InputEvent) (entries : List Entry) (end end' : EndOf D) (input : InputEvent) (fault : EndFault) → HasDriven answers settings desk first_system inputs entries end → Refuses end input fault end' → (fault ≡ Memory → ⊥) → HasDriven answers settings desk first_system (inputs ++ input ∷ []) entries end'
one_refused {D} answers settings desk first_system inputs entries end end' input fault h r n =
    let is = refused end end' input fault n r in
    subst (λ (e : EndOf D). HasDriven answers settings desk first_system (inputs ++ input ∷ []) entries e) (sym is.1)
    (record {
      accepted = h.accepted ++ [];
      drives = subst (λ (es : List Entry). Drives (answers desk) (initial_state settings first_system) (inputs ++ input ∷ []) (h.accepted ++ []) es end.known) (append-nil entries)
          (drives_more (answers desk) inputs (initial_state settings first_system) end.known h.accepted entries input [] [] end.known h.drives (is_refused fault is.0 refl refl refl));
      seen = h.seen;
      same_desk = h.same_desk;
    })

-- The next of the inputs in memory.
pub next_passed : (inputs : List Input) (i : ℕ) (item : Input) → i < length inputs → item ≡ get_or inputs i item → map input_event (take i inputs) ++ input_event item ∷ [] ≡ map input_event (take (i + 1) inputs)
next_passed inputs i item lt is =
    ap (λ (x : Input). map input_event (take i inputs) ++ input_event x ∷ []) is
    ∙ sym (map-append input_event (take i inputs) (get_or inputs i item ∷ []))
    ∙ ap (λ xs. map input_event xs) (sym (take_more inputs i item lt))

pub inputs_all : (inputs : List Input) (i : ℕ) → length inputs ≤ i → map input_event (take i inputs) ≡ map input_event inputs
inputs_all inputs i le = ap (λ xs. map input_event xs) (take_all i inputs le)

pub driven : {D : Type 0} (answers : D → ℕ → Content → Answered) (settings : Parameters) (desk : D) (first_system : ℕ) (inputs : List InputEvent) (entries : List Entry) (pending : List ℕ) (end : EndOf D) → HasDriven answers settings desk first_system inputs entries end → pending ≡ end.known.pending → IsDriven (answers desk) (initial_state settings first_system) inputs entries pending
driven answers settings desk first_system inputs entries pending end h left =
    record {
      accepted = h.accepted;
      last = end.known;
      drives = h.drives;
      left = left;
      octets =
          drive_keeps_octets (answers desk) (initial_state settings first_system) inputs h.accepted entries end.known h.drives
          ∙ ap (λ xs. octets_received entries ++ xs) (sym left);
    }
