-- Consecutive acts.
use Rattle.std.proofs.Common.{◌≡◌, ℕ, ◌+◌, ◌%◌, ◌^◌, List, [], ◌∷◌, ◌++◌, Option, None, refl, sym, ap, subst, ◌∙◌, append_assoc}
use Rattle.std.specs.Prelude.{Result, OnOk}
use Rattle.std.proofs.lemmas.Result.{on_ok_weaker}
use Rattle.hsms_frame.specs.Frame.{Frame}
use Rattle.hsms_machine.specs.declared.entry.Entry.{Entry}
use Rattle.hsms_machine.specs.declared.entry.Event.{Event}
use Rattle.hsms_machine.specs.declared.entry.Event.TheVariants.{Sent}
use Rattle.hsms_machine.specs.declared.view.View.{View}
use Rattle.hsms_machine.specs.declared.rule.Rule.{Rule}
use Rattle.hsms_machine.specs.Rule.{Breaks, IsFirst, all_rules}
use Rattle.hsms_machine.specs.View.{HasView}
use Rattle.hsms_machine.specs.ViewRules.{facts_of, view_after}
use Rattle.hsms_endpoint.specs.declared.state.State.{State}
use Rattle.hsms_endpoint.specs.EndState.{EndState}
use Rattle.hsms_endpoint.specs.Action.{Act, logs, asks, Acts, with_event, with_number}
use Rattle.hsms_endpoint.specs.InnerInternals.{known, entry_of, after_event}
use Rattle.hsms_endpoint.specs.SystemBytes.{IsFirstFree}
use Rattle.hsms_endpoint.specs.End.{Extends}
use Rattle.hsms_endpoint.specs.InnerActionSteps.{Performs, IsValidEvent}
use Rattle.hsms_endpoint.proofs.ValidOutputs.{first_same}

-- A consequence that holds if a call succeeded.
pub then_ok : {T E P Q : Type 0} (r : Result T E) → OnOk r P → (P → Q) → OnOk r Q
then_ok r h f = on_ok_weaker r f h

pub acts_append : (acts more : List Act) (end next end' : EndState) (first later : List Entry) → Acts end acts first next → Acts next more later end' → Acts end (acts ++ more) (first ++ later) end'
acts_append [] more end next end' first later h k =
    subst (λ es. Acts end more (es ++ later) end') (sym h.0) (subst (λ (s : EndState). Acts s more later end') h.1 k)
acts_append (logs event ∷ acts) more end next end' first later h k =
    (h.0 ++ later, ap (λ es. es ++ later) h.1, acts_append acts more (with_event end event) next end' h.0 later h.2 k)
acts_append (asks frame ∷ acts) more end next end' first later h k =
    (h.0, h.1 ++ later, h.2, ap (λ es. es ++ later) h.3, acts_append acts more (with_number end (frame h.0) h.0) next end' h.1 later h.4 k)

pub settings_of : (settings : _) (log : List Entry) (view : View) → HasView settings log view → settings ≡ view.settings
settings_of settings log view has = ap (λ v. v.settings) has.seen

pub extends_then : (view middle later : View) (first second : List Entry) → Extends view first middle → Extends middle second later → Extends view (first ++ second) later
extends_then view middle later first second h k = λ log has.
    let has_first = h log has in
    let same : view.settings ≡ middle.settings = settings_of view.settings (log ++ first) middle has_first in
    let both : HasView middle.settings ((log ++ first) ++ second) later =
    k (log ++ first) (subst (λ s. HasView s (log ++ first) middle) same has_first) in
    subst (λ es. HasView view.settings es later) (append_assoc log first second) (subst (λ s. HasView s ((log ++ first) ++ second) later) (sym same) both)

pub does_then : (end next end' : State) (before middle entries : List Entry) (acts more : List Act) → Performs end before acts next middle → Performs next middle more end' entries → Performs end before (acts ++ more) end' entries
does_then end next end' before middle entries acts more h k =
    record {
      new = h.new ++ k.new;
      added = k.added ∙ ap (λ es. es ++ k.new) h.added ∙ append_assoc before h.new k.new;
      done = acts_append acts more (known end) (known next) (known end') h.new k.new h.done k.done;
      run = extends_then end.tracker next.tracker end'.tracker h.new k.new h.run k.run;
    }

-- One event was logged.
pub does_event : (end end' : State) (before entries : List Entry) (event : Event) → end' ≡ after_event end event → entries ≡ before ++ record { time = end.moment; event = event } ∷ [] → Extends end.tracker (record { time = end.moment; event = event } ∷ []) end'.tracker → Performs end before (logs event ∷ []) end' entries
does_event end end' before entries event is added run =
    record {
      new = record { time = end.moment; event = event } ∷ [];
      added = added;
      done = ([], refl, (refl, ap (λ (s : State). known s) is));
      run = run;
    }

-- A frame was sent with own system bytes: it is logged, and the next value is one more.
pub does_number : (end mid end' : State) (before entries : List Entry) (frame : Frame) (number : ℕ) → Performs end before (logs (Sent frame) ∷ []) mid entries → end' ≡ record mid { next = (number + 1) % 2 ^ 32 } → IsFirstFree end.tracker end.next number → (asked : ℕ → Frame) → asked number ≡ frame → Performs end before (asks asked ∷ []) end' entries
does_number end mid end' before entries frame number h is free asked same =
    let logged : known mid ≡ with_event (known end) (Sent frame) = h.done.2.1 in
    let new_is : h.new ≡ record { time = end.moment; event = Sent (asked number) } ∷ [] =
    h.done.1 ∙ ap (λ later. entry_of end (Sent frame) ∷ later) h.done.2.0 ∙ ap (λ f. entry_of end (Sent f) ∷ []) (sym same) in
    let is_after : known end' ≡ with_number (known end) (asked number) number =
    ap (λ (s : State). known s) is
    ∙ ap (λ (k : EndState). record k { next = (number + 1) % 2 ^ 32 }) logged
    ∙ ap (λ f. with_number (known end) f number) (sym same) in
    record {
      new = h.new;
      added = h.added;
      done = (number, [], free, new_is, (refl, is_after));
      run = subst (λ (v : View). Extends end.tracker h.new v) (ap (λ (s : State). s.tracker) (sym is)) h.run;
    }

-- A valid event that the tracker accepted.
pub logged : (end : State) (event : Event) (tracker : View) (before entries : List Entry) (answer : Option Rule) → IsValidEvent end event → IsFirst (Breaks (facts_of end.tracker) end.tracker.settings (record { time = end.moment; event = event })) all_rules answer → (answer ≡ None → tracker ≡ view_after end.tracker (record { time = end.moment; event = event })) → (answer ≡ None → Extends end.tracker (record { time = end.moment; event = event } ∷ []) tracker) → entries ≡ before ++ record { time = end.moment; event = event } ∷ [] → Performs end before (logs event ∷ []) (record end { tracker = tracker }) entries
unfolding IsValidEvent
logged end event tracker before entries answer is_valid input_event next run added =
    let none : answer ≡ None = first_same (Breaks (facts_of end.tracker) end.tracker.settings (record { time = end.moment; event = event })) all_rules answer None input_event is_valid in
    does_event end (record end { tracker = tracker }) before entries event (ap (λ (v : View). record end { tracker = v }) (next none)) added (run none)

pub logged_after : (end : State) (event : Event) (tracker : View) (answer : Option Rule) → IsValidEvent end event → IsFirst (Breaks (facts_of end.tracker) end.tracker.settings (record { time = end.moment; event = event })) all_rules answer → (answer ≡ None → tracker ≡ view_after end.tracker (record { time = end.moment; event = event })) → record end { tracker = tracker } ≡ after_event end event
unfolding IsValidEvent
logged_after end event tracker answer is_valid input_event next =
    ap (λ (v : View). record end { tracker = v }) (next (first_same (Breaks (facts_of end.tracker) end.tracker.settings (record { time = end.moment; event = event })) all_rules answer None input_event is_valid))
