-- The call `bytes`.
use Rattle.std.proofs.Common.{◌≡◌, ℕ, Bool, true, false, List, [], ◌++◌, None, refl, sym, ap, subst, ◌∙◌, inr}
use Rattle.secs_text.specs.Content.{Content}
use Rattle.hsms_machine.specs.declared.entry.Entry.{Entry}
use Rattle.hsms_endpoint.specs.declared.state.State.{State}
use Rattle.hsms_endpoint.specs.Answer.{Answered}
use Rattle.hsms_endpoint.specs.Turn.{is_up, bytes, Receives}
use Rattle.hsms_endpoint.specs.Internals.{known_of}
use Rattle.hsms_endpoint.specs.InnerInternals.{known, after_octets}
use Rattle.hsms_endpoint.specs.Fault.{Encounters}
use Rattle.hsms_endpoint.specs.End.{Extends, Accepts}
use Rattle.hsms_endpoint.specs.EndState.{EndOf}
use Rattle.hsms_endpoint.specs.Invariant.{IsSound}
use Rattle.hsms_endpoint.specs.InnerReceiving.{HasReceivedAll}
use Rattle.hsms_endpoint.proofs.Calls.{not_spent, up_is_up, inside_of, accepted_at}

-- The pending bytes and the time of the last one do not affect soundness.
pub processed_sound : (end end' : State) (octets : List ℕ) → end' ≡ after_octets end octets → IsSound end → IsSound end'
processed_sound end end' octets is sound =
    subst IsSound (sym is)
    (record {
      settings = sound.settings;
      within = sound.within;
      limit = sound.limit;
      not_over = sound.not_over;
      fresh = sound.fresh;
      steady = λ up.
          (let steady = sound.steady up in
          record {
            calm = record { not_past = steady.calm.not_past; data_in_time = steady.calm.data_in_time; control_in_time = steady.calm.control_in_time; selected_in_time = steady.calm.selected_in_time };
            taken_data = steady.taken_data;
            taken_control = steady.taken_control;
            few = steady.few;
            unselected = steady.unselected;
          });
    })

pub processed_all : (desk : ℕ → Content → Answered) (start mid end : State) (before entries : List Entry) → mid ≡ start → HasReceivedAll desk mid before end entries → HasReceivedAll desk start before end entries
processed_all desk start mid end before entries is h = subst (λ (s : State). HasReceivedAll desk s before end entries) is h

pub bytes_encounters : (spent : Bool) (end : State) (octets : List ℕ) → spent ≡ false → is_up end.tracker.phase ≡ true → Encounters (known_of end spent) (bytes octets) None
unfolding Encounters
bytes_encounters spent end octets s u =
    inr (not_spent spent s, inr (up_is_up (is_up end.tracker.phase) u, inr ((λ b. b), inr ((λ b. b), inr ((λ b. b), inr ((λ b. let d : false ≡ true = b.0 in cc), inr ((λ b. b), inr ((λ b. b), refl))))))))

pub bytes_accepted : {D : Type 0} (answers : D → ℕ → Content → Answered) (desk : D) (end end' : State) (spent : Bool) (at : EndOf D) (octets : List ℕ) (first entries : List Entry) → spent ≡ false → inside_of desk end spent ≡ at → first ≡ [] → is_up end.tracker.phase ≡ true → HasReceivedAll (answers desk) (after_octets end octets) first end' entries → Accepts answers at (bytes octets) entries (inside_of desk end' false)
bytes_accepted answers desk end end' spent at octets first entries fresh is empty up h =
    let new_is : h.new ≡ entries = sym (h.added ∙ ap (λ (es : List Entry). es ++ h.new) empty) in
    accepted_at answers desk end end' spent at (bytes octets) entries fresh is (bytes_encounters spent end octets fresh up)
    (h.frames, subst (λ es. Receives (answers desk) (known (after_octets end octets)) h.frames es (known end')) new_is h.received)
    (subst (λ es. Extends end.tracker es end'.tracker) new_is h.run)

pub received_sound : (desk : ℕ → Content → Answered) (end end' : State) (before entries : List Entry) → HasReceivedAll desk end before end' entries → IsSound end'
received_sound desk end end' before entries h = h.sound
