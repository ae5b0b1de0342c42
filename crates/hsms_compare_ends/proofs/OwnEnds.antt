-- Two endpoints that are connected by byte streams.
use Rattle.std.proofs.Common.{◌≡◌, ◌++◌, ℕ, List, [], ◌∷◌, refl, sym, ◌∙◌, ap, subst}
use Rattle.std.proofs.lemmas.List.{append-nil, append_assoc}
use Rattle.std.proofs.lemmas.List.Concat.{flat_map-append}
use Rattle.hsms_frame.specs.Frame.{Frame, frame_octets}
use Rattle.hsms_machine.specs.declared.entry.Entry.{Entry}
use Rattle.hsms_machine.specs.declared.entry.Event.{Event}
use Rattle.hsms_machine.specs.declared.entry.Event.TheVariants.{Up, Sent, Taken, Discarded, T3, Cut, Down}
use Rattle.hsms_machine.specs.declared.settings.Role.{Role}
use Rattle.hsms_machine.specs.declared.settings.Role.TheVariants.{Host, Equipment}
use Rattle.hsms_endpoint.specs.EndState.{EndState}
use Rattle.hsms_endpoint.specs.Turn.{InputEvent}
use Rattle.hsms_endpoint.specs.Drive.{Responds, is_refused, is_accepted, input_octets, octets_received, octets_in, octets_of as octets_of_input}
use Rattle.hsms_endpoint.proofs.KeptRequests.{turn_keeps_octets}
use Rattle.hsms_compare.specs.Conversation.{Agree, received, received_by}
use Rattle.hsms_compare.specs.ByteStreams.{Turn, AtHost, AtEquipment, AreStreamed, IsStreamed, host_log, equipment_log, octets_of, CarriesMessages}
use Rattle.hsms_compare.proofs.Histories.{agree-empty, received-append}
use Rattle.hsms_compare.proofs.ByteStreams.{agree_on}
use Rattle.hsms_compare_ends.specs.OwnEnds.{Desk, OwnEnd, IsTurn, AreTurns, OwnEndsAgree, fresh}

octets_by : (event : Event) → octets_in event ≡ octets_of (received_by event)
octets_by Up = refl
octets_by (Sent frame) = refl
octets_by (Taken frame) = sym (append-nil (frame_octets frame))
octets_by (Discarded frame) = sym (append-nil (frame_octets frame))
octets_by (T3 system) = refl
octets_by (Cut cause) = refl
octets_by Down = refl

octets_of-append : (a b : List Frame) → octets_of (a ++ b) ≡ octets_of a ++ octets_of b
octets_of-append a b = flat_map-append frame_octets a b

same_octets : (log : List Entry) → octets_received log ≡ octets_of (received log)
same_octets [] = refl
same_octets (entry ∷ log) =
    ap (λ x. x ++ octets_received log) (octets_by entry.event) ∙ ap (λ x. octets_of (received_by entry.event) ++ x) (same_octets log)
    ∙ sym (octets_of-append (received_by entry.event) (received log))

-- The bytes delivered to an endpoint are those of its received messages, followed by the pending ones.
IsKept : OwnEnd → Type 0
IsKept own = own.delivered ≡ octets_of (received own.log) ++ own.state.pending

input_keeps : (desk : Desk) (end : EndState) (input : InputEvent) (accepted : List InputEvent) (entries : List Entry) (end' : EndState) → Responds desk end input accepted entries end' → end.pending ++ input_octets accepted ≡ octets_of (received entries) ++ end'.pending
input_keeps desk end input accepted entries end' (is_refused fault encounters none silent same) =
    ap (λ x. end.pending ++ input_octets x) none ∙ append-nil end.pending ∙ ap (λ (x : EndState). x.pending) (sym same)
    ∙ ap (λ x. octets_of (received x) ++ end'.pending) (sym silent)
input_keeps desk end input accepted entries end' (is_accepted encounters turn one) =
    ap (λ x. end.pending ++ input_octets x) one ∙ ap (λ x. end.pending ++ x) (append-nil (octets_of_input input))
    ∙ turn_keeps_octets desk end input entries end' turn ∙ ap (λ x. x ++ end'.pending) (same_octets entries)

kept_on : (desk : Desk) (own other : OwnEnd) (input : InputEvent) (next : OwnEnd) → IsKept own → IsTurn desk own other input next → IsKept next
unfolding IsKept
kept_on desk own other input next kept t =
    t.octets ∙ ap (λ x. x ++ input_octets t.accepted) kept
    ∙ append_assoc (octets_of (received own.log)) own.state.pending (input_octets t.accepted)
    ∙ ap (λ x. octets_of (received own.log) ++ x) (input_keeps desk own.state input t.accepted t.entries next.state t.responds)
    ∙ sym (append_assoc (octets_of (received own.log)) (octets_of (received t.entries)) next.state.pending)
    ∙ ap (λ x. x ++ next.state.pending) (sym (octets_of-append (received own.log) (received t.entries)))
    ∙ ap (λ x. octets_of x ++ next.state.pending) (sym (received-append own.log t.entries))
    ∙ ap (λ x. octets_of (received x) ++ next.state.pending) (sym t.logged)

streamed_turn : (desk : Desk) (own other : OwnEnd) (input : InputEvent) (next : OwnEnd) → IsKept own → (t : IsTurn desk own other input next) → IsStreamed other.log (own.log ++ t.entries) (own.delivered ++ input_octets t.accepted)
unfolding IsKept
streamed_turn desk own other input next kept t = (
  next.state.pending,
  t.in_transit,
  t.streamed ∙ ap (λ x. x ++ t.in_transit) t.octets,
  sym t.octets ∙ kept_on desk own other input next kept t ∙ ap (λ x. octets_of (received x) ++ next.state.pending) t.logged,
)

-- The turns of both endpoints.
record Turns (host equipment host' equipment' : OwnEnd) : Type 0 where
  turns : List Turn
  streamed : AreStreamed host.log equipment.log host.delivered equipment.delivered turns
  at_host : host'.log ≡ host.log ++ host_log turns
  at_equipment : equipment'.log ≡ equipment.log ++ equipment_log turns

streamed_as : (turns : List Turn) (a a' b b' : List Entry) (m m' n n' : List ℕ) → a ≡ a' → b ≡ b' → m ≡ m' → n ≡ n' → AreStreamed a b m n turns → AreStreamed a' b' m' n' turns
streamed_as turns a a' b b' m m' n n' e f g k h =
    let P : List Entry → Type 0 = λ x. AreStreamed x b m n turns in
    let Q : List Entry → Type 0 = λ x. AreStreamed a' x m n turns in
    let R : List ℕ → Type 0 = λ x. AreStreamed a' b' x n turns in
    let S : List ℕ → Type 0 = λ x. AreStreamed a' b' m' x turns in
    subst S k (subst R g (subst Q f (subst P e h)))

turns_of : (at_host at_equipment : Desk) (host equipment : OwnEnd) (inputs : List (Role × InputEvent)) (host' equipment' : OwnEnd) → IsKept host → IsKept equipment → AreTurns at_host at_equipment host equipment inputs host' equipment' → Turns host equipment host' equipment'
unfolding IsKept
turns_of at_host at_equipment host equipment [] host' equipment' kept kept_too (same, same_too) = record {
  turns = [];
  streamed = tt;
  at_host = ap (λ (x : OwnEnd). x.log) same ∙ sym (append-nil host.log);
  at_equipment = ap (λ (x : OwnEnd). x.log) same_too ∙ sym (append-nil equipment.log);
}
turns_of at_host at_equipment host equipment ((Host, input) ∷ inputs) host' equipment' kept kept_too (next, t, more) =
    let rest : Turns next equipment host' equipment' = turns_of at_host at_equipment next equipment inputs host' equipment' (kept_on at_host host equipment input next kept t) kept_too more in
    record {
      turns = AtHost (input_octets t.accepted) t.entries ∷ rest.turns;
      streamed = (
        streamed_turn at_host host equipment input next kept t,
        streamed_as rest.turns next.log (host.log ++ t.entries) equipment.log equipment.log next.delivered (host.delivered ++ input_octets t.accepted) equipment.delivered equipment.delivered t.logged refl t.octets refl rest.streamed,
      );
      at_host = rest.at_host ∙ ap (λ x. x ++ host_log rest.turns) t.logged ∙ append_assoc host.log t.entries (host_log rest.turns);
      at_equipment = rest.at_equipment;
    }
turns_of at_host at_equipment host equipment ((Equipment, input) ∷ inputs) host' equipment' kept kept_too (next, t, more) =
    let rest : Turns host next host' equipment' = turns_of at_host at_equipment host next inputs host' equipment' kept (kept_on at_equipment equipment host input next kept_too t) more in
    record {
      turns = AtEquipment (input_octets t.accepted) t.entries ∷ rest.turns;
      streamed = (
        streamed_turn at_equipment equipment host input next kept_too t,
        streamed_as rest.turns host.log host.log next.log (equipment.log ++ t.entries) host.delivered host.delivered next.delivered (equipment.delivered ++ input_octets t.accepted) refl t.logged refl t.octets rest.streamed,
      );
      at_host = rest.at_host;
      at_equipment = rest.at_equipment ∙ ap (λ x. x ++ equipment_log rest.turns) t.logged ∙ append_assoc equipment.log t.entries (equipment_log rest.turns);
    }

pub own_ends_agree : OwnEndsAgree
unfolding IsKept
own_ends_agree at_host at_equipment settings others first second inputs host equipment delivered fit fit_too =
    let t = turns_of at_host at_equipment (fresh settings first) (fresh others second) inputs host equipment refl refl delivered in
    let P : List Entry → Type 0 = λ x. CarriesMessages x in
    agree_as (host_log t.turns) host.log (equipment_log t.turns) equipment.log (sym t.at_host) (sym t.at_equipment)
    (agree_on t.turns [] [] [] [] agree-empty t.streamed (subst P t.at_host fit) (subst P t.at_equipment fit_too))
  where
    agree_as : (a a' b b' : List Entry) → a ≡ a' → b ≡ b' → Agree a b → Agree a' b'
    agree_as a a' b b' e f g =
        let P : List Entry → Type 0 = λ x. Agree x b in
        let Q : List Entry → Type 0 = λ x. Agree a' x in
        subst Q f (subst P e g)
