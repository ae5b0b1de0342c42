-- What a delivered packet emits.
use Rattle.std.proofs.Common.{◌≡◌, ◌≤◌, ◌++◌, ◌∷◌, ℕ, Bool, true, false, cond, List, [], Option, Some, None, refl, sym, ap, subst, ◌∙◌, arith}
use Rattle.std.specs.Option.{unwrap_or}
use Rattle.capture_tcp.specs.declared.packet.Side.{Side}
use Rattle.capture_tcp.specs.declared.packet.Side.TheVariants as side
use Rattle.capture_tcp.specs.declared.streams.Due.{Due}
use Rattle.capture_tcp.specs.declared.streams.Stream.{Stream}
use Rattle.capture_tcp.specs.declared.streams.Streams.{Streams}
use Rattle.capture_tcp.specs.declared.events.TimedEvent.{TimedEvent}
use Rattle.capture_tcp.specs.declared.events.EmitterState.{EmitterState}
use Rattle.capture_tcp.specs.ConnectionEvents.{Entry, entry, up, down}
use Rattle.capture_tcp.specs.Reassembly.{Store}
use Rattle.capture_tcp.specs.KnownStreams.{end_at}
use Rattle.capture_tcp.specs.EventSteps.{and_processed, processes_input, comes_up, closes_down}
use Rattle.capture_tcp.specs.InnerEventSteps.{Cuts, ProcessesInput}
use Rattle.capture_tcp.specs.DeliverySteps.{brought, by_ack, delivers, other_side, answers, answer_entries, resets, reset_entry}
use Rattle.capture_tcp.specs.InnerDeliverySteps.{AckMoves, Acknowledges, AreLeft, Delivers, Moves, MovesTo, TakesTurn, reach, stream_at}
use Rattle.capture_tcp.proofs.Slicing.{processed_as, processed_then, processes_append, processes_one, none_processed}

of_answer : (b : Bool) (t : Due) → b ≡ true → cond b (entry t.at up ∷ []) [] ≡ entry t.at up ∷ []
of_answer true t e = refl
of_answer false t e = absurd cc

of_none : (b : Bool) (es : List Entry) → b ≡ false → cond b es [] ≡ []
of_none true es e = absurd cc
of_none false es e = refl

of_some : (b : Bool) (es : List Entry) → b ≡ true → cond b es [] ≡ es
of_some true es e = refl
of_some false es e = absurd cc

pub up_processed : (t : Due) (s u : EmitterState) (a b : List TimedEvent) → answers t ≡ true → ProcessesInput (comes_up s t.at) a u b → ProcessesInput (processes_input s (answer_entries t)) a u b
up_processed t s u a b e h =
    processed_as (comes_up s t.at) (processes_input s (answer_entries t)) a b u
    (sym (ap (processes_input s) (of_some (answers t) (entry t.at up ∷ []) e) ∙ processes_one s (entry t.at up))) h

pub no_answer : (t : Due) (s : EmitterState) (a : List TimedEvent) → answers t ≡ false → ProcessesInput (processes_input s (answer_entries t)) a s a
no_answer t s a e = processed_as (processes_input s []) (processes_input s (answer_entries t)) a a s (sym (ap (processes_input s) (of_none (answers t) (entry t.at up ∷ []) e))) (none_processed s a)

pub reset_processed : (opened : Bool) (t : Due) (s u : EmitterState) (a b : List TimedEvent) → resets opened t ≡ true → ProcessesInput (closes_down s t.at) a u b
    → ProcessesInput (processes_input s (reset_entry opened t)) a u b
reset_processed opened t s u a b e h =
    processed_as (closes_down s t.at) (processes_input s (reset_entry opened t)) a b u
    (sym (ap (processes_input s) (of_some (resets opened t) (entry t.at down ∷ []) e) ∙ processes_one s (entry t.at down))) h

pub no_reset : (opened : Bool) (t : Due) (s : EmitterState) (a : List TimedEvent) → resets opened t ≡ false → ProcessesInput (processes_input s (reset_entry opened t)) a s a
no_reset opened t s a e =
    processed_as (processes_input s []) (processes_input s (reset_entry opened t)) a a s (sym (ap (processes_input s) (of_none (resets opened t) (entry t.at down ∷ []) e))) (none_processed s a)

-- ---- what is delivered

pub delivered_active : (s : Side) (upto n at place later : ℕ) (h : Store) (p : Stream) (a c : List TimedEvent) (t u : EmitterState) → s ≡ side.Active
    → Cuts h (end_at s) n upto place a t later c u
    → Delivers (record { of = s; upto = upto; packet = n; time = at }) (record { active = record { held = h; place = place }; passive = p }) a t (record { active = record { held = h; place = later }; passive = p }) c u
delivered_active side.Active upto n at place later h p a c t u e cut fits b left = let r = cut b.active left.0 fits in (r.0, (r.1, left.1))
delivered_active side.Passive upto n at place later h p a c t u e cut fits b left = absurd cc

pub delivered_passive : (s : Side) (upto n at place later : ℕ) (h : Store) (p : Stream) (a c : List TimedEvent) (t u : EmitterState) → s ≡ side.Passive
    → Cuts h (end_at s) n upto place a t later c u
    → Delivers (record { of = s; upto = upto; packet = n; time = at }) (record { active = p; passive = record { held = h; place = place } }) a t (record { active = p; passive = record { held = h; place = later } }) c u
delivered_passive side.Active upto n at place later h p a c t u e cut fits b left = absurd cc
delivered_passive side.Passive upto n at place later h p a c t u e cut fits b left = let r = cut b.passive left.1 fits in (r.0, (left.0, r.1))

twice : (s : Side) → other_side (other_side s) ≡ s
twice side.Active = refl
twice side.Passive = refl

pub none_acked : (t : Due) (s : Streams) (a : List TimedEvent) (u : EmitterState) → None ≡ t.packet.acknowledged → Acknowledges t s a u s a u × AckMoves t s s
none_acked t s a u e = (
  λ le b left. rw (sym e) (none_processed u a, left),
  ((refl, omega arith, omega arith), refl),
)

pub some_acked : (t : Due) (s r : Streams) (a c : List TimedEvent) (u v : EmitterState) (n : ℕ) → t.packet.acknowledged ≡ Some n
    → Delivers (record { of = other_side t.from; upto = n; packet = t.at; time = t.time }) s a u r c v → Acknowledges t s a u r c v
some_acked t s r a c u v n e d le b left =
    subst (λ (o : Option ℕ). unwrap_or o 0 ≤ reach (stream_at s (other_side t.from)) → ProcessesInput (processes_input u (by_ack t o b).entries) a v c × AreLeft r (by_ack t o b).both) (sym e)
    (λ le. d le b left) le

pub some_moves : (t : Due) (s r : Streams) (n : ℕ) → t.packet.acknowledged ≡ Some n
    → Moves (record { of = other_side t.from; upto = n; packet = t.at; time = t.time }) s r → AckMoves t s r
some_moves t s r n e m = (
  subst (λ (o : Option ℕ). MovesTo (stream_at s (other_side t.from)) (unwrap_or o 0) (stream_at r (other_side t.from))) (sym e) m.0,
  subst (λ (d : Side). stream_at r d ≡ stream_at s d) (twice t.from) m.1,
)

-- ---- all of a delivery

processes_two : (t u v : EmitterState) (xs ys : List Entry) (a b c : List TimedEvent) → ProcessesInput (processes_input t xs) a u b → ProcessesInput (processes_input u ys) b v c → ProcessesInput (processes_input t (xs ++ ys)) a v c
processes_two t u v xs ys a b c x y =
    processed_as (and_processed (processes_input t xs) (λ s. processes_input s ys)) (processes_input t (xs ++ ys)) a c v (sym (processes_append t xs ys))
    (processed_then (processes_input t xs) (λ s. processes_input s ys) a b c u v x y)

pub turned : (opened : Bool) (t : Due) (old mid new : Streams) (a0 a1 a2 a3 a4 : List TimedEvent) (u0 u1 u2 u3 u4 : EmitterState)
    → ProcessesInput (processes_input u0 (answer_entries t)) a0 u1 a1 → Acknowledges t old a1 u1 mid a2 u2 → AckMoves t old mid
    → Delivers (record { of = t.from; upto = t.packet.to; packet = t.at; time = t.time }) mid a2 u2 new a3 u3 → Moves (record { of = t.from; upto = t.packet.to; packet = t.at; time = t.time }) mid new
    → ProcessesInput (processes_input u3 (reset_entry opened t)) a3 u4 a4 → TakesTurn opened t old a0 u0 new a4 u4
turned opened t old mid new a0 a1 a2 a3 a4 u0 u1 u2 u3 u4 first_up ack ack_moves own own_moves proceeds all =
    let here : t.packet.to ≤ reach (stream_at mid t.from) = subst (λ (s : Stream). t.packet.to ≤ reach s) (sym ack_moves.1) all.1 in (
      λ b left.
          let first = ack all.0 b left in
          let second = own here (by_ack t t.packet.acknowledged b).both first.1 in (
            processes_two u0 u1 u4 (answer_entries t) ((delivers t b).entries ++ reset_entry opened t) a0 a1 a4 first_up
                (processes_two u1 u3 u4 (delivers t b).entries (reset_entry opened t) a1 a3 a4
                (processes_two u1 u2 u3 (by_ack t t.packet.acknowledged b).entries (brought t (by_ack t t.packet.acknowledged b).both).entries a1 a2 a3 first.0 second.0) proceeds),
            second.1,
          ),
      subst (λ (s : Stream). MovesTo (stream_at old (other_side t.from)) (unwrap_or t.packet.acknowledged 0) s) (sym own_moves.1) ack_moves.0,
      subst (λ (s : Stream). MovesTo s t.packet.to (stream_at new t.from)) ack_moves.1 own_moves.0,
    )
