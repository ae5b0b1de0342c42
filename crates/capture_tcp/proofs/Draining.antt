-- What an advancing end removes from a queue, one packet after another.
use Rattle.std.proofs.Common.{◌≡◌, ◌≤◌, ◌++◌, ℕ, max, List, [], ◌∷◌, refl, ap, ◌∙◌, sym}
use Rattle.std.proofs.lemmas.Bool.{le-leb, lt-leb}
use Rattle.std.proofs.lemmas.List.{append_assoc, append-nil}
use Rattle.std.specs.Option.{unwrap_or}
use Rattle.capture_tcp.specs.declared.packet.Packet.{Packet}
use Rattle.capture_tcp.specs.InnerOutOfOrder.{IsStopped, Drained, and_released, drained, acked}

pub can_continue : (end : ℕ) (q : Packet) (qs : List Packet) → q.from ≤ end → drained end (q ∷ qs) ≡ and_released q (drained (max end q.to) qs)
unfolding drained
can_continue end q qs le = rw (le-leb q.from end le) refl

pub stops : (end : ℕ) (qs : List Packet) → IsStopped end qs → drained end qs ≡ record { end = end; emitted = []; left = qs }
unfolding drained
stops end [] h = refl
stops end (q ∷ qs) h = rw (lt-leb q.from end h) refl

-- What a loop preserves, if it started with the first of these and has the second now.
pub record Keeps (end acknowledged : ℕ) (queue emitted : List Packet) (end' acknowledged' : ℕ) (queue' emitted' : List Packet) : Type 0 where
  pub comes : (drained end' queue').end ≡ (drained end queue).end
  pub rest : (drained end' queue').left ≡ (drained end queue).left
  pub emits : emitted' ++ (drained end' queue').emitted ≡ emitted ++ (drained end queue).emitted
  pub acks : acked acknowledged' (drained end' queue').emitted ≡ acked acknowledged (drained end queue).emitted

pub begins : (end acknowledged : ℕ) (queue emitted : List Packet) → Keeps end acknowledged queue emitted end acknowledged queue emitted
begins end acknowledged queue emitted = record { comes = refl; rest = refl; emits = refl; acks = refl }

pub keeps : (end acknowledged : ℕ) (queue emitted : List Packet) (end' acknowledged' : ℕ) (queue' emitted' : List Packet) (q : Packet) (qs later : List Packet)
    → Keeps end acknowledged queue emitted end' acknowledged' queue' emitted' → queue' ≡ q ∷ qs → q.from ≤ end' → later ≡ emitted' ++ q ∷ []
    → Keeps end acknowledged queue emitted (max end' q.to) (max acknowledged' (unwrap_or q.acknowledged 0)) qs later
unfolding acked
keeps end acknowledged queue emitted end' acknowledged' queue' emitted' q qs later h e le f =
    let step : drained end' queue' ≡ and_released q (drained (max end' q.to) qs) = ap (drained end') e ∙ can_continue end' q qs le in
    let more = drained (max end' q.to) qs in
    record {
      comes = sym (ap (λ (d : Drained). d.end) step) ∙ h.comes;
      rest = sym (ap (λ (d : Drained). d.left) step) ∙ h.rest;
      emits = ap (λ (z : List Packet). z ++ more.emitted) f ∙ append_assoc emitted' (q ∷ []) more.emitted ∙ sym (ap (λ (d : Drained). emitted' ++ d.emitted) step) ∙ h.emits;
      acks = sym (ap (λ (d : Drained). acked acknowledged' d.emitted) step) ∙ h.acks;
    }

pub ends : (end acknowledged : ℕ) (queue emitted : List Packet) (end' acknowledged' : ℕ) (queue' emitted' : List Packet)
    → Keeps end acknowledged queue emitted end' acknowledged' queue' emitted' → IsStopped end' queue'
    → (end' ≡ (drained end queue).end) × (acknowledged' ≡ acked acknowledged (drained end queue).emitted) × (queue' ≡ (drained end queue).left)
    × (emitted' ≡ emitted ++ (drained end queue).emitted)
unfolding acked
ends end acknowledged queue emitted end' acknowledged' queue' emitted' h s =
    let step = stops end' queue' s in (
      sym (ap (λ (d : Drained). d.end) step) ∙ h.comes,
      sym (ap (λ (d : Drained). acked acknowledged' d.emitted) step) ∙ h.acks,
      sym (ap (λ (d : Drained). d.left) step) ∙ h.rest,
      sym (append-nil emitted') ∙ sym (ap (λ (d : Drained). emitted' ++ d.emitted) step) ∙ h.emits,
    )
