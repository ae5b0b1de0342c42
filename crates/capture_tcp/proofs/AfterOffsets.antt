-- The index of a packet among those that wait.
use Rattle.std.proofs.Common.{◌≡◌, ◌<◌, ◌≤◌, ◌+◌, ℕ, zero, suc, List, [], ◌∷◌, length, refl, ap, subst, arith}
use Rattle.std.proofs.lemmas.Bool.{lt-ltb, le-ltb}
use Rattle.std.specs.List.{insert, slice_index_or}
use Rattle.capture_tcp.specs.declared.packet.Packet.{Packet}
use Rattle.capture_tcp.specs.InnerOutOfOrder.{put_after}

-- Holds if the first n packets do not come after this one.
abbrev pub AreBefore : Packet → ℕ → List Packet → Type 0
AreBefore p zero qs = Unit {0}
AreBefore p (suc i) [] = ⊥
AreBefore p (suc i) (q ∷ qs) = (q.from ≤ p.from) × AreBefore p i qs

next : (p q : Packet) (i : ℕ) (qs : List Packet) → AreBefore p i qs → i < length qs → q ≡ slice_index_or qs i q → q.from ≤ p.from → AreBefore p (suc i) qs
next p q zero [] h lt e le = absurd (omega (arith, lt))
next p q zero (r ∷ qs) h lt e le = (subst (λ (x : Packet). x.from ≤ p.from) e le, tt)
next p q (suc i) [] h lt e le = h
next p q (suc i) (r ∷ qs) h lt e le = (h.0, next p q i qs h.1 (omega (arith, lt)) e le)

pub one_more : (p q : Packet) (i : ℕ) (qs : List Packet) → AreBefore p i qs → i < length qs → q ≡ slice_index_or qs i q → q.from ≤ p.from → AreBefore p (i + 1) qs
one_more p q i qs h lt e le = let same : suc i ≡ i + 1 = omega arith in subst (λ (n : ℕ). AreBefore p n qs) same (next p q i qs h lt e le)

pub stops_at : (p q : Packet) (i : ℕ) (qs : List Packet) → AreBefore p i qs → i < length qs → q ≡ slice_index_or qs i q → p.from < q.from → insert qs i p ≡ put_after p qs
stops_at p q zero [] h lt e less = absurd (omega (arith, lt))
stops_at p q zero (r ∷ qs) h lt e less = let f : p.from < r.from = subst (λ (x : Packet). p.from < x.from) e less in rw (lt-ltb p.from r.from f) refl
stops_at p q (suc i) [] h lt e less = absurd h
stops_at p q (suc i) (r ∷ qs) h lt e less = rw (le-ltb p.from r.from h.0) (ap (λ (z : List Packet). r ∷ z) (stops_at p q i qs h.1 (omega (arith, lt)) e less))

pub comes_last : (p : Packet) (i : ℕ) (qs : List Packet) → AreBefore p i qs → length qs ≤ i → insert qs i p ≡ put_after p qs
comes_last p zero [] h le = refl
comes_last p zero (r ∷ qs) h le = absurd (omega (arith, le))
comes_last p (suc i) [] h le = absurd h
comes_last p (suc i) (r ∷ qs) h le = rw (le-ltb p.from r.from h.0) (ap (λ (z : List Packet). r ∷ z) (comes_last p i qs h.1 (omega (arith, le))))
