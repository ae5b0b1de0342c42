-- Spans in the order of their offsets, and the end of what they cover.
use Rattle.std.proofs.Common.{◌≡◌, ◌<◌, ◌≤◌, ◌⊎◌, ℕ, max, List, [], ◌∷◌, refl, sym, subst, arith, inl, inr}
use Rattle.std.proofs.lemmas.Bool.{le-leb, lt-leb, cases_lt}
use Rattle.capture_tcp.specs.Laws.{Span, Covers, IsOrdered, absorb, IsEnd}

pub none_waits : (end : ℕ) → absorb end [] ≡ end
unfolding absorb
none_waits end = refl

pub absorbed : (end : ℕ) (s : Span) (ss : List Span) → s.from ≤ end → absorb end (s ∷ ss) ≡ absorb (max end s.to) ss
unfolding absorb
absorbed end s ss h = rw (le-leb s.from end h) refl

pub stopped : (end : ℕ) (s : Span) (ss : List Span) → end < s.from → absorb end (s ∷ ss) ≡ end
unfolding absorb
stopped end s ss h = rw (lt-leb s.from end h) refl

pub alike : {P Q : ℕ → Type 0} (x : ℕ) → ((n : ℕ) → P n → Q n) → ((n : ℕ) → Q n → P n) → IsEnd P x → IsEnd Q x
alike x f g h = (λ n lt. f n (h.0 n lt), λ q. h.1 (g x q))

grows : (end : ℕ) (s : Span) (ss : List Span) → s.from ≤ end → (n : ℕ) → (n < max end s.to) ⊎ Covers ss n → (n < end) ⊎ Covers (s ∷ ss) n
grows end s ss h n (inr c) = inr (inr c)
grows end s ss h n (inl lt) =
    elim (cases_lt n end) [
      | inl below ↦ inl below
      | inr subsequent ↦ inr (inl (omega arith, omega arith))
    ]

shrinks : (end : ℕ) (s : Span) (ss : List Span) (n : ℕ) → (n < end) ⊎ Covers (s ∷ ss) n → (n < max end s.to) ⊎ Covers ss n
shrinks end s ss n (inl lt) = inl (omega arith)
shrinks end s ss n (inr (inl c)) = inl (omega (arith, c.1))
shrinks end s ss n (inr (inr c)) = inr c

pub absorb_end : (end : ℕ) (spans : List Span) → IsOrdered spans → IsEnd (λ n. (n < end) ⊎ Covers spans n) (absorb end spans)
unfolding absorb
absorb_end end [] h = (λ n lt. inl lt, nothing)
  where
    nothing : (end < end) ⊎ ⊥ → ⊥
    nothing (inl lt) = omega arith
    nothing (inr c) = c
absorb_end end (s ∷ ss) h = by (absorb_end (max end s.to) ss h.1)
  where
    not_there : end < s.from → (end < end) ⊎ Covers (s ∷ ss) end → ⊥
    not_there gap (inl lt) = omega arith
    not_there gap (inr (inl c)) = omega (arith, c.0)
    not_there gap (inr (inr c)) = omega (arith, h.0 end c)

    by : IsEnd (λ n. (n < max end s.to) ⊎ Covers ss n) (absorb (max end s.to) ss) → IsEnd (λ n. (n < end) ⊎ Covers (s ∷ ss) n) (absorb end (s ∷ ss))
    by later =
        elim (cases_lt end s.from) [
          | inl gap ↦ subst (λ (x : ℕ). IsEnd (λ n. (n < end) ⊎ Covers (s ∷ ss) n) x) (sym (stopped end s ss gap)) (λ n lt. inl lt, not_there gap)
          | inr le ↦ subst (λ (x : ℕ). IsEnd (λ n. (n < end) ⊎ Covers (s ∷ ss) n) x) (sym (absorbed end s ss le))
              (alike (absorb (max end s.to) ss) (grows end s ss le) (shrinks end s ss) later)
        ]

pub one_end : (end : ℕ) (spans : List Span) (a b : ℕ) → IsEnd (λ n. (n < end) ⊎ Covers spans n) a → IsEnd (λ n. (n < end) ⊎ Covers spans n) b → a ≡ b
one_end end spans a b h k =
    elim (cases_lt a b) [
      | inl lt ↦ absurd (h.1 (k.0 a lt))
      | inr le ↦ elim (cases_lt b a) [
        | inl lt ↦ absurd (k.1 (h.0 b lt))
        | inr ge ↦ omega arith
      ]
    ]
