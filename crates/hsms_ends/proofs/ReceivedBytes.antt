-- The input from a link and the bytes sent over it, in consecutive sequences of calls.
use Rattle.std.proofs.Common.{◌≡◌, ◌<◌, ◌+◌, ◌++◌, ℕ, List, [], length, take, Some, None, refl, sym, ap, ◌∙◌, subst, arith, append_assoc, length-append}
use Rattle.std.specs.Prelude.{Option, Bool}
use Rattle.std.proofs.lemmas.List.{take-append-le, append-nil}
use Rattle.std.proofs.Math.Seq.{take-append-add}
use Rattle.hsms_frame.specs.Io.{Grows, GrowsByFront, Stays}
use Rattle.hsms_ends.specs.Link.{LinkState, LinkInput, Recalls, RisesBy, ProcessesInput, closed_after, later, both, processed_nothing}

pub recalls_then : (old mid new : Option (List ℕ)) (a b : List ℕ) → Recalls old mid a → Recalls mid new b → Recalls old new (a ++ b)
recalls_then old mid new a b h k after link_state =
    let second = k after link_state in
    let first = h second.0 second.1 in
    (first.0, first.1, second.2 ∙ ap (λ l. l ++ b) first.2 ∙ append_assoc first.0 a b)

pub recalls_none : (old : Option (List ℕ)) → Recalls old old []
recalls_none old after link_state = (after, link_state, sym (append-nil after))

pub grows_then : (old mid new : Option (List ℕ)) (a b : List ℕ) → Grows old mid a → Grows mid new b → Grows old new (a ++ b)
grows_then old mid new a b h k octets link_state = k (octets ++ a) (h octets link_state) ∙ ap Some (append_assoc octets a b)

pub grows_none : (old : Option (List ℕ)) → Grows old old []
grows_none old octets link_state = link_state ∙ ap Some (sym (append-nil octets))

pub grows_stays : (old mid new : Option (List ℕ)) (a : List ℕ) → Stays old mid → Grows mid new a → Grows old new a
grows_stays old mid new a h k octets link_state = k octets (h octets link_state)

pub front_of_first : (old mid : Option (List ℕ)) (a b : List ℕ) → GrowsByFront old mid a → GrowsByFront old mid (a ++ b)
front_of_first old mid a b h octets link_state =
    let x = h octets link_state in
    let below : x.0 < length a = x.1 in
    (x.0, omega (arith, length-append a b), x.2 ∙ ap (λ l. Some (octets ++ l)) (sym (take-append-le x.0 a b (omega arith))))

pub front_of_second : (old mid new : Option (List ℕ)) (a b : List ℕ) → Grows old mid a → GrowsByFront mid new b → GrowsByFront old new (a ++ b)
front_of_second old mid new a b h k octets link_state =
    let x = k (octets ++ a) (h octets link_state) in
    let below : x.0 < length b = x.1 in (
      length a + x.0,
      omega (arith, length-append a b),
      x.2 ∙ ap Some (append_assoc octets a (take x.0 b)) ∙ ap (λ l. Some (octets ++ l)) (sym (take-append-add a b x.0)),
    )

pub rises_then : (old mid new j k : ℕ) → RisesBy old mid j → RisesBy mid new k → RisesBy old new (j + k)
rises_then old mid new j k h g below =
    let first : mid ≡ old + j = h (omega (arith, below)) in
    g (omega (arith, below, first)) ∙ omega (arith, first)

pub rises_none : (old : ℕ) → RisesBy old old 0
rises_none old below = omega arith

closed_then : (before : Bool) (a b : Option Bool) → closed_after (closed_after before a) b ≡ closed_after before (later a b)
closed_then before a None = refl
closed_then before a (Some closed) = refl

pub processes_then : (old mid new : LinkState) (a b : LinkInput) → ProcessesInput old mid a → ProcessesInput mid new b → ProcessesInput old new (both a b)
processes_then old mid new a b h k = record {
  moments = recalls_then old.moments mid.moments new.moments a.moments b.moments h.moments k.moments;
  given = grows_then old.given mid.given new.given a.given b.given h.given k.given;
  waits = rises_then old.waits mid.waits new.waits a.waits b.waits h.waits k.waits;
  closes = rises_then old.closes mid.closes new.closes a.closes b.closes h.closes k.closes;
  closed = k.closed ∙ ap (λ x. closed_after x b.closed) h.closed ∙ closed_then old.closed a.closed b.closed;
}

pub processes_nothing : (old : LinkState) → ProcessesInput old old processed_nothing
processes_nothing old = record {
  moments = recalls_none old.moments;
  given = grows_none old.given;
  waits = rises_none old.waits;
  closes = rises_none old.closes;
  closed = refl;
}

pub both_nothing : (a : LinkInput) → both a processed_nothing ≡ a
both_nothing a =
    let m : List ℕ → List ℕ → ℕ → ℕ → LinkInput = λ x y w n. record { moments = x; given = y; waits = w; closes = n; closed = a.closed } in
    let none : (k : ℕ) → k + 0 ≡ k = λ k. omega arith in
    ap (λ x. m x (a.given ++ []) (a.waits + 0) (a.closes + 0)) (append-nil a.moments)
    ∙ ap (λ y. m a.moments y (a.waits + 0) (a.closes + 0)) (append-nil a.given)
    ∙ ap (λ w. m a.moments a.given w (a.closes + 0)) (none a.waits)
    ∙ ap (λ n. m a.moments a.given a.waits n) (none a.closes)

pub processes_along : (old new : LinkState) (a b : LinkInput) → a ≡ b → ProcessesInput old new a → ProcessesInput old new b
processes_along old new a b e h = let P : LinkInput → Type 0 = λ x. ProcessesInput old new x in subst P e h
