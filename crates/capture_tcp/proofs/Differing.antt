-- Copies that differ from what is buffered.
use Rattle.std.proofs.Common.{◌≡◌, ◌<◌, ◌≤◌, ◌+◌, ◌^◌, ◌++◌, ◌∷◌, ◌&&◌, ◌||◌, ℕ, Bool, true, false, nat_le, List, [], length, map, min, take, drop, get_or, Option, Some, None, ◌-◌, ◌==◌, nat_eq, not, zero, suc, refl, sym, ap, ◌∙◌, arith, inl, inr, ◌⊎◌, length-drop, length-take}
use Rattle.std.proofs.lemmas.Bool.{le-leb, lt-leb, cases_lt}
use Rattle.std.proofs.Math.ListN.{get_or-eq_default}
use Rattle.std.proofs.lemmas.List.{drop-drop, get_or-drop, take-append-drop}
use Rattle.std.specs.Cmp.Lexicographic.{pointwise}
use Rattle.capture_tcp.specs.Cells.{Kept, all_of, some_octets}
use Rattle.capture_tcp.proofs.ConnectedPackets.{drop_all, some_append}
use Rattle.capture_tcp.specs.declared.reassembly.Cell.{Cell as HeldCell}
use Rattle.capture_tcp.specs.declared.reassembly.Cell.TheVariants as held
use Rattle.capture_tcp.specs.TcpStreams.{End, Cell, Placed, cell_at, is_other, contradicts}
use Rattle.capture_tcp.specs.Message.{cells_of}
use Rattle.capture_tcp.specs.Reassembly.{Store, wire_cell, IsStoreOf, ReturnsConflict}
use Rattle.capture_tcp.specs.InnerReassembly.{differs_at, is_another, differs, flag_of, octets_of, held_of}
use Rattle.capture_tcp.proofs.StoredCells.{cells_length, flag_count, length_flag, length_octets, wire_is}

-- ---- one cell

pub is_acknowledged : (acknowledged place : ℕ) (b : Bool) → place < acknowledged → false ≡ (nat_le acknowledged place && b)
is_acknowledged acknowledged place b lt = rw (lt-leb acknowledged place lt) refl

pub is_open : (acknowledged place : ℕ) (b : Bool) → acknowledged ≤ place → b ≡ (nat_le acknowledged place && b)
is_open acknowledged place b le = rw (le-leb acknowledged place le) refl

or_false : (b : Bool) → b ≡ (b || false)
or_false true = refl
or_false false = refl

pub one_differs : (base acknowledged place : ℕ) (b : Bool) (c : HeldCell) (ss : List (Option HeldCell)) → b ≡ true
    → differs_at base acknowledged place c ss ≡ differs base acknowledged place (flag_of b c) ss
unfolding differs
one_differs base acknowledged place false c ss e = absurd cc
one_differs base acknowledged place true c ss e = or_false (differs_at base acknowledged place c ss)

pub none_differs : (base acknowledged place : ℕ) (b : Bool) (c : HeldCell) (ss : List (Option HeldCell)) → b ≡ false
    → false ≡ differs base acknowledged place (flag_of b c) ss
unfolding differs
none_differs base acknowledged place true c ss e = absurd cc
none_differs base acknowledged place false c ss e = refl

-- ---- several cells

pub octet_found : (base acknowledged place n : ℕ) (ns : List ℕ) (ss : List (Option HeldCell)) (w : Bool)
    → differs_at base acknowledged place (held.Octet n) ss ≡ true → differs base acknowledged place (octets_of (n ∷ ns)) ss ≡ w → true ≡ w
unfolding differs
octet_found base acknowledged place n ns ss w e h = sym (ap (λ (b : Bool). b || differs base acknowledged (place + 1) (octets_of ns) ss) e) ∙ h

pub octet_passed : (base acknowledged place n : ℕ) (ns : List ℕ) (ss : List (Option HeldCell)) (w : Bool)
    → differs_at base acknowledged place (held.Octet n) ss ≡ false → differs base acknowledged place (octets_of (n ∷ ns)) ss ≡ w
    → differs base acknowledged (place + 1) (octets_of ns) ss ≡ w
unfolding differs
octet_passed base acknowledged place n ns ss w e h = sym (ap (λ (b : Bool). b || differs base acknowledged (place + 1) (octets_of ns) ss) e) ∙ h

pub octets_end : (base acknowledged place : ℕ) (ns : List ℕ) (ss : List (Option HeldCell)) (w : Bool)
    → length ns ≡ 0 → differs base acknowledged place (octets_of ns) ss ≡ w → false ≡ w
unfolding differs
octets_end base acknowledged place [] ss w e h = h
octets_end base acknowledged place (n ∷ ns) ss w e h = absurd (omega (arith, e))

-- Nothing is buffered at the offsets of these.
pub past_differs : (base acknowledged place : ℕ) (cs : List HeldCell) (ss : List (Option HeldCell)) → length ss ≤ place - base → false ≡ differs base acknowledged place cs ss
unfolding differs
past_differs base acknowledged place [] ss le = refl
past_differs base acknowledged place (c ∷ cs) ss le =
    by_none (get_or ss (place - base) None) (get_or-eq_default ss None le) (past_differs base acknowledged (place + 1) cs ss (omega (arith, le)))
  where
    and_false : (b : Bool) → (b && false) ≡ false
    and_false true = refl
    and_false false = refl

    by_none : (o : Option HeldCell) → o ≡ None → false ≡ differs base acknowledged (place + 1) cs ss
        → false ≡ ((nat_le acknowledged place && is_another c o) || differs base acknowledged (place + 1) cs ss)
    by_none None e later = later ∙ ap (λ (b : Bool). b || differs base acknowledged (place + 1) cs ss) (sym (and_false (nat_le acknowledged place)))
    by_none (Some d) e later = absurd cc

-- ---- copies of several bytes

pub known_passed : (base acknowledged place k : ℕ) (ns : List ℕ) (ss : List (Option HeldCell)) → k ≤ acknowledged - place → k ≤ length ns
    → differs base acknowledged (place + k) (octets_of (drop k ns)) ss ≡ differs base acknowledged place (octets_of ns) ss
unfolding differs
known_passed base acknowledged place zero ns ss le few = let at : place + 0 ≡ place = omega arith in ap (λ (n : ℕ). differs base acknowledged n (octets_of ns) ss) at
known_passed base acknowledged place (suc k) [] ss le few = absurd (omega (arith, few))
known_passed base acknowledged place (suc k) (n ∷ ns) ss le few =
    let at : place + suc k ≡ place + 1 + k = omega arith in
    ap (λ (m : ℕ). differs base acknowledged m (octets_of (drop k ns)) ss) at ∙ known_passed base acknowledged (place + 1) k ns ss (omega (arith, le)) (omega (arith, few))
    ∙ ap (λ (b : Bool). b || differs base acknowledged (place + 1) (octets_of ns) ss) (is_acknowledged acknowledged place (is_another (held.Octet n) (get_or ss (place - base) None)) (omega (arith, le)))

-- Holds if these bytes are buffered without a gap from an offset on.
abbrev HoldsAt : ℕ → List ℕ → List (Option HeldCell) → Type 0
HoldsAt i hs ss = (more : List (Option HeldCell)) × (drop i ss ≡ some_octets hs ++ more)

holds_next : (i j h : ℕ) (hs : List ℕ) (ss : List (Option HeldCell)) → j ≡ i + 1 → HoldsAt i (h ∷ hs) ss → HoldsAt j hs ss
holds_next i j h hs ss e there = (
  there.0,
  (let at : j ≡ i + 1 = e in ap (λ (k : ℕ). drop k ss) at) ∙ sym (drop-drop 1 i ss) ∙ ap (drop 1) there.1,
)

holds_first : (i h : ℕ) (hs : List ℕ) (ss : List (Option HeldCell)) → HoldsAt i (h ∷ hs) ss → get_or ss i None ≡ Some (held.Octet h)
holds_first i h hs ss there =
    (let at : i ≡ i + 0 = omega arith in ap (λ (k : ℕ). get_or ss k None) at) ∙ sym (get_or-drop i ss 0 None) ∙ ap (λ (z : List (Option HeldCell)). get_or z 0 None) there.1

first_compared : (c h : ℕ) (b d : Bool) → (not (c == h) || (not b || d)) ≡ (not ((c == h) && b) || d)
first_compared c h b d = by_test (c == h)
  where
    by_test : (e : Bool) → (not e || (not b || d)) ≡ (not (e && b) || d)
    by_test true = refl
    by_test false = refl

copied : (base acknowledged place next : ℕ) (copy hs ns : List ℕ) (ss : List (Option HeldCell)) → length copy ≡ length hs → base ≤ place → acknowledged ≤ place → HoldsAt (place - base) hs ss
    → next ≡ place + length copy
    → differs base acknowledged place (octets_of (copy ++ ns)) ss ≡ (not (pointwise nat_eq copy hs) || differs base acknowledged next (octets_of ns) ss)
unfolding differs
copied base acknowledged place next [] [] ns ss e low free there at = (let same : place ≡ next = omega (arith, at) in ap (λ (n : ℕ). differs base acknowledged n (octets_of ns) ss) same)
copied base acknowledged place next [] (h ∷ hs) ns ss e low free there at = absurd (omega (arith, e))
copied base acknowledged place next (c ∷ copy) [] ns ss e low free there at = absurd (omega (arith, e))
copied base acknowledged place next (c ∷ copy) (h ∷ hs) ns ss e low free there at =
    ap (λ (b : Bool). b || differs base acknowledged (place + 1) (octets_of (copy ++ ns)) ss)
    (sym (is_open acknowledged place (is_another (held.Octet c) (get_or ss (place - base) None)) free)
    ∙ ap (λ (o : Option HeldCell). is_another (held.Octet c) o) (holds_first (place - base) h hs ss there))
    ∙ ap (λ (b : Bool). not (c == h) || b)
    (copied base acknowledged (place + 1) next copy hs ns ss (omega (arith, e)) (omega (arith, low)) (omega (arith, free))
    (holds_next (place - base) (place + 1 - base) h hs ss (omega (arith, low)) there) (omega (arith, at)))
    ∙ first_compared c h (pointwise nat_eq copy hs) (differs base acknowledged next (octets_of ns) ss)

-- What is compared: the given number of the contiguous bytes, from an offset on.
held_at : (k : Kept) (i count : ℕ) (kept : List ℕ) → kept ≡ take count (drop (min i (length k.octets)) k.octets) → count ≤ length (drop (min i (length k.octets)) k.octets)
    → (i ≤ length k.octets) ⊎ (count ≡ 0) → HoldsAt i kept (all_of k)
held_at k i count kept e le (inl near) =
    let subsequent = drop (min i (length k.octets)) k.octets in
    let at : min i (length k.octets) ≡ i = omega (arith, near) in
    let none : i - length k.octets ≡ 0 = omega (arith, near) in (
      some_octets (drop count subsequent) ++ k.others,
      drop_all i k.octets k.others ∙ ap (λ (j : ℕ). some_octets (drop i k.octets) ++ drop j k.others) none
          ∙ ap (λ (j : ℕ). some_octets (drop j k.octets) ++ k.others) (sym at)
          ∙ ap (λ (z : List ℕ). some_octets z ++ k.others) (sym (take-append-drop count subsequent))
          ∙ some_append (take count subsequent) (drop count subsequent) k.others
          ∙ ap (λ (z : List ℕ). some_octets z ++ (some_octets (drop count subsequent) ++ k.others)) (sym e),
    )
held_at k i count kept e le (inr none) =
    let nothing : kept ≡ [] = e ∙ ap (λ (n : ℕ). take n (drop (min i (length k.octets)) k.octets)) none in
    (drop i (all_of k), ap (λ (z : List ℕ). some_octets z ++ drop i (all_of k)) (sym nothing))

compared : (k : Kept) (base acknowledged place count next first : ℕ) (octets subsequent kept copy rest : List ℕ) → (base ≤ place) × (acknowledged ≤ place)
    → first ≡ min (place - base) (length k.octets) → subsequent ≡ drop first k.octets → count ≡ min (length subsequent) (length octets)
    → kept ≡ take count subsequent → copy ≡ take count octets → rest ≡ drop count octets → next ≡ place + count
    → differs base acknowledged place (octets_of octets) (all_of k) ≡ (not (pointwise nat_eq copy kept) || differs base acknowledged next (octets_of rest) (all_of k))
compared k base acknowledged place count next first octets subsequent kept copy rest low at e f g h r n =
    let start : subsequent ≡ drop (min (place - base) (length k.octets)) k.octets = e ∙ ap (λ (i : ℕ). drop i k.octets) at in
    let few : length subsequent ≡ length k.octets - first = ap (λ (z : List ℕ). length z) e ∙ length-drop first k.octets in
    let same : length subsequent ≡ length (drop (min (place - base) (length k.octets)) k.octets) = ap (λ (z : List ℕ). length z) start in
    let a : length copy ≡ min count (length octets) = ap (λ (z : List ℕ). length z) h ∙ length-take count octets in
    let b : length kept ≡ min count (length subsequent) = ap (λ (z : List ℕ). length z) g ∙ length-take count subsequent in
    ap (λ (z : List ℕ). differs base acknowledged place (octets_of z) (all_of k))
    (sym (take-append-drop count octets) ∙ ap (λ (z : List ℕ). z ++ drop count octets) (sym h) ∙ ap (λ (z : List ℕ). copy ++ z) (sym r))
    ∙ copied base acknowledged place next copy kept rest (all_of k) (omega (arith, a, b, f)) low.0 low.1
    (held_at k (place - base) count kept (g ∙ ap (take count) start) (omega (arith, f, same))
    (elim (cases_lt (length k.octets) (place - base)) [ inl lt ↦ inr (omega (arith, lt, at, few, f)) | inr ge ↦ inl ge ]))
    (omega (arith, a, f, n))

pub copy_differs : (k : Kept) (base acknowledged place count first : ℕ) (octets subsequent kept copy : List ℕ) → (base ≤ place) × (acknowledged ≤ place)
    → first ≡ min (place - base) (length k.octets) → subsequent ≡ drop first k.octets → count ≡ min (length subsequent) (length octets)
    → kept ≡ take count subsequent → copy ≡ take count octets → not (pointwise nat_eq copy kept) ≡ true → true ≡ differs base acknowledged place (octets_of octets) (all_of k)
copy_differs k base acknowledged place count first octets subsequent kept copy low at e f g h other =
    sym (compared k base acknowledged place count (place + count) first octets subsequent kept copy (drop count octets) low at e f g h refl refl
    ∙ ap (λ (b : Bool). b || differs base acknowledged (place + count) (octets_of (drop count octets)) (all_of k)) other)

pub copy_passed : (k : Kept) (base acknowledged place count next first : ℕ) (octets subsequent kept copy rest : List ℕ) → (base ≤ place) × (acknowledged ≤ place)
    → first ≡ min (place - base) (length k.octets) → subsequent ≡ drop first k.octets → count ≡ min (length subsequent) (length octets)
    → kept ≡ take count subsequent → copy ≡ take count octets → rest ≡ drop count octets → next ≡ place + count → not (pointwise nat_eq copy kept) ≡ false
    → differs base acknowledged next (octets_of rest) (all_of k) ≡ differs base acknowledged place (octets_of octets) (all_of k)
copy_passed k base acknowledged place count next first octets subsequent kept copy rest low at e f g h r n other =
    sym (compared k base acknowledged place count next first octets subsequent kept copy rest low at e f g h r n
    ∙ ap (λ (b : Bool). b || differs base acknowledged next (octets_of rest) (all_of k)) other)

or_assoc : (a b c : Bool) → (a || (b || c)) ≡ ((a || b) || c)
or_assoc true b c = refl
or_assoc false b c = refl

append_differs : (base acknowledged place : ℕ) (xs ys : List HeldCell) (ss : List (Option HeldCell))
    → differs base acknowledged place (xs ++ ys) ss ≡ (differs base acknowledged place xs ss || differs base acknowledged (place + length xs) ys ss)
unfolding differs
append_differs base acknowledged place [] ys ss = ap (λ (n : ℕ). differs base acknowledged n ys ss) (omega arith)
append_differs base acknowledged place (x ∷ xs) ys ss =
    ap (λ (b : Bool). differs_at base acknowledged place x ss || b)
    (append_differs base acknowledged (place + 1) xs ys ss
    ∙ ap (λ (n : ℕ). differs base acknowledged (place + 1) xs ss || differs base acknowledged n ys ss) (omega arith))
    ∙ or_assoc (differs_at base acknowledged place x ss) (differs base acknowledged (place + 1) xs ss) (differs base acknowledged (place + length (x ∷ xs)) ys ss)

-- ---- a packet

in_parts : (base acknowledged place first subsequent : ℕ) (syns fins : Bool) (octets : List ℕ) (ss : List (Option HeldCell))
    → first ≡ place + flag_count syns → subsequent ≡ first + length octets
    → differs base acknowledged place (held_of syns octets fins) ss
    ≡ (differs base acknowledged place (flag_of syns held.Syn) ss
    || (differs base acknowledged first (octets_of octets) ss || differs base acknowledged subsequent (flag_of fins held.Fin) ss))
in_parts base acknowledged place first subsequent syns fins octets ss e f =
    let one = length_flag syns held.Syn in
    let many = length_octets octets in
    let a : place + length (flag_of syns held.Syn) ≡ first = omega (arith, one, e) in
    let b : first + length (octets_of octets) ≡ subsequent = omega (arith, many, f) in
    append_differs base acknowledged place (flag_of syns held.Syn) (octets_of octets ++ flag_of fins held.Fin) ss
    ∙ ap (λ (z : Bool). differs base acknowledged place (flag_of syns held.Syn) ss || z)
    (ap (λ (n : ℕ). differs base acknowledged n (octets_of octets ++ flag_of fins held.Fin) ss) a
    ∙ append_differs base acknowledged first (octets_of octets) (flag_of fins held.Fin) ss
    ∙ ap (λ (n : ℕ). differs base acknowledged first (octets_of octets) ss || differs base acknowledged n (flag_of fins held.Fin) ss) b)

first_true : (a b : Bool) → a ≡ true → true ≡ (a || b)
first_true true b e = refl
first_true false b e = absurd cc

second_true : (a b c : Bool) → b ≡ true → true ≡ (a || (b || c))
second_true true b c e = refl
second_true false b c e = first_true b c e

third_true : (a b c : Bool) → a ≡ false → b ≡ false → c ≡ (a || (b || c))
third_true true b c e f = absurd cc
third_true false true c e f = absurd cc
third_true false false c e f = refl

pub returns_syn : (base acknowledged place : ℕ) (syns fins : Bool) (octets : List ℕ) (ss : List (Option HeldCell))
    → differs base acknowledged place (flag_of syns held.Syn) ss ≡ true → true ≡ differs base acknowledged place (held_of syns octets fins) ss
returns_syn base acknowledged place syns fins octets ss e =
    let first = place + flag_count syns in
    let subsequent = first + length octets in
    first_true (differs base acknowledged place (flag_of syns held.Syn) ss)
    (differs base acknowledged first (octets_of octets) ss || differs base acknowledged subsequent (flag_of fins held.Fin) ss) e
    ∙ sym (in_parts base acknowledged place first subsequent syns fins octets ss refl refl)

pub returns_octets : (base acknowledged place first : ℕ) (syns fins : Bool) (octets : List ℕ) (ss : List (Option HeldCell)) → first ≡ place + flag_count syns
    → differs base acknowledged first (octets_of octets) ss ≡ true → true ≡ differs base acknowledged place (held_of syns octets fins) ss
returns_octets base acknowledged place first syns fins octets ss e h =
    let subsequent = first + length octets in
    second_true (differs base acknowledged place (flag_of syns held.Syn) ss) (differs base acknowledged first (octets_of octets) ss)
    (differs base acknowledged subsequent (flag_of fins held.Fin) ss) h
    ∙ sym (in_parts base acknowledged place first subsequent syns fins octets ss e refl)

pub returns_fin : (base acknowledged place first subsequent : ℕ) (syns fins : Bool) (octets : List ℕ) (ss : List (Option HeldCell)) → first ≡ place + flag_count syns
    → subsequent ≡ first + length octets → differs base acknowledged place (flag_of syns held.Syn) ss ≡ false → differs base acknowledged first (octets_of octets) ss ≡ false
    → differs base acknowledged subsequent (flag_of fins held.Fin) ss ≡ differs base acknowledged place (held_of syns octets fins) ss
returns_fin base acknowledged place first subsequent syns fins octets ss e f a b =
    third_true (differs base acknowledged place (flag_of syns held.Syn) ss) (differs base acknowledged first (octets_of octets) ss)
    (differs base acknowledged subsequent (flag_of fins held.Fin) ss) a b
    ∙ sym (in_parts base acknowledged place first subsequent syns fins octets ss e f)

-- ---- by the definition

one_is : (s : Store) (acknowledged place : ℕ) (c : HeldCell) (ps : List Placed) (d : End) → s.place ≤ acknowledged → IsStoreOf s ps d
    → differs_at s.place acknowledged place c s.cells ≡ (nat_le acknowledged place && is_other (wire_cell c) (cell_at ps d place))
one_is s acknowledged place c ps d le h =
    elim (cases_lt place acknowledged) [
      | inl lt ↦ rw (lt-leb acknowledged place lt) refl
      | inr ge ↦ ap (λ (z : Option Cell). nat_le acknowledged place && is_other (wire_cell c) z) (h place (omega (arith, le, ge)))
    ]

differs_is : (s : Store) (acknowledged place : ℕ) (cs : List HeldCell) (ps : List Placed) (d : End) → s.place ≤ acknowledged → IsStoreOf s ps d
    → differs s.place acknowledged place cs s.cells ≡ contradicts ps d acknowledged place (map wire_cell cs)
unfolding differs
differs_is s acknowledged place [] ps d le h = refl
differs_is s acknowledged place (c ∷ cs) ps d le h =
    ap (λ (b : Bool). b || differs s.place acknowledged (place + 1) cs s.cells) (one_is s acknowledged place c ps d le h)
    ∙ ap (λ (b : Bool). (nat_le acknowledged place && is_other (wire_cell c) (cell_at ps d place)) || b) (differs_is s acknowledged (place + 1) cs ps d le h)

pub returns_conflict : (s : Store) (acknowledged place : ℕ) (syns fins : Bool) (octets : List ℕ)
    → ReturnsConflict s acknowledged place (cells_of syns octets fins) (differs s.place acknowledged place (held_of syns octets fins) s.cells)
returns_conflict s acknowledged place syns fins octets le lt ps d h =
    differs_is s acknowledged place (held_of syns octets fins) ps d le h
    ∙ ap (contradicts ps d acknowledged place) (sym (wire_is syns fins octets))

pub returns_past : (s : Store) (acknowledged place : ℕ) (syns fins : Bool) (octets : List ℕ) (emitted : Bool) → 2 ^ 64 ≤ place + length (held_of syns octets fins)
    → ReturnsConflict s acknowledged place (cells_of syns octets fins) emitted
returns_past s acknowledged place syns fins octets emitted past le lt ps d h =
    let same = cells_length syns fins octets in
    absurd (omega (arith, past, lt, same))
