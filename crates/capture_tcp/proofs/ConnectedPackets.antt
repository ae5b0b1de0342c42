-- Contiguous bytes at the front, and cells after them.
use Rattle.std.proofs.Common.{◌≡◌, ◌<◌, ◌≤◌, ◌+◌, ◌-◌, ◌++◌, ◌∷◌, ℕ, zero, suc, Bool, true, false, cond, List, [], length, max, min, drop, get_or, slice_get, Option, Some, None, refl, sym, ap, ◌∙◌, arith, inl, inr, length-append, length-drop}
use Rattle.std.proofs.lemmas.Bool.{cases_lt, le-leb, lt-leb}
use Rattle.std.proofs.Math.ListN.{get_or-eq_default}
use Rattle.std.proofs.Math.Seq.{drop-length}
use Rattle.std.proofs.lemmas.List.{append_assoc, append-nil, drop-append-le, drop-drop, get_or-drop, nil_from_length}
use Rattle.capture_tcp.specs.declared.reassembly.Cell.{Cell as HeldCell}
use Rattle.capture_tcp.specs.declared.reassembly.Cell.TheVariants as held
use Rattle.capture_tcp.specs.TcpStreams.{or_else}
use Rattle.capture_tcp.specs.InnerReassembly.{IsStored, cell_from, held_of, octets_of}
use Rattle.capture_tcp.specs.Cells.{Kept, all_of, some_octets}
use Rattle.capture_tcp.specs.InnerCells.{Joins}
use Rattle.capture_tcp.proofs.ApartRuns.{get_drop, late}

pub length_some : (ns : List ℕ) → length (some_octets ns) ≡ length ns
length_some [] = refl
length_some (n ∷ ns) = ap (λ (k : ℕ). suc k) (length_some ns)

-- ---- what is dropped

pub drop_all : (k : ℕ) (ns : List ℕ) (os : List (Option HeldCell)) → drop k (some_octets ns ++ os) ≡ some_octets (drop k ns) ++ drop (k - length ns) os
drop_all zero ns os = let none : 0 ≡ 0 - length ns = omega arith in ap (λ (j : ℕ). some_octets ns ++ drop j os) none
drop_all (suc k) [] os = let all : suc k ≡ suc k - 0 = omega arith in ap (λ (j : ℕ). drop j os) all
drop_all (suc k) (n ∷ ns) os =
    let same : k - length ns ≡ suc k - length (n ∷ ns) = omega arith in
    drop_all k ns os ∙ ap (λ (j : ℕ). some_octets (drop k ns) ++ drop j os) same

rest_is : (items : List ℕ) (gone count subsequent : ℕ) → gone ≤ length items → subsequent ≡ count - length (drop gone items)
    → drop (gone + (count - subsequent)) items ≡ drop count (drop gone items)
rest_is items gone count subsequent le e =
    let left = length-drop gone items in
    elim (cases_lt (length (drop gone items)) count) [
      | inl lt ↦
          let all : gone + (count - subsequent) ≡ length items = omega (arith, le, e, left, lt) in
          let none : length (drop count (drop gone items)) ≡ 0 = (let few = length-drop count (drop gone items) in omega (arith, few, lt)) in
          ap (λ (k : ℕ). drop k items) all ∙ drop-length items ∙ sym (nil_from_length (drop count (drop gone items)) none)
      | inr ge ↦
          let all : gone + (count - subsequent) ≡ gone + count = omega (arith, e, ge) in
          let turned : gone + count ≡ count + gone = omega arith in
          ap (λ (k : ℕ). drop k items) (all ∙ turned) ∙ sym (drop_twice count gone items)
    ]
  where
    drop_twice : (k j : ℕ) (ns : List ℕ) → drop k (drop j ns) ≡ drop (k + j) ns
    drop_twice k j ns = drop-drop k j ns ∙ (let turned : j + k ≡ k + j = omega arith in ap (λ (i : ℕ). drop i ns) turned)

pub lets_go : (k : Kept) (items left : List ℕ) (os : List (Option HeldCell)) (gone count subsequent : ℕ) → gone ≤ length items → k.octets ≡ drop gone items
    → subsequent ≡ count - length (drop gone items) → left ≡ drop (gone + (count - subsequent)) items → os ≡ drop subsequent k.others
    → all_of (record { octets = left; others = os }) ≡ drop count (all_of k)
lets_go k items left os gone count subsequent le is e f g =
    ap (λ (z : List ℕ). some_octets z ++ os) (f ∙ rest_is items gone count subsequent le e ∙ ap (drop count) (sym is))
    ∙ ap (λ (z : List (Option HeldCell)). some_octets (drop count k.octets) ++ z) (g ∙ ap (λ (j : ℕ). drop j k.others) (e ∙ ap (λ (z : List ℕ). count - length z) (sym is)))
    ∙ sym (drop_all count k.octets k.others)

-- ---- what is joined

pub some_append : (ms ns : List ℕ) (os : List (Option HeldCell)) → some_octets (ms ++ ns) ++ os ≡ some_octets ms ++ (some_octets ns ++ os)
some_append [] ns os = refl
some_append (m ∷ ms) ns os = ap (λ (z : List (Option HeldCell)). Some (held.Octet m) ∷ z) (some_append ms ns os)

pub first_of : (cells : List (Option HeldCell)) (c : HeldCell) → Some c ≡ get_or cells 0 None → (more : List (Option HeldCell)) × (cells ≡ Some c ∷ more)
first_of [] c e = absurd cc
first_of (o ∷ os) c e = (os, ap (λ (z : Option HeldCell). z ∷ os) (sym e))

pub shorter : (cells left more : List (Option HeldCell)) (c : Option HeldCell) → cells ≡ c ∷ more → left ≡ drop 1 cells → length left < length cells
shorter cells left more c e f =
    let a : length cells ≡ suc (length more) = ap length e in
    let b : length left ≡ length more = ap length (f ∙ ap (drop 1) e) in
    omega (arith, a, b)

pub joins_none : (ns : List ℕ) (os : List (Option HeldCell)) → Joins ns os ns os
joins_none ns os = ([], sym (append-nil ns), refl)

pub joins_one : (first : List ℕ) (cells : List (Option HeldCell)) (octets new : List ℕ) (others more left : List (Option HeldCell)) (n : ℕ) → Joins first cells octets others
    → others ≡ Some (held.Octet n) ∷ more → new ≡ octets ++ n ∷ [] → left ≡ drop 1 others → Joins first cells new left
joins_one first cells octets new others more left n j e f g = (
  j.0 ++ n ∷ [],
  f ∙ ap (λ (z : List ℕ). z ++ n ∷ []) j.1 ∙ append_assoc first j.0 (n ∷ []),
  j.2 ∙ ap (λ (z : List (Option HeldCell)). some_octets j.0 ++ z) (e ∙ ap (λ (z : List (Option HeldCell)). Some (held.Octet n) ∷ z) (sym (g ∙ ap (drop 1) e)))
      ∙ sym (some_append j.0 (n ∷ []) left),
)

pub joined : (k : Kept) (items new : List ℕ) (left : List (Option HeldCell)) (gone : ℕ) → gone ≤ length items → k.octets ≡ drop gone items → Joins items k.others new left
    → all_of (record { octets = drop gone new; others = left }) ≡ all_of k
joined k items new left gone le is j =
    ap (λ (z : List ℕ). some_octets z ++ left) (ap (drop gone) j.1 ∙ drop-append-le gone items j.0 le)
    ∙ some_append (drop gone items) j.0 left ∙ ap (λ (z : List (Option HeldCell)). some_octets (drop gone items) ++ z) (sym j.2)
    ∙ ap (λ (z : List ℕ). some_octets z ++ k.others) (sym is)

-- ---- cells of a packet

pub length_all : (k : Kept) → length (all_of k) ≡ length k.octets + length k.others
length_all k = let a = length-append (some_octets k.octets) k.others in let b = length_some k.octets in omega (arith, a, b)

-- The cells without those before a base.
skipped : (base place before j : ℕ) (cs rest : List HeldCell) → before ≡ min (base - place) (length cs) → rest ≡ drop before cs
    → cell_from (place - base) rest (0 + j) ≡ cell_from place cs (base + j)
skipped base place before j cs rest e f =
    elim (cases_lt (base + j) place) [
      | inl lt ↦ rw (lt-leb (place - base) (0 + j) (omega (arith, lt)), lt-leb place (base + j) lt) refl
      | inr ge ↦
          rw (le-leb (place - base) (0 + j) (omega (arith, ge)), le-leb place (base + j) ge)
          (elim (cases_lt (length cs) (base - place)) [
            | inl few ↦
                let none : length rest ≡ 0 = (let long = length-drop before cs in let same : length rest ≡ length (drop before cs) = ap length f in omega (arith, long, same, e, few)) in
                late rest (0 + j - (place - base)) (omega (arith, none)) ∙ sym (late cs (base + j - place) (omega (arith, few)))
            | inr fits ↦ ap (λ (z : List HeldCell). slice_get z (0 + j - (place - base))) f ∙ get_drop before (0 + j - (place - base)) (base + j - place) cs (omega (arith, e, fits, ge))
          ])
    ]

pub stored_from : (base place from : ℕ) (cs rest : List HeldCell) (first old new : List (Option HeldCell)) → old ≡ first → rest ≡ drop (min (base - place) (length cs)) cs
    → from ≡ place - base → IsStored 0 from rest old new → IsStored base place cs first new
stored_from base place from cs rest first old new same f e h i =
    h i ∙ ap (λ (n : ℕ). or_else (get_or old i None) (cell_from n rest (0 + i))) e
    ∙ ap (or_else (get_or old i None)) (skipped base place (min (base - place) (length cs)) i cs rest refl f)
    ∙ ap (λ (z : List (Option HeldCell)). or_else (get_or z i None) (cell_from place cs (base + i))) same

-- ---- bytes that follow

some_get : (ns : List ℕ) (i : ℕ) → get_or (some_octets ns) i None ≡ slice_get (octets_of ns) i
some_get [] zero = refl
some_get [] (suc i) = refl
some_get (n ∷ ns) zero = refl
some_get (n ∷ ns) (suc i) = some_get ns i

get_front : (ns : List ℕ) (os : List (Option HeldCell)) (i : ℕ) (o : Option HeldCell) → i < length ns → get_or (some_octets ns ++ os) i None ≡ or_else (get_or (some_octets ns) i None) o
get_front [] os i o lt = absurd (omega (arith, lt))
get_front (n ∷ ns) os zero o lt = refl
get_front (n ∷ ns) os (suc i) o lt = get_front ns os i o (omega (arith, lt))

get_after : (ns : List ℕ) (os : List (Option HeldCell)) (i : ℕ) → length ns ≤ i → get_or (some_octets ns ++ os) i None ≡ get_or os (i - length ns) None
get_after [] os i le = let same : i ≡ i - 0 = omega arith in ap (λ (k : ℕ). get_or os k None) same
get_after (n ∷ ns) os zero le = absurd (omega (arith, le))
get_after (n ∷ ns) os (suc i) le =
    let same : i - length ns ≡ suc i - length (n ∷ ns) = omega arith in
    get_after ns os i (omega (arith, le)) ∙ ap (λ (k : ℕ). get_or os k None) same

or_assoc : (x y z : Option HeldCell) → or_else (or_else x y) z ≡ or_else x (or_else y z)
or_assoc None y z = refl
or_assoc (Some c) y z = refl

-- Cells that are stored after the contiguous bytes.
pub stored_after : (k : Kept) (new : List (Option HeldCell)) (cs rest : List HeldCell) (index run from : ℕ) → run ≡ length k.octets → rest ≡ drop (min (run - index) (length cs)) cs
    → from ≡ index - run → IsStored 0 from rest k.others new → IsStored 0 index cs (all_of k) (all_of (record { octets = k.octets; others = new }))
stored_after k new cs rest index run from e f g h i =
    elim (cases_lt i run) [
      | inl lt ↦
          get_front k.octets new i (cell_from index cs (0 + i)) (omega (arith, e, lt))
          ∙ sym (ap (λ (o : Option HeldCell). or_else o (cell_from index cs (0 + i))) (get_front k.octets k.others i None (omega (arith, e, lt)))
          ∙ or_assoc (get_or (some_octets k.octets) i None) None (cell_from index cs (0 + i)))
      | inr ge ↦
          let at : run + (i - run) ≡ 0 + i = omega (arith, ge) in
          let same : i - length k.octets ≡ i - run = omega (arith, e) in
          get_after k.octets new i (omega (arith, e, ge)) ∙ ap (λ (n : ℕ). get_or new n None) same ∙ h (i - run)
          ∙ ap (λ (n : ℕ). or_else (get_or k.others (i - run) None) (cell_from n rest (0 + (i - run)))) g
          ∙ ap (or_else (get_or k.others (i - run) None)) (skipped run index (min (run - index) (length cs)) (i - run) cs rest refl f ∙ ap (cell_from index cs) at)
          ∙ ap (λ (o : Option HeldCell). or_else o (cell_from index cs (0 + i))) (sym (get_after k.octets k.others i (omega (arith, e, ge)) ∙ ap (λ (n : ℕ). get_or k.others n None) same))
    ]

pub stored_few : (k : Kept) (new : List (Option HeldCell)) (cs rest : List HeldCell) (index run from : ℕ) → run ≡ length k.octets → rest ≡ drop (min (run - index) (length cs)) cs
    → from ≡ index - run → length new ≤ max (length k.others) (from + length rest) → length (all_of (record { octets = k.octets; others = new })) ≤ max (length (all_of k)) (index + length cs)
stored_few k new cs rest index run from e f g le =
    let a = length_all k in
    let b = length_all (record { octets = k.octets; others = new }) in
    let c : length rest ≡ length cs - min (run - index) (length cs) = ap length f ∙ length-drop (min (run - index) (length cs)) cs in
    omega (arith, a, b, c, e, g, le)

some_drop : (k : ℕ) (ns : List ℕ) → some_octets (drop k ns) ≡ drop k (some_octets ns)
some_drop zero ns = refl
some_drop (suc k) [] = refl
some_drop (suc k) (n ∷ ns) = some_drop k ns

-- The byte at an offset is one of those that follow.
later : (ns : List ℕ) (k i j : ℕ) → i + k ≡ j → get_or (some_octets (drop k ns)) i None ≡ slice_get (octets_of ns) j
later ns k i j e =
    ap (λ (z : List (Option HeldCell)). get_or z i None) (some_drop k ns) ∙ get_or-drop k (some_octets ns) i None
    ∙ (let same : k + i ≡ j = omega (arith, e) in ap (λ (m : ℕ). get_or (some_octets ns) m None) same) ∙ some_get ns j

-- There is no byte at the offset.
too_late : (ns : List ℕ) (k i j : ℕ) → length ns ≤ k → length ns ≤ j → get_or (some_octets (drop k ns)) i None ≡ slice_get (octets_of ns) j
too_late ns k i j le past =
    let many = length_some ns in
    ap (λ (z : List (Option HeldCell)). get_or z i None) (some_drop k ns) ∙ get_or-drop k (some_octets ns) i None
    ∙ get_or-eq_default (some_octets ns) None (omega (arith, le, many)) ∙ sym (get_or-eq_default (some_octets ns) None (omega (arith, past, many))) ∙ some_get ns j

none_at : (i : ℕ) → get_or {A = Option HeldCell} [] i None ≡ None
none_at zero = refl
none_at (suc i) = refl

pub appends : (old new : Kept) (octets : List ℕ) (base place k : ℕ) → old.others ≡ [] → place - base ≤ length old.octets
    → k ≡ min (min (base - place) (length octets) + (length old.octets - (place - base))) (length octets)
    → new ≡ record { octets = old.octets ++ drop k octets; others = old.others } → IsStored base place (octets_of octets) (all_of old) (all_of new)
appends old new octets base place k none le f g i =
    let known = (base - place) + (length old.octets - (place - base)) in
    let is : all_of new ≡ some_octets old.octets ++ (some_octets (drop k octets) ++ old.others) = ap all_of g ∙ some_append old.octets (drop k octets) old.others in
    ap (λ (z : List (Option HeldCell)). get_or z i None) is
    ∙ elim (cases_lt i (length old.octets)) [
      | inl lt ↦ get_front old.octets (some_octets (drop k octets) ++ old.others) i (cell_from place (octets_of octets) (base + i)) lt
          ∙ sym (ap (λ (z : Option HeldCell). or_else z (cell_from place (octets_of octets) (base + i)))
          (ap (λ (z : List (Option HeldCell)). get_or (some_octets old.octets ++ z) i None) none ∙ ap (λ (z : List (Option HeldCell)). get_or z i None) (append-nil (some_octets old.octets))))
      | inr ge ↦
          get_after old.octets (some_octets (drop k octets) ++ old.others) i ge
          ∙ ap (λ (z : List (Option HeldCell)). get_or (some_octets (drop k octets) ++ z) (i - length old.octets) None) none
          ∙ ap (λ (z : List (Option HeldCell)). get_or z (i - length old.octets) None) (append-nil (some_octets (drop k octets)))
          ∙ elim (cases_lt (length octets) known) [
            | inl past ↦ too_late octets k (i - length old.octets) (base + i - place) (omega (arith, f, past)) (omega (arith, past, ge))
            | inr fits ↦ later octets k (i - length old.octets) (base + i - place) (omega (arith, f, fits, ge, le))
          ]
          ∙ sym (ap (λ (b : Bool). cond b (slice_get (octets_of octets) (base + i - place)) None) (le-leb place (base + i) (omega (arith, ge, le))))
          ∙ sym (ap (λ (z : Option HeldCell). or_else z (cell_from place (octets_of octets) (base + i)))
          (get_after old.octets old.others i ge ∙ ap (λ (z : List (Option HeldCell)). get_or z (i - length old.octets) None) none ∙ none_at (i - length old.octets)))
    ]

plain_held : (syns fins : Bool) (octets : List ℕ) → syns ≡ false → fins ≡ false → held_of syns octets fins ≡ octets_of octets
plain_held false false octets e f = append-nil (octets_of octets)
plain_held true fins octets e f = absurd cc
plain_held false true octets e f = absurd cc

-- A packet that carries bytes alone.
pub stored_plain : (base place : ℕ) (syns fins : Bool) (octets : List ℕ) (first old new : List (Option HeldCell)) → syns ≡ false → fins ≡ false → old ≡ first
    → IsStored base place (octets_of octets) old new → IsStored base place (held_of syns octets fins) first new
stored_plain base place syns fins octets first old new e f same h i =
    h i ∙ ap (λ (z : List (Option HeldCell)). or_else (get_or z i None) (cell_from place (octets_of octets) (base + i))) same
    ∙ sym (ap (λ (z : List HeldCell). or_else (get_or first i None) (cell_from place z (base + i))) (plain_held syns fins octets e f))

pub appended_length : (old new : Kept) (octets : List ℕ) (base place k : ℕ) → old.others ≡ [] → place - base ≤ length old.octets
    → k ≡ min (min (base - place) (length octets) + (length old.octets - (place - base))) (length octets)
    → new ≡ record { octets = old.octets ++ drop k octets; others = old.others } → length (all_of new) ≤ max (length (all_of old)) (place + length octets - base)
appended_length old new octets base place k none le f g =
    let n : length old.others ≡ 0 = ap (λ (z : List (Option HeldCell)). length z) none in
    let a = length_all old in
    let b = length_all new in
    let c : length new.octets ≡ length (old.octets ++ drop k octets) = ap (λ (z : Kept). length z.octets) g in
    let d : length new.others ≡ length old.others = ap (λ (z : Kept). length z.others) g in
    let e = length-append old.octets (drop k octets) in
    let h = length-drop k octets in
    omega (arith, a, b, c, d, e, h, f, le, n)
