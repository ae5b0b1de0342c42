-- Cells that are stored at their offsets: what is buffered stays, and what is stored is buffered.
use Rattle.std.proofs.Common.{◌≡◌, ◌<◌, ◌≤◌, ◌+◌, ◌-◌, ◌++◌, ◌∷◌, ℕ, zero, suc, Bool, true, false, cond, nat_le, List, [], length, map, max, min, drop, get_or, slice_get, Option, Some, None, refl, sym, ap, ◌∙◌, arith, length-append, length-drop, inl, inr}
use Rattle.std.proofs.lemmas.Bool.{cases_lt}
use Rattle.std.proofs.lemmas.List.{append_assoc, append-nil, get_or-drop}
use Rattle.std.proofs.Math.ListN.{get_or-eq_default}
use Rattle.std.specs.Option.{option_map}
use Rattle.capture_tcp.specs.declared.reassembly.Cell.{Cell as HeldCell}
use Rattle.capture_tcp.specs.declared.reassembly.Cell.TheVariants as held
use Rattle.capture_tcp.specs.TcpStreams.{End, Cell, syn, octet, Placed, or_else, cell_in, cell_at}
use Rattle.capture_tcp.specs.Message.{cells_of}
use Rattle.capture_tcp.specs.Reassembly.{Store, wire_cell, IsStoreOf, PutsIn, CellIs}
use Rattle.capture_tcp.specs.InnerReassembly.{IsStored, cell_from, flag_of, octets_of, held_of}
use Rattle.capture_tcp.proofs.Ends.{same}
use Rattle.capture_tcp.proofs.Longer.{cell_more}

pub length_octets : (octets : List ℕ) → length (octets_of octets) ≡ length octets
length_octets [] = refl
length_octets (n ∷ ns) = ap (λ (k : ℕ). suc k) (length_octets ns)

abbrev pub flag_count : Bool → ℕ
flag_count b = cond b 1 0

pub length_flag : (b : Bool) (c : HeldCell) → length (flag_of b c) ≡ flag_count b
length_flag true c = refl
length_flag false c = refl

pub held_length : (syns fins : Bool) (octets : List ℕ) → length (held_of syns octets fins) ≡ flag_count syns + length octets + flag_count fins
held_length syns fins octets =
    let a = length-append (flag_of syns held.Syn) (octets_of octets ++ flag_of fins held.Fin) in
    let b = length-append (octets_of octets) (flag_of fins held.Fin) in
    let c = length_octets octets in
    let s = length_flag syns held.Syn in
    let f = length_flag fins held.Fin in
    omega (arith, a, b, c, s, f)

pub carried_is : (syns fins : Bool) (octets : List ℕ) (a b c d : List HeldCell) → a ≡ [] → b ≡ a ++ flag_of syns held.Syn → c ≡ b ++ octets_of octets
    → d ≡ c ++ flag_of fins held.Fin → d ≡ held_of syns octets fins
carried_is syns fins octets a b c d e f g h =
    h ∙ ap (λ (z : List HeldCell). z ++ flag_of fins held.Fin) (g ∙ ap (λ (z : List HeldCell). z ++ octets_of octets) (f ∙ ap (λ (z : List HeldCell). z ++ flag_of syns held.Syn) e))
    ∙ append_assoc (flag_of syns held.Syn) (octets_of octets) (flag_of fins held.Fin)

pub octets_next : (cells items new : List HeldCell) (n : ℕ) (ns : List ℕ) → new ≡ cells ++ held.Octet n ∷ [] → cells ++ octets_of (n ∷ ns) ≡ items → new ++ octets_of ns ≡ items
octets_next cells items new n ns e f = ap (λ (z : List HeldCell). z ++ octets_of ns) e ∙ append_assoc cells (held.Octet n ∷ []) (octets_of ns) ∙ f

pub octets_end : (cells items : List HeldCell) (ns : List ℕ) → length ns ≡ 0 → cells ++ octets_of ns ≡ items → cells ≡ items
octets_end cells items [] e f = sym (append-nil cells) ∙ f
octets_end cells items (n ∷ ns) e f = absurd (omega (arith, e))

-- ---- by packets

map_or : (x y : Option HeldCell) → option_map wire_cell (or_else x y) ≡ or_else (option_map wire_cell x) (option_map wire_cell y)
map_or None y = refl
map_or (Some c) y = refl

map_get : (cs : List HeldCell) (i : ℕ) → option_map wire_cell (slice_get cs i) ≡ slice_get (map wire_cell cs) i
map_get [] i = refl
map_get (c ∷ cs) zero = refl
map_get (c ∷ cs) (suc i) = map_get cs i

only_one : (x : Option Cell) → or_else x None ≡ x
only_one None = refl
only_one (Some c) = refl

brought : (ps : List Placed) (p : Placed) (place n : ℕ) (cs : List HeldCell) → p.place ≡ place → p.cells ≡ map wire_cell cs
    → cell_at (ps ++ (p ∷ [])) p.from n ≡ or_else (cell_at ps p.from n) (option_map wire_cell (cell_from place cs n))
unfolding cell_at
brought ps p place n cs e f =
    cell_more ps (p ∷ []) p.from n
    ∙ ap (or_else (cell_at ps p.from n)) (only_one (cell_in p p.from n) ∙ by_place)
  where
    by_test : (b : Bool) → cond b (slice_get (map wire_cell cs) (n - place)) None ≡ option_map wire_cell (cond b (slice_get cs (n - place)) None)
    by_test true = sym (map_get cs (n - place))
    by_test false = refl

    by_place : cell_in p p.from n ≡ option_map wire_cell (cell_from place cs n)
    by_place = rw (same p.from, e, f) (by_test (nat_le place n))

none_from : (place n : ℕ) → cell_from place [] n ≡ None
none_from place n = by_test (nat_le place n)
  where
    by_test : (b : Bool) → cond b (slice_get {X = HeldCell} [] (n - place)) None ≡ None
    by_test true = refl
    by_test false = refl

pub puts : (base place : ℕ) (cs : List HeldCell) (cells : List Cell) (old new : List (Option HeldCell)) → IsStored base place cs old new
    → cells ≡ map wire_cell cs → PutsIn (record { place = base; cells = old }) place cells (record { place = base; cells = new })
puts base place cs cells old new appended_text wire = (
  refl,
  λ ps p h e f n le.
      let i = n - base in
      let at : base + i ≡ n = omega (arith, le) in
      ap (option_map wire_cell) (appended_text i)
      ∙ map_or (get_or old i None) (cell_from place cs (base + i))
      ∙ ap (λ (m : ℕ). or_else (option_map wire_cell (get_or old i None)) (option_map wire_cell (cell_from place cs m))) at
      ∙ ap (λ (z : Option Cell). or_else z (option_map wire_cell (cell_from place cs n))) (h n le)
      ∙ sym (brought ps p place n cs e (f ∙ wire)),
)

map_octets : (octets : List ℕ) (rest : List HeldCell) → map wire_cell (octets_of octets ++ rest) ≡ map (λ n. octet n) octets ++ map wire_cell rest
map_octets [] rest = refl
map_octets (n ∷ ns) rest = ap (λ (z : List Cell). octet n ∷ z) (map_octets ns rest)

pub wire_is : (syns fins : Bool) (octets : List ℕ) → cells_of syns octets fins ≡ map wire_cell (held_of syns octets fins)
wire_is true true octets = ap (λ (z : List Cell). syn ∷ z) (sym (map_octets octets (held.Fin ∷ [])))
wire_is true false octets = ap (λ (z : List Cell). syn ∷ z) (sym (map_octets octets []))
wire_is false true octets = sym (map_octets octets (held.Fin ∷ []))
wire_is false false octets = sym (map_octets octets [])

length_wire : (cs : List HeldCell) → length (map wire_cell cs) ≡ length cs
length_wire [] = refl
length_wire (c ∷ cs) = ap (λ (k : ℕ). suc k) (length_wire cs)

pub cells_length : (syns fins : Bool) (octets : List ℕ) → length (cells_of syns octets fins) ≡ length (held_of syns octets fins)
cells_length syns fins octets = ap length (wire_is syns fins octets) ∙ length_wire (held_of syns octets fins)

pub puts_in : (base place : ℕ) (syns fins : Bool) (octets : List ℕ) (old new : List (Option HeldCell)) → IsStored base place (held_of syns octets fins) old new
    → PutsIn (record { place = base; cells = old }) place (cells_of syns octets fins) (record { place = base; cells = new })
puts_in base place syns fins octets old new appended_text =
    puts base place (held_of syns octets fins) (cells_of syns octets fins) old new appended_text (wire_is syns fins octets)

pub puts_none : (s : Store) (place : ℕ) (syns fins : Bool) (octets : List ℕ) → length (held_of syns octets fins) ≡ 0 → PutsIn s place (cells_of syns octets fins) s
puts_none s place syns fins octets none =
    let l = cells_length syns fins octets in
    by_cells (cells_of syns octets fins) (omega (arith, l, none))
  where
    by_cells : (cells : List Cell) → length cells ≡ 0 → PutsIn s place cells s
    by_cells (c ∷ cs) e = absurd (omega (arith, e))
    by_cells [] e = (
      refl,
      λ ps p h at f n le.
          h n le ∙ sym (brought ps p p.place n [] refl f ∙ ap (λ (z : Option HeldCell). or_else (cell_at ps p.from n) (option_map wire_cell z)) (none_from p.place n) ∙ only_one (cell_at ps p.from n)),
    )

pub holds_none : (s : Store) (d : End) → s.cells ≡ [] → IsStoreOf s [] d
unfolding cell_at
holds_none s d e n le = ap (λ (z : List (Option HeldCell)). option_map wire_cell (get_or z (n - s.place) None)) e

-- ---- what is dropped

pub gone : (ss : List (Option HeldCell)) (k i : ℕ) → get_or (drop (min k (length ss)) ss) i None ≡ get_or ss (k + i) None
gone ss k i =
    get_or-drop (min k (length ss)) ss i None
    ∙ elim (cases_lt (length ss) k) [
      | inl lt ↦ get_or-eq_default ss None (omega (arith, lt)) ∙ sym (get_or-eq_default ss None (omega (arith, lt)))
      | inr le ↦ ap (λ (n : ℕ). get_or ss n None) (omega (arith, le))
    ]

pub still_holds : (old new : Store) (place count : ℕ) → new.place ≡ max old.place place → count ≡ min (place - old.place) (length old.cells)
    → new.cells ≡ drop count old.cells → (ps : List Placed) (d : End) → IsStoreOf old ps d → IsStoreOf new ps d
still_holds old new place count e f g ps d h n le =
    let at : (place - old.place) + (n - new.place) ≡ n - old.place = omega (arith, e, le) in
    ap (λ (z : List (Option HeldCell)). option_map wire_cell (get_or z (n - new.place) None)) (g ∙ ap (λ (k : ℕ). drop k old.cells) f)
    ∙ ap (option_map wire_cell) (gone old.cells (place - old.place) (n - new.place) ∙ ap (λ (m : ℕ). get_or old.cells m None) at)
    ∙ h n (omega (arith, e, le))

pub few_left : (ss ts : List (Option HeldCell)) (k count : ℕ) → count ≡ min k (length ss) → ts ≡ drop count ss → length ts ≡ length ss - k
few_left ss ts k count e f =
    let dropped = length-drop count ss in
    let same : length ts ≡ length (drop count ss) = ap length f in
    omega (arith, e, dropped, same)

pub cell_is : (s : Store) (n : ℕ) (c : Option HeldCell) → s.place ≤ n → c ≡ get_or s.cells (n - s.place) None → CellIs s n c
cell_is s n c le e = (λ lt. absurd (omega (arith, lt, le)), λ ps d h le. ap (option_map wire_cell) e ∙ h n le)

pub cell_before : (s : Store) (n : ℕ) → n < s.place → CellIs s n None
cell_before s n lt = (λ h. refl, λ ps d h le. absurd (omega (arith, lt, le)))
