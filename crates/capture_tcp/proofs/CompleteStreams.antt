-- Messages in what is buffered without a gap.
use Rattle.std.proofs.Common.{◌≡◌, ◌<◌, ◌≤◌, ◌+◌, ◌-◌, ◌*◌, ◌∷◌, ℕ, zero, suc, List, [], length, drop, get_or, Option, Some, None, is_some, true, refl, sym, ap, subst, ◌∙◌, ◌^◌, ◌++◌, arith, inl, inr, length-drop}
use Rattle.std.proofs.lemmas.Bool.{lt-ltb, le-ltb, cases_lt}
use Rattle.std.proofs.lemmas.Grind.{pow_more}
use Rattle.std.proofs.lemmas.List.{get_or-drop}
use Rattle.std.proofs.Math.ListN.{get_or-eq_default}
use Rattle.std.specs.Option.{option_map}
use Rattle.capture_tcp.specs.Laws.{IsHeld}
use Rattle.capture_tcp.proofs.Ends.{end_is, not_past}
use Rattle.capture_tcp.proofs.ConnectedPackets.{drop_all}
use Rattle.capture_tcp.proofs.Sizes.{is_size}
use Rattle.capture_tcp.specs.declared.reassembly.Cell.{Cell as HeldCell}
use Rattle.capture_tcp.specs.declared.reassembly.Cell.TheVariants as held
use Rattle.capture_tcp.specs.Cells.{Kept, all_of, some_octets}
use Rattle.capture_tcp.specs.TcpStreams.{End, Cell, Placed, bound, cell_at, cells_up_to, end_of, stream_of}
use Rattle.capture_tcp.specs.Message.{cells_to, message_size, octets_after, one_more, size_by}
use Rattle.capture_tcp.specs.Reassembly.{Store, IsFront, IsPiece, IsStoreOf, fitting, in_piece, piece_from, wire_cell}
use Rattle.capture_tcp.specs.InnerReassembly.{further, octet_in}

pub piece_end : (ss : List (Option HeldCell)) (i : ℕ) → get_or ss i None ≡ None → in_piece (drop i ss) ≡ []
piece_end [] zero e = refl
piece_end [] (suc i) e = refl
piece_end (None ∷ ss) zero e = refl
piece_end (Some c ∷ ss) zero e = absurd cc
piece_end (s ∷ ss) (suc i) e = piece_end ss i e

pub piece_next : (ss : List (Option HeldCell)) (i : ℕ) (c : HeldCell) → get_or ss i None ≡ Some c → in_piece (drop i ss) ≡ wire_cell c ∷ in_piece (drop (suc i) ss)
piece_next [] zero c e = absurd cc
piece_next [] (suc i) c e = absurd cc
piece_next (None ∷ ss) zero c e = absurd cc
piece_next (Some a ∷ ss) zero c e = let same : a ≡ c = cc in ap (λ (z : HeldCell). wire_cell z ∷ in_piece ss) same
piece_next (s ∷ ss) (suc i) c e = piece_next ss i c e

more_further : (i : ℕ) (o : Option ℕ) → further i (one_more o) ≡ further (i + 1) o
more_further i None = refl
more_further i (Some n) = ap (λ (z : ℕ). Some z) (omega arith)

-- ---- after the length

to_none : (k : ℕ) (cs : List Cell) → 0 < k → cs ≡ [] → cells_to k cs ≡ None
unfolding cells_to
to_none zero cs lt e = absurd (omega (arith, lt))
to_none (suc k) [] lt e = refl
to_none (suc k) (c ∷ cs) lt e = absurd cc

to_end : (k : ℕ) (c : HeldCell) (cs : List Cell) → 0 < k → octet_in c ≡ None → cells_to k (wire_cell c ∷ cs) ≡ Some 1
unfolding cells_to
to_end zero c cs lt e = absurd (omega (arith, lt))
to_end (suc k) held.Syn cs lt e = refl
to_end (suc k) (held.Octet n) cs lt e = absurd cc
to_end (suc k) held.Fin cs lt e = refl

to_next : (k n : ℕ) (c : HeldCell) (cs : List Cell) → 0 < k → octet_in c ≡ Some n → cells_to k (wire_cell c ∷ cs) ≡ one_more (cells_to (k - 1) cs)
unfolding cells_to
to_next zero n c cs lt e = absurd (omega (arith, lt))
to_next (suc k) n held.Syn cs lt e = absurd cc
to_next (suc k) n (held.Octet m) cs lt e = let same : k ≡ suc k - 1 = omega arith in ap (λ (j : ℕ). one_more (cells_to j cs)) same
to_next (suc k) n held.Fin cs lt e = absurd cc

pub rest_none : (left index : ℕ) (ss : List (Option HeldCell)) (w : Option ℕ) → 0 < left → None ≡ get_or ss index None
    → further index (cells_to left (in_piece (drop index ss))) ≡ w → None ≡ w
rest_none left index ss w lt e h = sym (ap (further index) (to_none left (in_piece (drop index ss)) lt (piece_end ss index (sym e)))) ∙ h

pub rest_end : (left index : ℕ) (c : HeldCell) (ss : List (Option HeldCell)) (w : Option ℕ) → 0 < left → Some c ≡ get_or ss index None → None ≡ octet_in c
    → further index (cells_to left (in_piece (drop index ss))) ≡ w → Some (index + 1) ≡ w
rest_end left index c ss w lt e f h =
    sym (ap (λ (cs : List Cell). further index (cells_to left cs)) (piece_next ss index c (sym e))
    ∙ ap (further index) (to_end left c (in_piece (drop (suc index) ss)) lt (sym f))) ∙ h

pub rest_next : (left index n : ℕ) (c : HeldCell) (ss : List (Option HeldCell)) (w : Option ℕ) → 0 < left → Some c ≡ get_or ss index None → Some n ≡ octet_in c
    → further index (cells_to left (in_piece (drop index ss))) ≡ w → further (index + 1) (cells_to (left - 1) (in_piece (drop (index + 1) ss))) ≡ w
rest_next left index n c ss w lt e f h =
    let next : suc index ≡ index + 1 = omega arith in
    sym (ap (λ (cs : List Cell). further index (cells_to left cs)) (piece_next ss index c (sym e))
    ∙ ap (further index) (to_next left n c (in_piece (drop (suc index) ss)) lt (sym f))
    ∙ more_further index (cells_to (left - 1) (in_piece (drop (suc index) ss)))
    ∙ ap (λ (i : ℕ). further (index + 1) (cells_to (left - 1) (in_piece (drop i ss)))) next) ∙ h

pub rest_done : (left index : ℕ) (ss : List (Option HeldCell)) (w : Option ℕ) → left ≡ 0
    → further index (cells_to left (in_piece (drop index ss))) ≡ w → Some index ≡ w
unfolding cells_to
rest_done zero index ss w e h = ap (λ (z : ℕ). Some z) (omega arith) ∙ h
rest_done (suc left) index ss w e h = absurd (omega (arith, e))

-- ---- contiguous bytes

pub octets_counted : (k : ℕ) (ns : List ℕ) (os : List (Option HeldCell)) → k ≤ length ns → cells_to k (in_piece (some_octets ns ++ os)) ≡ Some k
unfolding cells_to
octets_counted zero ns os le = refl
octets_counted (suc k) [] os le = absurd (omega (arith, le))
octets_counted (suc k) (n ∷ ns) os le =
    ap one_more (octets_counted k ns os (omega (arith, le))) ∙ (let next : k + 1 ≡ suc k = omega arith in ap (λ (j : ℕ). Some j) next)

pub octets_there : (first count : ℕ) (k : Kept) → 4 + count ≤ length k.octets - first
    → Some (4 + count) ≡ further 4 (cells_to count (in_piece (drop 4 (drop first (all_of k)))))
octets_there first count k le =
    let left = length-drop first k.octets in
    let rest = length-drop 4 (drop first k.octets) in
    sym (
    ap (λ (ss : List (Option HeldCell)). further 4 (cells_to count (in_piece ss))) (ap (drop 4) (drop_all first k.octets k.others) ∙ drop_all 4 (drop first k.octets) (drop (first - length k.octets) k.others))
    ∙ ap (further 4) (octets_counted count (drop 4 (drop first k.octets)) (drop (4 - length (drop first k.octets)) (drop (first - length k.octets) k.others)) (omega (arith, left, rest, le)))
    )

-- ---- the length

by_none : (k value : ℕ) (cs : List Cell) → 0 < k → cs ≡ [] → size_by k value cs ≡ None
unfolding size_by
by_none zero value cs lt e = absurd (omega (arith, lt))
by_none (suc k) value [] lt e = refl
by_none (suc k) value (c ∷ cs) lt e = absurd cc

by_end : (k value : ℕ) (c : HeldCell) (cs : List Cell) → 0 < k → octet_in c ≡ None → size_by k value (wire_cell c ∷ cs) ≡ Some 1
unfolding size_by
by_end zero value c cs lt e = absurd (omega (arith, lt))
by_end (suc k) value held.Syn cs lt e = refl
by_end (suc k) value (held.Octet n) cs lt e = absurd cc
by_end (suc k) value held.Fin cs lt e = refl

by_next : (k value n : ℕ) (c : HeldCell) (cs : List Cell) → 0 < k → octet_in c ≡ Some n
    → size_by k value (wire_cell c ∷ cs) ≡ one_more (size_by (k - 1) (value * 256 + n) cs)
unfolding size_by
by_next zero value n c cs lt e = absurd (omega (arith, lt))
by_next (suc k) value n held.Syn cs lt e = absurd cc
by_next (suc k) value n (held.Octet m) cs lt e =
    let same : k ≡ suc k - 1 = omega arith in
    let here : m ≡ n = cc in
    ap (λ (j : ℕ). one_more (size_by j (value * 256 + m) cs)) same ∙ ap (λ (j : ℕ). one_more (size_by (suc k - 1) (value * 256 + j) cs)) here
by_next (suc k) value n held.Fin cs lt e = absurd cc

pub size_none : (index value : ℕ) (ss : List (Option HeldCell)) (w : Option ℕ) → index < 4 → None ≡ get_or ss index None
    → further index (size_by (4 - index) value (in_piece (drop index ss))) ≡ w → None ≡ w
size_none index value ss w lt e h =
    sym (ap (further index) (by_none (4 - index) value (in_piece (drop index ss)) (omega (arith, lt)) (piece_end ss index (sym e)))) ∙ h

pub size_end : (index value : ℕ) (c : HeldCell) (ss : List (Option HeldCell)) (w : Option ℕ) → index < 4 → Some c ≡ get_or ss index None → None ≡ octet_in c
    → further index (size_by (4 - index) value (in_piece (drop index ss))) ≡ w → Some (index + 1) ≡ w
size_end index value c ss w lt e f h =
    sym (ap (λ (cs : List Cell). further index (size_by (4 - index) value cs)) (piece_next ss index c (sym e))
    ∙ ap (further index) (by_end (4 - index) value c (in_piece (drop (suc index) ss)) (omega (arith, lt)) (sym f))) ∙ h

pub size_next : (index value n : ℕ) (c : HeldCell) (ss : List (Option HeldCell)) (w : Option ℕ) → index < 4 → Some c ≡ get_or ss index None → Some n ≡ octet_in c
    → further index (size_by (4 - index) value (in_piece (drop index ss))) ≡ w
    → further (index + 1) (size_by (4 - (index + 1)) (value * 256 + n) (in_piece (drop (index + 1) ss))) ≡ w
size_next index value n c ss w lt e f h =
    let next : suc index ≡ index + 1 = omega arith in
    let left : (4 - index) - 1 ≡ 4 - (index + 1) = omega arith in
    sym (ap (λ (cs : List Cell). further index (size_by (4 - index) value cs)) (piece_next ss index c (sym e))
    ∙ ap (further index) (by_next (4 - index) value n c (in_piece (drop (suc index) ss)) (omega (arith, lt)) (sym f))
    ∙ more_further index (size_by ((4 - index) - 1) (value * 256 + n) (in_piece (drop (suc index) ss)))
    ∙ ap (λ (i : ℕ). further (index + 1) (size_by ((4 - index) - 1) (value * 256 + n) (in_piece (drop i ss)))) next
    ∙ ap (λ (k : ℕ). further (index + 1) (size_by k (value * 256 + n) (in_piece (drop (index + 1) ss)))) left) ∙ h

pub size_done : (index value count : ℕ) (ss : List (Option HeldCell)) (w : Option ℕ) → index ≡ 4 → count ≡ octets_after value
    → further index (size_by (4 - index) value (in_piece (drop index ss))) ≡ w → further 4 (cells_to count (in_piece (drop 4 ss))) ≡ w
unfolding size_by
size_done index value count ss w e same h =
    ap (λ (n : ℕ). further 4 (cells_to n (in_piece (drop 4 ss)))) same ∙ sym (ap (λ (i : ℕ). further i (size_by (4 - i) value (in_piece (drop i ss)))) e) ∙ h

none_further : (o : Option ℕ) → further 0 o ≡ o
none_further None = refl
none_further (Some n) = ap (λ (z : ℕ). Some z) (omega arith)

pub size_begins : (ss : List (Option HeldCell)) → further 0 (size_by (4 - 0) 0 (in_piece (drop 0 ss))) ≡ message_size (in_piece ss)
size_begins ss = none_further (size_by 4 0 (in_piece ss))

grows : (i v n : ℕ) → v < 256 ^ i → n < 256 → v * 256 + n < 256 ^ (i + 1)
grows i v n lt fits =
    let power : 256 ^ (i + 1) ≡ 256 ^ i * 256 = pow_more 256 i in
    omega (arith, lt, fits, power)

pub next_kept : (index value n : ℕ) (c : HeldCell) (ss : List (Option HeldCell)) (w : Option ℕ) → index < 4 → Some c ≡ get_or ss index None → Some n ≡ octet_in c
    → further index (size_by (4 - index) value (in_piece (drop index ss))) ≡ w → value < 256 ^ index → n < 256
    → (further (index + 1) (size_by (4 - (index + 1)) (value * 256 + n) (in_piece (drop (index + 1) ss))) ≡ w) × (index + 1 ≤ 4) × (value * 256 + n < 256 ^ (index + 1))
next_kept index value n c ss w lt e f h small fits = (size_next index value n c ss w lt e f h, omega (arith, lt), grows index value n small fits)

-- ---- the front of the stream

from_cells : (k n : ℕ) (ss : List (Option HeldCell)) (ps : List Placed) (d : End) → n + k ≡ bound ps
    → ((i : ℕ) → option_map wire_cell (get_or ss i None) ≡ cell_at ps d (n + i)) → in_piece ss ≡ cells_up_to k ps d n
unfolding cells_up_to
from_cells zero n [] ps d e h = refl
from_cells zero n (None ∷ ss) ps d e h = refl
from_cells zero n (Some c ∷ ss) ps d e h =
    let held : is_some (cell_at ps d (n + 0)) ≡ true = sym (ap (λ (o : Option Cell). is_some o) (h 0)) in
    let lt = not_past ps d (n + 0) held in
    absurd (omega (arith, e, lt))
from_cells (suc k) n [] ps d e h =
    let at : n + 0 ≡ n = omega arith in
    let none : cell_at ps d n ≡ None = sym (h 0 ∙ ap (cell_at ps d) at) in
    rw none refl
from_cells (suc k) n (None ∷ ss) ps d e h =
    let at : n + 0 ≡ n = omega arith in
    let none : cell_at ps d n ≡ None = sym (h 0 ∙ ap (cell_at ps d) at) in
    rw none refl
from_cells (suc k) n (Some c ∷ ss) ps d e h =
    let at : n + 0 ≡ n = omega arith in
    let some : cell_at ps d n ≡ Some (wire_cell c) = sym (h 0 ∙ ap (cell_at ps d) at) in
    rw some (ap (λ (cs : List Cell). wire_cell c ∷ cs) (from_cells k (n + 1) ss ps d (omega (arith, e))
    (λ i. let next : n + suc i ≡ n + 1 + i = omega arith in h (suc i) ∙ ap (cell_at ps d) next)))

not_some : (x : Option Cell) → x ≡ None → is_some x ≡ true → ⊥
not_some None e h = absurd cc
not_some (Some c) e h = absurd cc

skips : (m t k n : ℕ) (ps : List Placed) (d : End) → t ≡ m + k → ((i : ℕ) → i < m → IsHeld ps d (n + i)) → drop m (cells_up_to t ps d n) ≡ cells_up_to k ps d (n + m)
unfolding cells_up_to
skips zero t k n ps d e h =
    let same : t ≡ k = omega (arith, e) in
    let at : n ≡ n + 0 = omega arith in
    ap (λ (j : ℕ). cells_up_to j ps d n) same ∙ ap (cells_up_to k ps d) at
skips (suc m) zero k n ps d e h = absurd (omega (arith, e))
skips (suc m) (suc t) k n ps d e h =
    let at : n + 0 ≡ n = omega arith in
    let here : is_some (cell_at ps d n) ≡ true = subst (IsHeld ps d) at (h 0 (omega arith)) in
    by_cell (cell_at ps d n) refl here
    (skips m t k (n + 1) ps d (omega (arith, e)) (λ i lt. let next : n + suc i ≡ n + 1 + i = omega arith in subst (IsHeld ps d) next (h (suc i) (omega (arith, lt)))))
  where
    by_cell : (o : Option Cell) → cell_at ps d n ≡ o → is_some (cell_at ps d n) ≡ true → drop m (cells_up_to t ps d (n + 1)) ≡ cells_up_to k ps d (n + 1 + m)
        → drop (suc m) (cells_up_to (suc t) ps d n) ≡ cells_up_to k ps d (n + suc m)
    by_cell None f here later = absurd (not_some (cell_at ps d n) f here)
    by_cell (Some c) f here later = let next : n + 1 + m ≡ n + suc m = omega arith in rw f (later ∙ ap (cells_up_to k ps d) next)

front_is : (s : Store) (ps : List Placed) (d : End) → IsStoreOf s ps d → s.place ≤ end_of ps d → in_piece s.cells ≡ drop s.place (stream_of ps d)
front_is s ps d h le =
    let k = bound ps - s.place in
    let within : s.place ≤ bound ps =
    elim (cases_lt (bound ps) s.place) [
      | inl lt ↦ let past = not_past ps d (bound ps) ((end_is ps d).0 (bound ps) (omega (arith, lt, le))) in absurd (omega (arith, past))
      | inr ge ↦ ge
    ] in
    from_cells k s.place s.cells ps d (omega (arith, within))
    (λ i. let at : s.place + i - s.place ≡ i = omega arith in ap (λ (j : ℕ). option_map wire_cell (get_or s.cells j None)) (sym at) ∙ h (s.place + i) (omega arith))
    ∙ sym (skips s.place (bound ps) k 0 ps d (omega (arith, within)) (λ i lt. let at : i ≡ 0 + i = omega arith in subst (IsHeld ps d) at ((end_is ps d).0 i (omega (arith, lt, le))))
    ∙ ap (cells_up_to k ps d) (omega arith))

-- What is buffered from an offset on is what the stream has there.
pub piece_is : (s : Store) (place : ℕ) (ps : List Placed) (d : End) → IsStoreOf s ps d → s.place ≤ place → place ≤ end_of ps d → piece_from s place ≡ drop place (stream_of ps d)
piece_is s place ps d h low high =
    front_is (record { place = place; cells = drop (place - s.place) s.cells }) ps d
    (λ n le.
    let at : (place - s.place) + (n - place) ≡ n - s.place = omega (arith, le, low) in
    ap (option_map wire_cell) (get_or-drop (place - s.place) s.cells (n - place) None ∙ ap (λ (i : ℕ). get_or s.cells i None) at) ∙ h n (omega (arith, le, low))) high

pub front_none : (s : Store) (place upto first : ℕ) → first ≡ place - s.place → None ≡ message_size (in_piece (drop first s.cells)) → IsPiece s place upto None
front_none s place upto first f e le =
    ap (fitting upto place) (e ∙ ap (λ (i : ℕ). message_size (in_piece (drop i s.cells))) f)

pub front_past : (s : Store) (place upto first count : ℕ) → first ≡ place - s.place → Some count ≡ message_size (in_piece (drop first s.cells)) → upto - place < count
    → IsPiece s place upto None
front_past s place upto first count f e lt le =
    past (omega (arith, lt)) ∙ ap (fitting upto place) (e ∙ ap (λ (i : ℕ). message_size (in_piece (drop i s.cells))) f)
  where
    past : upto < place + count → None ≡ fitting upto place (Some count)
    past lt = rw (lt-ltb upto (place + count) lt) refl

pub front_whole : (s : Store) (place upto first count : ℕ) → first ≡ place - s.place → Some count ≡ message_size (in_piece (drop first s.cells)) → place + count ≤ upto
    → IsPiece s place upto (Some count)
front_whole s place upto first count f e fits le =
    within fits ∙ ap (fitting upto place) (e ∙ ap (λ (i : ℕ). message_size (in_piece (drop i s.cells))) f)
  where
    within : place + count ≤ upto → Some count ≡ fitting upto place (Some count)
    within le = rw (le-ltb upto (place + count) le) refl

pub front_exists : (s : Store) (place upto : ℕ) (count : Option ℕ) → IsPiece s place upto count → IsFront s place upto count
front_exists s place upto count p low ps d h high =
    p low ∙ ap (λ (cs : List Cell). fitting upto place (message_size cs)) (piece_is s place ps d h low high)

pub size_some : (count : ℕ) (cs : List Cell) → Some count ≡ message_size cs → 0 < count
size_some count cs e = (is_size.there cs count (sym e)).0

-- ---- a cell after an index

pub cell_there : (cells : List (Option HeldCell)) (first index place : ℕ) (c : Option HeldCell) → place ≡ first + index → c ≡ get_or cells place None
    → c ≡ get_or (drop first cells) index None
cell_there cells first index place c e f = f ∙ ap (λ (i : ℕ). get_or cells i None) e ∙ sym (get_or-drop first cells index None)

pub cell_far : (cells : List (Option HeldCell)) (first index : ℕ) → length cells ≤ first + index → None ≡ get_or (drop first cells) index None
cell_far cells first index le = sym (get_or-drop first cells index None ∙ get_or-eq_default cells None le)

-- Three bytes have a small value.
pub small : (i v : ℕ) → i < 4 → v < 256 ^ i → v < 2 ^ 24
small zero v lt h = omega (arith, h)
small (suc zero) v lt h = omega (arith, h)
small (suc (suc zero)) v lt h = omega (arith, h)
small (suc (suc (suc zero))) v lt h = omega (arith, h)
small (suc (suc (suc (suc i)))) v lt h = absurd (omega (arith, lt))
