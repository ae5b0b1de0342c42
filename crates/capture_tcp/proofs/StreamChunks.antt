-- What cells that are buffered without a gap are.
use Rattle.std.proofs.Common.{◌≡◌, ◌<◌, ◌≤◌, ◌+◌, ◌-◌, ◌++◌, ◌∷◌, ℕ, zero, suc, List, [], length, take, drop, get_or, Option, Some, None, sym, ap, ◌∙◌, arith, length-drop}
use Rattle.std.proofs.lemmas.List.{append_assoc, append-nil}
use Rattle.capture_tcp.specs.declared.reassembly.Cell.{Cell as HeldCell}
use Rattle.capture_tcp.specs.declared.reassembly.Cell.TheVariants as held
use Rattle.capture_tcp.specs.Cells.{Kept, all_of, some_octets}
use Rattle.capture_tcp.specs.TcpStreams.{End, Cell}
use Rattle.capture_tcp.specs.ConnectionEvents.{Entry, entry, message, down, entry_of}
use Rattle.capture_tcp.specs.Reassembly.{in_piece, wire_cell}
use Rattle.capture_tcp.proofs.ConnectedPackets.{drop_all}
use Rattle.capture_tcp.proofs.CompleteStreams.{piece_end, piece_next}

-- Holds if the rest of the given number of cells, after these bytes, gives what all of them give.
abbrev pub Proceeds : List (Option HeldCell) → ℕ → List ℕ → ℕ → Type 0
Proceeds ss count octets index =
    (index ≤ count)
    × (count ≤ length (in_piece ss)
    → (count - index ≤ length (in_piece (drop index ss)))
    × ((d : End) (n : ℕ) → entry_of d n [] (take count (in_piece ss)) ≡ entry_of d n octets (take (count - index) (in_piece (drop index ss)))))

pub begins : (ss : List (Option HeldCell)) (count : ℕ) → Proceeds ss count [] 0
begins ss count = (omega arith, λ le. (omega (arith, le), λ d n. let same : count ≡ count - 0 = omega arith in ap (λ (k : ℕ). entry_of d n [] (take k (in_piece ss))) same))

-- The first of the given number of cells.
taken : (k : ℕ) (c : Cell) (cs : List Cell) → 0 < k → take k (c ∷ cs) ≡ c ∷ take (k - 1) cs
taken zero c cs lt = absurd (omega (arith, lt))
taken (suc k) c cs lt = let same : k ≡ suc k - 1 = omega arith in ap (λ (j : ℕ). c ∷ take j cs) same

-- The first of what is left.
first_is : (ss : List (Option HeldCell)) (k index : ℕ) (c : HeldCell) → 0 < k → Some c ≡ get_or ss index None
    → take k (in_piece (drop index ss)) ≡ wire_cell c ∷ take (k - 1) (in_piece (drop (suc index) ss))
first_is ss k index c lt e = ap (take k) (piece_next ss index c (sym e)) ∙ taken k (wire_cell c) (in_piece (drop (suc index) ss)) lt

pub can_continue : (ss : List (Option HeldCell)) (count index o : ℕ) (octets : List ℕ) → index < count → Some (held.Octet o) ≡ get_or ss index None → Proceeds ss count octets index
    → Proceeds ss count (octets ++ o ∷ []) (index + 1)
can_continue ss count index o octets lt e h = (
  omega (arith, lt),
  λ le.
      let old = h.1 le in
      let next : suc index ≡ index + 1 = omega arith in
      let left : count - index - 1 ≡ count - (index + 1) = omega arith in
      let few : length (in_piece (drop index ss)) ≡ suc (length (in_piece (drop (suc index) ss))) = ap length (piece_next ss index (held.Octet o) (sym e)) in
      let same : length (in_piece (drop (suc index) ss)) ≡ length (in_piece (drop (index + 1) ss)) = ap (λ (i : ℕ). length (in_piece (drop i ss))) next in (
        omega (arith, old.0, few, same),
        λ d n.
            old.1 d n
            ∙ ap (entry_of d n octets) (first_is ss (count - index) index (held.Octet o) (omega (arith, lt)) e)
            ∙ ap (λ (i : ℕ). entry_of d n (octets ++ o ∷ []) (take (count - index - 1) (in_piece (drop i ss)))) next
            ∙ ap (λ (k : ℕ). entry_of d n (octets ++ o ∷ []) (take k (in_piece (drop (index + 1) ss)))) left,
      ),
)

abbrev ConnectionEvent : List (Option HeldCell) → ℕ → (End → ℕ → List Entry) → Type 0
ConnectionEvent ss count emitted = count ≤ length (in_piece ss) → (d : End) (n : ℕ) → entry_of d n [] (take count (in_piece ss)) ≡ emitted d n

pub opens : (ss : List (Option HeldCell)) (count index : ℕ) (octets : List ℕ) → index < count → Some held.Syn ≡ get_or ss index None → Proceeds ss count octets index
    → ConnectionEvent ss count (λ d n. [])
opens ss count index octets lt e h le d n =
    (h.1 le).1 d n ∙ ap (entry_of d n octets) (first_is ss (count - index) index held.Syn (omega (arith, lt)) e)

pub closes : (ss : List (Option HeldCell)) (count index : ℕ) (octets : List ℕ) → index < count → Some held.Fin ≡ get_or ss index None → Proceeds ss count octets index
    → ConnectionEvent ss count (λ d n. entry n down ∷ [])
closes ss count index octets lt e h le d n =
    (h.1 le).1 d n ∙ ap (entry_of d n octets) (first_is ss (count - index) index held.Fin (omega (arith, lt)) e)

pub misses : (ss : List (Option HeldCell)) (count index : ℕ) (octets : List ℕ) → index < count → None ≡ get_or ss index None → Proceeds ss count octets index
    → ConnectionEvent ss count (λ d n. [])
misses ss count index octets lt e h le d n =
    let none : length (in_piece (drop index ss)) ≡ 0 = ap length (piece_end ss index (sym e)) in
    absurd (omega (arith, lt, none, (h.1 le).0))

pub ends : (ss : List (Option HeldCell)) (count index : ℕ) (octets : List ℕ) → count ≤ index → Proceeds ss count octets index
    → ConnectionEvent ss count (λ d n. entry n (message d octets) ∷ [])
ends ss count index octets le h fits d n =
    let none : count - index ≡ 0 = omega (arith, le) in
    (h.1 fits).1 d n ∙ ap (λ (k : ℕ). entry_of d n octets (take k (in_piece (drop index ss)))) none

-- ---- contiguous bytes

emitted_octets : (k : ℕ) (ns before : List ℕ) (os : List (Option HeldCell)) (d : End) (n : ℕ) → k ≤ length ns
    → entry_of d n before (take k (in_piece (some_octets ns ++ os))) ≡ entry n (message d (before ++ take k ns)) ∷ []
emitted_octets zero ns before os d n le = ap (λ (z : List ℕ). entry n (message d z) ∷ []) (sym (append-nil before))
emitted_octets (suc k) [] before os d n le = absurd (omega (arith, le))
emitted_octets (suc k) (m ∷ ns) before os d n le =
    emitted_octets k ns (before ++ m ∷ []) os d n (omega (arith, le)) ∙ ap (λ (z : List ℕ). entry n (message d z) ∷ []) (append_assoc before (m ∷ []) (take k ns))

pub octets_emit : (k : Kept) (first count : ℕ) (octets found : List ℕ) → found ≡ take count (drop first k.octets) → octets ≡ found → first + count ≤ length k.octets
    → ConnectionEvent (drop first (all_of k)) count (λ d n. entry n (message d octets) ∷ [])
octets_emit k first count octets found e f le fits d n =
    let left = length-drop first k.octets in
    ap (λ (ss : List (Option HeldCell)). entry_of d n [] (take count (in_piece ss))) (drop_all first k.octets k.others)
    ∙ emitted_octets count (drop first k.octets) [] (drop (first - length k.octets) k.others) d n (omega (arith, left, le))
    ∙ ap (λ (z : List ℕ). entry n (message d z) ∷ []) (sym (f ∙ e))
