-- Bytes without a SYN or a FIN among them.
use Rattle.std.proofs.Common.{◌≡◌, ◌<◌, ◌≤◌, ◌+◌, ◌-◌, ◌∷◌, ℕ, zero, suc, Bool, true, false, cond, nat_le, List, [], length, max, min, drop, get_or, slice_get, Option, Some, None, refl, sym, ap, subst, ◌∙◌, arith}
use Rattle.std.proofs.lemmas.Bool.{le-leb, lt-ltb}
use Rattle.std.proofs.lemmas.List.{append-nil, get_or-drop}
use Rattle.capture_tcp.specs.declared.reassembly.Cell.{Cell as HeldCell}
use Rattle.capture_tcp.specs.declared.reassembly.Cell.TheVariants as held
use Rattle.capture_tcp.specs.declared.reassembly.Head.{Head}
use Rattle.capture_tcp.specs.declared.reassembly.Head.TheVariants as head
use Rattle.capture_tcp.specs.TcpStreams.{Cell, syn, octet, fin, or_else}
use Rattle.capture_tcp.specs.Message.{cells_to, message_size, one_more}
use Rattle.capture_tcp.specs.Reassembly.{IsPiece, Store, fitting, in_piece, wire_cell}
use Rattle.capture_tcp.specs.InnerReassembly.{IsStored, cell_from, further, held_of, octets_of}
use Rattle.capture_tcp.specs.DataOnly.{AreOctetsFrom, is_octet}
use Rattle.capture_tcp.specs.InnerDataOnly.{HeadSays, IsLonger, flags_end}
use Rattle.capture_tcp.proofs.StoredCells.{gone}
use Rattle.capture_tcp.proofs.Lists.{Each}

-- ---- what is stored

octets_only : (os : List ℕ) (j : ℕ) (c : HeldCell) → slice_get (octets_of os) j ≡ Some c → is_octet c ≡ true
octets_only [] j c e = absurd cc
octets_only (n ∷ os) zero c e = let same : held.Octet n ≡ c = cc in subst (λ (x : HeldCell). is_octet x ≡ true) same refl
octets_only (n ∷ os) (suc j) c e = octets_only os j c e

late : (cs : List HeldCell) (j : ℕ) → length cs ≤ j → slice_get cs j ≡ None
late [] j le = refl
late (c ∷ cs) zero le = absurd (omega (arith, le))
late (c ∷ cs) (suc j) le = late cs j (omega (arith, le))

too_late : (place n : ℕ) (cs : List HeldCell) → place + length cs ≤ n → cell_from place cs n ≡ None
too_late place n cs le = rw (le-leb place n (omega (arith, le))) (late cs (n - place) (omega (arith, le)))

stored_octet : (place n : ℕ) (os : List ℕ) (c : HeldCell) → cell_from place (octets_of os) n ≡ Some c → is_octet c ≡ true
stored_octet place n os c e = by_test (nat_le place n) e
  where
    by_test : (b : Bool) → cond b (slice_get (octets_of os) (n - place)) None ≡ Some c → is_octet c ≡ true
    by_test true f = octets_only os (n - place) c f
    by_test false f = absurd cc

of_packet : (syns fins : Bool) (octets : List ℕ) (place n : ℕ) (c : HeldCell) → flags_end syns fins (place + length (held_of syns octets fins)) ≤ n
    → cell_from place (held_of syns octets fins) n ≡ Some c → is_octet c ≡ true
of_packet true fins octets place n c le e = let none = too_late place n (held_of true octets fins) le in absurd (let f = sym none ∙ e in cc)
of_packet false true octets place n c le e = let none = too_late place n (held_of false octets true) le in absurd (let f = sym none ∙ e in cc)
of_packet false false octets place n c le e = stored_octet place n octets c (sym (ap (λ (z : List HeldCell). cell_from place z n) (append-nil (octets_of octets))) ∙ e)

pub octets_stay : (from base place : ℕ) (syns fins : Bool) (octets : List ℕ) (old new : List (Option HeldCell)) (next end : ℕ)
    → IsStored base place (held_of syns octets fins) old new → end ≡ place + length (held_of syns octets fins) → next ≡ max from (flags_end syns fins end)
    → AreOctetsFrom from base old → AreOctetsFrom next base new
octets_stay from base place syns fins octets old new next end appended_text ends nexts h i c le e =
    let cs = held_of syns octets fins in
    let at : flags_end syns fins (place + length cs) ≤ base + i =
    (let z : flags_end syns fins end ≡ flags_end syns fins (place + length cs) = ap (flags_end syns fins) ends in omega (arith, z, nexts, le)) in
    by_held (get_or old i None) refl (sym (appended_text i) ∙ e) (λ f. of_packet syns fins octets place (base + i) c at f)
  where
    by_held : (o : Option HeldCell) → get_or old i None ≡ o → or_else (get_or old i None) (cell_from place (held_of syns octets fins) (base + i)) ≡ Some c
        → (cell_from place (held_of syns octets fins) (base + i) ≡ Some c → is_octet c ≡ true) → is_octet c ≡ true
    by_held None is all later = later (sym (ap (λ (z : Option HeldCell). or_else z (cell_from place (held_of syns octets fins) (base + i))) is) ∙ all)
    by_held (Some a) is all later =
        let b : Some a ≡ Some c = sym (ap (λ (z : Option HeldCell). or_else z (cell_from place (held_of syns octets fins) (base + i))) is) ∙ all in
        h i c (omega (arith, nexts, le)) (is ∙ b)

pub octets_none : (from base : ℕ) (ss : List (Option HeldCell)) → ss ≡ [] → AreOctetsFrom from base ss
octets_none from base ss e i c le f = absurd (let g : get_or ss i None ≡ None = ap (λ (z : List (Option HeldCell)). get_or z i None) e in let k = sym g ∙ f in cc)

pub octets_same : (from base : ℕ) (ss ts : List (Option HeldCell)) → ts ≡ ss → AreOctetsFrom from base ss → AreOctetsFrom from base ts
octets_same from base ss ts e h = subst (AreOctetsFrom from base) (sym e) h

pub octets_left : (from base place next count : ℕ) (old new : List (Option HeldCell)) → next ≡ max base place → count ≡ min (place - base) (length old) → new ≡ drop count old
    → AreOctetsFrom from base old → AreOctetsFrom from next new
octets_left from base place next count old new e f g h i c le is =
    h ((place - base) + i) c (omega (arith, e, le))
    (sym (ap (λ (z : List (Option HeldCell)). get_or z i None) (g ∙ ap (λ (k : ℕ). drop k old) f) ∙ gone old (place - base) i) ∙ is)

-- ---- the size of a message of bytes

plain : Cell → Bool
plain syn = false
plain (octet n) = true
plain fin = false

piece_octets : (ss : List (Option HeldCell)) → ((i : ℕ) (c : HeldCell) → get_or ss i None ≡ Some c → is_octet c ≡ true) → Each (λ (c : Cell). plain c ≡ true) (in_piece ss)
unfolding plain
piece_octets [] h = tt
piece_octets (None ∷ ss) h = tt
piece_octets (Some c ∷ ss) h = (of_cell c (h 0 c refl), piece_octets ss (λ i d e. h (suc i) d e))
  where
    of_cell : (c : HeldCell) → is_octet c ≡ true → plain (wire_cell c) ≡ true
    of_cell held.Syn e = absurd cc
    of_cell (held.Octet n) e = refl
    of_cell held.Fin e = absurd cc

all_counted : (k m : ℕ) (cs : List Cell) → Each (λ (c : Cell). plain c ≡ true) cs → cells_to k cs ≡ Some m → m ≡ k
unfolding plain cells_to
all_counted zero m cs h e = let same : 0 ≡ m = cc in sym same
all_counted (suc k) m [] h e = absurd cc
all_counted (suc k) m (syn ∷ cs) h e = let f = h.0 in absurd cc
all_counted (suc k) m (fin ∷ cs) h e = let f = h.0 in absurd cc
all_counted (suc k) m (octet n ∷ cs) h e = by_rest (cells_to k cs) (λ j f. all_counted k j cs h.1 f) refl e
  where
    by_rest : (o : Option ℕ) → ((j : ℕ) → cells_to k cs ≡ Some j → j ≡ k) → cells_to k cs ≡ o → one_more o ≡ Some m → m ≡ suc k
    by_rest None all f g = absurd cc
    by_rest (Some j) all f g =
        let rest = all j f in
        let same : j + 1 ≡ m = cc in
        omega (arith, rest, same)

longer : (room : ℕ) (ss : List (Option HeldCell)) (said : Head) → HeadSays ss said → IsLonger room said → ((i : ℕ) (c : HeldCell) → get_or ss i None ≡ Some c → is_octet c ≡ true)
    → (n : ℕ) → message_size (in_piece ss) ≡ Some n → room < n
longer room ss head.Missing says past h n e = absurd past
longer room ss (head.Ends count) says past h n e = absurd past
longer room ss (head.Length value) says past h n e = by_rest (cells_to value (in_piece (drop 4 ss))) refl (says.0 ∙ e)
  where
    by_rest : (o : Option ℕ) → cells_to value (in_piece (drop 4 ss)) ≡ o → further 4 o ≡ Some n → room < n
    by_rest None f g = absurd cc
    by_rest (Some m) f g =
        let all = all_counted value m (in_piece (drop 4 ss)) (piece_octets (drop 4 ss) (λ i c k. h (4 + i) c (sym (get_or-drop 4 ss i None) ∙ k))) f in
        let same : 4 + m ≡ n = cc in
        omega (arith, all, same, past)

-- A message that is longer is incomplete up to an offset.
pub front_longer : (s : Store) (from place upto first room : ℕ) (said : Head) → s.place ≤ place → first ≡ place - s.place → room ≡ upto - place → from ≤ place → AreOctetsFrom from s.place s.cells
    → HeadSays (drop first s.cells) said → IsLonger room said → IsPiece s place upto None
front_longer s from place upto first room said low f r plain_from h says past le =
    by_size (message_size (in_piece (drop (place - s.place) s.cells))) (λ n e. bound n (ap (λ (i : ℕ). message_size (in_piece (drop i s.cells))) f ∙ e))
  where
    bound : (n : ℕ) → message_size (in_piece (drop first s.cells)) ≡ Some n → room < n
    bound n e =
        longer room (drop first s.cells) said says past
        (λ i c k. h (first + i) c (omega (arith, f, low, plain_from)) (sym (get_or-drop first s.cells i None) ∙ k)) n e

    by_size : (o : Option ℕ) → ((n : ℕ) → o ≡ Some n → room < n) → None ≡ fitting upto place o
    by_size None g = refl
    by_size (Some n) g = let lt = g n refl in rw (lt-ltb upto (place + n) (omega (arith, lt, r))) refl
