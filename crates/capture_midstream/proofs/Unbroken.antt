-- The first place from which on no octet is missing before the first number that is known.
use Rattle.std.proofs.Common.{◌≡◌, ◌<◌, ◌≤◌, ◌-◌, ℕ, suc, true, false, List, Option, Some, None, cond, is_some, refl, sym, ap, ◌∙◌, arith}
use Rattle.capture_tcp.specs.Reassembly.{CellIs, IsStoreOf, Store}
use Rattle.capture_tcp.specs.TcpStreams.{End, Placed}
use Rattle.capture_tcp.specs.declared.reassembly.Cell.{Cell as HeldCell}
use Rattle.capture_midstream.specs.BufferedPacket.{midst, octet_at, unbroken}
use Rattle.capture_midstream.specs.InnerBufferedPacket.{held_octet}
use Rattle.capture_midstream.proofs.Places.{octet_is}

abbrev pub UnbrokenSoFar : Store → ℕ → ℕ → Type 0
UnbrokenSoFar held low place =
    (ps : List Placed) (d : End) → IsStoreOf held ps d → unbroken (place - low) (octet_at ps d) place ≡ unbroken (midst - low) (octet_at ps d) midst

abbrev pub IsUnbroken : Store → ℕ → ℕ → Type 0
IsUnbroken held low place = (ps : List Placed) (d : End) → IsStoreOf held ps d → place ≡ unbroken (midst - low) (octet_at ps d) midst

pub unbroken_begins : (held : Store) (low : ℕ) → UnbrokenSoFar held low midst
unbroken_begins held low ps d store = refl

at_one : (k n : ℕ) (at : ℕ → Option ℕ) (o : Option ℕ) → at (n - 1) ≡ o → unbroken (suc k) at n ≡ cond (is_some o) (unbroken k at (n - 1)) n
unfolding unbroken
at_one k n at o is = ap (λ (x : Option ℕ). cond (is_some x) (unbroken k at (n - 1)) n) is

one_less : (low place : ℕ) (at : ℕ → Option ℕ) (o : Option ℕ) → low < place → at (place - 1) ≡ o
    → unbroken (place - low) at place ≡ cond (is_some o) (unbroken (place - 1 - low) at (place - 1)) place
one_less low place at o lt is =
    let more : place - low ≡ suc (place - 1 - low) = omega (arith, lt) in
    ap (λ (k : ℕ). unbroken k at place) more ∙ at_one (place - 1 - low) place at o is

-- the octet before it is there
pub unbroken_more : (held : Store) (low place : ℕ) (c : Option HeldCell) (o : Option ℕ) → held.place ≤ low → low < place → CellIs held (place - 1) c → o ≡ held_octet c
    → is_some o ≡ true → UnbrokenSoFar held low place → UnbrokenSoFar held low (place - 1)
unbroken_more held low place c o within lt cell is some so_far ps d store =
    let there = octet_is held (place - 1) c o cell (omega (arith, within, lt)) is ps d store in
    sym (one_less low place (octet_at ps d) o lt there ∙ rw some refl) ∙ so_far ps d store

-- the octet before it is missing
pub unbroken_stops : (held : Store) (low place : ℕ) (c : Option HeldCell) (o : Option ℕ) → held.place ≤ low → low < place → CellIs held (place - 1) c → o ≡ held_octet c
    → is_some o ≡ false → UnbrokenSoFar held low place → IsUnbroken held low place
unbroken_stops held low place c o within lt cell is none so_far ps d store =
    let there = octet_is held (place - 1) c o cell (omega (arith, within, lt)) is ps d store in
    sym (one_less low place (octet_at ps d) o lt there ∙ rw none refl) ∙ so_far ps d store

-- none stands before it
pub unbroken_ends : (held : Store) (low place : ℕ) → place ≤ low → UnbrokenSoFar held low place → IsUnbroken held low place
unfolding unbroken
unbroken_ends held low place le so_far ps d store =
    let none : place - low ≡ 0 = omega (arith, le) in
    sym (ap (λ (k : ℕ). unbroken k (octet_at ps d) place) none) ∙ so_far ps d store
