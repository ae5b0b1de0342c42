-- Octets by their places.
use Rattle.std.proofs.Common.{◌≡◌, ◌<◌, ◌≤◌, ◌-◌, ◌+◌, ◌∷◌, ℕ, zero, suc, List, [], length, drop, Option, Some, None, refl, sym, ap, ◌∙◌, subst, inr, true, false, arith}
use Rattle.std.specs.Option.{option_map}
use Rattle.capture_tcp.specs.declared.reassembly.Cell.{Cell as HeldCell}
use Rattle.capture_tcp.specs.declared.reassembly.Cell.TheVariants as held
use Rattle.capture_tcp.specs.Reassembly.{CellIs, IsStoreOf, Store, wire_cell}
use Rattle.capture_tcp.specs.TcpStreams.{End, Placed}
use Rattle.capture_midstream.specs.declared.session_filter.Session.{Session}
use Rattle.capture_midstream.specs.SyncPoint.{CountsAs, IsSureBy, NoMessageAt, most}
use Rattle.capture_midstream.specs.BufferedPacket.{and_more, octet_at, octet_of, octets_in, octets_upto}
use Rattle.capture_midstream.specs.InnerBufferedPacket.{held_octet}
use Rattle.capture_midstream.proofs.Rows.{missing_counts}

pub is_sure : (s : Session) (octets : List ℕ) (count : ℕ) → count ≡ 3 → CountsAs s most octets (Some count) → IsSureBy s octets true
is_sure s octets count is counts = let P : ℕ → Type 0 = λ k. CountsAs s most octets (Some k) in subst P is counts

-- nothing stands where there is no octet
pub no_octets : (s : Session) → CountsAs s most [] (Some 0)
no_octets s = missing_counts s 3 [] (omega arith) (omega arith)

pub no_message_at : (s : Session) → NoMessageAt s []
unfolding NoMessageAt
no_message_at s = (Some 0, no_octets s, inr refl)

pub none_is_sure : (s : Session) → IsSureBy s [] false
none_is_sure s = (Some 0, no_octets s, λ is. absurd cc)

-- what is left behind one octet more
drop_more : (o : Option ℕ) (rest left : List ℕ) (q : ℕ) → (q ≤ length rest → drop q rest ≡ left) → suc q ≤ length (and_more o rest)
    → drop (suc q) (and_more o rest) ≡ left
drop_more None rest left q same le = absurd (omega (arith, le))
drop_more (Some x) rest left q same le = same (omega (arith, le))

-- what is left of octets is what is there from a later place on
pub dropped : (left : ℕ) (at : ℕ → Option ℕ) (n q : ℕ) → q ≤ length (octets_in left at n) → drop q (octets_in left at n) ≡ octets_in (left - q) at (n + q)
unfolding octets_in
dropped left at n zero le =
    let same : left ≡ left - 0 = omega arith in
    let here : n ≡ n + 0 = omega arith in
    ap (λ (k : ℕ). octets_in k at n) same ∙ ap (λ (k : ℕ). octets_in (left - 0) at k) here
dropped zero at n (suc q) le = absurd (omega (arith, le))
dropped (suc left) at n (suc q) le =
    let same : n + 1 + q ≡ n + suc q = omega arith in
    let few : left - q ≡ suc left - suc q = omega arith in
    drop_more (at n) (octets_in left at (n + 1)) (octets_in (left - q) at (n + 1 + q)) q (λ short. dropped left at (n + 1) q short) le
    ∙ ap (λ (k : ℕ). octets_in (left - q) at k) same
    ∙ ap (λ (k : ℕ). octets_in k at (n + suc q)) few

pub next_octet : (upto n x : ℕ) (at : ℕ → Option ℕ) → n < upto → at n ≡ Some x → octets_upto upto at n ≡ x ∷ octets_upto upto at (n + 1)
unfolding octets_in
next_octet upto n x at lt is =
    let left : upto - n ≡ suc (upto - (n + 1)) = omega (arith, lt) in
    ap (λ (k : ℕ). octets_in k at n) left ∙ ap (λ (o : Option ℕ). and_more o (octets_in (upto - (n + 1)) at (n + 1))) is

pub no_octet : (left n : ℕ) (at : ℕ → Option ℕ) → at n ≡ None → octets_in left at n ≡ []
unfolding octets_in
no_octet zero n at is = refl
no_octet (suc left) n at is = ap (λ (o : Option ℕ). and_more o (octets_in left at (n + 1))) is

-- the octet of a cell that is held
held_is : (c : Option HeldCell) → octet_of (option_map wire_cell c) ≡ held_octet c
held_is None = refl
held_is (Some held.Syn) = refl
held_is (Some (held.Octet n)) = refl
held_is (Some held.Fin) = refl

pub octet_is : (s : Store) (n : ℕ) (c : Option HeldCell) (o : Option ℕ) → CellIs s n c → s.place ≤ n → o ≡ held_octet c → (ps : List Placed) (d : End)
    → IsStoreOf s ps d → octet_at ps d n ≡ o
octet_is s n c o cell le is ps d store = sym (ap octet_of (cell.1 ps d store le)) ∙ held_is c ∙ sym is
