-- A message's own cells give its size.
use Rattle.std.proofs.Common.{◌≡◌, ◌<◌, ◌≤◌, ℕ, zero, suc, ◌+◌, ◌*◌, List, [], ◌∷◌, ◌++◌, length, Option, Some, None, refl, sym, ap, arith}
use Rattle.capture_tcp.specs.TcpStreams.{Cell, syn, octet, fin}
use Rattle.capture_tcp.specs.Message.{one_more, cells_to, octets_after, size_by, message_size}
use Rattle.capture_tcp.specs.Laws.{IsSize}

of_more : (o : Option ℕ) (n : ℕ) → one_more o ≡ Some n → (m : ℕ) × (o ≡ Some m) × (n ≡ m + 1)
of_more None n e = absurd cc
of_more (Some m) n e = let same : m + 1 ≡ n = cc in (m, refl, sym same)

with_more : (o : Option ℕ) (m n : ℕ) → o ≡ Some m → n ≡ m + 1 → one_more o ≡ Some n
with_more None m n e f = absurd cc
with_more (Some k) m n e f = let same : k ≡ m = cc in ap (λ (x : ℕ). Some x) (omega (arith, same, f))

to_there : (k : ℕ) (cs : List Cell) (n : ℕ) → cells_to k cs ≡ Some n → n ≤ length cs
unfolding cells_to
to_there zero cs n e = let same : 0 ≡ n = cc in omega (arith, same)
to_there (suc k) [] n e = absurd cc
to_there (suc k) (syn ∷ cs) n e = let same : 1 ≡ n = cc in omega (arith, same)
to_there (suc k) (fin ∷ cs) n e = let same : 1 ≡ n = cc in omega (arith, same)
to_there (suc k) (octet a ∷ cs) n e =
    let m = of_more (cells_to k cs) n e in
    let le = to_there k cs m.0 m.1 in
    let is = m.2 in
    omega (arith, is, le)

to_some : (k : ℕ) (cs : List Cell) (n : ℕ) → cells_to (suc k) cs ≡ Some n → 0 < n
unfolding cells_to
to_some k [] n e = absurd cc
to_some k (syn ∷ cs) n e = let same : 1 ≡ n = cc in omega (arith, same)
to_some k (fin ∷ cs) n e = let same : 1 ≡ n = cc in omega (arith, same)
to_some k (octet a ∷ cs) n e =
    let m = of_more (cells_to k cs) n e in
    let is = m.2 in
    omega (arith, is)

to_stays : (k : ℕ) (cs more : List Cell) (n : ℕ) → cells_to k cs ≡ Some n → cells_to k (cs ++ more) ≡ Some n
unfolding cells_to
to_stays zero cs more n e = e
to_stays (suc k) [] more n e = absurd cc
to_stays (suc k) (syn ∷ cs) more n e = e
to_stays (suc k) (fin ∷ cs) more n e = e
to_stays (suc k) (octet a ∷ cs) more n e =
    let m = of_more (cells_to k cs) n e in
    with_more (cells_to k (cs ++ more)) m.0 n (to_stays k cs more m.0 m.1) m.2

to_prefix : (k : ℕ) (cs more : List Cell) (n : ℕ) → cells_to k (cs ++ more) ≡ Some n → n ≤ length cs → cells_to k cs ≡ Some n
unfolding cells_to
to_prefix zero cs more n e le = e
to_prefix (suc k) [] more n e le = let lt = to_some k more n e in absurd (omega (arith, lt, le))
to_prefix (suc k) (syn ∷ cs) more n e le = e
to_prefix (suc k) (fin ∷ cs) more n e le = e
to_prefix (suc k) (octet a ∷ cs) more n e le =
    let m = of_more (cells_to k (cs ++ more)) n e in
    let is = m.2 in
    with_more (cells_to k cs) m.0 n (to_prefix k cs more m.0 m.1 (omega (arith, is, le))) is

by_there : (k value : ℕ) (cs : List Cell) (n : ℕ) → size_by k value cs ≡ Some n → n ≤ length cs
unfolding size_by
by_there zero value cs n e = to_there (octets_after value) cs n e
by_there (suc k) value [] n e = absurd cc
by_there (suc k) value (syn ∷ cs) n e = let same : 1 ≡ n = cc in omega (arith, same)
by_there (suc k) value (fin ∷ cs) n e = let same : 1 ≡ n = cc in omega (arith, same)
by_there (suc k) value (octet a ∷ cs) n e =
    let m = of_more (size_by k (value * 256 + a) cs) n e in
    let le = by_there k (value * 256 + a) cs m.0 m.1 in
    let is = m.2 in
    omega (arith, is, le)

by_some : (k value : ℕ) (cs : List Cell) (n : ℕ) → size_by (suc k) value cs ≡ Some n → 0 < n
unfolding size_by
by_some k value [] n e = absurd cc
by_some k value (syn ∷ cs) n e = let same : 1 ≡ n = cc in omega (arith, same)
by_some k value (fin ∷ cs) n e = let same : 1 ≡ n = cc in omega (arith, same)
by_some k value (octet a ∷ cs) n e =
    let m = of_more (size_by k (value * 256 + a) cs) n e in
    let is = m.2 in
    omega (arith, is)

by_stays : (k value : ℕ) (cs more : List Cell) (n : ℕ) → size_by k value cs ≡ Some n → size_by k value (cs ++ more) ≡ Some n
unfolding size_by
by_stays zero value cs more n e = to_stays (octets_after value) cs more n e
by_stays (suc k) value [] more n e = absurd cc
by_stays (suc k) value (syn ∷ cs) more n e = e
by_stays (suc k) value (fin ∷ cs) more n e = e
by_stays (suc k) value (octet a ∷ cs) more n e =
    let m = of_more (size_by k (value * 256 + a) cs) n e in
    with_more (size_by k (value * 256 + a) (cs ++ more)) m.0 n (by_stays k (value * 256 + a) cs more m.0 m.1) m.2

by_emitted : (k value : ℕ) (cs more : List Cell) (n : ℕ) → size_by k value (cs ++ more) ≡ Some n → n ≤ length cs → size_by k value cs ≡ Some n
unfolding size_by
by_emitted zero value cs more n e le = to_prefix (octets_after value) cs more n e le
by_emitted (suc k) value [] more n e le = let lt = by_some k value more n e in absurd (omega (arith, lt, le))
by_emitted (suc k) value (syn ∷ cs) more n e le = e
by_emitted (suc k) value (fin ∷ cs) more n e le = e
by_emitted (suc k) value (octet a ∷ cs) more n e le =
    let m = of_more (size_by k (value * 256 + a) (cs ++ more)) n e in
    let is = m.2 in
    with_more (size_by k (value * 256 + a) cs) m.0 n (by_emitted k (value * 256 + a) cs more m.0 m.1 (omega (arith, is, le))) is

pub is_size : IsSize message_size
is_size =
    record {
      there = λ cs n e. (by_some 3 0 cs n e, by_there 4 0 cs n e);
      stays = λ cs more n e. by_stays 4 0 cs more n e;
      emitted = λ cs more n e le. by_emitted 4 0 cs more n e le;
    }
