-- When a segment is a keep-alive.
use Rattle.std.proofs.Common.{◌≡◌, ◌≢◌, ℕ, Bool, true, false, nat_lt, List, [], ◌∷◌, length, refl, arith}
use Rattle.capture_tcp.specs.TcpStreams.{asks_only}
use Rattle.capture_tcp.specs.Message.{cells_of}

pub brings_more : (acknowledged place : ℕ) (pushed syns fins : Bool) (octets : List ℕ) → length octets ≢ 1 → asks_only acknowledged place pushed (cells_of syns octets fins) ≡ false
brings_more acknowledged place pushed true fins octets h = refl
brings_more acknowledged place pushed false true [] h = refl
brings_more acknowledged place pushed false false [] h = refl
brings_more acknowledged place pushed false fins (n ∷ []) h = absurd (h refl)
brings_more acknowledged place pushed false fins (n ∷ (m ∷ os)) h = refl

pub brings_syn : (acknowledged place : ℕ) (pushed fins : Bool) (octets : List ℕ) → asks_only acknowledged place pushed (cells_of true octets fins) ≡ false
brings_syn acknowledged place pushed fins octets = refl

pub brings_fin : (acknowledged place : ℕ) (pushed syns : Bool) (octets : List ℕ) → asks_only acknowledged place pushed (cells_of syns octets true) ≡ false
brings_fin acknowledged place pushed true octets = refl
brings_fin acknowledged place pushed false [] = refl
brings_fin acknowledged place pushed false (n ∷ []) = refl
brings_fin acknowledged place pushed false (n ∷ (m ∷ os)) = refl

pub is_pushed : (acknowledged place : ℕ) (syns fins : Bool) (octets : List ℕ) → asks_only acknowledged place true (cells_of syns octets fins) ≡ false
is_pushed acknowledged place true fins octets = refl
is_pushed acknowledged place false true [] = refl
is_pushed acknowledged place false false [] = refl
is_pushed acknowledged place false true (n ∷ []) = refl
is_pushed acknowledged place false false (n ∷ []) = refl
is_pushed acknowledged place false fins (n ∷ (m ∷ os)) = refl

pub asks_by_place : (acknowledged place : ℕ) (octets : List ℕ) → length octets ≡ 1 → asks_only acknowledged place false (cells_of false octets false) ≡ nat_lt place acknowledged
asks_by_place acknowledged place [] h = absurd (omega (arith, h))
asks_by_place acknowledged place (n ∷ []) h = refl
asks_by_place acknowledged place (n ∷ (m ∷ os)) h = absurd (omega (arith, h))
