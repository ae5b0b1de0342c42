-- Numbers and pairs of endpoints, each counted once.
use Rattle.std.specs.Prelude.{◌≡◌, ◌||◌, ◌++◌, ◌==◌, ℕ, zero, suc, Bool, true, nat_lt, nat_le, if◌then◌else◌, List, [], ◌∷◌, length, take, insert}
use Rattle.std.specs.List.{list_any}
use Rattle.capture_log.specs.SocketPair.{turned}
use Rattle.capture_log.specs.declared.socket_pair.Pair.{Pair}
use Rattle.capture_log.specs.contracts.socket_pair.PairPartialEq.TheImpl as same_pair
use Rattle.capture_unjudged.specs.declared.pairs.Pairs.{Pairs}

-- The number of numbers at the front that are lower than a number.
unfoldable pub count_lower : ℕ → List ℕ → ℕ
count_lower n [] = 0
count_lower n (x ∷ xs) = if nat_lt x n then suc (count_lower n xs) else 0

-- The lowest nine numbers, with one more in its position, unless it is one of them.
abbrev pub with_number : List ℕ → ℕ → List ℕ
with_number xs n = if list_any (λ x. x == n) xs then xs else take 9 (insert xs (count_lower n xs) n)

-- True if a pair is one of these, whichever of its ends connected.
abbrev pub has_pair : Pair → List Pair → Bool
has_pair pair pairs = list_any ((same_pair.ghosts).eq pair) pairs || list_any ((same_pair.ghosts).eq (turned pair)) pairs

-- The first 4,096 pairs, with one more, unless it is one of them.
abbrev pub with_pair : Pair → List Pair → List Pair
with_pair pair pairs = if has_pair pair pairs || nat_le 4096 (length pairs) then pairs else pairs ++ pair ∷ []

-- True if there are more than these.
abbrev pub is_past : Pair → List Pair → Bool → Bool
is_past pair pairs has_more = if has_pair pair pairs then has_more else has_more || nat_le 4096 (length pairs)

abbrev pub AddsPair : Pair → Pairs → Pairs → Type 0
AddsPair pair old new =
    (new.pairs.keys ≡ with_pair pair old.pairs.keys) × (new.has_more ≡ is_past pair old.pairs.keys old.has_more)
