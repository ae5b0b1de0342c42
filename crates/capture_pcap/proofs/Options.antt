-- The options of an interface, one at a time.
use Rattle.std.proofs.Common.{◌≡◌, ◌≢◌, ℕ, zero, suc, ◌+◌, ◌-◌, ◌*◌, ◌/◌, ◌^◌, ◌<◌, ◌≤◌, ◌==◌, Bool, true, false, cond, nat_lt, Option, Some, slice_get, List, length, take, drop, refl, sym, ap, ◌∙◌, subst, arith, eq-eqb}
use Rattle.std.proofs.lemmas.Bool.{lt-ltb, le-ltb, ne_eqb}
use Rattle.capture_pcap.specs.declared.byte_order.Order.{Order}
use Rattle.capture_pcap.specs.declared.next_block.Interface.{Interface}
use Rattle.capture_pcap.specs.ByteOrder.{number_in}
use Rattle.capture_pcap.specs.NextBlock.{options_at, with_option, packet_at, timed_at, ticks_at, ticks_of}

pub positive : (n : ℕ) → 0 < 10 ^ n
positive zero = omega arith
positive (suc n) = omega (arith, positive n)

-- Fewer than four bytes.
pub too_few : (n : ℕ) (o : Order) (rest : List ℕ) (i : Interface) → length rest < 4 → options_at n o rest i ≡ i
unfolding options_at
too_few zero o rest i h = refl
too_few (suc n) o rest i h = rw (lt-ltb (length rest) 4 h) refl

-- The last option.
pub at_end : (n : ℕ) (o : Order) (rest : List ℕ) (i : Interface) → number_in o 2 rest ≡ 0 → options_at n o rest i ≡ i
unfolding options_at
at_end zero o rest i h = refl
at_end (suc n) o rest i h = by_few (nat_lt (length rest) 4)
  where
    by_few : (few : Bool) → cond few i (cond (number_in o 2 rest == 0) i (cond (nat_lt (length rest - 4) ((number_in o 2 (drop 2 rest) + 3) / 4 * 4)) i
        (options_at n o (drop (4 + (number_in o 2 (drop 2 rest) + 3) / 4 * 4) rest) (with_option o (number_in o 2 rest) (take (number_in o 2 (drop 2 rest)) (drop 4 rest)) i)))) ≡ i
    by_few true = refl
    by_few false = rw (eq-eqb (number_in o 2 rest) 0 h) refl

-- An incomplete value.
pub unfinished : (n : ℕ) (o : Order) (rest : List ℕ) (i : Interface) → 4 ≤ length rest → number_in o 2 rest ≢ 0
    → length rest - 4 < (number_in o 2 (drop 2 rest) + 3) / 4 * 4 → options_at n o rest i ≡ i
unfolding options_at
unfinished zero o rest i enough some short = refl
unfinished (suc n) o rest i enough some short =
    rw (le-ltb (length rest) 4 enough, ne_eqb (number_in o 2 rest) 0 some, lt-ltb (length rest - 4) ((number_in o 2 (drop 2 rest) + 3) / 4 * 4) short) refl

-- The options after the first.
pub can_continue : (n : ℕ) (o : Order) (rest : List ℕ) (i : Interface) → 4 ≤ length rest → number_in o 2 rest ≢ 0
    → (number_in o 2 (drop 2 rest) + 3) / 4 * 4 ≤ length rest - 4
    → options_at (suc n) o rest i ≡ options_at n o (drop (4 + (number_in o 2 (drop 2 rest) + 3) / 4 * 4) rest)
    (with_option o (number_in o 2 rest) (take (number_in o 2 (drop 2 rest)) (drop 4 rest)) i)
unfolding options_at
can_continue n o rest i enough some there =
    rw (le-ltb (length rest) 4 enough, ne_eqb (number_in o 2 rest) 0 some, le-ltb (length rest - 4) ((number_in o 2 (drop 2 rest) + 3) / 4 * 4) there) refl

-- A packet's interface was found.
pub found : (o : Order) (g : Option Interface) (i : Interface) (size : ℕ) (octets : List ℕ) → g ≡ Some i
    → packet_at o (Some i) (ticks_of i.resolution) size octets ≡ packet_at o g (ticks_at g) size octets
found o g i size octets e = ap (λ (g : Option Interface). packet_at o g (ticks_at g) size octets) (sym e)

-- One iteration of the loop over the options.
pub step : (total counter : ℕ) (o : Order) (rest : List ℕ) (i : Interface) (code size : ℕ) (value subsequent : List ℕ) (j goal : Interface)
    → counter < total → 4 ≤ length rest → code ≡ number_in o 2 rest → code ≢ 0 → size ≡ number_in o 2 (drop 2 rest)
    → (size + 3) / 4 * 4 ≤ length rest - 4 → value ≡ take size (drop 4 rest) → subsequent ≡ drop (4 + (size + 3) / 4 * 4) rest → j ≡ with_option o code value i
    → options_at (total - counter) o rest i ≡ goal → options_at (total - (counter + 1)) o subsequent j ≡ goal
step total counter o rest i code size value subsequent j goal more enough code_is some size_is there value_is suffix_is j_is h =
    let e : total - counter ≡ suc (total - (counter + 1)) = omega arith in
    let there_is : (number_in o 2 (drop 2 rest) + 3) / 4 * 4 ≤ length rest - 4 = subst (λ (k : ℕ). (k + 3) / 4 * 4 ≤ length rest - 4) size_is there in
    rw (j_is, suffix_is, value_is, code_is, size_is)
    (sym (can_continue (total - (counter + 1)) o rest i enough (λ z. some (code_is ∙ z)) there_is) ∙ ap (λ (n : ℕ). options_at n o rest i) (sym e) ∙ h)

pub of_found : (o : Order) (interfaces : List Interface) (which size : ℕ) (octets : List ℕ) (i : Interface) → 32 ≤ size → Some i ≡ slice_get interfaces which
    → packet_at o (Some i) (ticks_of i.resolution) size octets ≡ timed_at o interfaces which size octets
of_found o interfaces which size octets i enough e = rw (le-ltb size 32 enough) (found o (slice_get interfaces which) i size octets (sym e))
