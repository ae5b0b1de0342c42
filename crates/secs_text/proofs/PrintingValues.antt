-- The words of bytes, value by value.
use Rattle.std.proofs.Common.{◌≡◌, ℕ, zero, suc, ◌+◌, ◌*◌, ◌/◌, ◌<◌, ◌≤◌, List, [], ◌++◌, length, take, drop, codes, refl, sym, ap, ◌∙◌, arith, append_assoc, append-nil, length-append, length-take-le}
use Rattle.std.proofs.Math.Nat.{add-div_right, div-eq_of_lt}
use Rattle.std.proofs.lemmas.List.{length-drop, nil_from_length, take-append-drop, take-append-le, drop-append-le}
use Rattle.std.proofs.lemmas.List.Concat.{flat_map-cons}
use Rattle.secs_item.specs.Decoding.{each, unread}
use Rattle.secs_text.specs.InnerBlockOutput.{AppendsText, Puts, words_of}
use Rattle.secs_text.proofs.Blocks.{puts_appended, puts_room, puts_same}

-- The bytes are fewer than a value has.
pub words_none : (word : List ℕ → List ℕ) (size : ℕ) (octets : List ℕ) → length octets < size → words_of word size octets ≡ []
words_none word size octets lt = let none : length octets / size ≡ 0 = div-eq_of_lt lt in rw none refl

-- The first value, and the others.
pub words_first : (word : List ℕ → List ℕ) (size : ℕ) (octets : List ℕ) → 1 ≤ size → size ≤ length octets
    → words_of word size octets ≡ (codes " " ++ word (take size octets)) ++ words_of word size (drop size octets)
words_first word size octets some enough =
    let left : length octets ≡ length (drop size octets) + size = omega (arith, length-drop size octets) in
    let count : length octets / size ≡ suc (length (drop size octets) / size) = ap (λ n. n / size) left ∙ add-div_right (length (drop size octets)) some ∙ omega arith in
    rw count (flat_map-cons (λ x. codes " " ++ word x) (take size octets) (each unread size (drop size octets)))

-- Complete values, and the others.
pub words_split : (word : List ℕ → List ℕ) (size n : ℕ) (xs ys : List ℕ) → 1 ≤ size → length xs ≡ n * size
    → words_of word size (xs ++ ys) ≡ words_of word size xs ++ words_of word size ys
words_split word size zero xs ys some len =
    let none : xs ≡ [] = nil_from_length xs (omega (arith, len)) in
    rw none (ap (λ o. o ++ words_of word size ys) (sym (words_none word size [] some)))
words_split word size (suc n) xs ys some len =
    let enough : size ≤ length xs = omega (arith, len) in
    let rest : length (drop size xs) ≡ n * size = omega (arith, length-drop size xs, len) in
    words_first word size (xs ++ ys) some (omega (arith, length-append xs ys))
    ∙ ap (λ o. (codes " " ++ word o) ++ words_of word size (drop size (xs ++ ys))) (take-append-le size xs ys enough)
    ∙ ap (λ o. (codes " " ++ word (take size xs)) ++ words_of word size o) (drop-append-le size xs ys enough)
    ∙ ap (λ o. (codes " " ++ word (take size xs)) ++ o) (words_split word size n (drop size xs) ys some rest)
    ∙ sym (append_assoc (codes " " ++ word (take size xs)) (words_of word size (drop size xs)) (words_of word size ys))
    ∙ ap (λ o. o ++ words_of word size ys) (sym (words_first word size xs some enough))

-- ---- appending the words

-- Loop invariant: the text appended so far, and the words of the remaining bytes.
pub record AppendedSoFar (old now : List ℕ) (from at : ℕ) (all left : List ℕ) : Type 0 where
  pub octets : take at now ++ left ≡ take from old ++ all
  pub within : at ≤ length now
  pub size : length now ≡ length old

module _ (word : List ℕ → List ℕ) (size : ℕ) (some : 1 ≤ size) (old : List ℕ) (from : ℕ) (all : List ℕ) where
  -- One more value is appended.
  pub appends_next : (now new : List ℕ) (at end : ℕ) (rest first after : List ℕ) → AppendedSoFar old now from at all (words_of word size rest) → size ≤ length rest → first ≡ take size rest → after ≡ drop size rest
      → AppendsText now new at (codes " " ++ word first) end → end ≤ length now → AppendedSoFar old new from end all (words_of word size after)
  appends_next now new at end rest first after before enough first_is after_is appended_text within = record {
    octets = ap (λ o. o ++ words_of word size after) (appended_text.octets ∙ ap (λ o. take at now ++ (codes " " ++ word o)) first_is) ∙ append_assoc (take at now) (codes " " ++ word (take size rest)) (words_of word size after)
        ∙ ap (λ o. take at now ++ ((codes " " ++ word (take size rest)) ++ words_of word size o)) after_is ∙ ap (λ o. take at now ++ o) (sym (words_first word size rest some enough)) ∙ before.octets;
    within = omega (arith, appended_text.size, within);
    size = appended_text.size ∙ before.size;
  }

  -- No value remains.
  pub appends_all : (now : List ℕ) (at : ℕ) (rest : List ℕ) → from ≤ length old → AppendedSoFar old now from at all (words_of word size rest) → length rest < size → AppendsText old now from all at
  appends_all now at rest there before done =
      let whole : take at now ≡ take from old ++ all = sym (append-nil (take at now)) ∙ ap (λ o. take at now ++ o) (sym (words_none word size rest done)) ∙ before.octets in
      record {
        octets = whole;
        moved = omega (arith, length-take-le at now before.within, ap length whole, length-append (take from old) all, length-take-le from old there);
        size = before.size;
      }

-- ---- printing to an output

-- The printed words, followed by the remaining ones.
pub record WordsOn (G : List ℕ → Type 0) (block : List ℕ) (from : ℕ) (H : List ℕ → Type 0) (now : List ℕ) (at : ℕ) (left all : List ℕ) : Type 0 where
  pub done : List ℕ
  pub puts : Puts G block from H now at done
  pub parts : done ++ left ≡ all

module _ (G : List ℕ → Type 0) (block : List ℕ) (from : ℕ) (all : List ℕ) where
  pub words_start : (H : List ℕ → Type 0) (at : ℕ) → Puts G block from H block at [] → WordsOn G block from H block at all all
  words_start H at room = record { done = []; puts = room; parts = refl }

  pub words_chunk : (H K : List ℕ → Type 0) (now new : List ℕ) (at end place : ℕ) (left first after : List ℕ) → left ≡ first ++ after → AppendsText now new at first end → end ≤ 65536 → Puts H new end K new place []
      → WordsOn G block from H now at left all → WordsOn G block from K new place after all
  words_chunk H K now new at end place left first after parts appended_text within room before = record {
    done = before.done ++ first;
    puts = puts_room (puts_appended before.puts appended_text within) room;
    parts = append_assoc before.done first after ∙ ap (λ o. before.done ++ o) (sym parts) ∙ before.parts;
  }

  pub words_end : (H : List ℕ → Type 0) (now new : List ℕ) (at end : ℕ) (left : List ℕ) → AppendsText now new at left end → end ≤ 65536 → WordsOn G block from H now at left all → Puts G block from H new end all
  words_end H now new at end left appended_text within before = puts_same all before.parts (puts_appended before.puts appended_text within)

-- A chunk of 512 bytes consists of complete values.
pub words_of_chunk : (word : List ℕ → List ℕ) (size n : ℕ) (left chunk after : List ℕ) → 1 ≤ size → 512 ≡ n * size → 512 < length left → chunk ≡ take 512 left → after ≡ drop 512 left
    → words_of word size left ≡ words_of word size chunk ++ words_of word size after
words_of_chunk word size n left chunk after some whole long chunk_is after_is =
    let len : length (take 512 left) ≡ n * size = length-take-le 512 left (omega (arith, long)) ∙ whole in
    ap (words_of word size) (sym (take-append-drop 512 left)) ∙ words_split word size n (take 512 left) (drop 512 left) some len
    ∙ ap (λ o. words_of word size o ++ words_of word size (drop 512 left)) (sym chunk_is) ∙ ap (λ o. words_of word size chunk ++ words_of word size o) (sym after_is)
