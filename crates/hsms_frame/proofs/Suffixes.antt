-- Bytes that are read after others, in one vector.
use Rattle.std.proofs.Common.{◌≡◌, ◌≤◌, ◌<◌, ◌+◌, ◌-◌, ◌++◌, ◌∙◌, ℕ, Bool, List, Ok, Err, length, take, drop, true, false, refl, sym, ap, subst, max, arith}
use Rattle.std.specs.Prelude.{Option, Result, IfOk, OnErr, IsErr, nat_lt, if◌then◌else◌}
use Rattle.std.specs.Result.{IsErrAnd}
use Rattle.std.specs.List.{slice_range}
use Rattle.std.proofs.lemmas.Bool.Decides.{nat_tests}
use Rattle.std.proofs.lemmas.List.{append_assoc, drop-drop, drop-take, length-append, length-drop, length-take, length-take-le, take-append-drop, take-append-le, take-take, take_at}
use Rattle.std.proofs.Math.Seq.{take-append-add}
use Rattle.hsms_frame.specs.declared.io.Failed.{Failed}
use Rattle.hsms_frame.specs.declared.fault.AheadFault.{AheadFault}
use Rattle.hsms_frame.specs.declared.fault.AheadFault.TheVariants as ahead
use Rattle.hsms_frame.specs.ReadAhead.{ReadsMore, ends_after_more, failures_after_more, most_ahead}
use Rattle.hsms_frame.specs.CallCounts.{next_count}
use Rattle.hsms_frame.specs.Io.{Stays, Takes, IfRecorded, ends_after}

-- A part that begins later.
pub slice_range_advance : (xs : List ℕ) (i j n : ℕ) → i + n ≤ j → slice_range xs (i + n) j ≡ drop n (slice_range xs i j)
slice_range_advance xs i j n within =
    let len : j - i ≡ n + (j - (i + n)) = omega arith in
    sym (ap (λ k. drop n (take k (drop i xs))) len ∙ drop-take n (j - (i + n)) (drop i xs) ∙ ap (take (j - (i + n))) (drop-drop n i xs))

-- The front of bytes of which a part was written: what precedes the part, and the front of the part.
pub front_of_written : (before part after rest : List ℕ) (end n len : ℕ) → length before ≡ end → n ≤ length part → end + n ≤ len
    → take (end + n) (take len (before ++ (part ++ after) ++ rest)) ≡ before ++ take n part
front_of_written before part after rest end n len size within short =
    let whole : List ℕ = before ++ (part ++ after) in
    let long : end + n ≤ length whole = omega (arith, size, length-append before (part ++ after), length-append part after) in
    take-take (end + n) len (whole ++ rest) short ∙ take-append-le (end + n) whole rest long
    ∙ ap (λ k. take (k + n) whole) (sym size) ∙ take-append-add before (part ++ after) n
    ∙ ap (λ (xs : List ℕ). before ++ xs) (take-append-le n part after within)

-- Bytes were read after the others.
pub more_read : (ahead buffer now input : List ℕ) (n : ℕ) → now ≡ ahead ++ take n buffer → take n buffer ≡ take n input → ahead ++ input ≡ now ++ drop n input
more_read ahead buffer now input n is same =
    ap (λ (xs : List ℕ). ahead ++ xs) (sym (take-append-drop n input)) ∙ sym (append_assoc ahead (take n input) (drop n input))
    ∙ ap (λ (xs : List ℕ). ahead ++ xs ++ drop n input) (sym same) ∙ ap (λ (xs : List ℕ). xs ++ drop n input) (sym is)

-- The bytes before the part are preserved.
pub front_is_kept : (before subsequent rest : List ℕ) (end len : ℕ) → length before ≡ end → end ≤ len
    → take end (take len (before ++ subsequent ++ rest)) ≡ before
front_is_kept before subsequent rest end len size within =
    take-take end len (before ++ subsequent ++ rest) within
    ∙ take-append-le end (before ++ subsequent) rest (omega (arith, size, length-append before subsequent)) ∙ take_at before subsequent end size

-- A pull to the space after the others.
pub reads_after : (r : Result ℕ Failed) (old new : Option (List ℕ)) (items whole part after rest : List ℕ) (end len : ℕ)
    → whole ≡ items → end ≤ length whole → end + length part ≤ len → IfOk r (λ n. n ≤ length part) → IfOk r (λ n. Takes old new n part)
    → IfOk r (λ n. IfRecorded old
    (λ input. ReadsMore (take end items) input (take (end + n) (take len (take end whole ++ (part ++ after) ++ rest))) new))
reads_after (Ok n) old new items whole part after rest end len same fits room within takes = λ input known_input.
    let t = takes input known_input in
    let now = front_of_written (take end whole) part after rest end n len (length-take-le end whole fits) within (omega (arith, room, within))
    ∙ ap (λ (xs : List ℕ). take end xs ++ take n part) same in
    (drop n input, t.2, more_read (take end items) part _ input n now t.1)
reads_after (Err e) old new items whole part after rest end len same fits room within takes = tt

-- Such a pull stays within its room.
pub within_after : (r : Result ℕ Failed) (room end most : ℕ) → room + end ≡ most → IfOk r (λ n. n ≤ room) → IfOk r (λ n. end + n ≤ most)
within_after (Ok n) room end most is within = omega (arith, within)
within_after (Err e) room end most is within = tt

-- With room, it finds the end if it returns nothing.
pub none_after : (r : Result ℕ Failed) (room : ℕ) (X : Type 0) → 0 < room → IfOk r (λ n. n ≡ 0 → 0 < room → X) → IfOk r (λ n. n ≡ 0 → X)
none_after (Ok n) room X some end = λ none. end none some
none_after (Err e) room X some end = tt

pub ends_following : (r : Result ℕ Failed) (room old new : ℕ) → 0 < room → new ≡ ends_after room r old
    → IfOk r (λ n. new ≡ (if nat_lt 0 n then old else next_count old))
ends_following (Ok n) room old new some step = grind (arith, nat_tests, step, some)
ends_following (Err e) room old new some step = tt

pub ends_stay : (r : Result ℕ Failed) (room old new : ℕ) → new ≡ ends_after room r old → OnErr r (new ≡ old)
ends_stay (Ok n) room old new step = tt
ends_stay (Err e) room old new step = step

-- A part from the front on.
front_of_range : (xs : List ℕ) (end : ℕ) → slice_range xs 0 end ≡ take end xs
front_of_range xs end =
    let same : end - 0 ≡ end = omega arith in
    ap (λ k. take k xs) same

-- The number of bytes of a part.
pub length_of_range : (xs now : List ℕ) (place end : ℕ) → place ≤ end → end ≤ length xs → slice_range xs place end ≡ now → length now ≡ end - place
length_of_range xs now place end order within is =
    sym (ap length is) ∙ omega (arith, length-take (end - place) (drop place xs), length-drop place xs)

-- A part that was moved to the front is present once there is more room after it.
pub moved_is_there : (own whole moved rest grown now : List ℕ) (place end count len : ℕ) → whole ≡ own → slice_range own place end ≡ now
    → length whole ≡ len → end ≤ len → length moved ≡ length whole → count ≡ end - place → take count moved ≡ slice_range whole place end
    → take count grown ≡ take count (take len (moved ++ rest)) → slice_range grown 0 count ≡ now
moved_is_there own whole moved rest grown now place end count len same view size within length_too is front kept =
    front_of_range grown count ∙ kept ∙ take-take count len (moved ++ rest) (omega arith) ∙ take-append-le count moved rest (omega arith)
    ∙ front ∙ ap (λ xs. slice_range xs place end) same ∙ view

-- It is also present after bytes were read after it.
pub still_there : (grown new now : List ℕ) (count : ℕ) → slice_range grown 0 count ≡ now → take count new ≡ take count grown → slice_range new 0 count ≡ now
still_there grown new now count held kept = front_of_range new count ∙ kept ∙ sym (front_of_range grown count) ∙ held

-- The bytes that were read follow it.
pub reads_more : (grown new now input : List ℕ) (left : Option (List ℕ)) (count n given : ℕ) → slice_range grown 0 count ≡ now
    → ReadsMore (take count grown) input (take (count + n) new) left → given ≡ n → ReadsMore now input (slice_range new 0 (count + given)) left
reads_more grown new now input left count n given held (rest, left_is, same) all = (
  rest,
  left_is,
  ap (λ (xs : List ℕ). xs ++ input) (sym held ∙ front_of_range grown count) ∙ same
      ∙ ap (λ (xs : List ℕ). xs ++ rest) (sym (front_of_range new (count + n))) ∙ ap (λ k. slice_range new 0 (count + k) ++ rest) (sym all),
)

-- The number of bytes then.
pub count_ahead : (new now : List ℕ) (count n : ℕ) → length now ≡ count → count + n ≤ length new → length (slice_range new 0 (count + n)) ≡ length now + n
count_ahead new now count n size within = ap length (front_of_range new (count + n)) ∙ length-take-le (count + n) new within ∙ omega arith

pub count_before : (own whole now : List ℕ) (place end len : ℕ) → whole ≡ own → slice_range own place end ≡ now → length whole ≡ len
    → place ≤ end → end ≤ len → length now ≡ end - place
count_before own whole now place end len same view size order within =
    length_of_range whole now place end order (omega arith) (ap (λ xs. slice_range xs place end) same ∙ view)

pub more_ahead : (new now : List ℕ) (count n given len : ℕ) → length now ≡ count → len ≡ length new → count + n ≤ len → given ≡ n
    → ◌≡◌ {A = Result Bool AheadFault} (Ok (nat_lt 0 n)) (Ok true) → length now < length (slice_range new 0 (count + given))
more_ahead new now count n given len size whole within all is =
    let test : nat_lt 0 n ≡ true = cc in
    let some : 0 < n = grind (arith, nat_tests, test) in
    let inside : count + given ≤ length new = omega arith in
    omega (arith, count_ahead new now count given size inside, some, all)

pub none_ahead : (new now : List ℕ) (count n given : ℕ) (X : Type 0) → slice_range new 0 count ≡ now → (n ≡ 0 → X) → given ≡ n
    → ◌≡◌ {A = Result Bool AheadFault} (Ok (nat_lt 0 n)) (Ok false) → (slice_range new 0 (count + given) ≡ now) × X
none_ahead new now count n given X held end all is =
    let test : nat_lt 0 n ≡ false = cc in
    let none : n ≡ 0 = grind (arith, nat_tests, test) in
    let same : count + given ≡ count = omega (arith, none, all) in
    (ap (λ k. slice_range new 0 k) same ∙ held, end none)

-- As many bytes as before are within the bound.
pub bound_kept : (view now : List ℕ) → view ≡ now → length view ≤ most_ahead (length now)
bound_kept view now same = omega (arith, ap length same)

pub bound_ahead : (new now : List ℕ) (count n given most : ℕ) → length now ≡ count → most ≡ max (count + 65536) 131072 → count + n ≤ most → given ≡ n
    → length (slice_range new 0 (count + given)) ≤ most_ahead (length now)
bound_ahead new now count n given most size is within all =
    let cut : length (take (count + given) new) ≤ count + given = omega (arith, length-take (count + given) new) in
    omega (arith, ap length (front_of_range new (count + given)), cut, size, within, is, all)

-- The bytes that were read are within the room, which is at least as large as before.
pub within_room : (count n given most own grown new : ℕ) → most ≡ max (count + 65536) 131072 → count + n ≤ most → count + 65536 ≤ grown
    → 131072 ≤ own → own ≤ grown → new ≡ grown → given ≡ n → (0 ≤ count + given) × (count + given ≤ new) × (131072 ≤ new)
within_room count n given most own grown new is within room large longer kept all = (omega arith, omega arith, omega arith)

-- The exits of a read ahead that failed.
pub no_answer : {E : Type 0} (X : Type 0) (r : Result Bool E) (b : Bool) → IsErr r → r ≡ Ok b → X
no_answer X (Ok x) b fails is = absurd cc
no_answer X (Err e) b fails is = absurd cc

pub stays_on_err : {T E : Type 0} (r : Result T E) (left : Option (List ℕ)) → OnErr r (Stays left left)
stays_on_err (Ok x) left = tt
stays_on_err (Err e) left = λ octets known_input. known_input

pub on_err : {T E : Type 0} (X : Type 0) (r : Result T E) → X → OnErr r X
on_err X (Ok x) fact = tt
on_err X (Err e) fact = fact

pub no_end_found : (r : Result Bool AheadFault) (old new : ℕ) → IsErr r → new ≡ old → new ≡ ends_after_more r old
no_end_found (Ok x) old new fails same = absurd cc
no_end_found (Err e) old new fails same = same

pub read_failed : (r : Result Bool AheadFault) (old new : ℕ) → IsErrAnd r (λ e. e ≡ ahead.Read) → new ≡ next_count old → new ≡ failures_after_more r old
read_failed (Ok x) old new fails one = absurd fails
read_failed (Err e) old new fails one =
    let P : AheadFault → Type 0 = λ x. new ≡ failures_after_more {T = Bool} (Err x) old in
    subst P (sym fails) one

pub memory_fails : (r : Result Bool AheadFault) (old : ℕ) → IsErrAnd r (λ e. e ≡ ahead.Memory) → old ≡ failures_after_more r old
memory_fails (Ok x) old fails = absurd fails
memory_fails (Err e) old fails =
    let P : AheadFault → Type 0 = λ x. old ≡ failures_after_more {T = Bool} (Err x) old in
    subst P (sym fails) refl
