-- Steps of a transfer that continues where the step before it stopped.
use Rattle.std.proofs.Common.{Ok, Err, ◌≡◌, ◌≤◌, ◌+◌, ◌-◌, ◌++◌, ℕ, List, length, take, drop, min, ◌^◌, Some, sym, ◌∙◌, ap, arith}
use Rattle.std.specs.Prelude.{Option, Result, OnErr}
use Rattle.std.proofs.lemmas.List.{length-take, drop_at, take_at, take_all, drop_all, drop-drop, length-append, length-drop, length-take-le, take-append-le, append-nil, append_assoc}
use Rattle.std.proofs.Math.Seq.{take-add}
use borrow.Rule.Slice.PartMut.{put_mid, post_of}
use Rattle.std.specs.Prelude.{◌<◌}
use Rattle.std.proofs.lemmas.Bool.Decides.{nat_tests}
use Rattle.hsms_frame.specs.Io.{Takes, TakesFewer, Stays, Grows, IsAtEnd, ends_after, ends_after_fill}

-- The front of a buffer after a part after the front was written.
pub take-put_mid_add : (n k m : ℕ) (buffer part : List ℕ) → n ≤ length buffer → k ≤ length part
    → take (n + k) (put_mid n m buffer part) ≡ take n buffer ++ take k part
take-put_mid_add n k m buffer part within fits =
    let post : List ℕ = post_of n m buffer in
    let front : length (take n buffer) ≡ n = length-take-le n buffer within in
    take-add n k (take n buffer ++ (part ++ post))
    ∙ ap (λ x. x ++ take k (drop n (take n buffer ++ (part ++ post)))) (take_at (take n buffer) (part ++ post) n front)
    ∙ ap (λ x. take n buffer ++ take k x) (drop_at (take n buffer) (part ++ post) n front)
    ∙ ap (λ x. take n buffer ++ x) (take-append-le k part post fits)

-- What follows the bytes that were written to a room from an index on.
pub after_written : (place n size : ℕ) (old part given after : List ℕ) → place ≤ length old → size ≡ length old → length given ≡ n
    → n ≤ length old - place → part ≡ given ++ drop n (take (length old - place) (drop place old))
    → drop (place + n) (take size (put_mid place (length old - place) old part ++ after)) ≡ drop n (drop place old)
after_written place n size old part given after within whole count fits is =
    let rest : List ℕ = drop place old in
    let left : length rest ≡ length old - place = length-drop place old in
    let tail : List ℕ = given ++ drop n rest in
    let same : put_mid place (length old - place) old part ≡ take place old ++ tail =
    ap (λ x. take place old ++ (part ++ x)) (drop_all (length old - place) rest (omega (arith, left)))
    ∙ ap (λ x. take place old ++ x) (append-nil part ∙ is ∙ ap (λ x. given ++ drop n x) (take_all (length old - place) rest (omega (arith, left)))) in
    let front : length (take place old) ≡ place = length-take-le place old within in
    let long : length (put_mid place (length old - place) old part) ≡ size =
    ap length same ∙ omega (arith, length-append (take place old) tail, length-append given (drop n rest), length-drop n rest, front, count, left, whole, fits, within) in
    ap (λ x. drop (place + n) x) (take_at (put_mid place (length old - place) old part) after size long ∙ same)
    ∙ sym (drop-drop n place (take place old ++ tail))
    ∙ ap (λ x. drop n x) (drop_at (take place old) tail place front)
    ∙ drop_at given (drop n rest) n count

-- A pull into the part of a buffer after the filled part.
pub takes_more : (old mid new : Option (List ℕ)) (n k m : ℕ) (buffer part : List ℕ) → n ≤ length buffer → k ≤ length part
    → Takes old mid n buffer → Takes mid new k part → Takes old new (n + k) (put_mid n m buffer part)
takes_more old mid new n k m buffer part within fits first next octets known_input =
    let a = first octets known_input in
    let b = next (drop n octets) a.2 in
    let left : length (drop n octets) ≡ length octets - n = length-drop n octets in
    let n_fits : n ≤ length octets = a.0 in
    let k_fits : k ≤ length (drop n octets) = b.0 in
    let same : take (n + k) (put_mid n m buffer part) ≡ take (n + k) octets =
    take-put_mid_add n k m buffer part within fits
    ∙ ap (λ x. x ++ take k part) a.1 ∙ ap (λ x. take n octets ++ x) b.1 ∙ sym (take-add n k octets) in
    (omega arith, same, b.2 ∙ ap Some (drop-drop k n octets))

-- A pull that failed takes nothing, and preserves the filled part.
takes_none : (old mid new : Option (List ℕ)) (n m : ℕ) (buffer part : List ℕ) → n ≤ length buffer
    → Takes old mid n buffer → Stays mid new → Takes old new n (put_mid n m buffer part)
takes_none old mid new n m buffer part within first stays octets known_input =
    let a = first octets known_input in
    let front : length (take n buffer) ≡ n = length-take-le n buffer within in (
      a.0,
      take_at (take n buffer) (part ++ post_of n m buffer) n front ∙ a.1,
      stays (drop n octets) a.2,
    )

-- So less than the buffer was filled.
pub stops_short : {T E : Type 0} (r : Result T E) (old mid new : Option (List ℕ)) (n m : ℕ) (buffer part : List ℕ) → n ≤ length buffer
    → n < length (put_mid n m buffer part) → Takes old mid n buffer → Stays mid new → OnErr r (TakesFewer old new (put_mid n m buffer part))
stops_short (Ok x) old mid new n m buffer part within less first stays = tt
stops_short (Err e) old mid new n m buffer part within less first stays = (n, less, takes_none old mid new n m buffer part within first stays)

-- A give of the rest of a slice.
pub grows_more : (old mid new : Option (List ℕ)) (n k : ℕ) (octets : List ℕ)
    → Grows old mid (take n octets) → Grows mid new (take k (drop n octets)) → Grows old new (take (n + k) octets)
grows_more old mid new n k octets first next before known_input =
    next (before ++ take n octets) (first before known_input)
    ∙ ap Some (append_assoc before (take n octets) (take k (drop n octets)) ∙ ap (λ x. before ++ x) (sym (take-add n k octets)))

-- A pull that found the end: the bytes that were taken before are all bytes.
pub ends_at : (old mid : Option (List ℕ)) (n : ℕ) (buffer : List ℕ) → Takes old mid n buffer → IsAtEnd mid
    → (octets : List ℕ) → old ≡ Some octets → length octets ≡ n
ends_at old mid n buffer takes end octets known_input =
    let t = takes octets known_input in
    let within : n ≤ length octets = t.0 in
    let none : length (drop n octets) ≡ 0 = ap length (end (drop n octets) t.2) in
    omega (arith, length-drop n octets, none, within)

-- A saturated count that increases by one stays within a bound that increases by at least one.
pub counts_more : (old mid new n k : ℕ) → mid ≤ old + n → new ≡ min (mid + 1) (2 ^ 64 - 1) → (k ≡ 0 → ⊥) → new ≤ old + (n + k)
counts_more old mid new n k within step some = omega (arith, step, within, some)

-- The end of what a call moved is within the slice.
pub part_within : (n k : ℕ) (octets : List ℕ) → n ≤ length octets → k ≤ length (take (length octets - n) (drop n octets)) → n + k ≤ length octets
part_within n k octets within fits = omega (arith, length-take (length octets - n) (drop n octets), length-drop n octets, fits)

-- A pull that returned bytes did not find the end.
pub no_end : (room n ends new : ℕ) → (n ≡ 0 → ⊥) → new ≡ ends_after room (Ok n) ends → new ≡ ends
no_end room n ends new some step = grind (arith, nat_tests, step, some)

-- A pull with room that returned nothing found the end.
pub found_end : (room part n filled ends new : ℕ) → 0 < part → n ≡ 0 → filled < room → new ≡ ends_after part (Ok n) ends
    → new ≡ ends_after_fill room (Ok filled) ends
found_end room part n filled ends new some none less step = grind (arith, nat_tests, step, none, some, less)
