-- Output that is written in two parts.
use Rattle.std.proofs.Common.{◌≡◌, ◌<◌, ◌+◌, ◌++◌, ℕ, List, length, take, Some, subst, sym, ◌∙◌, ap, arith}
use Rattle.std.specs.Prelude.{Option}
use Rattle.std.proofs.lemmas.List.{length-append, take-append-le, append_assoc}
use Rattle.std.proofs.Math.Seq.{take-append-add}
use Rattle.std.specs.Int.{w32, to_be_bytes}
use Rattle.hsms_frame.specs.Io.{Grows, GrowsByFront}
use Rattle.hsms_frame.specs.Header.{header_octets}
use Rattle.hsms_frame.specs.Frame.{Frame, frame_octets}

-- Both parts were written.
grows_by_both : (old mid new : Option (List ℕ)) (first last : List ℕ) → Grows old mid first → Grows mid new last → Grows old new (first ++ last)
grows_by_both old mid new first last a b before known_input = b (before ++ first) (a before known_input) ∙ ap Some (append_assoc before first last)

-- Not all of the first part was written.
stops_in_first : (old new : Option (List ℕ)) (first last : List ℕ) → GrowsByFront old new first → GrowsByFront old new (first ++ last)
stops_in_first old new first last a before known_input =
    let g = a before known_input in
    let n : ℕ = g.0 in
    let less : n < length first = g.1 in
    (n, omega (arith, length-append first last), g.2 ∙ ap (λ xs. Some (before ++ xs)) (sym (take-append-le n first last (omega arith))))

-- The first part was written, and not all of the last.
stops_in_last : (old mid new : Option (List ℕ)) (first last : List ℕ) → Grows old mid first → GrowsByFront mid new last
    → GrowsByFront old new (first ++ last)
stops_in_last old mid new first last a b before known_input =
    let g = b (before ++ first) (a before known_input) in
    let n : ℕ = g.0 in
    let less : n < length last = g.1 in (
      length first + n,
      omega (arith, length-append first last),
      g.2 ∙ ap Some (append_assoc before first (take n last)) ∙ ap (λ xs. Some (before ++ xs)) (sym (take-append-add first last n)),
    )

-- The bytes of a message before its text.
abbrev pub IsBeforeText : Frame → List ℕ → Type 0
IsBeforeText f front = front ≡ to_be_bytes w32 (10 + length f.text) ++ header_octets f.header

pub before_text : (f g : Frame) (n : ℕ) (front : List ℕ) → g ≡ f → n ≡ 10 + length f.text
    → front ≡ to_be_bytes w32 n ++ header_octets g.header → IsBeforeText f front
before_text f g n front same size is =
    is ∙ ap (λ k. to_be_bytes w32 k ++ header_octets g.header) size
    ∙ ap (λ x. to_be_bytes w32 (10 + length f.text) ++ header_octets x.header) same

-- The bytes of a message that were written in the two parts.
pub wrote_all : (f : Frame) (front : List ℕ) (old mid new : Option (List ℕ)) → IsBeforeText f front → Grows old mid front → Grows mid new f.text
    → Grows old new (frame_octets f)
wrote_all f front old mid new is a b =
    let P : List ℕ → Type 0 = λ xs. Grows old mid xs in
    grows_by_both old mid new _ f.text (subst P is a) b

pub wrote_front : (f : Frame) (front : List ℕ) (old new : Option (List ℕ)) → IsBeforeText f front → GrowsByFront old new front
    → GrowsByFront old new (frame_octets f)
wrote_front f front old new is a =
    let P : List ℕ → Type 0 = λ xs. GrowsByFront old new xs in
    stops_in_first old new _ f.text (subst P is a)

pub wrote_part : (f : Frame) (front : List ℕ) (old mid new : Option (List ℕ)) → IsBeforeText f front → Grows old mid front
    → GrowsByFront mid new f.text → GrowsByFront old new (frame_octets f)
wrote_part f front old mid new is a b =
    let P : List ℕ → Type 0 = λ xs. Grows old mid xs in
    stops_in_last old mid new _ f.text (subst P is a) b
