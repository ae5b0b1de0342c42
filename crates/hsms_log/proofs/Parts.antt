-- Bytes that are written in parts.
use Rattle.std.proofs.Common.{◌≡◌, ◌<◌, ◌+◌, ◌/◌, ◌%◌, ◌++◌, ℕ, suc, List, [], ◌∷◌, length, take, drop, get_or, take-append-drop, Some, Ok, Err, refl, sym, ap, ◌∙◌, subst, arith, append_assoc, length-append}
use Rattle.std.specs.Prelude.{Option, Result, codes, decimal}
use Rattle.std.proofs.lemmas.List.{take-append-le, append-nil}
use Rattle.std.specs.Prelude.{slice_index}
use Rattle.hex.specs.Hex.{encode_lower, encode_with, lower_digits}
use Rattle.std.specs.List.{flat_map}
use Rattle.std.proofs.lemmas.Grind.{flat_map-append}
use Rattle.std.proofs.Math.Seq.{take-append-add, take-suc}
use Rattle.hsms_frame.specs.Frame.{Frame}
use Rattle.hsms_frame.specs.Header.{header_octets}
use Rattle.hsms_log.specs.LineFormat.{message_octets}
use Rattle.hsms_frame.specs.CallCounts.{count_failure, next_count}
use Rattle.hsms_frame.specs.Io.{Grows, GrowsByFront, SinkState}
use Rattle.hsms_machine.specs.declared.settings.Role.{Role}
use Rattle.hsms_machine.specs.declared.settings.Role.TheVariants.{Host, Equipment}
use Rattle.hsms_machine.specs.declared.settings.Side.{Side}
use Rattle.hsms_machine.specs.declared.settings.Side.TheVariants.{Active, Passive}
use Rattle.hsms_machine.specs.Settings.{Parameters}
use Rattle.hsms_log.specs.LineFormat.{settings_line, role_word, link_word}
use Rattle.hsms_log.specs.Writing.{Puts}
use Rattle.hsms_log.specs.InnerWriting.{HasFailed, HasWritten, Writes, spaced, version_text, words_of, opening_of, numbers_of}

pub grows_then : (old mid new : Option (List ℕ)) (a b : List ℕ) → Grows old mid a → Grows mid new b → Grows old new (a ++ b)
grows_then old mid new a b h k octets found_fact = k (octets ++ a) (h octets found_fact) ∙ ap Some (append_assoc octets a b)

pub front_of_first : (old mid : Option (List ℕ)) (a b : List ℕ) → GrowsByFront old mid a → GrowsByFront old mid (a ++ b)
front_of_first old mid a b h octets found_fact =
    let x = h octets found_fact in
    let below : x.0 < length a = x.1 in
    (x.0, omega (arith, length-append a b), x.2 ∙ ap (λ l. Some (octets ++ l)) (sym (take-append-le x.0 a b (omega arith))))

pub front_of_second : (old mid new : Option (List ℕ)) (a b : List ℕ) → Grows old mid a → GrowsByFront mid new b → GrowsByFront old new (a ++ b)
front_of_second old mid new a b h k octets found_fact =
    let x = k (octets ++ a) (h octets found_fact) in
    let below : x.0 < length b = x.1 in (
      length a + x.0,
      omega (arith, length-append a b),
      x.2 ∙ ap Some (append_assoc octets a (take x.0 b)) ∙ ap (λ l. Some (octets ++ l)) (sym (take-append-add a b x.0)),
    )

pub written_none : (old : SinkState) → HasWritten old old []
written_none old = (λ octets found_fact. found_fact ∙ ap Some (sym (append-nil octets)), refl)

pub written_then : (old mid new : SinkState) (a b : List ℕ) → HasWritten old mid a → HasWritten mid new b → HasWritten old new (a ++ b)
written_then old mid new a b h k = (grows_then old.written mid.written new.written a b h.0 k.0, k.1 ∙ h.1)

pub failed_first : (old mid : SinkState) (a b : List ℕ) → HasFailed old mid a → HasFailed old mid (a ++ b)
failed_first old mid a b h = (front_of_first old.written mid.written a b h.0, h.1)

pub failed_second : (old mid new : SinkState) (a b : List ℕ) → HasWritten old mid a → HasFailed mid new b → HasFailed old new (a ++ b)
failed_second old mid new a b h k = (front_of_second old.written mid.written new.written a b h.0 k.0, k.1 ∙ ap next_count h.1)

-- A last part, whose result is the result.
pub writes_then : {F : Type 0} (r : Result (Unit {0}) F) (old mid new : SinkState) (a b : List ℕ) → HasWritten old mid a → Writes r mid new b → Writes r old new (a ++ b)
writes_then (Ok _) old mid new a b h k = written_then old mid new a b h k
writes_then (Err _) old mid new a b h k = failed_second old mid new a b h k

-- The digits of joined bytes.
pub encode-append : (a b : List ℕ) → encode_lower (a ++ b) ≡ encode_lower a ++ encode_lower b
unfolding encode_with
encode-append [] b = refl
encode-append (x ∷ a) b = ap (λ l. slice_index lower_digits (x / 16) ∷ slice_index lower_digits (x % 16) ∷ l) (encode-append a b)

-- The same bytes under another name.
pub failed_along : (old new : SinkState) (a b : List ℕ) → a ≡ b → HasFailed old new a → HasFailed old new b
failed_along old new a b e h = let P : List ℕ → Type 0 = λ l. HasFailed old new l in subst P e h

pub written_along : (old new : SinkState) (a b : List ℕ) → a ≡ b → HasWritten old new a → HasWritten old new b
written_along old new a b e h = let P : List ℕ → Type 0 = λ l. HasWritten old new l in subst P e h

pub writes_along : {F : Type 0} (r : Result (Unit {0}) F) (old new : SinkState) (a b : List ℕ) → a ≡ b → Writes r old new a → Writes r old new b
writes_along r old new a b e h = let P : List ℕ → Type 0 = λ l. Writes r old new l in subst P e h

pub encode-nil : encode_lower [] ≡ []
unfolding encode_with
encode-nil = refl

pub halves : (n : ℕ) (whole front back : List ℕ) → front ≡ take n whole → back ≡ drop n whole → whole ≡ front ++ back
halves n whole front back p q = sym (take-append-drop n whole) ∙ ap (λ l. l ++ drop n whole) (sym p) ∙ ap (λ l. front ++ l) (sym q)

pub empty_is : (l : List ℕ) → length l ≡ 0 → l ≡ []
empty_is [] h = refl
empty_is (x ∷ l) h = absurd (omega arith)

-- The exit of a part that failed.
pub writes_err : {F : Type 0} (r : Result (Unit {0}) F) (e : F) (old new : SinkState) (octets : List ℕ) → r ≡ Err e → HasFailed old new octets → Writes r old new octets
writes_err {F} r e old new octets is h = let P : Result (Unit {0}) F → Type 0 = λ x. Writes x old new octets in subst P (sym is) h

-- What was written, and the failures, each separately.
pub writes_puts : {F : Type 0} (r : Result (Unit {0}) F) (old new : SinkState) (octets : List ℕ) → Writes r old new octets → Puts r old.written new.written octets
writes_puts (Ok _) old new octets h = h.0
writes_puts (Err _) old new octets h = h.0

pub writes_failures : {F : Type 0} (r : Result (Unit {0}) F) (old new : SinkState) (octets : List ℕ) → Writes r old new octets → new.failures ≡ count_failure r old.failures
writes_failures (Ok _) old new octets h = h.1
writes_failures (Err _) old new octets h = h.1

-- The digits of a message are those of its header and of its text.
pub message_digits : (frame : Frame) (front text : List ℕ) → front ≡ header_octets frame.header → text ≡ frame.text
    → encode_lower (message_octets frame) ≡ encode_lower front ++ encode_lower text
unfolding message_octets
message_digits frame front text p q =
    encode-append (header_octets frame.header) frame.text
    ∙ ap (λ l. encode_lower l ++ encode_lower frame.text) (sym p) ∙ ap (λ l. encode_lower front ++ encode_lower l) (sym q)

-- The written text of numbers, with one more number.
pub numbers_next : (xs : List ℕ) (i : ℕ) → i < length xs → flat_map spaced (take (i + 1) xs) ≡ flat_map spaced (take i xs) ++ spaced (get_or xs i 0)
numbers_next xs i below =
    let next : suc i ≡ i + 1 = omega arith in
    let P : ℕ → Type 0 = λ k. take k xs ≡ take i xs ++ get_or xs i 0 ∷ [] in
    ap (flat_map spaced) (subst P next (take-suc xs i 0 below)) ∙ flat_map-append spaced (take i xs) (get_or xs i 0 ∷ [])
    ∙ ap (λ l. flat_map spaced (take i xs) ++ l) (append-nil (spaced (get_or xs i 0)))

-- The written text of numbers, split at one of them.
pub numbers_parted : (xs : List ℕ) (i : ℕ) (end : List ℕ) → i < length xs
    → flat_map spaced (take i xs) ++ (spaced (get_or xs i 0) ++ (flat_map spaced (drop (i + 1) xs) ++ end)) ≡ flat_map spaced xs ++ end
numbers_parted xs i end below =
    let a = flat_map spaced (take i xs) in
    let b = spaced (get_or xs i 0) in
    let rest = flat_map spaced (drop (i + 1) xs) in
    sym (append_assoc a b (rest ++ end)) ∙ ap (λ l. l ++ (rest ++ end)) (sym (numbers_next xs i below))
    ∙ sym (append_assoc (flat_map spaced (take (i + 1) xs)) rest end)
    ∙ ap (λ l. l ++ end) (sym (flat_map-append spaced (take (i + 1) xs) (drop (i + 1) xs)) ∙ ap (flat_map spaced) (take-append-drop (i + 1) xs))

numbers_text : (front : List ℕ) (a b c d e f g : ℕ)
    → front ++ 32 ∷ (decimal a ++ 32 ∷ (decimal b ++ 32 ∷ (decimal c ++ 32 ∷ (decimal d ++ 32 ∷ (decimal e ++ 32 ∷ (decimal f ++ 32 ∷ decimal g))))))
    ≡ front ++ flat_map spaced (a ∷ b ∷ c ∷ d ∷ e ∷ f ∷ g ∷ [])
numbers_text front a b c d e f g =
    ap (λ l. front ++ 32 ∷ (decimal a ++ 32 ∷ (decimal b ++ 32 ∷ (decimal c ++ 32 ∷ (decimal d ++ 32 ∷ (decimal e ++ 32 ∷ (decimal f ++ 32 ∷ l))))))) (sym (append-nil (decimal g)))

-- The written text of numbers after the version.
version_front : (version : ℕ) (words : List ℕ) (a b c d e f g : ℕ)
    → codes "hsms-log" ++ 32 ∷ (decimal version ++ (words ++ 32 ∷ (decimal a ++ 32 ∷ (decimal b ++ 32 ∷ (decimal c ++ 32 ∷ (decimal d ++ 32 ∷ (decimal e ++ 32 ∷ (decimal f ++ 32 ∷ decimal g))))))))
    ≡ (version_text version ++ words) ++ flat_map spaced (a ∷ b ∷ c ∷ d ∷ e ∷ f ∷ g ∷ [])
version_front version words a b c d e f g =
    ap (λ l. codes "hsms-log" ++ 32 ∷ (decimal version ++ l)) (numbers_text words a b c d e f g)
    ∙ ap (λ l. codes "hsms-log" ++ 32 ∷ l) (sym (append_assoc (decimal version) words (flat_map spaced (a ∷ b ∷ c ∷ d ∷ e ∷ f ∷ g ∷ []))))

pub line_text : (version : ℕ) (role : Role) (link : Side) (a b c d e f g : ℕ)
    → settings_line (record { version = version; role = role; link = link; device = a; t3 = b; t6 = c; t7 = d; t8 = e; max = f; depth = g })
    ≡ opening_of (record { version = version; role = role; link = link; device = a; t3 = b; t6 = c; t7 = d; t8 = e; max = f; depth = g }) ++ flat_map spaced (a ∷ b ∷ c ∷ d ∷ e ∷ f ∷ g ∷ [])
unfolding settings_line
line_text version Host Active a b c d e f g = version_front version (codes " host active") a b c d e f g
line_text version Host Passive a b c d e f g = version_front version (codes " host passive") a b c d e f g
line_text version Equipment Active a b c d e f g = version_front version (codes " equipment active") a b c d e f g
line_text version Equipment Passive a b c d e f g = version_front version (codes " equipment passive") a b c d e f g

-- The first line in its two parts.
pub line_parts : (s : Parameters) → opening_of s ++ (flat_map spaced (numbers_of s) ++ 10 ∷ []) ≡ settings_line s ++ 10 ∷ []
line_parts s =
    sym (append_assoc (opening_of s) (flat_map spaced (numbers_of s)) (10 ∷ []))
    ∙ ap (λ l. l ++ 10 ∷ []) (sym (line_text s.version s.role s.link s.device s.t3 s.t6 s.t7 s.t8 s.max s.depth))

pub words_are : (s : Parameters) (role : Role) (link : Side) → s.role ≡ role → s.link ≡ link → 32 ∷ (role_word role ++ 32 ∷ link_word link) ≡ words_of s
words_are s role link p q =
    ap (λ r. 32 ∷ (role_word r ++ 32 ∷ link_word link)) (sym p) ∙ ap (λ l. 32 ∷ (role_word s.role ++ 32 ∷ link_word l)) (sym q)

-- A text that was appended to twice.
pub added_twice : (old mid new a b : List ℕ) → mid ≡ old ++ a → new ≡ mid ++ b → new ≡ old ++ (a ++ b)
added_twice old mid new a b h k = k ∙ ap (λ l. l ++ b) h ∙ append_assoc old a b
