-- Lines with a frame, read.
use Rattle.std.proofs.Common.{◌≡◌, ◌<◌, ◌≤◌, ◌+◌, ◌%◌, ◌++◌, ◌∷◌, ℕ, List, length, take, drop, Some, refl, sym, ap, ◌∙◌, subst, arith, length-append}
use Rattle.std.specs.Prelude.{decimal}
use Rattle.std.proofs.lemmas.Fmt.{decimal_nonempty}
use Rattle.std.proofs.lemmas.List.{append-nil, drop_all, take_all}
use Rattle.hsms_frame.specs.declared.header.Header.{Header}
use Rattle.hsms_frame.specs.Frame.{Frame}
use Rattle.hsms_frame.specs.Header.{header_octets}
use Rattle.hsms_machine.specs.declared.entry.Mark.{Mark}
use Rattle.hsms_machine.specs.declared.entry.Mark.TheVariants.{Sent, Taken, Discarded}
use Rattle.hsms_machine.specs.declared.entry.Event.{Event}
use Rattle.hsms_machine.specs.declared.entry.Event.TheVariants as event
use Rattle.hsms_machine.specs.Entry.{frame_entry}
use Rattle.hex.proofs.HexLemmas.{decode_of-ok}
use Rattle.hsms_log.specs.LineFormat.{EncodesEntry, EncodesEvent, IsHexOf, message_octets}
use Rattle.hsms_log.specs.LineContent.{HasFrame, EncodesFramesOnly, EncodesNoFrame}
use Rattle.hsms_log.specs.InnerReading.{number_at}
use Rattle.hsms_log.specs.InnerFrameLine.{IsEncoded, mark_word}
use Rattle.hsms_log.proofs.EntryLaws.{entry_found, event_after}
use Rattle.hsms_log.proofs.Uniqueness.{marked_after}

pub frame_found : (line text digits : List ℕ) (time : ℕ) (mark : Mark) (header : Header) (octets : List ℕ) → number_at line ≡ Some (time, text)
    → text ≡ mark_word mark ++ 32 ∷ digits → IsEncoded digits header octets → EncodesEntry line (frame_entry time mark header octets)
frame_found line text digits time Sent header octets at text_is encoded_bytes =
    entry_found line text time (event.Sent (record { header = header; text = octets })) at encoded_bytes.0 (digits, encoded_bytes.1, text_is)
frame_found line text digits time Taken header octets at text_is encoded_bytes =
    entry_found line text time (event.Taken (record { header = header; text = octets })) at encoded_bytes.0 (digits, encoded_bytes.1, text_is)
frame_found line text digits time Discarded header octets at text_is encoded_bytes =
    entry_found line text time (event.Discarded (record { header = header; text = octets })) at encoded_bytes.0 (digits, encoded_bytes.1, text_is)

-- The number of digits of a message is even, and at least twenty.
pub message_size : (digits : List ℕ) (frame : Frame) → IsHexOf digits (message_octets frame) → (length digits % 2 ≡ 0) × (20 ≤ length digits)
unfolding message_octets
message_size digits frame encoded_bytes =
    let parts = decode_of-ok digits (header_octets frame.header ++ frame.text) encoded_bytes in
    let size : length (header_octets frame.header ++ frame.text) ≡ length (header_octets frame.header) + length frame.text =
    length-append (header_octets frame.header) frame.text in
    let ten : length (header_octets frame.header) ≡ 10 = refl in
    let twice = parts.2 in
    (parts.0, omega (arith, size, ten, twice))

-- A vector whose bytes were all overwritten.
pub written_all : (octets items : List ℕ) (n : ℕ) → length octets ≡ n → length items ≡ n → take n (octets ++ drop (length octets) items) ≡ octets
written_all octets items n one two =
    ap (λ l. take n (octets ++ l)) (drop_all (length octets) items (omega (arith, one, two)))
    ∙ ap (take n) (append-nil octets) ∙ take_all n octets (omega (arith, one))

-- ---- which events a line encodes

-- A frame has a mark, and digits after it.
event_frame : (text : List ℕ) (e : Event) → EncodesEvent text e → HasFrame e
    → (mark : Mark) × (digits : List ℕ) × (frame : Frame) × IsHexOf digits (message_octets frame) × (text ≡ mark_word mark ++ 32 ∷ digits)
event_frame text (event.Sent frame) encoded_bytes framed = (Sent, encoded_bytes.0, frame, encoded_bytes.1, encoded_bytes.2)
event_frame text (event.Taken frame) encoded_bytes framed = (Taken, encoded_bytes.0, frame, encoded_bytes.1, encoded_bytes.2)
event_frame text (event.Discarded frame) encoded_bytes framed = (Discarded, encoded_bytes.0, frame, encoded_bytes.1, encoded_bytes.2)
event_frame text e encoded_bytes framed = absurd framed

mark_size : (mark : Mark) → length (mark_word mark) ≡ 1
mark_size Sent = refl
mark_size Taken = refl
mark_size Discarded = refl

after_mark : (mark : Mark) (digits : List ℕ) → drop 2 (mark_word mark ++ 32 ∷ digits) ≡ digits
after_mark Sent digits = refl
after_mark Taken digits = refl
after_mark Discarded digits = refl

-- A line with this few bytes encodes no frame.
pub frame_short : (line : List ℕ) → length line < 24 → EncodesNoFrame line
frame_short line short entry encoded_bytes framed =
    let text = encoded_bytes.encoded_bytes.0 in
    let parts = event_frame text entry.event encoded_bytes.encoded_bytes.1 framed in
    let digits = parts.1 in
    let size = (message_size digits parts.2 parts.3).1 in
    let some : 0 < length (decimal entry.time) = decimal_nonempty entry.time encoded_bytes.fits.time in
    let long : length line ≡ length (decimal entry.time) + length (32 ∷ text) =
    ap length encoded_bytes.encoded_bytes.2 ∙ length-append (decimal entry.time) (32 ∷ text) in
    let marked : length text ≡ length (mark_word parts.0) + length (32 ∷ digits) =
    ap length parts.4 ∙ length-append (mark_word parts.0) (32 ∷ digits) in
    omega (arith, short, size, some, long, marked, mark_size parts.0)

-- A line whose event begins with no mark encodes no frame.
pub frame_unmarked : (line text : List ℕ) (time : ℕ) → number_at line ≡ Some (time, text)
    → ((mark : Mark) (digits : List ℕ) → text ≡ mark_word mark ++ 32 ∷ digits → ⊥) → EncodesNoFrame line
frame_unmarked line text time at none entry encoded_bytes framed =
    let parts = event_frame text entry.event (event_after line text time at entry encoded_bytes).1 framed in
    none parts.0 parts.1 parts.4

-- A line whose digits encode no message encodes no frame.
pub frame_unread : (line text digits : List ℕ) (time : ℕ) (mark : Mark) → number_at line ≡ Some (time, text) → text ≡ mark_word mark ++ 32 ∷ digits
    → ((frame : Frame) → IsHexOf digits (message_octets frame) → ⊥) → EncodesNoFrame line
frame_unread line text digits time mark at text_is none entry encoded_bytes framed =
    let parts = event_frame text entry.event (event_after line text time at entry encoded_bytes).1 framed in
    let same : parts.1 ≡ digits =
    sym (after_mark parts.0 parts.1) ∙ ap (drop 2) (sym parts.4 ∙ text_is) ∙ after_mark mark digits in
    let P : List ℕ → Type 0 = λ l. IsHexOf l (message_octets parts.2) in
    none parts.2 (subst P same parts.3)

-- After a mark, the only possible event is a frame.
frame_after : (text digits : List ℕ) (mark : Mark) (e : Event) → text ≡ mark_word mark ++ 32 ∷ digits → EncodesEvent text e → HasFrame e
frame_after text digits Sent e is h = marked_after text digits 62 e is (omega arith) h
frame_after text digits Taken e is h = marked_after text digits 60 e is (omega arith) h
frame_after text digits Discarded e is h = marked_after text digits 33 e is (omega arith) h

pub frame_marked : (line text digits : List ℕ) (time : ℕ) (mark : Mark) → number_at line ≡ Some (time, text) → text ≡ mark_word mark ++ 32 ∷ digits
    → EncodesFramesOnly line
frame_marked line text digits time mark at text_is entry encoded_bytes =
    frame_after text digits mark entry.event text_is (event_after line text time at entry encoded_bytes).1
