-- Messages encoded one after another.
use Rattle.std.proofs.Common.{Ok, Err, inl, inr, ◌≡◌, ◌≤◌, ◌<◌, ◌+◌, ◌^◌, ◌++◌, ℕ, zero, suc, Bool, false, List, [], ◌∷◌, length, add-one, refl, sym, ◌∙◌, ap, subst, arith}
use Rattle.std.proofs.lemmas.List.{append-nil, append_assoc}
use Rattle.std.specs.Prelude.{Option, Some, None, Result}
use Rattle.secs_text.specs.Content.{Content, AllWithin}
use Rattle.secs_text.specs.Notation.{Notations}
use Rattle.hsms_frame.specs.Io.{Stays}
use Rattle.hsms_frame.specs.Frame.{Frame, frame_octets}
use Rattle.cli_filters.specs.declared.encode_error.EncodeError.{EncodeError}
use Rattle.cli_filters.specs.declared.encode_error.EncodeError.TheVariants as encode
use Rattle.secs_text.specs.Fault.{NotesFault}
use Rattle.secs_text.specs.declared.fault.TextFault.TheVariants as text
use Rattle.cli_filters.specs.declared.encode_error.Refusal.{Refusal}
use Rattle.cli_filters.specs.Encode.{EncodesAll, IsPartOfInput, IsWholeInput, ParsesMessages, input_limit, Encodes, FrameOf, FirstWithoutFrame, next_system, output_of}
use Rattle.cli_filters.specs.InnerEncode.{AreFrames, Frames, IsNotEncoded, WritesOut, outputs_of, system_after}

next_system-suc : (system n : ℕ) → next_system (system_after system n) ≡ system_after system (suc n)
next_system-suc system zero = refl
next_system-suc system (suc n) = next_system-suc (next_system system) n

-- The system bytes after n messages, and then after one more.
pub next_system-system_after : (system n : ℕ) → next_system (system_after system n) ≡ system_after system (n + 1)
next_system-system_after system n = next_system-suc system n ∙ ap (λ k. system_after system k) (sym (add-one n))

-- One more message.
pub Encodes-push : (device max : ℕ) (hex : Bool) (system : ℕ) (ms : List Content) (output : List ℕ) (m : Content) (f : Frame)
    → Encodes device max hex system ms output → FrameOf device max (system_after system (length ms)) m f
    → Encodes device max hex system (ms ++ m ∷ []) (output ++ output_of hex f)
Encodes-push device max hex system [] output m f none is =
    (f, [], is, refl, ap (λ xs. xs ++ output_of hex f) none ∙ sym (append-nil (output_of hex f)))
Encodes-push device max hex system (x ∷ xs) output m f (g, rest, one, others, parts) is = (
  g,
  rest ++ output_of hex f,
  one,
  Encodes-push device max hex (next_system system) xs rest m f others is,
  ap (λ ys. ys ++ output_of hex f) parts ∙ append_assoc (output_of hex g) rest (output_of hex f),
)

-- ---- bytes and lines

-- Bytes that were made of messages are those of frames, and the lines of the same messages are the lines of these
-- frames.
pub frames_of : (device max system : ℕ) (hex : Bool) (ms : List Content) (octets : List ℕ) → max < 2 ^ 32 → Encodes device max false system ms octets
    → (fs : List Frame) × AreFrames fs octets × Encodes device max hex system ms (outputs_of hex fs)
frames_of device max system hex [] octets bound none = ([], none, refl)
frames_of device max system hex (m ∷ ms) octets bound (f, rest, one, others, parts) =
    let more = frames_of device max (next_system system) hex ms rest bound others in
    let within : 10 + length f.text ≤ max = one.within in
    (f ∷ more.0, (rest, omega (arith, within, bound), more.1, parts), (f, outputs_of hex more.0, one, more.2, refl))

-- Frames that are written as bytes.
pub octets_are : (fs : List Frame) (octets : List ℕ) → AreFrames fs octets → outputs_of false fs ≡ octets
octets_are [] octets none = sym none
octets_are (f ∷ fs) octets (rest, fits, others, parts) = ap (λ o. frame_octets f ++ o) (octets_are fs rest others) ∙ sym parts

-- The first message without a frame does not depend on what is written of those before.
none_of : (device max : ℕ) (hex : Bool) (system : ℕ) (ms : List Content) (why : Refusal) → max < 2 ^ 32 → FirstWithoutFrame device max false system ms why
    → FirstWithoutFrame device max hex system ms why
none_of device max hex system ms why bound h =
    let fs = frames_of device max system hex h.before h.output bound h.encoded in record {
      before = h.before;
      message = h.message;
      after = h.after;
      parts = h.parts;
      output = outputs_of hex fs.0;
      encoded = fs.2;
      refused = h.refused;
    }

-- ---- where the command stops

-- What was read is the notation of these messages.
encodes_to : (depth : ℕ) (octets input : List ℕ) (ms : List Content) → IsWholeInput input_limit octets input
    → Notations ms octets × AllWithin depth ms → ParsesMessages depth input ms
encodes_to depth octets input ms whole noted =
    let P : List ℕ → Type 0 = λ text. Notations ms text in
    (whole.1, subst P whole.0 noted.0, noted.1)

-- All were encoded, and their frames were written; or a write failed, or an allocation for the lines failed.
pub answers_written : (device max depth : ℕ) (hex : Bool) (system : ℕ) (octets input : List ℕ) (ms : List Content) (fs : List Frame) (r : Result (Unit {0}) EncodeError)
    (left old written : Option (List ℕ)) → IsWholeInput input_limit octets input → Notations ms octets × AllWithin depth ms → Encodes device max hex system ms (outputs_of hex fs)
    → WritesOut (outputs_of hex fs) r old written → EncodesAll device max depth hex system input r left old written
answers_written device max depth hex system octets input ms fs (Ok _) left old written whole noted encoded grows =
    (ms, outputs_of hex fs, encodes_to depth octets input ms whole noted, encoded, grows)
answers_written device max depth hex system octets input ms fs (Err encode.Write) left old written whole noted encoded grows =
    (ms, outputs_of hex fs, encodes_to depth octets input ms whole noted, encoded, grows)
answers_written device max depth hex system octets input ms fs (Err (encode.Text fault)) left old written whole noted encoded (is, stays) =
    let memory : fault ≡ text.Memory = cc in (inl memory, stays)
answers_written device max depth hex system octets input ms fs (Err encode.Input) left old written whole noted encoded (is, stays) = cc
answers_written device max depth hex system octets input ms fs (Err encode.Read) left old written whole noted encoded (is, stays) = cc
answers_written device max depth hex system octets input ms fs (Err (encode.Frame why)) left old written whole noted encoded (is, stays) = cc

-- An input that was not read completely.
pub stops_reading : (device max depth : ℕ) (hex : Bool) (system : ℕ) (input : List ℕ) (error : EncodeError) (left old : Option (List ℕ))
    → IsPartOfInput input_limit input error left → EncodesAll device max depth hex system input (Err error) left old old
stops_reading device max depth hex system input encode.Input left old part = (part, (λ octets known_input. known_input))
stops_reading device max depth hex system input encode.Read left old part = (part, (λ octets known_input. known_input))
stops_reading device max depth hex system input (encode.Text fault) left old part =
    let memory : fault ≡ text.Memory = cc in (inl memory, (λ octets known_input. known_input))
stops_reading device max depth hex system input encode.Write left old part = cc
stops_reading device max depth hex system input (encode.Frame why) left old part = cc

-- An input that was not encoded.
pub stops_encoding : (device max depth : ℕ) (hex : Bool) (system : ℕ) (octets input : List ℕ) (error : EncodeError) (left old written : Option (List ℕ))
    → max < 2 ^ 32 → IsWholeInput input_limit octets input → IsNotEncoded device max depth system octets error → Stays old written
    → EncodesAll device max depth hex system input (Err error) left old written
stops_encoding device max depth hex system octets input (encode.Text fault) left old written bound whole (inl memory) stays = (inl memory, stays)
stops_encoding device max depth hex system octets input (encode.Text fault) left old written bound whole (inr faulty) stays =
    let P : List ℕ → Type 0 = λ text. NotesFault text depth fault in
    (inr (whole.1, subst P whole.0 faulty), stays)
stops_encoding device max depth hex system octets input (encode.Frame why) left old written bound whole (ms, noted, within, first) stays =
    ((ms, encodes_to depth octets input ms whole (noted, within), none_of device max hex system ms why bound first), stays)
stops_encoding device max depth hex system octets input encode.Input left old written bound whole why stays = absurd why
stops_encoding device max depth hex system octets input encode.Read left old written bound whole why stays = absurd why
stops_encoding device max depth hex system octets input encode.Write left old written bound whole why stays = absurd why

-- ---- frames that were buffered

-- What was made of all messages.
pub all_framed : (device max system next : ℕ) (refusal : Option Refusal) (output made : List ℕ) (ms : List Content)
    → Frames device max system next refusal made ms → (refusal ≡ None) × (output ≡ made) → Encodes device max false system ms output
all_framed device max system next None output made ms h e = let P : List ℕ → Type 0 = λ o. Encodes device max false system ms o in subst P (sym e.1) h.0
all_framed device max system next (Some refusal) output made ms h e = cc

pub none_framed : (device max system next : ℕ) (refusal : Option Refusal) (why : Refusal) (made : List ℕ) (ms : List Content)
    → Frames device max system next refusal made ms → refusal ≡ Some why → FirstWithoutFrame device max false system ms why
none_framed device max system next None why made ms h is = cc
none_framed device max system next (Some refusal) why made ms h is =
    let same : refusal ≡ why = cc in
    let P : Refusal → Type 0 = λ r. FirstWithoutFrame device max false system ms r in
    subst P same h
