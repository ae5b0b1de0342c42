-- Frames of messages that come one after another.
use Rattle.std.proofs.Common.{◌≡◌, ◌<◌, ◌≤◌, ◌+◌, ◌++◌, ℕ, true, false, List, [], ◌∷◌, length, length-append, refl, sym, ◌∙◌, ap, subst, append_assoc, arith}
use Rattle.std.specs.Prelude.{Option, Some, None, is_some}
use Rattle.secs_item.specs.Item.{Value}
use Rattle.secs_text.specs.Content.{Content}
use Rattle.secs_text.specs.EncodedText.{text_of, headed_by}
use Rattle.secs_text.specs.declared.printing.messages.Head.{Head}
use Rattle.hsms_frame.specs.Build.{data_header_of}
use Rattle.hsms_frame.specs.Frame.{Frame, frame_octets}
use Rattle.hsms_frame.specs.declared.header.Header.{Header}
use Rattle.cli_filters.specs.declared.encode_error.Refusal.{Refusal}
use Rattle.cli_filters.specs.declared.encode_error.Refusal.TheVariants.{TooLarge, TooLong}
use Rattle.cli_filters.specs.Encode.{Encodes, FrameOf, TextOf, next_system}
use Rattle.cli_filters.specs.InnerEncode.{Frames, system_after}
use Rattle.cli_filters.proofs.Encodings.{Encodes-push, next_system-system_after}

-- The text that is given for a message is its text.
text_is : (item : Option Value) (text : List ℕ) → text_of item ≡ Some text → TextOf item text
text_is None text e = (let is : [] ≡ text = cc in sym is)
text_is (Some v) text e = e

module _ (device max system next : ℕ) (output : List ℕ) (given : List Content) where
  -- The first error is kept.
  pub stays_refused : (refusal : Option Refusal) (m : Content) → is_some refusal ≡ true → Frames device max system next refusal output given → Frames device max system next refusal output (given ++ m ∷ [])
  stays_refused None m some h = cc
  stays_refused (Some refusal) m some h = record {
    before = h.before;
    message = h.message;
    after = h.after ++ m ∷ [];
    parts = ap (λ ms. ms ++ m ∷ []) h.parts ∙ append_assoc h.before (h.message ∷ h.after) (m ∷ []);
    output = h.output;
    encoded = h.encoded;
    refused = h.refused;
  }

  -- An item that has no bytes.
  pub too_large : (refusal : Option Refusal) (head : Head) (item : Option Value) → is_some refusal ≡ false → text_of item ≡ None → Frames device max system next refusal output given
      → Frames device max system next (Some TooLarge) output (given ++ headed_by head item ∷ [])
  too_large (Some refusal) head item none e h = cc
  too_large None head None none e h = cc
  too_large None head (Some v) none e h = record {
    before = given;
    message = headed_by head (Some v);
    after = [];
    parts = refl;
    output = output;
    encoded = h.0;
    refused = (v, refl, e);
  }

  -- A text that is too long.
  pub too_long : (refusal : Option Refusal) (head : Head) (item : Option Value) (text : List ℕ) (n : ℕ) → is_some refusal ≡ false → text_of item ≡ Some text → n ≡ 10 + length text → max < n
      → Frames device max system next refusal output given → Frames device max system next (Some (TooLong n)) output (given ++ headed_by head item ∷ [])
  too_long (Some refusal) head item text n none e is long h = cc
  too_long None head item text n none e is long h =
      let P : ℕ → Type 0 = λ k. Frames device max system next (Some (TooLong k)) output (given ++ headed_by head item ∷ []) in
      subst P (sym is) (record {
        before = given;
        message = headed_by head item;
        after = [];
        parts = refl;
        output = output;
        encoded = h.0;
        refused = (text, text_is item text e, omega arith, refl);
      })

  -- One more frame.
  pub one_framed : (refusal : Option Refusal) (head : Head) (item : Option Value) (text new : List ℕ) (header : Header) (after : ℕ) → is_some refusal ≡ false → text_of item ≡ Some text → 10 + length text ≤ max
      → header ≡ data_header_of device head.stream head.function head.wait next → new ≡ output ++ frame_octets (record { header = header; text = text }) → after ≡ next_system next
      → Frames device max system next refusal output given → Frames device max system after refusal new (given ++ headed_by head item ∷ [])
  one_framed (Some refusal) head item text new header after none e short_enough is pushed following h = cc
  one_framed None head item text new header after none e short_enough is pushed following h =
      let m : Content = headed_by head item in
      let f : Frame = record { header = header; text = text } in
      let P : List ℕ → Type 0 = λ o. Encodes device max false system (given ++ m ∷ []) o in
      let Q : ℕ → Type 0 = λ k. FrameOf device max k m f in
      let framed : FrameOf device max next m f = record { header = is; text = text_is item text e; within = short_enough } in (
        subst P (sym pushed) (Encodes-push device max false system given output m f h.0 (subst Q h.1 framed)),
        following ∙ ap next_system h.1 ∙ next_system-system_after system (length given) ∙ ap (λ k. system_after system k) (sym (length-append given (m ∷ []))),
      )
