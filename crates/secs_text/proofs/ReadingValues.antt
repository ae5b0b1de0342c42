-- Values are read back from the bytes that were collected for them.
use Rattle.std.proofs.Common.{◌≡◌, ◌∙◌, ℕ, ◌%◌, ◌++◌, List, [], length, ap, sym}
use Rattle.std.specs.Prelude.{Option}
use Rattle.secs_item.specs.declared.format.Format.{Format}
use Rattle.secs_item.specs.Format.{value_size}
use Rattle.secs_item.specs.Decoding.{values_of}
use Rattle.secs_item.specs.ShortestEncoding.{short_body}
use Rattle.secs_item.proofs.Bodies.{body_reads}
use Rattle.secs_item.proofs.Uniqueness.{body_short}
use Rattle.secs_text.specs.ParserStates.{Count}
use Rattle.secs_text.specs.InnerEncodedText.{Closed}
use Rattle.secs_text.specs.Token.{Placed}

module _ {f : Format} {count : Option Count} {before after : List Placed} {old body : List ℕ} where
  body_is : (h : Closed f count before after old body) → old ≡ [] → body ≡ short_body h.held
  body_is h none = h.octets ∙ ap (λ (o : List ℕ). o ++ short_body h.held) none

  pub collected_complete : (h : Closed f count before after old body) → old ≡ [] → length body % value_size f ≡ 0
  collected_complete h none =
      let read = body_reads h.held (short_body h.held) (body_short h.held h.in_range).0 in
      ap (λ (o : List ℕ). length o % value_size f) (body_is h none)
      ∙ ap (λ (k : Format). length (short_body h.held) % value_size k) (sym h.form) ∙ read.whole

  pub collected_values : (h : Closed f count before after old body) → old ≡ [] → values_of f body ≡ h.held
  collected_values h none =
      let read = body_reads h.held (short_body h.held) (body_short h.held h.in_range).0 in
      ap (λ (o : List ℕ). values_of f o) (body_is h none)
      ∙ ap (λ (k : Format). values_of k (short_body h.held)) (sym h.form) ∙ read.read_is
