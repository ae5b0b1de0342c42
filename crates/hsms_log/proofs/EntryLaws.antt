-- Entries, read.
use Rattle.std.proofs.Common.{◌≡◌, ℕ, List, Some, None, sym, ap, ◌∙◌, subst}
use Rattle.std.specs.Prelude.{Option}
use Rattle.hsms_machine.specs.declared.entry.Entry.{Entry}
use Rattle.hsms_machine.specs.declared.entry.Event.{Event}
use Rattle.hsms_log.specs.LineFormat.{Carries, IsBlank, EncodesEntry, EncodesEvent, IsEvent}
use Rattle.hsms_log.specs.LineContent.{HasFrame, CarriesFrame}
use Rattle.hsms_log.specs.InnerReading.{number_at}
use Rattle.hsms_log.proofs.Numbers.{number_at-encoded_bytes, number_at-some, pair_inj}

-- The number at the front of a line that encodes an entry.
front_of : (line : List ℕ) (entry : Entry) (h : EncodesEntry line entry) → number_at line ≡ Some (entry.time, h.encoded_bytes.0)
front_of line entry h =
    ap number_at h.encoded_bytes.2 ∙ number_at-encoded_bytes entry.time h.encoded_bytes.0 h.fits.time

pub entry_unread : (line : List ℕ) → number_at line ≡ None → (entry : Entry) → EncodesEntry line entry → ⊥
entry_unread line h entry encoded_bytes = let no = sym h ∙ front_of line entry encoded_bytes in cc no

-- What follows the number encodes the entry's event.
pub event_after : (line text : List ℕ) (time : ℕ) → number_at line ≡ Some (time, text)
    → (entry : Entry) → EncodesEntry line entry → IsEvent entry.event × EncodesEvent text entry.event
event_after line text time h entry encoded_bytes =
    let both = pair_inj entry.time time encoded_bytes.encoded_bytes.0 text (sym (front_of line entry encoded_bytes) ∙ h) in
    let P : List ℕ → Type 0 = λ t. EncodesEvent t entry.event in
    (encoded_bytes.fits.event, subst P both.1 encoded_bytes.encoded_bytes.1)

pub event_unread : (line text : List ℕ) (time : ℕ) → number_at line ≡ Some (time, text)
    → ((event : Event) → IsEvent event → EncodesEvent text event → ⊥) → (entry : Entry) → EncodesEntry line entry → ⊥
event_unread line text time h none entry encoded_bytes =
    let both = event_after line text time h entry encoded_bytes in none entry.event both.0 both.1

pub entry_found : (line text : List ℕ) (time : ℕ) (event : Event) → number_at line ≡ Some (time, text) → IsEvent event → EncodesEvent text event
    → EncodesEntry line (record { time = time; event = event })
entry_found line text time event h fits encoded_bytes =
    let front = number_at-some line time text h in
    record { fits = record { time = front.0; event = fits }; encoded_bytes = (text, encoded_bytes, front.1) }

pub line_unread : (max : ℕ) (line : List ℕ) → (IsBlank line → ⊥) → ((entry : Entry) → EncodesEntry line entry → ⊥)
    → (carried : Option Entry) → Carries max line carried → ⊥
line_unread max line other none None h = other h.1
line_unread max line other none (Some entry) h = none entry h.1

-- A line has one time, and one text after it.
pub entry_parts : (line : List ℕ) (a b : Entry) (h : EncodesEntry line a) (k : EncodesEntry line b) → (a.time ≡ b.time) × (h.encoded_bytes.0 ≡ k.encoded_bytes.0)
entry_parts line a b h k = pair_inj a.time b.time h.encoded_bytes.0 k.encoded_bytes.0 (sym (front_of line a h) ∙ front_of line b k)

-- ---- lines with a frame

pub line_marked : (max : ℕ) (line : List ℕ) → (IsBlank line → ⊥) → ((entry : Entry) → EncodesEntry line entry → HasFrame entry.event)
    → (carried : Option Entry) → Carries max line carried → CarriesFrame carried
line_marked max line other framed None h = absurd (other h.1)
line_marked max line other framed (Some entry) h = framed entry h.1
