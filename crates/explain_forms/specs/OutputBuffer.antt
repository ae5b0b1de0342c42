-- Output that is not yet written.
use Rattle.std.specs.Prelude.{◌≡◌, ◌-◌, ◌++◌, ℕ, List, [], false, replicate, length}
use Rattle.explain_forms.specs.declared.output_buffer.Memory.{Memory}
use Rattle.explain_forms.specs.declared.output_buffer.Page.{Page}

-- Holds if the memory has received these bytes, unless an allocation failed.
abbrev pub HasMemory : Memory → List ℕ → Type 0
HasMemory memory given = memory.is_refused ≡ false → memory.octets.items ≡ given

-- Holds if the buffer has these bytes, unless an allocation failed.
abbrev pub HasEmitted : Page → List ℕ → Type 0
HasEmitted page text = (given : List ℕ) × HasMemory page.shown_line given × (text ≡ given ++ page.block)

-- Holds if all bytes of the buffer are in memory.
abbrev pub IsCollected : Page → Type 0
IsCollected page = page.block ≡ []

-- Holds if these bytes are appended to the buffer.
pub record Adds (old new : Page) (words : List ℕ) : Type 0 where
  pub grows : (text : List ℕ) → HasEmitted old text → HasEmitted new (text ++ words)

-- Holds if some bytes are appended to the buffer.
abbrev pub AddsSome : Page → Page → Type 0
AddsSome old new = (words : List ℕ) × Adds old new words

-- The words, padded on the left with spaces to this width.
abbrev pub padded : ℕ → List ℕ → List ℕ
padded width words = replicate (width - length words) 32 ++ words
