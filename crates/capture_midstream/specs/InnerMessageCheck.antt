-- What only contracts of private functions use, besides the definitions of `MessageCheck`.
use Rattle.std.specs.Prelude.{◌≡◌, ◌≤◌, ◌<◌, ◌+◌, ℕ, List, length, take}
use Rattle.secs_item.specs.Encoding.{IsText}
use Rattle.capture_midstream.specs.declared.message_check.Found.{Found}
use Rattle.capture_midstream.specs.declared.message_check.Found.TheVariants.{Missing, Begun, Whole, Other}

-- what a text of so many octets is, by what stands behind its header
abbrev pub TextAs : ℕ → List ℕ → ℕ → Found → Type 0
TextAs depth subsequent size Missing = ⊥
TextAs depth subsequent size Begun = length subsequent < size
TextAs depth subsequent size (Whole count) = (count ≡ 14 + size) × (size ≤ length subsequent) × IsText depth (take size subsequent)
TextAs depth subsequent size Other = (size ≤ length subsequent) × (IsText depth (take size subsequent) → ⊥)
