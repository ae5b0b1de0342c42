-- A message of SEMI E5 (message naming: stream, function, W), independent of its item's location in memory.
use Rattle.std.specs.Prelude.{ℕ, Bool, List, [], ◌∷◌, Option, MatchOption, ◌≤◌}
use Rattle.secs_item.specs.Item.{Value, nest}

pub record Content : Type 0 where
  pub stream : ℕ
  pub function : ℕ
  pub wait : Bool
  pub item : Option Value

-- Holds if lists are nested at most `depth` deep.
abbrev pub IsWithin : ℕ → Content → Type 0
IsWithin depth m = MatchOption m.item (Unit {0}) (λ v. nest v ≤ depth)

abbrev pub AllWithin : ℕ → List Content → Type 0
AllWithin depth [] = Unit {0}
AllWithin depth (m ∷ ms) = IsWithin depth m × AllWithin depth ms
