-- Consecutive cells as they are buffered: contiguous bytes at the front, then cells of any kind, of which some may be
-- missing.
use Rattle.std.specs.Prelude.{ℕ, List, map, ◌++◌, Option, Some}
use Rattle.capture_tcp.specs.declared.reassembly.Cell.{Cell as HeldCell}
use Rattle.capture_tcp.specs.declared.reassembly.Cell.TheVariants as held

abbrev pub some_octets : List ℕ → List (Option HeldCell)
some_octets ns = map (λ n. Some (held.Octet n)) ns

pub record Kept : Type 0 where
  pub octets : List ℕ
  pub others : List (Option HeldCell)

-- All of the cells.
abbrev pub all_of : Kept → List (Option HeldCell)
all_of k = some_octets k.octets ++ k.others
