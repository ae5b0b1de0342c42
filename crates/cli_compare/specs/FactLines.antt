-- The lines of the facts of a pair of connections.
use Rattle.std.specs.Prelude.{◌++◌, ℕ, List, [], ◌∷◌, Option, Some, codes, decimal}
use Rattle.std.specs.List.{flat_map}
use Rattle.hsms_compare.specs.declared.line_contradiction.LineContradiction.{LineContradiction}
use Rattle.hsms_compare.specs.declared.line_contradiction.LineContradiction.TheVariants.{Order}
use Rattle.hsms_compare_repair.specs.declared.fact.Fact.{Fact}
use Rattle.hsms_compare_repair.specs.declared.fact.Fact.TheVariants.{Skipped, Swapped, Differs, Again, Unsent, Later, Unfound}

-- The name of an end, and the number of a line of its log.
abbrev pub line_words : List ℕ → ℕ → List ℕ
line_words end line = end ++ codes " line=" ++ decimal line

-- A line with the sender's line and the receiver's.
abbrev pub two_lines : List ℕ → List ℕ → ℕ → List ℕ → ℕ → List ℕ
two_lines name sender k receiver i = name ++ line_words sender k ++ codes " " ++ line_words receiver i ++ 10 ∷ []

-- A line with the receiver's line.
abbrev pub one_line : List ℕ → List ℕ → ℕ → List ℕ
one_line name receiver i = name ++ line_words receiver i ++ 10 ∷ []

-- The line of a fact of the frames from one end to the other.
abbrev pub fact_line : List ℕ → List ℕ → Fact → List ℕ
fact_line sender receiver (Skipped k i) = two_lines (codes "skipped ") sender k receiver i
fact_line sender receiver (Swapped k i) = two_lines (codes "swapped ") sender k receiver i
fact_line sender receiver (Differs k i) = two_lines (codes "differs ") sender k receiver i
fact_line sender receiver (Again i) = one_line (codes "again ") receiver i
fact_line sender receiver (Unsent i) = one_line (codes "unsent ") receiver i
fact_line sender receiver (Later i count) = codes "later " ++ line_words receiver i ++ codes " received=" ++ decimal count ++ 10 ∷ []
fact_line sender receiver (Unfound i) = one_line (codes "unfound ") receiver i

abbrev pub fact_lines : List ℕ → List ℕ → List Fact → List ℕ
fact_lines sender receiver facts = flat_map (fact_line sender receiver) facts

-- An end's line of an order, and the other end's line that sent what it receives, between two texts.
unfoldable pub order_words : List ℕ → List ℕ → ℕ → ℕ → List ℕ → List ℕ
order_words before end line from after = before ++ line_words end line ++ codes " from=" ++ decimal from ++ after

-- The line of an order. No line for another contradiction.
abbrev pub order_line : Option LineContradiction → List ℕ
order_line (Some (Order host host_from equipment equipment_from)) =
    order_words (codes "order ") (codes "host") host host_from (codes " ")
    ++ order_words (codes "") (codes "equipment") equipment equipment_from (10 ∷ [])
order_line contradiction = []
