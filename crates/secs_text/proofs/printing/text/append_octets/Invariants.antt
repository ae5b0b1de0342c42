use Rattle.std.proofs.Common.{◌≡◌, ◌≤◌, ◌+◌, ◌*◌, ◌++◌, ℕ, List, drop}
use Rattle.secs_text.specs.InnerBlockOutput.{AppendsText}
use Rattle.secs_text.specs.Printed.{printed_text}
use Rattle.secs_text.proofs.printing.text.append_octets.Given as goal

abbrev pub invariant-loop-octet : goal.invariant-loop-octet
invariant-loop-octet l = record {
  near : l.at ≤ l.from + 48 * l.octet-index;
  text : (text : List ℕ) × AppendsText l.initial.block l.block l.from text l.at × ((tail : List ℕ) → text ++ printed_text l.in_quotes (drop l.octet-index l.octets ++ tail) ≡ printed_text l.quoted (l.octets ++ tail));
}
