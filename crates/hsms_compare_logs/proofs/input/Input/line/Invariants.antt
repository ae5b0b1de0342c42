use Rattle.std.proofs.Common.{◌≡◌, ◌++◌, ◌≤◌, [], List, ℕ, Some}
use Rattle.hsms_log.specs.Lines.{HasNone}
use Rattle.hsms_compare_logs.specs.Audited.{ReadsText}
use Rattle.hsms_compare_logs.specs.Reader.{room}
use Rattle.hsms_compare_logs.proofs.input.Input.line.Given as goal

abbrev pub invariant-loop-held : goal.invariant-loop-held
invariant-loop-held g l =
    ((octets : List ℕ) → (g.R.Source.state l.fn.self.source).left ≡ Some octets
    → (rest : List ℕ) × ((g.R.Source.state l.self.source).left ≡ Some rest)
    × (l.fn.self.block.items ++ octets ≡ l.held.items ++ (l.self.block.items ++ rest)))
    × ((text : List ℕ) → ReadsText text l.fn.self.audit (g.R.Source.state l.fn.self.source).left
    → ReadsText text l.self.audit (g.R.Source.state l.self.source).left)
    × (room l.self.block.items l.self.audit ≤ room l.fn.self.block.items l.fn.self.audit)
    × HasNone 10 l.held.items

abbrev pub decreases-loop-held : goal.decreases-loop-held
decreases-loop-held g l = room [] l.self.audit
