use Rattle.std.proofs.Common.{[], List, ℕ}
use Rattle.hsms_compare_logs.specs.Audited.{ReadsText}
use Rattle.hsms_compare_logs.specs.Reader.{room}
use Rattle.hsms_compare_logs.proofs.input.Input.finish.Given as goal

abbrev pub invariant-loop-input : goal.invariant-loop-input
invariant-loop-input g l =
    (text : List ℕ) → ReadsText text l.fn.self.audit (g.R.Source.state l.fn.self.source).left
    → ReadsText text l.input.audit (g.R.Source.state l.input.source).left

abbrev pub decreases-loop-input : goal.decreases-loop-input
decreases-loop-input g l = room [] l.input.audit
