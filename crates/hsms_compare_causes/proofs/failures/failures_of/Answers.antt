use Rattle.std.proofs.Common.{List, ap, arith, length}
use Rattle.hsms_machine.specs.declared.entry.Entry.{Entry}
use Rattle.hsms_machine.specs.declared.entry.Event.TheVariants.{Up}
use Rattle.hsms_compare_causes.proofs.Listed.{failures_end, failures_step}
use Rattle.hsms_compare_causes.proofs.failures.failures_of.Goals as goal

pub loop-i-preserved : goal.loop-i-preserved
loop-i-preserved c =
    let count = ap (λ (xs : List Entry). length xs) c.as_slice-i-end.ensures in
    failures_step c.args.own.now c.args.other.now c.args.settings.now c.loop-i.i c.loop-i.found.items _ c.failure_at.result (record { time = 0; event = Up }) (omega arith) c.failure_at.ensures c.in_ok-push_some.ensures c.loop-i.invariant

pub returns : goal.returns
returns c =
    let count = ap (λ (xs : List Entry). length xs) c.as_slice-i-end.ensures in
    failures_end c.args.own.now c.args.other.now c.args.settings.now c.loop-i.i c.loop-i.found.items (omega arith) c.loop-i.invariant
