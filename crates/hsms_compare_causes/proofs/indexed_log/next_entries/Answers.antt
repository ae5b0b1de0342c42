use Rattle.std.proofs.Common.{◌+◌, ◌-◌, ◌∙◌, ℕ, length, nat_lt, ap, arith}
use Rattle.std.proofs.lemmas.List.{get_or_default}
use Rattle.hsms_machine.specs.declared.entry.Entry.{Entry}
use Rattle.hsms_machine.specs.declared.entry.Event.TheVariants.{Up}
use Rattle.hsms_compare_causes.proofs.Groups.{later_as, next_before}
use Rattle.hsms_compare_causes.proofs.indexed_log.next_entries.Goals as goal

pub loop-i-preserved : goal.loop-i-preserved
loop-i-preserved c =
    let log = c.args.log.now in
    let i = c.loop-i.i in
    let index = length log - 1 - i in
    let known = later_as log (length log - i) (index + 1) c.loop-i.later (omega arith) c.loop-i.invariant.later_so in
    let is = c.index-log-index.is ∙ get_or_default log index c.index-log-index.result (record { time = 0; event = Up }) (omega arith) in
    record {
      nexts_so = next_before log i c.loop-i.nexts.items c.after.result (omega arith) c.loop-i.invariant.nexts_so (c.after.ensures log index known (ap (λ (e : Entry). e.event) is));
      later_so = later_as log index (length log - (i + 1)) c.add.new.self (omega arith) (c.in_ok-add.ensures log known (omega arith) is (ap (λ (n : ℕ). nat_lt index n) c.session_length-session.ensures));
    }
