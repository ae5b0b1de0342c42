use Rattle.std.proofs.Common.{rules}
use Rattle.capture_midstream.proofs.packet_buffer.Gathering.beginnings.Goals.{then-active, else-active}
use Rattle.capture_midstream.proofs.packet_buffer.Gathering.beginnings.Goals as goal

-- one of them isn't sure
pub returns-clause-none : goal.returns-clause-none
returns-clause-none c = λ none. (
  search rules,
  (
    record { active = c.in_ok-active.active; passive = c.in_ok-passive.passive },
    (search rules, search rules),
    λ sure.
        elim c.if-active.branch [
          | then-active w ↦ absurd (let here = w.value-is in let unsure = c.if-passive.false in let second = sure.1 in cc)
          | else-active w ↦ absurd (let here = w.if-active.false in let first = sure.0 in cc)
        ],
  ),
)
