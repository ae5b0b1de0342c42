use Rattle.hsms_log.specs.Lines.{lines_of}
use Rattle.hsms_log.proofs.Uniqueness.{RunLaws, LinesAudited-unique}
use Rattle.hsms_log.proofs.Existence.{lines_audited}
use Rattle.hsms_log.proofs.laws.each_text_has_one_verdict.Goals as goal

pub returns-clause-some : goal.returns-clause-some
returns-clause-some c = λ text.
    lines_audited c.valid_entry_extends_run.ensures c.each_entry_has_one_answer.ensures.some c.empty_log_is_run.ensures (lines_of text)

pub returns-clause-one : goal.returns-clause-one
returns-clause-one c =
    let laws : RunLaws = record { next = c.front_of_run_is_run.ensures.next; one = c.each_entry_has_one_answer.ensures.one } in
    λ text. LinesAudited-unique laws (lines_of text)
