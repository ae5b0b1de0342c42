use Rattle.hsms_log.specs.Lines.{lines_of}
use Rattle.hsms_log.proofs.OneVersion.{OneLaws, same_verdicts}
use Rattle.hsms_log.proofs.laws.version_one_keeps_verdicts.Goals as goal

pub returns : goal.returns
returns c =
    let kept = c.version_one_is_kept.ensures in
    let laws : OneLaws = record { runs = kept.runs; answers = kept.answers; whole = kept.whole } in
    λ text. same_verdicts laws (lines_of text)
