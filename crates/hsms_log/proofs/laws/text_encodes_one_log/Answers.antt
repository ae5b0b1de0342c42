use Rattle.hsms_log.specs.Lines.{lines_of}
use Rattle.hsms_log.proofs.Uniqueness.{EncodesLog-unique}
use Rattle.hsms_log.proofs.laws.text_encodes_one_log.Goals as goal

pub returns : goal.returns
returns c = λ text. EncodesLog-unique (lines_of text)
