use Rattle.explain_lines.proofs.FailureKinds.{frames}
use Rattle.explain_lines.proofs.laws.frames_are_apart.Goals as goal

pub returns : goal.returns
returns c = frames
