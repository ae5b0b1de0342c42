use Rattle.hsms_frame.proofs.Chunks.{any_pieces, gives_what_was_pushed}
use Rattle.hsms_frame.proofs.laws.any_pieces_give_the_same.Goals as goal

pub returns-clause-pushed : goal.returns-clause-pushed
returns-clause-pushed c = gives_what_was_pushed

pub returns-clause-same : goal.returns-clause-same
returns-clause-same c = any_pieces
