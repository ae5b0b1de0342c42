use Rattle.std.proofs.Common.{[]}
use Rattle.explain_forms.proofs.formatter.Emitter.lists.Goals as goal

pub returns-in-Err : goal.returns-in-Err
returns-in-Err c = λ is. ([], c.refuse.ensures [])
