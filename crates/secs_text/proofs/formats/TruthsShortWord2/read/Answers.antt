use Rattle.std.proofs.Common.{refl, rules}
use Rattle.secs_text.proofs.ShortWords.{truth_short, t_encodes, f_encodes}
use Rattle.secs_text.proofs.formats.TruthsShortWord2.read.Goals as goal

pub returns-in-32 : goal.returns-in-32
returns-in-32 c = truth_short c.args.text.now 0x54 1 (search rules) (search rules) (search rules) refl t_encodes

pub returns-in-32-2 : goal.returns-in-32-2
returns-in-32-2 c = truth_short c.args.text.now 0x46 0 (search rules) (search rules) (search rules) refl f_encodes
