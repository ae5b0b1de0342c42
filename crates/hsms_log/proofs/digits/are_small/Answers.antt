use Rattle.std.proofs.lemmas.Bool.{eqb-true}
use Rattle.hsms_log.proofs.Decoding.{all_small, one_large, mask_one}
use Rattle.hsms_log.proofs.digits.are_small.Goals as goal

pub returns-clause-all : goal.returns-clause-all
returns-clause-all c = λ e. all_small c.args.values c.fits-values.0 (eqb-true _ 0 e)

pub returns-clause-some : goal.returns-clause-some
returns-clause-some c = λ e. one_large c.args.values c.fits-values.0 (mask_one _ e)
