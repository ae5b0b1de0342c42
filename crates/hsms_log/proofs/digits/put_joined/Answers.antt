use Rattle.std.proofs.Common.{◌∙◌}
use Rattle.std.proofs.lemmas.Simd.{get_or-put_chunk_below, get_or-put_chunk_at}
use Rattle.hsms_log.proofs.Decoding.{joined, joined_at}
use Rattle.hsms_log.proofs.digits.put_joined.Goals as goal

pub returns-clause-before : goal.returns-clause-before
returns-clause-before c = λ k early. get_or-put_chunk_below c.args.place c.args.octets.now (joined c.args.values) k 0 early

pub returns-clause-joined : goal.returns-clause-joined
returns-clause-joined c =
    λ small k less. get_or-put_chunk_at c.args.place c.args.octets.now (joined c.args.values) k 0 less c.requires
    ∙ joined_at c.args.values c.fits-values.0 small k less
