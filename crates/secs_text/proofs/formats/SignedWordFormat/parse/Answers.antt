use Rattle.std.proofs.Common.{◌∙◌}
use Rattle.std.proofs.Math.ListN.{length-replicate}
use Rattle.secs_text.proofs.Widths.{most_signed, signed_encoded, signed_refused}
use Rattle.secs_text.proofs.formats.SignedWordFormat.parse.Goals as goal

pub returns-in_err-number : goal.returns-in_err-number
returns-in_err-number g c =
    c.from_residual.ensures ∙ signed_refused g.row.N _ c.args.word.now (most_signed g.row.N c.requires) c.in_err-number.ensures.value

pub returns : goal.returns
returns g c =
    signed_encoded g.row.N _ c.args.word.now (most_signed g.row.N c.requires) c.in_ok-number.number _ c.write_int.new.buf c.requires
    c.in_ok-number.ensures.value c.in_ok-number.ensures.within (length-replicate g.row.N 0) c.write_int.ensures
