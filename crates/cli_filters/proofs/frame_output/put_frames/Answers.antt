use Rattle.std.proofs.Common.{◌++◌, ap, sym, true, false}
use Rattle.std.proofs.lemmas.Result.{err_from_is_err_and}
use Rattle.cli_filters.specs.InnerEncode.{outputs_of}
use Rattle.cli_filters.proofs.Encodings.{octets_are}
use Rattle.cli_filters.proofs.Lines.{front_as, grows_as}
use Rattle.cli_filters.proofs.frame_output.put_frames.Goals as goal

pub returns-in_err-put_lines-clause-output : goal.returns-in_err-put_lines-clause-output
returns-in_err-put_lines-clause-output g c = λ fs are.
    let p = err_from_is_err_and c.from_residual-in_err-put_lines.result c.from_residual-in_err-put_lines.ensures.1 in
    rw (p.1, p.2, c.if-hex.true) (front_as _ _ _ (outputs_of true fs) (ap (λ o. o ++ outputs_of true fs) c.in_ok-held.ensures) (c.in_err-put_lines.ensures.err fs are))

pub returns-then-hex-clause-output : goal.returns-then-hex-clause-output
returns-then-hex-clause-output g c = λ fs are.
    rw c.if-hex.true (grows_as _ _ _ (outputs_of true fs) (ap (λ o. o ++ outputs_of true fs) c.in_ok-held.ensures) (c.in_ok-put_lines.ensures.ok fs are))

pub returns-in_err-give_all-clause-output : goal.returns-in_err-give_all-clause-output
returns-in_err-give_all-clause-output g c = λ fs are.
    let p = err_from_is_err_and c.from_residual-in_err-give_all.result c.from_residual-in_err-give_all.ensures.1 in
    rw (p.1, p.2, c.if-hex.false) (front_as _ _ _ (outputs_of false fs) (sym (octets_are fs c.args.octets.now are)) c.in_err-give_all.ensures.err)

pub returns-clause-output : goal.returns-clause-output
returns-clause-output g c = λ fs are.
    rw c.if-hex.false (grows_as _ _ _ (outputs_of false fs) (sym (octets_are fs c.args.octets.now are)) c.in_ok-give_all.ensures.ok)
