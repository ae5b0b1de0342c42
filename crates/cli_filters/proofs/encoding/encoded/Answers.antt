use Rattle.std.proofs.Common.{[], subst, sym}
use Rattle.std.proofs.lemmas.Result.{err_from_is_err_and}
use Rattle.cli_filters.specs.InnerEncode.{Frames}
use Rattle.cli_options.specs.declared.request.Encoding.{Encoding}
use Rattle.cli_filters.proofs.Encodings.{all_framed, none_framed}
use Rattle.cli_filters.proofs.encoding.encoded.Goals as goal

pub returns-in_err-finish-clause-err : goal.returns-in_err-finish-clause-err
returns-in_err-finish-clause-err c =
    let known_input = c.in_ok-encode_texts.ensures.ok in
    let made = c.encode_texts.new.receiver in
    let k = c.args.encoding in
    let given = known_input.3 k [] c.new-frames.ensures in
    let P : Encoding → Type 0 = λ f. Frames f.device f.max f.system made.next made.refusal made.output.items known_input.0 in
    let p = err_from_is_err_and c.from_residual-in_err-finish.result c.from_residual-in_err-finish.ensures.1 in
    rw (p.1, p.2) (known_input.0, known_input.1, known_input.2, none_framed k.device k.max k.system made.next made.refusal _ made.output.items known_input.0 (subst P given.0 given.1) c.in_err-finish.ensures.err)

pub returns-clause-ok : goal.returns-clause-ok
returns-clause-ok c =
    let known_input = c.in_ok-encode_texts.ensures.ok in
    let made = c.encode_texts.new.receiver in
    let k = c.args.encoding in
    let given = known_input.3 k [] c.new-frames.ensures in
    let P : Encoding → Type 0 = λ f. Frames f.device f.max f.system made.next made.refusal made.output.items known_input.0 in
    (known_input.0, known_input.1, known_input.2, all_framed k.device k.max k.system made.next made.refusal _ made.output.items known_input.0 (subst P given.0 given.1) c.in_ok-finish.ensures.ok)
