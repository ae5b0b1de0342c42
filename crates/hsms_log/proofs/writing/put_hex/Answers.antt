use Rattle.std.proofs.Common.{◌≡◌, ◌++◌, [], append_assoc, refl, sym, ap, ◌∙◌}
use Rattle.std.proofs.lemmas.Result.{err_from_is_err_and}
use Rattle.hex.specs.Hex.{encode_lower}
use Rattle.hsms_log.proofs.Parts.{written_none, written_then, written_along, failed_first, failed_second, failed_along, writes_then, writes_along, writes_err, encode-append, encode-nil, halves}
use Rattle.hsms_log.proofs.writing.put_hex.Goals as goal

pub loop-front-init : goal.loop-front-init
loop-front-init g c =
    ([], refl, written_along (g.W.Sink.state c.args.sink.now) (g.W.Sink.state c.args.sink.now) [] (encode_lower []) (sym encode-nil) (written_none (g.W.Sink.state c.args.sink.now)))

pub loop-front-preserved : goal.loop-front-preserved
loop-front-preserved g c =
    let inv = c.loop-front.invariant in
    let written = rw c.digits_of_sixteen.ensures at c.in_ok-put.ensures in
    let front = c.in-Some.front.now in
    let others = c.in-Some.others.now in
    let cut = c.in-Some.ensures.cases in
    let split = halves 16 c.loop-front.rest.now front others cut.0 cut.1 in (
      inv.0 ++ front,
      inv.1 ∙ ap (λ l. inv.0 ++ l) split ∙ sym (append_assoc inv.0 front others),
      written_along (g.W.Sink.state c.args.sink.now) (g.W.Sink.state c.put.new.sink) (encode_lower inv.0 ++ encode_lower front) (encode_lower (inv.0 ++ front)) (sym (encode-append inv.0 front))
          (written_then (g.W.Sink.state c.args.sink.now) (g.W.Sink.state c.loop-front.sink) (g.W.Sink.state c.put.new.sink) (encode_lower inv.0) (encode_lower front) inv.2 written),
    )

pub returns-in_err-put : goal.returns-in_err-put
returns-in_err-put g c =
    let inv = c.loop-front.invariant in
    let written = rw c.digits_of_sixteen.ensures at c.in_err-put.ensures in
    let front = c.in-Some.front.now in
    let others = c.in-Some.others.now in
    let cut = c.in-Some.ensures.cases in
    let split = halves 16 c.loop-front.rest.now front others cut.0 cut.1 in
    let whole : encode_lower c.args.octets.now ≡ encode_lower inv.0 ++ (encode_lower front ++ encode_lower others) =
    ap (λ l. encode_lower l) (inv.1 ∙ ap (λ l. inv.0 ++ l) split) ∙ encode-append inv.0 (front ++ others) ∙ ap (λ l. encode_lower inv.0 ++ l) (encode-append front others) in
    let p = err_from_is_err_and c.from_residual.result c.from_residual.ensures.1 in
    writes_err c.from_residual.result p.0 (g.W.Sink.state c.args.sink.now) (g.W.Sink.state c.put.new.sink) (encode_lower c.args.octets.now) p.1
    (failed_along (g.W.Sink.state c.args.sink.now) (g.W.Sink.state c.put.new.sink) (encode_lower inv.0 ++ (encode_lower front ++ encode_lower others)) (encode_lower c.args.octets.now) (sym whole)
    (failed_second (g.W.Sink.state c.args.sink.now) (g.W.Sink.state c.loop-front.sink) (g.W.Sink.state c.put.new.sink) (encode_lower inv.0) (encode_lower front ++ encode_lower others) inv.2
    (failed_first (g.W.Sink.state c.loop-front.sink) (g.W.Sink.state c.put.new.sink) (encode_lower front) (encode_lower others) written)))

pub returns : goal.returns
returns g c =
    let inv = c.loop-front.invariant in
    let written = rw c.digits_of_few.ensures at c.put-2.ensures in
    let rest = c.loop-front.rest.now in
    writes_along c.put-2.result (g.W.Sink.state c.args.sink.now) (g.W.Sink.state c.put-2.new.sink) (encode_lower inv.0 ++ encode_lower rest) (encode_lower c.args.octets.now)
    (sym (encode-append inv.0 rest) ∙ ap (λ l. encode_lower l) (sym inv.1))
    (writes_then c.put-2.result (g.W.Sink.state c.args.sink.now) (g.W.Sink.state c.loop-front.sink) (g.W.Sink.state c.put-2.new.sink) (encode_lower inv.0) (encode_lower rest) inv.2 written)
