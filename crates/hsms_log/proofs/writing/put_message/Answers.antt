use Rattle.std.proofs.Common.{◌≡◌, ◌++◌, ◌∷◌, ℕ, List, [], append_assoc, refl, sym, ap, ◌∙◌}
use Rattle.std.proofs.lemmas.Result.{err_from_is_err_and}
use Rattle.hex.specs.Hex.{encode_lower}
use Rattle.hsms_frame.specs.Frame.{Frame}
use Rattle.hsms_frame.specs.Header.{header_octets}
use Rattle.hsms_log.specs.LineFormat.{message_octets}
use Rattle.hsms_log.proofs.Parts.{failed_first, failed_second, failed_along, writes_then, writes_along, writes_err, message_digits}
use Rattle.hsms_log.proofs.writing.put_message.Goals as goal

whole : (mark : List ℕ) (frame : Frame) (front text : List ℕ) → front ≡ header_octets frame.header → text ≡ frame.text
    → mark ++ (encode_lower front ++ (encode_lower text ++ 10 ∷ [])) ≡ mark ++ (encode_lower (message_octets frame) ++ 10 ∷ [])
whole mark frame front text p q =
    ap (λ l. mark ++ l) (sym (append_assoc (encode_lower front) (encode_lower text) (10 ∷ []))
    ∙ ap (λ l. l ++ 10 ∷ []) (sym (message_digits frame front text p q)))

pub returns-in_err-put : goal.returns-in_err-put
returns-in_err-put g c =
    let rest = encode_lower (message_octets c.args.frame.now) ++ 10 ∷ [] in
    let p = err_from_is_err_and c.from_residual.result c.from_residual.ensures.1 in
    writes_err c.from_residual.result p.0 (g.W.Sink.state c.args.sink.now) (g.W.Sink.state c.put.new.sink) (c.args.mark.now ++ rest) p.1
    (failed_first (g.W.Sink.state c.args.sink.now) (g.W.Sink.state c.put.new.sink) c.args.mark.now rest c.in_err-put.ensures)

pub returns-in_err-put_hex : goal.returns-in_err-put_hex
returns-in_err-put_hex g c =
    let mark = c.args.mark.now in
    let frame = c.args.frame.now in
    let front = c.as_slice.result.now in
    let rest = encode_lower frame.text ++ 10 ∷ [] in
    let p = err_from_is_err_and c.from_residual-in_err-put_hex.result c.from_residual-in_err-put_hex.ensures.1 in
    writes_err c.from_residual-in_err-put_hex.result p.0 (g.W.Sink.state c.args.sink.now) (g.W.Sink.state c.put_hex.new.sink) (mark ++ (encode_lower (message_octets frame) ++ 10 ∷ [])) p.1
    (failed_along (g.W.Sink.state c.args.sink.now) (g.W.Sink.state c.put_hex.new.sink) (mark ++ (encode_lower front ++ rest)) (mark ++ (encode_lower (message_octets frame) ++ 10 ∷ []))
    (whole mark frame front frame.text (c.as_slice.ensures ∙ c.octets.ensures ∙ ap (λ (f : Frame). header_octets f.header) c.frame.view_is) refl)
    (failed_second (g.W.Sink.state c.args.sink.now) (g.W.Sink.state c.put.new.sink) (g.W.Sink.state c.put_hex.new.sink) mark (encode_lower front ++ rest) c.in_ok-put.ensures
    (failed_first (g.W.Sink.state c.put.new.sink) (g.W.Sink.state c.put_hex.new.sink) (encode_lower front) rest c.in_err-put_hex.ensures)))

pub returns-in_err-put_hex-2 : goal.returns-in_err-put_hex-2
returns-in_err-put_hex-2 g c =
    let mark = c.args.mark.now in
    let frame = c.args.frame.now in
    let front = c.as_slice.result.now in
    let text = c.as_slice-2.result.now in
    let rest = encode_lower text ++ 10 ∷ [] in
    let p = err_from_is_err_and c.from_residual-in_err-put_hex-2.result c.from_residual-in_err-put_hex-2.ensures.1 in
    writes_err c.from_residual-in_err-put_hex-2.result p.0 (g.W.Sink.state c.args.sink.now) (g.W.Sink.state c.put_hex-2.new.sink) (mark ++ (encode_lower (message_octets frame) ++ 10 ∷ [])) p.1
    (failed_along (g.W.Sink.state c.args.sink.now) (g.W.Sink.state c.put_hex-2.new.sink) (mark ++ (encode_lower front ++ rest)) (mark ++ (encode_lower (message_octets frame) ++ 10 ∷ []))
    (whole mark frame front text (c.as_slice.ensures ∙ c.octets.ensures ∙ ap (λ (f : Frame). header_octets f.header) c.frame.view_is)
    (c.as_slice-2.ensures.value ∙ ap (λ (f : Frame). f.text) c.frame.view_is))
    (failed_second (g.W.Sink.state c.args.sink.now) (g.W.Sink.state c.put.new.sink) (g.W.Sink.state c.put_hex-2.new.sink) mark (encode_lower front ++ rest) c.in_ok-put.ensures
    (failed_second (g.W.Sink.state c.put.new.sink) (g.W.Sink.state c.put_hex.new.sink) (g.W.Sink.state c.put_hex-2.new.sink) (encode_lower front) rest c.in_ok-put_hex.ensures
    (failed_first (g.W.Sink.state c.put_hex.new.sink) (g.W.Sink.state c.put_hex-2.new.sink) (encode_lower text) (10 ∷ []) c.in_err-put_hex-2.ensures))))

pub returns : goal.returns
returns g c =
    let mark = c.args.mark.now in
    let frame = c.args.frame.now in
    let front = c.as_slice.result.now in
    let text = c.as_slice-2.result.now in
    let rest = encode_lower text ++ 10 ∷ [] in
    writes_along c.put-2.result (g.W.Sink.state c.args.sink.now) (g.W.Sink.state c.put-2.new.sink) (mark ++ (encode_lower front ++ rest)) (mark ++ (encode_lower (message_octets frame) ++ 10 ∷ []))
    (whole mark frame front text (c.as_slice.ensures ∙ c.octets.ensures ∙ ap (λ (f : Frame). header_octets f.header) c.frame.view_is)
    (c.as_slice-2.ensures.value ∙ ap (λ (f : Frame). f.text) c.frame.view_is))
    (writes_then c.put-2.result (g.W.Sink.state c.args.sink.now) (g.W.Sink.state c.put.new.sink) (g.W.Sink.state c.put-2.new.sink) mark (encode_lower front ++ rest) c.in_ok-put.ensures
    (writes_then c.put-2.result (g.W.Sink.state c.put.new.sink) (g.W.Sink.state c.put_hex.new.sink) (g.W.Sink.state c.put-2.new.sink) (encode_lower front) rest c.in_ok-put_hex.ensures
    (writes_then c.put-2.result (g.W.Sink.state c.put_hex.new.sink) (g.W.Sink.state c.put_hex-2.new.sink) (g.W.Sink.state c.put-2.new.sink) (encode_lower text) (10 ∷ []) c.in_ok-put_hex-2.ensures c.put-2.ensures)))
