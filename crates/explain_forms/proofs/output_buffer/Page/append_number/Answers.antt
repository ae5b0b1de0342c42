use Rattle.std.proofs.Common.{◌≡◌, ◌∙◌, ◌-◌, ◌++◌, decimal, replicate, length, ap}
use Rattle.explain_forms.proofs.OutputBuffers.{adds_is, adds_then}
use Rattle.explain_forms.proofs.output_buffer.Page.append_number.Goals as goal

pub returns : goal.returns
returns c =
    let digits : c.as_bytes.result.now ≡ decimal c.args.number = c.as_bytes.ensures.value ∙ c.format-digits.ensures.text in
    let blanks : c.saturating_sub.result ≡ c.args.width - length (decimal c.args.number) =
    c.saturating_sub.ensures ∙ ap (λ d. c.args.width - length d) c.format-digits.ensures.text in
    adds_is _ _ _ _ (ap (λ n. replicate n 32 ++ c.as_bytes.result.now) blanks ∙ ap (λ d. replicate (c.args.width - length (decimal c.args.number)) 32 ++ d) digits)
    (adds_then _ _ _ _ _ c.append_blanks.ensures c.append_chunk.ensures)
