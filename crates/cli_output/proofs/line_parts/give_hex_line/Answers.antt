use Rattle.std.proofs.Common.{◌≡◌, ◌*◌, ◌++◌, ◌∷◌, [], ℕ, ap, sym, ◌∙◌, length, take}
use Rattle.hex.specs.Hex.{encode_lower}
use Rattle.hsms_log.proofs.Parts.{encode-append}
use Rattle.cli_output.proofs.LinePremises.{appends_same, appends_then}
use Rattle.cli_output.proofs.line_parts.give_hex_line.Goals as goal

pub returns : goal.returns
returns g c =
    let Given = g.O.Output.Given in
    let Before = Given c.args.out.now in
    let front = c.args.front.now in
    let text = c.args.text.now in
    let digits = c.digits_of_few-digits.result in
    let size : ◌≡◌ {A = ℕ} 28 (2 * length front) = ap (λ (n : ℕ). 2 * n) (sym c.told-front) in
    let is : take 28 digits ≡ encode_lower front = ap (λ (n : ℕ). take n digits) size ∙ c.digits_of_few-digits.ensures in
    let one = appends_same Before (Given c.append_chunk.new.out) _ _ (take 28 digits) (encode_lower front) is c.append_chunk.ensures in
    let two = appends_then Before (Given c.append_chunk.new.out) (Given c.give_some.new.out) _ _ _ (encode_lower front) (encode_lower text) one c.give_some.ensures in
    appends_same Before (Given c.append_chunk-2.new.out) _ _ (encode_lower front ++ encode_lower text ++ 10 ∷ []) (encode_lower (front ++ text) ++ 10 ∷ [])
    (ap (λ o. o ++ 10 ∷ []) (sym (encode-append front text)))
    (appends_then Before (Given c.give_some.new.out) (Given c.append_chunk-2.new.out) _ _ _ (encode_lower front ++ encode_lower text) (10 ∷ []) two c.append_chunk-2.ensures)
