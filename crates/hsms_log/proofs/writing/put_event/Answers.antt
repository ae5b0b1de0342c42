use Rattle.std.proofs.Common.{◌≡◌, ◌++◌, ◌∷◌, ◌*◌, ℕ, [], length, take, codes, sym, ap, ◌∙◌, subst}
use Rattle.hex.specs.Hex.{encode_lower}
use Rattle.hsms_machine.specs.declared.entry.Event.{Event}
use Rattle.hsms_log.specs.LineFormat.{system_octets, event_text}
use Rattle.hsms_log.proofs.Parts.{writes_along}
use Rattle.hsms_log.proofs.writing.put_event.Goals as goal

pub returns-in-T3 : goal.returns-in-T3
unfolding system_octets
returns-in-T3 g c =
    let digits = c.digits_of_few-digits.result in
    let same = c.as_slice.ensures ∙ c.to_be_bytes.ensures in
    let four : length c.as_slice.result.now ≡ 4 = ap length same in
    let P : ℕ → Type 0 = λ n. take (2 * n) digits ≡ encode_lower c.as_slice.result.now in
    let eight : take 8 digits ≡ encode_lower (system_octets c.in-T3.system) = subst P four c.digits_of_few-digits.ensures ∙ ap encode_lower same in
    writes_along c.put_word.result (g.W.Sink.state c.args.sink.now) (g.W.Sink.state c.put_word.new.sink) (codes " t3 " ++ (take 8 digits ++ 10 ∷ []))
    (32 ∷ (event_text c.args.event.now ++ 10 ∷ []))
    (ap (λ l. codes " t3 " ++ (l ++ 10 ∷ [])) eight ∙ sym (ap (λ (e : Event). 32 ∷ (event_text e ++ 10 ∷ [])) c.in-T3.is)) c.put_word.ensures
