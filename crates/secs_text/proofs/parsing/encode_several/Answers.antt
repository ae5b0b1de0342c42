use Rattle.std.proofs.Common.{◌≡◌, ◌∙◌, ◌++◌, ◌∷◌, [], ap, sym, subst, append_assoc, List, refl}
use Rattle.std.specs.Prelude.{Some, option_map}
use Rattle.secs_text.specs.Content.{Content}
use Rattle.secs_text.specs.InnerRemainingTokens.{left}
use Rattle.secs_text.specs.EncodedText.{headed_by}
use Rattle.secs_text.specs.InnerEncodedText.{appended_text, named}
use Rattle.secs_text.proofs.ParsingMessages.{is_encoded}
use Rattle.secs_text.proofs.parsing.encode_several.Goals as goal
use Rattle.secs_text.proofs.parsing.encode_several.Goals.{then-fits, else-fits}

pub loop-encoded_form-preserved : goal.loop-encoded_form-preserved
loop-encoded_form-preserved g c =
    let before = c.loop-encoded_form.invariant in
    let m = c.in_ok-head.ensures.reads in
    let this : Content = headed_by c.in_ok-head.head m.item in
    let given_text : appended_text c.in_ok-head.fits c.message.new.out.items ≡ option_map (λ t. t.now) c.if-fits.take = elim c.if-fits.branch [
      | then-fits w ↦ rw (w.if-fits.true, w.take-is) (ap (λ o. Some o) (sym c.as_slice-octets.ensures.value))
      | else-fits w ↦ rw (w.if-fits.false, w.take-is) refl
    ] in
    record {
      messages = before.messages ++ this ∷ [];
      leads = before.leads ∙ c.in_ok-stream.ensures.reads c.args.depth before.messages ∙ ap (λ n. named c.args.depth before.messages n (left c.next_name.new.tokens)) c.in-Some.is ∙ m.leads before.messages;
      given = λ kept earlier old. let P : List Content → Type 0 = λ ms. g.R.Receiver.Given kept c.take.new.self ms in subst P (append_assoc earlier before.messages (this ∷ []))
          (c.in_ok-take.ensures kept m.item (earlier ++ before.messages) (is_encoded m.item c.in_ok-head.fits c.clear.new.self.items c.message.new.out.items c.clear.ensures.items m.appends_bytes ∙ given_text) (before.given kept earlier old));
    }
