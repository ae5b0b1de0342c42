use Rattle.std.proofs.Common.{◌∙◌, ap, ℕ, List, subst, arith}
use Rattle.std.proofs.lemmas.Result.{err_from_is_err_and}
use Rattle.hsms_frame.specs.Frame.{Frame}
use Rattle.hsms_frame.specs.Io.{Grows, GrowsByFront}
use Rattle.hsms_frame.proofs.WrittenParts.{before_text, wrote_all, wrote_front, wrote_part}
use Rattle.hsms_frame.proofs.write.write_frame.Goals as goal

pub returns-in_err-give_all-clause-octets : goal.returns-in_err-give_all-clause-octets
returns-in_err-give_all-clause-octets g c =
    let p = err_from_is_err_and c.from_residual.result c.from_residual.ensures.1 in
    rw (p.1, p.2) (omega (arith, c.length-length.ensures), wrote_front c.args.frame.now c.front_octets.result _ _ (before_text c.args.frame.now _ _ _ c.frame.view_is c.length-length.ensures c.front_octets.ensures) c.in_err-give_all.ensures.err)

pub returns-in_err-give_all-2-clause-octets : goal.returns-in_err-give_all-2-clause-octets
returns-in_err-give_all-2-clause-octets g c =
    let P : List ℕ → Type 0 = λ xs. GrowsByFront (g.W.Sink.state c.give_all.new.sink).written (g.W.Sink.state c.give_all-2.new.sink).written xs in
    let p = err_from_is_err_and c.from_residual-in_err-give_all-2.result c.from_residual-in_err-give_all-2.ensures.1 in
    rw (p.1, p.2) (omega (arith, c.length-length.ensures), wrote_part c.args.frame.now c.front_octets.result _ _ _ (before_text c.args.frame.now _ _ _ c.frame.view_is c.length-length.ensures c.front_octets.ensures) c.in_ok-give_all.ensures.ok (subst P (c.deref.ensures.value ∙ ap (λ (f : Frame). f.text) c.frame.view_is) c.in_err-give_all-2.ensures.err))

pub returns-clause-octets : goal.returns-clause-octets
returns-clause-octets g c =
    let P : List ℕ → Type 0 = λ xs. Grows (g.W.Sink.state c.give_all.new.sink).written (g.W.Sink.state c.give_all-2.new.sink).written xs in
    (omega (arith, c.length-length.ensures), wrote_all c.args.frame.now c.front_octets.result _ _ _ (before_text c.args.frame.now _ _ _ c.frame.view_is c.length-length.ensures c.front_octets.ensures) c.in_ok-give_all.ensures.ok (subst P (c.deref.ensures.value ∙ ap (λ (f : Frame). f.text) c.frame.view_is) c.in_ok-give_all-2.ensures.ok))
