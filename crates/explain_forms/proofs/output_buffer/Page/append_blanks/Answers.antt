use Rattle.std.proofs.Common.{◌≡◌, ap, arith, replicate}
use Rattle.explain_forms.proofs.OutputBuffers.{adds_is, adds_none, adds_then, blank_more}
use Rattle.explain_forms.proofs.output_buffer.Page.append_blanks.Goals as goal

pub loop-init : goal.loop-init
loop-init c = (adds_none c.args.self.now, omega arith)

pub loop-preserved : goal.loop-preserved
loop-preserved c = (
  adds_is _ _ _ _ (blank_more c.loop.counter) (adds_then _ _ _ _ _ c.loop.invariant.0 c.append_chunk.ensures),
  omega (arith, c.loop-test.true),
)

pub returns : goal.returns
returns c =
    let all : c.loop.counter ≡ c.args.count = omega (arith, c.loop-test.false, c.loop.invariant.1) in
    adds_is _ _ _ _ (ap (λ n. replicate n 32) all) c.loop.invariant.0
