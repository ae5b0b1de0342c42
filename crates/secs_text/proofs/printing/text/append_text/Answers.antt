use Rattle.std.proofs.Common.{◌≡◌, ◌++◌, length, take, refl, ap, ◌∙◌, arith, take-append-drop}
use Rattle.std.proofs.lemmas.List.{length-take}
use Rattle.secs_text.proofs.PrintingText.{appended_starts, appended_more, appended_all}
use Rattle.secs_text.proofs.printing.text.append_text.Goals as goal

pub loop-run-init : goal.loop-run-init
loop-run-init c = record { near = omega arith; size = refl; appended_text = appended_starts c.args.block.now c.args.from c.args.quoted c.args.octets.now }

pub append_run-requires : goal.append_run-requires
append_run-requires c =
    let p = c.in-Some.ensures.cases in
    omega (arith, p.2, c.requires, c.loop-run.invariant.near, c.loop-run.invariant.size, ap length p.0, length-take 8 c.loop-run.rest.now)

pub loop-run-preserved : goal.loop-run-preserved
loop-run-preserved c =
    let k = c.loop-run in
    let p = c.in-Some.ensures.cases in
    let octets = c.in-Some.run'.now in
    let after = c.in-Some.after.now in
    let parts : octets ++ after ≡ k.rest.now = ap (λ o. o ++ after) p.0 ∙ ap (λ o. take 8 k.rest.now ++ o) p.1 ∙ take-append-drop 8 k.rest.now in
    record {
      near = omega (arith, c.append_run.ensures.near, k.invariant.near, p.2, ap length p.0, length-take 8 k.rest.now);
      size = c.append_run.ensures.size ∙ k.invariant.size;
      appended_text = appended_more c.args.octets.now c.args.quoted k.in_quotes c.append_run.result.1 k.rest.now octets after k.invariant.appended_text parts c.append_run.ensures.text;
    }

pub returns-clause-text : goal.returns-clause-text
returns-clause-text c = appended_all c.args.octets.now c.args.quoted c.loop-run.in_quotes c.append_octets.result.1 c.loop-run.rest.now c.loop-run.invariant.appended_text c.append_octets.ensures.text
