use Rattle.std.proofs.Common.{[], ◌++◌, get_or, refl, arith}
use Rattle.secs_text.specs.Printed.{printed_octet}
use Rattle.secs_text.proofs.Blocks.{appended_then, appended_nothing}
use Rattle.secs_text.proofs.PrintingText.{text_proceeds, text_done}
use Rattle.secs_text.proofs.printing.text.append_octets.Goals as goal

pub loop-octet-init : goal.loop-octet-init
loop-octet-init c = record { near = omega arith; text = ([], appended_nothing c.args.block.now c.args.from, λ tail. refl) }

pub loop-octet-preserved : goal.loop-octet-preserved
loop-octet-preserved c =
    let k = c.loop-octet in
    let before = k.invariant.text in
    let appended_text = c.append_text_octet-at.ensures.appended_text in
    record {
      near = omega (arith, c.append_text_octet-at.ensures.near, k.invariant.near);
      text = (before.0 ++ printed_octet k.in_quotes (get_or c.args.octets.now k.octet-index 0), appended_then before.1 appended_text, λ tail. rw c.is_quotable-in_quotes.ensures (text_proceeds before.0 _ tail k.in_quotes c.args.octets.now k.octet-index c.loop-octet-test.true (before.2 tail)));
    }

pub returns-clause-text : goal.returns-clause-text
returns-clause-text c =
    let k = c.loop-octet in
    let before = k.invariant.text in
    (before.0, before.1, λ tail. text_done before.0 _ tail k.in_quotes c.args.octets.now k.octet-index c.loop-octet-test.false (before.2 tail))

pub returns-clause-size : goal.returns-clause-size
returns-clause-size c = c.loop-octet.invariant.text.1.size
