use Rattle.std.proofs.Common.{◌≡◌, ◌∙◌, ℕ, List, true, ap, sym, arith}
use Rattle.std.specs.List.{list_all}
use Rattle.std.proofs.lemmas.List.{take_all}
use Rattle.secs_text.specs.Octets.{is_quotable}
use Rattle.secs_text.proofs.Blocks.{appended_same}
use Rattle.secs_text.proofs.PrintingText.{run_appended}
use Rattle.secs_text.proofs.printing.text.append_run.Goals as goal

pub returns-clause-text : goal.returns-clause-text
returns-clause-text c =
    let octets = c.args.octets.now in
    let all : list_all is_quotable octets ≡ true =
    ap (λ (o : List ℕ). list_all is_quotable o) (sym (take_all c.loop-octet.octet-index octets (omega (arith, c.loop-octet-test.false, c.told-octets)))) ∙ sym c.loop-octet.invariant ∙ c.if-not-are_quotable.false in
    run_appended c.args.quoted octets all (omega (arith, c.told-octets)) c.append_quote-at.ensures (appended_same octets (take_all 8 octets (omega (arith, c.told-octets))) (rw c.as_slice-2.ensures at c.append_word.ensures.appended_text))
