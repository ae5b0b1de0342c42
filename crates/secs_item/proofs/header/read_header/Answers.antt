use Rattle.std.proofs.Common.{◌≡◌, ◌-◌, ◌∷◌, length, take, drop, sym, ap, ◌∙◌, arith}
use Rattle.std.proofs.lemmas.List.{length-drop, take_all}
use Rattle.secs_item.specs.Header.{header_at}
use Rattle.secs_item.specs.Measure.{header_from}
use Rattle.secs_item.proofs.Headers.{short_list_cut}
use Rattle.secs_item.proofs.header.read_header.Goals as goal

pub returns-in_default-rest-clause-read : goal.returns-in_default-rest-clause-read
returns-in_default-rest-clause-read c =
    let rest = c.in-Some.rest.now in
    let octets = c.args.octets.now in
    let whole : take (length octets - c.args.place) (drop c.args.place octets) ≡ drop c.args.place octets = take_all (length octets - c.args.place) (drop c.args.place octets) (omega (arith, length-drop c.args.place octets)) in
    let front : drop c.args.place octets ≡ 1 ∷ rest = sym whole ∙ c.in-Some.ensures.cases.0 ∙ ap (λ x. x ∷ rest) c.if-first-eq-SHORT_LIST.true in
    sym (ap (λ o. header_from c.args.place (header_at c.args.depth o)) front
    ∙ ap (header_from c.args.place) (short_list_cut c.args.depth rest c.in_default-rest.len_below (omega (arith, c.if-depth-eq0.false))))
