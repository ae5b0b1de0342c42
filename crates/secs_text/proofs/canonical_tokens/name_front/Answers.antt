use Rattle.std.proofs.Common.{rules, sym, ◌∙◌}
use Rattle.secs_text.proofs.CanonicalTokenLists.{names_front}
use Rattle.secs_text.proofs.canonical_tokens.name_front.Goals as goal

pub returns-in_ok-format_named-in-32-clause-names :
    goal.returns-in_ok-format_named-in-32-clause-names
returns-in_ok-format_named-in-32-clause-names c =
    let named = c.in_ok-format_named-in-32 in
    names_front named.field-0 1 c.args.octets.now (search rules) (sym c.format_named-in-32.ensures ∙ named.was) (search rules) (search rules)

pub returns-in_ok-format_named-in-32-2-clause-names :
    goal.returns-in_ok-format_named-in-32-2-clause-names
returns-in_ok-format_named-in-32-2-clause-names c =
    let named = c.in_ok-format_named-in-32-2 in
    names_front named.field-0 2 c.args.octets.now (search rules) (sym c.format_named.ensures ∙ named.was) (search rules) (search rules)
