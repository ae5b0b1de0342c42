use Rattle.hsms_compare_repair.proofs.NoFacts.{nothing_told_agrees}
use Rattle.hsms_compare_repair.proofs.OnlyLater.{only_later, told_agrees}
use Rattle.hsms_compare_repair.proofs.laws.no_facts_if_it_agrees.Goals as goal

pub returns-clause-exactly : goal.returns-clause-exactly
returns-clause-exactly c sent received more shown =
    (nothing_told_agrees sent received more shown, λ p. told_agrees sent received more shown p.0 p.1)

pub returns-clause-may_agree : goal.returns-clause-may_agree
returns-clause-may_agree c = only_later
