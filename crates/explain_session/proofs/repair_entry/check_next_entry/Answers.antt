use Rattle.std.proofs.Common.{arith}
use Rattle.explain_session.proofs.Ended.{all_done, octets_of}
use Rattle.explain_session.proofs.EntryFailures.{valid_entry}
use Rattle.explain_lines.proofs.Results.{on_ok, on_ok_more}
use Rattle.explain_session.proofs.RepairRows.{broken_leads, valid_leads}
use Rattle.explain_session.proofs.repair_entry.check_next_entry.Goals as goal

pub returns-in-Lawful-clause-check_result : goal.returns-in-Lawful-clause-check_result
returns-in-Lawful-clause-check_result c =
    on_ok _ c.take_in.result
    (λ none. valid_entry _ _ _ _ c.in-Lawful.closed c.in_ok-check_result.check_result _ _ c.in-Lawful.is c.in_ok-check_result.ensures.check_result c.take_in.ensures.repaired_session
    c.in_ok-note.ensures.why none)

pub returns-in-Lawful-clause-repairs : goal.returns-in-Lawful-clause-repairs
returns-in-Lawful-clause-repairs c =
    on_ok _ c.take_in.result
    (all_done _ _ _ _ _ (octets_of c.args.entry c.args.text.now (λ i. omega (arith, c.type_inv.text i))) (valid_leads _ _ _ _ c.in-Lawful.closed c.in_ok-check_result.check_result _ _ c.in-Lawful.is c.in_ok-check_result.ensures.check_result c.take_in.ensures.repaired_session
    c.in_ok-note.ensures.says c.in_ok-check_result.ensures.line))

pub returns-in-Broken-clause-repairs : goal.returns-in-Broken-clause-repairs
returns-in-Broken-clause-repairs c =
    on_ok_more _ _ c.repair_broken.result
    (λ leads. all_done _ _ _ _ _ (octets_of c.args.entry c.args.text.now (λ i. omega (arith, c.type_inv.text i))) (broken_leads _ _ _ _ c.in-Broken.failure c.in_ok-check_result.check_result _ _ _ c.in-Broken.is c.in_ok-check_result.ensures.check_result c.in_ok-note.ensures.says leads))
    c.repair_broken.ensures.leads
