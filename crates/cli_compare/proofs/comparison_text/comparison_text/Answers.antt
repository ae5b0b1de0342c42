use Rattle.std.specs.Prelude.{codes, string_bytes}
use Rattle.cli_output.specs.Verdict.{verdict_line_of}
use Rattle.cli_compare.specs.Comparison.{pair_lines, verdict_line}
use Rattle.cli_compare.proofs.Texts.{all}
use Rattle.cli_compare.proofs.comparison_text.comparison_text.Goals as goal

pub returns : goal.returns
returns c =
    all (string_bytes c.new-text.result) (string_bytes c.push_pair.new.text) (string_bytes c.push_audit.new.text) (string_bytes c.push_audit-2.new.text)
    (string_bytes c.push_verdict.new.text) (pair_lines c.args.comparison.now)
    (codes "host: ") (verdict_line_of c.args.comparison.now.host.verdict) (codes "equipment: ") (verdict_line_of c.args.comparison.now.equipment.verdict)
    (verdict_line c.args.comparison.now) c.new-text.ensures.bytes c.in_ok-push_pair.ensures c.in_ok-push_audit.ensures c.in_ok-push_audit-2.ensures
    c.in_ok-push_verdict.ensures
