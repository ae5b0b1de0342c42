use Rattle.std.proofs.Common.{[], ◌∷◌}
use Rattle.std.specs.Prelude.{codes, string_bytes}
use Rattle.cli_compare.specs.Comparison.{connection_words}
use Rattle.cli_compare.proofs.Texts.{two}
use Rattle.cli_compare.proofs.comparison_text.push_connections.Goals as goal

pub returns : goal.returns
returns c =
    two c.push_connection-2.result (string_bytes c.args.text.now) (string_bytes c.push_connection.new.text) (string_bytes c.push_connection-2.new.text)
    (connection_words (codes "connection ") (codes "host") c.args.comparison.now.host (codes " "))
    (connection_words (codes "") (codes "equipment") c.args.comparison.now.equipment (10 ∷ []))
    c.in_ok-push_connection.ensures c.push_connection-2.ensures
