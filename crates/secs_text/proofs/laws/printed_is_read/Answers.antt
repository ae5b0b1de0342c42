use Rattle.secs_text.specs.Printed.{printed}
use Rattle.secs_text.proofs.MessagePrefixes.{let_through}
use Rattle.secs_text.proofs.PrintedNotation.{printed_is_notation}
use Rattle.secs_text.proofs.laws.printed_is_read.Goals as goal

pub returns : goal.returns
returns c = record { notation = printed_is_notation; let_through = λ m depth held within. let_through (printed m) depth m (printed_is_notation m held) within }
