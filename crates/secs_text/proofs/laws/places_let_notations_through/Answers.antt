use Rattle.secs_text.proofs.MessagePrefixes.{let_through, all_let_through}
use Rattle.secs_text.proofs.Soundness.{is_notation, all_are_notations}
use Rattle.secs_text.proofs.laws.places_let_notations_through.Goals as goal

pub returns : goal.returns
returns c = record { notations = let_through; nothing_else = is_notation; messages = all_let_through; messages_alone = all_are_notations }
