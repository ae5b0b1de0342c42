-- The facts of a connection.
use Rattle.std.specs.Prelude.{ℕ, List}
use Rattle.hsms_compare_repair.specs.declared.fact.Fact.{Fact}
use Rattle.hsms_compare_repair.specs.declared.pair.LogFrames.{LogFrames}
use Rattle.hsms_compare_repair.specs.Facts.{AreFacts, IsShown}

-- The facts of the frames to one endpoint, by both logs.
pub record AreFactsTo (sender receiver : LogFrames) (facts : List Fact) : Type 0 where
  pub shown : ℕ
  pub is_shown : IsShown receiver.sent.items sender.received.items receiver.is_open shown
  pub are_facts : AreFacts sender.sent.items receiver.received.items sender.is_open shown facts
