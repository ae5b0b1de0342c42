-- What a message handler returns for a message (SEMI E5: replies, and the errors that stream 9 reports).
use Rattle.std.specs.Prelude.{Option, option_map}
use Rattle.secs_item.specs.Item.{Value, view}
use Rattle.hsms_endpoint.specs.declared.answer.Answer.{Answer}
use Rattle.hsms_endpoint.specs.declared.answer.Answer.TheVariants.{Reply, Quiet, NoStream, NoFunction, Illegal}

-- An answer, apart from where its item is in memory.
pub data Answered : Type 0 where
  replies : Option Value → Answered
  quiet : Answered
  no_stream : Answered
  no_function : Answered
  illegal : Answered

abbrev pub answered : Answer → Answered
answered (Reply item) = replies (option_map view item)
answered Quiet = quiet
answered NoStream = no_stream
answered NoFunction = no_function
answered Illegal = illegal
