-- The small captures, by computation.
use Rattle.std.proofs.Common.{refl}
use Rattle.capture_tcp.specs.TcpStreams.{bound, cell_at, cells_up_to, cut_off, difference, loss, loss_shown, places, run, show, turns}
use Rattle.capture_tcp.specs.Message.{cells_to, size_by}
use Rattle.capture_tcp.specs.EventSteps.{processes_input}
use Rattle.capture_tcp.specs.DeliverySteps.{emit_turns}
use Rattle.capture_tcp.specs.InnerExamples.{Asked, EarlyReply, FinWithin, GapAtEnd, HalfOpen, LostMessage, LostReply, OtherCopy, OverUnreported, Refused, RefusedOnce, ResetBetween, SeparateCrossed, UpLate}

pub lost_reply : LostReply
unfolding bound cell_at cells_up_to cut_off difference loss places run show turns
lost_reply = (refl, refl)

pub early_reply : EarlyReply
unfolding bound cell_at cells_up_to cut_off difference loss places run show turns
early_reply = (refl, refl, refl)

pub asked : Asked
unfolding bound cell_at cells_up_to cut_off difference loss places run show turns
asked = (refl, refl)

pub other_copy : OtherCopy
unfolding bound cell_at cells_up_to cut_off difference loss places run show turns
other_copy = (refl, refl)

pub gap_at_end : GapAtEnd
unfolding bound cell_at cells_up_to cut_off difference loss loss_shown places run show turns
gap_at_end = (refl, refl, refl)

pub lost_message : LostMessage
unfolding bound cell_at cells_up_to cut_off difference loss loss_shown places run show turns
lost_message = (refl, refl, refl)

pub refused : Refused
unfolding bound cell_at cells_to cells_up_to cut_off difference loss places run show size_by turns
refused = refl

pub refused_once : RefusedOnce
unfolding bound cell_at cells_to cells_up_to cut_off difference loss places run show size_by turns
refused_once = refl

pub half_open : HalfOpen
unfolding bound cell_at cells_to cells_up_to cut_off difference loss places run show size_by turns
half_open = refl

pub separate_crossed : SeparateCrossed
unfolding bound cell_at cells_to cells_up_to cut_off difference loss places run show size_by turns
separate_crossed = refl

pub reset_between : ResetBetween
unfolding bound cell_at cells_to cells_up_to cut_off difference loss places run show size_by turns
reset_between = refl

pub over_unreported : OverUnreported
unfolding bound cell_at cells_to cells_up_to cut_off difference processes_input loss places run show size_by emit_turns turns
over_unreported = (refl, refl)

pub up_late : UpLate
unfolding bound cell_at cells_to cells_up_to cut_off difference loss places run show size_by turns
up_late = refl

pub fin_within : FinWithin
unfolding bound cell_at cells_to cells_up_to cut_off difference loss places run show size_by turns
fin_within = refl
