use Rattle.capture_tcp.proofs.SmallCaptures.{fin_within, half_open, over_unreported, refused, refused_once, reset_between, separate_crossed, up_late}
use Rattle.capture_tcp.proofs.examples.small_logs.Goals as goal

pub returns-clause-refused : goal.returns-clause-refused
returns-clause-refused c = refused

pub returns-clause-half_open : goal.returns-clause-half_open
returns-clause-half_open c = half_open

pub returns-clause-separate : goal.returns-clause-separate
returns-clause-separate c = separate_crossed

pub returns-clause-reset : goal.returns-clause-reset
returns-clause-reset c = reset_between

pub returns-clause-initial_state : goal.returns-clause-initial_state
returns-clause-initial_state c = over_unreported

pub returns-clause-late : goal.returns-clause-late
returns-clause-late c = up_late

pub returns-clause-fin : goal.returns-clause-fin
returns-clause-fin c = fin_within

pub returns-clause-once : goal.returns-clause-once
returns-clause-once c = refused_once
