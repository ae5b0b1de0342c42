use Rattle.std.proofs.Common.{rules, refl, sym, subst}
use Rattle.capture_log.specs.BothLogs.{LogsAs, event_of}
use Rattle.capture_tcp.specs.declared.packet.Side.TheVariants.{Active, Passive}
use Rattle.capture_log.proofs.LoggedEvents.{down, notes, up}
use Rattle.capture_log.proofs.both_logs.BothLogs.process_input.Goals as goal

pub returns-in_ok-both-in-Up-clause-active : goal.returns-in_ok-both-in-Up-clause-active
returns-in_ok-both-in-Up-clause-active c =
    up c.args.self.now.time c.max-self.result Active c.args.happening c.args.self.now.active c.both.new.self.active c.max-self.ensures c.in-Up.is
    c.in_ok-both-in-Up.ensures.active

pub returns-in_ok-both-in-Down-clause-active : goal.returns-in_ok-both-in-Down-clause-active
returns-in_ok-both-in-Down-clause-active c = (
  c.in-Down.is,
  down c.args.self.now.time c.max-self.result Active c.args.happening c.args.self.now.active c.both-in-Down.new.self.active c.max-self.ensures c.in-Down.is
      c.in_ok-both-in-Down.ensures.active,
)

pub returns-in_ok-message-in-Message-clause-active : goal.returns-in_ok-message-in-Message-clause-active
returns-in_ok-message-in-Message-clause-active c =
    notes c.args.self.now.time c.max-self.result Active c.args.happening (event_of Active c.in-Message.from c.in-Some.frame)
    c.args.self.now.active c.message.new.self.active c.max-self.ensures
    (subst (λ e. LogsAs Active e (event_of Active c.in-Message.from c.in-Some.frame)) (sym c.in-Message.is) (
      c.in-Some.frame,
      search rules,
      refl,
    ))
    c.in_ok-message-in-Message.ensures.active

pub returns-in_ok-both-in-Up-clause-passive : goal.returns-in_ok-both-in-Up-clause-passive
returns-in_ok-both-in-Up-clause-passive c =
    up c.args.self.now.time c.max-self.result Passive c.args.happening c.args.self.now.passive c.both.new.self.passive c.max-self.ensures c.in-Up.is
    c.in_ok-both-in-Up.ensures.passive

pub returns-in_ok-both-in-Down-clause-passive : goal.returns-in_ok-both-in-Down-clause-passive
returns-in_ok-both-in-Down-clause-passive c = (
  c.in-Down.is,
  down c.args.self.now.time c.max-self.result Passive c.args.happening c.args.self.now.passive c.both-in-Down.new.self.passive c.max-self.ensures c.in-Down.is
      c.in_ok-both-in-Down.ensures.passive,
)

pub returns-in_ok-message-in-Message-clause-passive : goal.returns-in_ok-message-in-Message-clause-passive
returns-in_ok-message-in-Message-clause-passive c =
    notes c.args.self.now.time c.max-self.result Passive c.args.happening (event_of Passive c.in-Message.from c.in-Some.frame)
    c.args.self.now.passive c.message.new.self.passive c.max-self.ensures
    (subst (λ e. LogsAs Passive e (event_of Passive c.in-Message.from c.in-Some.frame)) (sym c.in-Message.is) (
      c.in-Some.frame,
      search rules,
      refl,
    ))
    c.in_ok-message-in-Message.ensures.passive
