use Rattle.std.proofs.Common.{◌∙◌, rules, sym, ap, subst}
use Rattle.capture_log.specs.BothLogs.{LogsAs}
use Rattle.capture_tcp.specs.declared.events.Event.{Event as Happens}
use Rattle.capture_log.specs.WrittenLog.{front_by}
use Rattle.capture_log.proofs.WrittenLogs.{subsequent, down, up}
use Rattle.capture_log.proofs.written_log.WrittenLog.submit.Goals as goal

pub returns-in_ok-come_up-in-Up-clause-emitted : goal.returns-in_ok-come_up-in-Up-clause-emitted
returns-in_ok-come_up-in-Up-clause-emitted c =
    up c.args.self.now.time c.max-self.result c.args.self.now.side c.args.happening c.args.self.now.begun c.args.self.now.settings
    c.args.page.now.octets c.come_up.new.page.octets c.max-self.ensures c.in-Up.is c.in_ok-come_up-in-Up.ensures.emitted

pub returns-in_ok-write-in-Down-clause-emitted : goal.returns-in_ok-write-in-Down-clause-emitted
returns-in_ok-write-in-Down-clause-emitted c = (
  c.in-Down.is,
  down c.args.self.now.time c.go_down.new.self.time c.args.self.now.side c.args.happening c.args.self.now.begun c.args.self.now.settings
      c.args.page.now.octets c.write.new.page.octets (c.go_down.ensures.same.2 ∙ c.max-self.ensures) c.in-Down.is c.in_ok-write-in-Down.ensures.emitted,
)

pub returns-in_ok-write-in-Message-clause-emitted : goal.returns-in_ok-write-in-Message-clause-emitted
returns-in_ok-write-in-Message-clause-emitted c =
    subsequent c.args.self.now.time c.max-self.result c.args.self.now.side c.args.happening c.event_of.result
    (front_by c.args.self.now.begun c.args.self.now.settings c.args.happening.event) c.args.page.now.octets c.write-in-Message.new.page.octets
    c.max-self.ensures
    (subst (λ e. LogsAs c.args.self.now.side e c.event_of.result) (sym c.in-Message.is) (
      c.in-Some.frame,
      search rules,
      c.event_of.ensures,
    ))
    (ap (λ (e : Happens). front_by c.args.self.now.begun c.args.self.now.settings e) c.in-Message.is)
    c.in_ok-write-in-Message.ensures.emitted
