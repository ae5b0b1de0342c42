use Rattle.std.proofs.Common.{◌≡◌, ◌++◌, ◌∷◌, [], false, is_some}
use Rattle.hsms_machine.specs.declared.rule.Rule.TheVariants.{NoCause}
use Rattle.hsms_machine.specs.EventParts.{entry_of}
use Rattle.hsms_machine.specs.Rule.{Breaks, order_rules, timer_rules, format_rules, transaction_rules}
use Rattle.hsms_machine.specs.ViewRules.{facts_of}
use Rattle.hsms_machine.proofs.First.{first_after}
use Rattle.hsms_machine.proofs.Parts.{order_at, timer_at}
use Rattle.hsms_machine.proofs.view.View.first_broken.Goals as goal

pub returns : goal.returns
returns c =
    let order : is_some c.broken_order-order.result ≡ false = cc in
    let timer : is_some c.broken_timer-timer.result ≡ false = cc in
    let facts = facts_of c.args.self.now in
    let settings = c.args.self.now.settings in
    let entry = entry_of c.args.time c.args.act.now c.args.text.now in
    first_after (Breaks facts settings entry) order_rules
    (timer_rules ++ (format_rules ++ (transaction_rules ++ NoCause ∷ []))) c.broken_order-order.result c.broken_event.result order
    (order_at facts settings c.args.time c.args.act.now c.args.text.now c.broken_order-order.result c.broken_order-order.ensures)
    (first_after (Breaks facts settings entry) timer_rules
    (format_rules ++ (transaction_rules ++ NoCause ∷ [])) c.broken_timer-timer.result c.broken_event.result timer
    (timer_at facts settings c.args.time c.args.act.now c.args.text.now c.broken_timer-timer.result c.broken_timer-timer.ensures) c.broken_event.ensures)
