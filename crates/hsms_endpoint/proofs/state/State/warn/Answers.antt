use Rattle.std.proofs.Common.{[], ◌∷◌, refl, sym, subst, if◌then◌else◌}
use Rattle.hsms_machine.specs.declared.settings.Role.{Role}
use Rattle.hsms_endpoint.specs.Action.{asks}
use Rattle.hsms_endpoint.specs.Frame.{warning}
use Rattle.hsms_endpoint.specs.Reaction.{is_equipment}
use Rattle.hsms_endpoint.specs.InnerActionSteps.{Performs}
use Rattle.hsms_endpoint.proofs.Acts.{then_ok}
use Rattle.hsms_endpoint.proofs.AwaitingReplies.{does_nothing}
use Rattle.hsms_endpoint.proofs.Warned.{warn_valid, warn_awaits, warn_same}
use Rattle.hsms_endpoint.proofs.state.State.warn.Goals as goal

pub send_numbered-requires-clause-is_valid : goal.send_numbered-requires-clause-is_valid
send_numbered-requires-clause-is_valid c =
    warn_valid c.args.self.now c.args.self.now.tracker.taken_data c.args.self.now.tracker.taken_control c.requires.awaits c.args.function c.args.header c.free_number-number.result c.requires.odd
    c.in_ok-frame-in-Equipment.frame c.in_ok-frame-in-Equipment.ensures.exact c.requires.selected (sym c.in-Equipment.ensures) c.in_ok-frame-in-Equipment.ensures.octets

pub returns-in_ok-frame-in-Equipment : goal.returns-in_ok-frame-in-Equipment
returns-in_ok-frame-in-Equipment c =
    let frame = c.in_ok-frame-in-Equipment.ensures.exact in
    then_ok c.send_numbered.result c.send_numbered.ensures
    (λ sent. record {
      does = subst (λ (r : Role). Performs c.args.self.now c.args.entries.now.items (if is_equipment r then asks (warning c.args.self.now.settings c.args.function c.args.header) ∷ [] else []) c.send_numbered.new.self c.send_numbered.new.entries.items) c.in-Equipment.ensures
          (sent.does (warning c.args.self.now.settings c.args.function c.args.header) (sym frame));
      awaits = λ primaries controls awaits. warn_awaits c.args.self.now primaries controls awaits c.args.function c.args.header c.free_number-number.result c.requires.odd
          c.send_numbered.new.self c.in_ok-frame-in-Equipment.frame frame sent.after;
      same = warn_same c.args.self.now c.args.self.now.tracker.taken_data c.args.self.now.tracker.taken_control c.requires.awaits c.args.function c.args.header c.free_number-number.result c.requires.odd
          c.send_numbered.new.self c.in_ok-frame-in-Equipment.frame frame sent.after;
    })

pub returns-in-Host : goal.returns-in-Host
returns-in-Host c = record {
  does = subst (λ (r : Role). Performs c.args.self.now c.args.entries.now.items (if is_equipment r then asks (warning c.args.self.now.settings c.args.function c.args.header) ∷ [] else []) c.args.self.now c.args.entries.now.items) c.in-Host.ensures
      (does_nothing c.args.self.now c.args.entries.now.items);
  awaits = λ primaries controls awaits. awaits;
  same = record { settings = refl; framer = refl; phase = refl };
}
