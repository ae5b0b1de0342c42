use Rattle.std.proofs.Common.{List, [], refl, ap, subst, ◌∙◌}
use Rattle.std.proofs.lemmas.List.{take_all}
use Rattle.hsms_frame.specs.declared.header.Header.{Header}
use Rattle.hsms_endpoint.specs.Action.{Act}
use Rattle.hsms_endpoint.specs.InnerExpiring.{warnings_of}
use Rattle.hsms_endpoint.specs.InnerActionSteps.{Performs}
use Rattle.hsms_endpoint.specs.Reaction.{is_equipment}
use Rattle.hsms_endpoint.specs.InnerInvariant.{Completes}
use Rattle.hsms_endpoint.specs.Turn.{is_up}
use Rattle.hsms_endpoint.proofs.AwaitingReplies.{sound_awaits, peers_transactions_are_none_between_calls, awaits_own, does_nothing}
use Rattle.hsms_endpoint.proofs.LoggedEntries.{no_warning, one_warned, may_warn, still_may_warn}
use Rattle.hsms_endpoint.proofs.state.State.warn_expired.Goals as goal

pub loop-header-init : goal.loop-header-init
loop-header-init c = record {
  input_event = record {
    does = subst (λ (acts : List Act). Performs c.args.self.now c.args.entries.now.items acts c.args.self.now c.args.entries.now.items) (no_warning (is_equipment c.args.self.now.settings.role)) (does_nothing c.args.self.now c.args.entries.now.items);
    sound = c.requires.sound;
  };
  settings = refl;
  selected = c.requires.selected;
}

pub warn-requires-clause-selected : goal.warn-requires-clause-selected
warn-requires-clause-selected c = may_warn c.loop-header.self.tracker.phase c.args.expired.now c.loop-header.header-index c.loop-header-test.true c.loop-header.invariant.selected

pub warn-requires-clause-awaits : goal.warn-requires-clause-awaits
warn-requires-clause-awaits c =
    awaits_own c.loop-header.self [] []
    (sound_awaits c.loop-header.self c.loop-header.invariant.input_event.sound
    (ap is_up (may_warn c.loop-header.self.tracker.phase c.args.expired.now c.loop-header.header-index c.loop-header-test.true c.loop-header.invariant.selected)))

pub loop-header-preserved : goal.loop-header-preserved
loop-header-preserved c =
    let none : Header = record { session = 0; byte2 = 0; byte3 = 0; ptype = 0; stype = 0; system = 0 } in
    let selected = may_warn c.loop-header.self.tracker.phase c.args.expired.now c.loop-header.header-index c.loop-header-test.true c.loop-header.invariant.selected in
    record {
      input_event = record {
        does = one_warned c.args.self.now c.loop-header.self c.warn.new.self c.args.entries.now.items c.loop-header.entries.items c.warn.new.entries.items c.args.expired.now c.loop-header.header-index none c.loop-header-test.true
            c.loop-header.invariant.settings c.loop-header.invariant.input_event.does c.in_ok-warn.ensures.does;
        sound = peers_transactions_are_none_between_calls c.warn.new.self (c.in_ok-warn.ensures.awaits [] [] (sound_awaits c.loop-header.self c.loop-header.invariant.input_event.sound (ap is_up selected)));
      };
      settings = c.in_ok-warn.ensures.same.settings ∙ c.loop-header.invariant.settings;
      selected = still_may_warn c.loop-header.self.tracker.phase c.warn.new.self.tracker.phase c.args.expired.now (c.in_ok-warn.ensures.same.phase ∙ selected);
    }

pub returns : goal.returns
returns c =
    subst (λ hs. Completes c.args.self.now c.args.entries.now.items (warnings_of c.args.self.now.settings hs) c.loop-header.self c.loop-header.entries.items)
    (take_all c.loop-header.header-index c.args.expired.now c.loop-header-test.false) c.loop-header.invariant.input_event
