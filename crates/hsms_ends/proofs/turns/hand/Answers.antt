use Rattle.std.proofs.Common.{[], inr, refl, sym, subst}
use Rattle.std.specs.Prelude.{List}
use Rattle.hsms_frame.specs.Io.{SinkState}
use Rattle.hsms_machine.specs.declared.entry.Entry.{Entry}
use Rattle.hsms_ends.specs.InnerServeSteps.{called}
use Rattle.hsms_ends.specs.InnerOutput.{AllFitLengthField}
use Rattle.hsms_ends.specs.Link.{processed_nothing}
use Rattle.hsms_ends.proofs.Readiness.{fits}
use Rattle.hsms_ends.proofs.TurnSteps.{takes_by, leads_itself}
use Rattle.hsms_ends.proofs.TurnResults.{yields_as, yields_memory, yields_nothing}
use Rattle.hsms_ends.proofs.turns.hand.Goals as goal

pub deliver-requires : goal.deliver-requires
deliver-requires g c =
    let P : List Entry → Type 0 = λ l. AllFitLengthField l in
    subst P (sym c.deref.ensures.value) (fits g.D.TurnDesk.answers_after c.args.end.now c.make-answer.new.end (called c.args.call) c.in-Ok.entries.items c.requires c.in-Ok.ensures)

pub returns-in-Ok : goal.returns-in-Ok
returns-in-Ok g c =
    let link_state = g.L.Link.link_state in
    let log : SinkState = g.W.Sink.state c.args.log.now in
    let log' : SinkState = g.W.Sink.state c.deliver.new.log in
    record {
      entries = c.in-Ok.entries.items;
      end' = c.make-answer.new.end;
      takes = takes_by g.D.TurnDesk.answers_after c.deliver.result c.args.end.now (called c.args.call) c.in-Ok.entries.items c.make-answer.new.end c.in-Ok.ensures;
      leads = leads_itself c.deliver.result c.make-answer.new.end;
      yields = yields_as c.deliver.result log log' (link_state c.args.link.now) (link_state c.deliver.new.link) c.args.count.now c.deliver.new.count _ _ processed_nothing c.deref.ensures.value c.deliver.ensures;
    }

pub returns-in-Err : goal.returns-in-Err
returns-in-Err g c =
    let link_state = g.L.Link.link_state in
    let log : SinkState = g.W.Sink.state c.args.log.now in
    record {
      entries = [];
      end' = c.args.end.now;
      takes = inr (refl, refl);
      leads = tt;
      yields = yields_memory log log (link_state c.args.link.now) (link_state c.args.link.now) c.args.count.now c.args.count.now [] [] processed_nothing (yields_nothing log (link_state c.args.link.now) c.args.count.now);
    }
