use Rattle.std.proofs.Common.{ℕ, rules, subst, false}
use Rattle.capture_tcp.specs.Reassembly.{PutsIn}
use Rattle.capture_tcp.specs.Message.{cells_of}
use Rattle.capture_midstream.proofs.Holding.{holds_more}
use Rattle.capture_midstream.proofs.sync_search.held_of.Goals as goal

pub loop-piece-preserved : goal.loop-piece-preserved
loop-piece-preserved c =
    let P : ℕ → Type 0 = λ n. PutsIn c.loop-piece.held n (cells_of false c.deref.result.now false) c.put.new.self in
    holds_more c.args.from c.args.pieces.now c.loop-piece.rest.now c.in-Some.others.now c.in-Some.piece.now c.deref.result.now c.loop-piece.held c.put.new.self
    (search rules) c.deref.ensures.value (subst P c.from.ensures c.in-Ok.ensures.ok) c.loop-piece.invariant
