use Rattle.std.proofs.Common.{◌≡◌, ◌+◌, drop, get_or, None, Some, ◌++◌, ◌∷◌, [], ℕ, List, subst, sym}
use Rattle.capture_tcp.specs.Cells.{all_of}
use Rattle.capture_tcp.specs.declared.reassembly.Cell.TheVariants as held
use Rattle.capture_tcp.proofs.StreamChunks.{Proceeds, closes, can_continue, opens}
use Rattle.capture_tcp.proofs.reassembly.piece_of.Goals as goal

pub returns-in-Syn : goal.returns-in-Syn
returns-in-Syn c =
    let ss = drop c.args.first (all_of c.args.cells.now) in
    let at : Some held.Syn ≡ get_or ss c.loop-index.index None = (let there = c.cell_after.ensures in let some = c.in-Some.is in let is = c.in-Syn.is in cc) in
    opens ss c.args.count c.loop-index.index c.loop-index.octets.items c.loop-index-test.true at c.loop-index.invariant

pub returns-in-Fin : goal.returns-in-Fin
returns-in-Fin c =
    let ss = drop c.args.first (all_of c.args.cells.now) in
    let at : Some held.Fin ≡ get_or ss c.loop-index.index None = (let there = c.cell_after.ensures in let some = c.in-Some.is in let is = c.in-Fin.is in cc) in
    closes ss c.args.count c.loop-index.index c.loop-index.octets.items c.loop-index-test.true at c.loop-index.invariant

pub loop-index-preserved : goal.loop-index-preserved
loop-index-preserved c =
    let ss = drop c.args.first (all_of c.args.cells.now) in
    let at : Some (held.Octet c.in-Octet.octet) ≡ get_or ss c.loop-index.index None = (let there = c.cell_after.ensures in let some = c.in-Some.is in let is = c.in-Octet.is in cc) in
    let pushed : c.push.new.self.items ≡ c.loop-index.octets.items ++ c.in-Octet.octet ∷ [] = c.in_ok-push-in-Octet.ensures.items in
    subst (λ (octets : List ℕ). Proceeds ss c.args.count octets (c.loop-index.index + 1)) (sym pushed)
    (can_continue ss c.args.count c.loop-index.index c.in-Octet.octet c.loop-index.octets.items c.loop-index-test.true at c.loop-index.invariant)
