use Rattle.std.proofs.Common.{◌≡◌, ◌≤◌, ◌+◌, List, ℕ, drop, length, max, ap, subst, sym, ◌∙◌}
use Rattle.std.proofs.lemmas.Result.{on_ok_weaker}
use Rattle.capture_tcp.specs.Cells.{Kept, all_of}
use Rattle.capture_tcp.specs.InnerReassembly.{IsStored}
use Rattle.capture_tcp.proofs.ConnectedPackets.{stored_after, stored_few}
use Rattle.capture_tcp.proofs.cells.Cells.put.Goals as goal

pub returns-clause-ok : goal.returns-clause-ok
returns-clause-ok c =
    let old : Kept = record { octets = drop c.self.inside.gone c.self.inside.octets.items; others = c.self.inside.others } in
    let new : Kept = record { octets = drop c.self.inside.gone c.self.inside.octets.items; others = c.put.new.self } in
    let run : length c.run-run.result.now ≡ length old.octets = ap (λ (z : List ℕ). length z) c.run-run.ensures ∙ ap (λ (k : Kept). length k.octets) (sym c.self.view_is) in
    on_ok_weaker c.put.result
    (λ stored. subst (λ (k : Kept). IsStored 0 c.args.index c.args.cells.now (all_of k) (all_of new)) c.self.view_is
    (stored_after old c.put.new.self c.args.cells.now c.cells_after-rest.result.now c.args.index (length c.run-run.result.now) c.saturating_sub.result run
    c.cells_after-rest.ensures c.saturating_sub.ensures stored)) c.put.ensures.ok

pub returns-clause-few : goal.returns-clause-few
returns-clause-few c =
    let old : Kept = record { octets = drop c.self.inside.gone c.self.inside.octets.items; others = c.self.inside.others } in
    let new : Kept = record { octets = drop c.self.inside.gone c.self.inside.octets.items; others = c.put.new.self } in
    let run : length c.run-run.result.now ≡ length old.octets = ap (λ (z : List ℕ). length z) c.run-run.ensures ∙ ap (λ (k : Kept). length k.octets) (sym c.self.view_is) in
    on_ok_weaker c.put.result
    (λ few. subst (λ (k : Kept). length (all_of new) ≤ max (length (all_of k)) (c.args.index + length c.args.cells.now)) c.self.view_is
    (stored_few old c.put.new.self c.args.cells.now c.cells_after-rest.result.now c.args.index (length c.run-run.result.now) c.saturating_sub.result run
    c.cells_after-rest.ensures c.saturating_sub.ensures few)) c.put.ensures.few
