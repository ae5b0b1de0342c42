use Rattle.std.proofs.Common.{◌≡◌, ◌-◌, List, length, subst, arith}
use Rattle.capture_tcp.specs.Cells.{all_of}
use Rattle.capture_tcp.specs.Reassembly.{IsStoreOf, Store}
use Rattle.capture_tcp.specs.TcpStreams.{End, Placed}
use Rattle.capture_tcp.proofs.StoredCells.{few_left, still_holds}
use Rattle.capture_tcp.proofs.reassembly.ReassemblyBuffer.pass.Goals as goal

pub returns-clause-held : goal.returns-clause-held
returns-clause-held c =
    let new : Store = record { place = c.max-self-inside.result; cells = all_of c.let_go.new.self } in
    subst (λ (s : Store). (ps : List Placed) (d : End) → IsStoreOf s ps d → IsStoreOf new ps d) c.self.view_is
    (still_holds (record { place = c.self.inside.place; cells = all_of c.self.inside.cells }) new c.args.place c.min-count.result c.max-self-inside.ensures
    (omega (arith, c.min-count.ensures, c.saturating_sub.ensures, c.len.ensures, c.len.ensures)) c.let_go.ensures)

pub returns-clause-few : goal.returns-clause-few
returns-clause-few c =
    subst (λ (s : Store). length (all_of c.let_go.new.self) ≡ length s.cells - (c.args.place - s.place)) c.self.view_is
    (few_left (all_of c.self.inside.cells) (all_of c.let_go.new.self) (c.args.place - c.self.inside.place) c.min-count.result
    (omega (arith, c.min-count.ensures, c.saturating_sub.ensures, c.len.ensures, c.len.ensures)) c.let_go.ensures)
