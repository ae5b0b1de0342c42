use Rattle.std.proofs.Common.{◌≡◌, ◌++◌, ℕ, List, length, ap, ◌∙◌, arith}
use Rattle.std.proofs.lemmas.Result.{on_ok_weaker}
use Rattle.capture_tcp.specs.Cells.{Kept}
use Rattle.capture_tcp.proofs.ConnectedPackets.{appended_length, appends}
use Rattle.capture_tcp.proofs.reassembly.append.Goals as goal

pub returns-clause-ok : goal.returns-clause-ok
returns-clause-ok c =
    let old : Kept = c.args.cells.now in
    let run : length c.run.result.now ≡ length old.octets = ap (λ (z : List ℕ). length z) c.run.ensures in
    on_ok_weaker c.append.result
    (λ is. appends old c.append.new.self c.args.octets.now c.args.base c.args.place c.min.result c.requires.0 c.requires.1
    (omega (arith, c.min.ensures, c.min-before.ensures, c.saturating_sub.ensures, c.saturating_sub-2.ensures, run))
    (is ∙ ap (λ (z : List ℕ). record { octets = old.octets ++ z; others = old.others }) c.split_at.ensures.back)) c.append.ensures.ok

pub returns-clause-few : goal.returns-clause-few
returns-clause-few c =
    let old : Kept = c.args.cells.now in
    let run : length c.run.result.now ≡ length old.octets = ap (λ (z : List ℕ). length z) c.run.ensures in
    on_ok_weaker c.append.result
    (λ is. appended_length old c.append.new.self c.args.octets.now c.args.base c.args.place c.min.result c.requires.0 c.requires.1
    (omega (arith, c.min.ensures, c.min-before.ensures, c.saturating_sub.ensures, c.saturating_sub-2.ensures, run))
    (is ∙ ap (λ (z : List ℕ). record { octets = old.octets ++ z; others = old.others }) c.split_at.ensures.back)) c.append.ensures.ok
