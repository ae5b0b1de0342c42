use Rattle.std.proofs.Common.{◌-◌, ◌∙◌, ℕ, List, length, min, drop, ap, ◌≡◌, ◌+◌, refl}
use Rattle.capture_tcp.proofs.Differing.{copy_differs, copy_passed}
use Rattle.capture_tcp.proofs.reassembly.open_differ.Goals as goal

pub returns-then-ne : goal.returns-then-ne
returns-then-ne c =
    copy_differs c.args.cells.now c.args.base c.args.acknowledged c.args.place c.min-count.result c.min.result c.args.octets.now c.split_at.result.1.now c.split_at-2.result.0.now
    c.split_at-3.result.0.now c.requires.open (c.min.ensures ∙ ap (λ (z : List ℕ). min (c.args.place - c.args.base) (length z)) c.run-run.ensures)
    (c.split_at.ensures.back ∙ ap (drop c.min.result) c.run-run.ensures) c.min-count.ensures c.split_at-2.ensures.front c.split_at-3.ensures.front
    (let e = c.ne.ensures in let f = c.if-ne.true in cc)

pub returns : goal.returns
returns c =
    let next : c.args.place + c.min-count.result ≡ c.args.place + c.min-count.result = refl in
    c.others_differ.ensures
    ∙ copy_passed c.args.cells.now c.args.base c.args.acknowledged c.args.place c.min-count.result (c.args.place + c.min-count.result) c.min.result c.args.octets.now c.split_at.result.1.now
    c.split_at-2.result.0.now c.split_at-3.result.0.now c.split_at-3.result.1.now c.requires.open
    (c.min.ensures ∙ ap (λ (z : List ℕ). min (c.args.place - c.args.base) (length z)) c.run-run.ensures)
    (c.split_at.ensures.back ∙ ap (drop c.min.result) c.run-run.ensures) c.min-count.ensures c.split_at-2.ensures.front c.split_at-3.ensures.front c.split_at-3.ensures.back next
    (let e = c.ne.ensures in let f = c.if-ne.false in cc)
