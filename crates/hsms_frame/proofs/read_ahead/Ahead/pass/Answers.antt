use Rattle.std.proofs.Common.{◌≡◌, ◌≤◌, ◌+◌, ◌-◌, ◌∙◌, length, drop, min, sym, ap, arith}
use Rattle.std.proofs.lemmas.List.{length-take}
use Rattle.hsms_frame.proofs.Suffixes.{slice_range_advance}
use Rattle.hsms_frame.proofs.read_ahead.Ahead.pass.Goals as goal

pub returns : goal.returns
returns c =
    let a = c.self.inside in
    let subsequent = drop a.place a.octets.items in
    let size : min (a.end - a.place) (length subsequent) ≡ length c.args.self.now =
    sym (length-take (a.end - a.place) subsequent) ∙ ap length c.self.view_is in
    let within : a.place + c.args.count ≤ a.end = omega (arith, c.requires, size, c.self.invariant.0) in
    slice_range_advance a.octets.items a.place a.end c.args.count within ∙ ap (drop c.args.count) c.self.view_is
