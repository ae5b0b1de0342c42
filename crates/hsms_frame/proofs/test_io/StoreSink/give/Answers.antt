use Rattle.std.proofs.Common.{◌≡◌, ◌≤◌, ◌+◌, ◌-◌, ◌++◌, ◌∙◌, ℕ, List, Some, take, drop, length, ap, ap₂, sym, arith}
use Rattle.std.proofs.lemmas.List.{length-take, length-drop, length-take-le}
use Rattle.hsms_frame.specs.TestIo.{StoreState}
use Rattle.hsms_frame.proofs.Suffixes.{front_of_written}
use Rattle.hsms_frame.proofs.Transfers.{after_written}
use Rattle.hsms_frame.proofs.test_io.StoreSink.give.Goals as goal

pub returns-clause-octets : goal.returns-clause-octets
returns-clause-octets c = λ octets known_input.
    let place = c.self.inside.place in
    let whole = c.deref_mut.result.now in
    let part = c.copy_front-count.new.into in
    let n = c.copy_front-count.result in
    let size : length whole ≡ c.self.inside.room.len = c.deref_mut.ensures.len in
    let fits : place ≤ length whole = omega (arith, c.self.invariant.0, size) in
    let room : n ≤ length part = omega (arith, c.copy_front-count.ensures.count, c.copy_front-count.auto.into) in
    let short : place + n ≤ c.self.inside.room.len = omega (arith, fits, size, room, c.copy_front-count.auto.into, length-take (length whole - place) (drop place whole), length-drop place whole) in
    let was : take place whole ≡ octets = ap (take place) c.deref_mut.ensures.value ∙ ap (λ (s : StoreState). s.written) c.self.view_is ∙ cc in
    let now = front_of_written (take place whole) part _ _ place n c.self.inside.room.len (length-take-le place whole fits) room short in
    ap Some (now ∙ ap₂ {A = List ℕ} {B = List ℕ} (λ x y. x ++ y) was c.copy_front-count.ensures.front)

pub returns-clause-room : goal.returns-clause-room
returns-clause-room c =
    let place = c.self.inside.place in
    let old = c.deref_mut.result.now in
    let n = c.copy_front-count.result in
    let size : length old ≡ c.self.inside.room.len = c.deref_mut.ensures.len in
    let room : n ≤ length (take (length old - place) (drop place old)) = omega (arith, c.copy_front-count.ensures.count) in
    let some : n ≤ length c.args.from.now = omega (arith, c.copy_front-count.ensures.count) in
    after_written place n c.self.inside.room.len old _ (take n c.args.from.now) _ (omega (arith, c.self.invariant.0, size)) (sym size)
    (length-take-le n c.args.from.now some)
    (omega (arith, room, length-take (length old - place) (drop place old), length-drop place old))
    c.copy_front-count.ensures.after
    ∙ ap (λ x. drop n (drop place x)) c.deref_mut.ensures.value
    ∙ ap (λ (s : StoreState). drop n s.room) c.self.view_is
