use Rattle.std.proofs.Common.{◌≤◌, ◌<◌, List, ℕ, length, drop, sym, ap, ◌∙◌, subst, arith}
use Rattle.capture_midstream.specs.SyncPoint.{BeginsAtEnd}
use Rattle.capture_midstream.proofs.Found.{NoneSoFar, found, found_none, none_after, none_on}
use Rattle.capture_midstream.proofs.sync_search.find.Goals.{then-place-upto, else-place-upto}
use Rattle.capture_midstream.proofs.sync_search.find.Goals as goal

pub returns-then-index-len : goal.returns-then-index-len
returns-then-index-len c =
    let octets : List ℕ = c.in_ok-octets.octets.items in
    let index : ℕ = c.begins_at_end-index.result in
    let P : List ℕ → Type 0 = λ xs. BeginsAtEnd c.args.session xs 0 index in
    let begins : BeginsAtEnd c.args.session octets 0 index = subst P c.deref.ensures.value c.begins_at_end-index.ensures in
    let few = c.in_ok-octets.ensures.bound in
    let lt : index < length octets = omega (arith, c.if-index-len.true, c.len.ensures) in
    let on = none_on c.args.session c.args.held.now c.args.from c.args.upto c.loop-place.place index octets c.in_ok-octets.ensures.octets begins c.loop-place.invariant.2 in
    found c.args.session c.args.held.now c.args.from c.args.upto c.loop-place.place index octets c.split_at.result.1.now c.is_sure.result
    c.in_ok-octets.ensures.octets begins lt (c.split_at.ensures.back ∙ ap (λ xs. drop index xs) c.deref-then-index-len.ensures.value) c.is_sure.ensures
    c.loop-place.invariant.0 (omega (arith, few, lt, c.loop-place-test.true)) on

pub loop-place-preserved : goal.loop-place-preserved
loop-place-preserved c =
    let octets : List ℕ = c.in_ok-octets.octets.items in
    let index : ℕ = c.begins_at_end-index.result in
    let P : List ℕ → Type 0 = λ xs. BeginsAtEnd c.args.session xs 0 index in
    let Q : ℕ → Type 0 = λ n. NoneSoFar c.args.session c.args.held.now c.args.from c.args.upto n in
    let begins : BeginsAtEnd c.args.session octets 0 index = subst P c.deref.ensures.value c.begins_at_end-index.ensures in
    let few = c.in_ok-octets.ensures.bound in
    let ge : length octets ≤ index = omega (arith, c.if-index-len.false, c.len.ensures) in
    let le : index ≤ length octets = begins.within in
    let on = none_on c.args.session c.args.held.now c.args.from c.args.upto c.loop-place.place index octets c.in_ok-octets.ensures.octets begins c.loop-place.invariant.2 in
    elim c.if-place-upto.branch [
      | then-place-upto w ↦ (
        omega (arith, w.place-is, c.loop-place.invariant.0),
        omega (arith, w.place-is, w.if-place-upto.true),
        subst Q (sym w.place-is)
            (none_after c.args.session c.args.held.now c.args.from c.args.upto c.loop-place.place index octets c.in_ok-octets.ensures.octets ge le on),
      )
      | else-place-upto w ↦ (
        omega (arith, w.place-is, c.loop-place.invariant.0),
        omega (arith, w.place-is, few, le, c.loop-place-test.true),
        subst Q (sym w.place-is) on,
      )
    ]

pub returns : goal.returns
returns c =
    found_none c.args.session c.args.held.now c.args.from c.args.upto c.loop-place.place c.requires.order (omega (arith, c.loop-place-test.false)) c.loop-place.invariant.2
