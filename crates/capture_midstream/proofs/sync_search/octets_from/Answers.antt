use Rattle.std.proofs.Common.{◌∷◌, ◌+◌, [], List, ℕ, sym, ap, subst, length, length-append, arith, inl}
use Rattle.capture_midstream.proofs.Found.{GivesSoFar, gives_all, gives_more, gives_to_end}
use Rattle.capture_midstream.proofs.sync_search.octets_from.Goals as goal

pub returns-in_default-clause-octets : goal.returns-in_default-clause-octets
returns-in_default-clause-octets c =
    gives_all c.args.held.now c.args.upto c.args.place c.loop-at.at c.loop-at.octets.items c.cell.result c.octet_in.result
    (omega (arith, c.requires, c.loop-at.invariant.0)) c.cell.ensures c.octet_in.ensures c.in_default.is c.loop-at.invariant.3

pub loop-at-preserved : goal.loop-at-preserved
loop-at-preserved c =
    let P : List ℕ → Type 0 = λ xs. GivesSoFar c.args.held.now c.args.upto c.args.place xs (c.loop-at.at + 1) in (
      omega (arith, c.loop-at.invariant.0),
      omega (arith, c.loop-at.invariant.0, c.loop-at.invariant.1, ap length c.in_ok-push.ensures.items, length-append c.loop-at.octets.items (c.in-Some.octet ∷ [])),
      inl (omega (arith, c.loop-at-test.true)),
      subst P (sym c.in_ok-push.ensures.items)
          (gives_more c.args.held.now c.args.upto c.args.place c.loop-at.at c.in-Some.octet c.loop-at.octets.items c.cell.result c.octet_in.result
          (omega (arith, c.requires, c.loop-at.invariant.0)) (omega (arith, c.loop-at-test.true)) c.cell.ensures c.octet_in.ensures c.in-Some.is c.loop-at.invariant.3),
    )

pub returns-clause-octets : goal.returns-clause-octets
returns-clause-octets c =
    gives_to_end c.args.held.now c.args.upto c.args.place c.loop-at.at c.loop-at.octets.items (omega (arith, c.loop-at-test.false)) c.loop-at.invariant.3
