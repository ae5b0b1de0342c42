use Rattle.std.proofs.Common.{◌≡◌, ◌+◌, ◌++◌, ◌∷◌, [], ℕ, List, length, refl, ap, ◌∙◌, subst, arith, append_assoc, length-append}
use Rattle.hsms_log.specs.LineReader.{Reading, StateInvariant}
use Rattle.hsms_log.specs.declared.audit_state.LineChecker.{LineChecker}
use Rattle.hsms_log.proofs.AuditInvariants.{part_invariant, overlong_onward, parts_on, line_failed, rest_whole, rest_failed}
use Rattle.hsms_log.proofs.line_reader.LineReader.take.Goals as goal

pub loop-part-preserved : goal.loop-part-preserved
loop-part-preserved c =
    let inv = c.loop-part.invariant in
    let found = c.in-Some.ensures.found in
    let part = c.in-Some.part.now in
    let more = c.in-Some.more.now in
    let ended = rw c.in_default-2.is at c.in_ok-why.ensures in
    let lines = ended.0 in
    let size : length c.loop-part.rest.now ≡ length part + length (10 ∷ more) = ap length found.0 ∙ length-append part (10 ∷ more) in
    let P : List ℕ → Type 0 = λ l. StateInvariant c.end_line.new.self l in (
      inv.0 ++ (part ++ 10 ∷ []),
      parts_on c.args.octets.now inv.0 c.loop-part.rest.now part more inv.1 found.0,
      λ text h. subst P (append_assoc text inv.0 (part ++ 10 ∷ [])) (ended.1 (text ++ inv.0) (inv.2 text h)),
      omega (arith, inv.3, size, lines),
    )

pub returns-in-Some-2-clause-fails : goal.returns-in-Some-2-clause-fails
returns-in-Some-2-clause-fails c =
    let inv = c.loop-part.invariant in
    let found = c.in-Some.ensures.found in
    let ended = rw c.in-Some-2.is at c.in_ok-why.ensures in
    let lines = ap (λ (r : Reading). r.line_checker.tally.lines + 1) c.self.view_is ∙ ap (λ n. n + 1) ended.0 in
    λ text h. line_failed c.args.octets.now inv.0 c.loop-part.rest.now c.in-Some.part.now c.in-Some.more.now text _ _ c.in-Some-2.why c.failure.result
    inv.1 found.0 c.failure.ensures lines (ended.1 (text ++ inv.0) (inv.2 text h))

pub returns-in-Some-3-clause-fails : goal.returns-in-Some-3-clause-fails
returns-in-Some-3-clause-fails c =
    let inv = c.loop-part.invariant in
    let long = rw c.in-Some-3.is at c.in_ok-why-2.ensures.overlong in
    let rest = c.loop-part.rest.now in
    let lines = ap (λ (r : Reading). r.line_checker.tally.lines + 1) c.self-2.view_is ∙ ap (λ (j : LineChecker). j.tally.lines + 1) c.hold.ensures.line_checker in
    λ text h. rest_failed c.args.octets.now inv.0 rest text _ _ c.in-Some-3.why c.failure-in-Some-3.result inv.1 c.failure-in-Some-3.ensures lines
    (overlong_onward c.loop-part.self (text ++ inv.0) rest c.in-Some-3.why c.in_default.ensures.none long.0 long.1 (inv.2 text h))

pub returns-clause-consistent : goal.returns-clause-consistent
returns-clause-consistent c =
    let inv = c.loop-part.invariant in
    let rest = c.loop-part.rest.now in
    let held = rw c.in_default-3.is at c.in_ok-why-2.ensures.held in
    let can_continue = rw c.in_default-3.is at c.in_ok-why-2.ensures.can_continue in
    let P : List ℕ → Type 0 = λ l. StateInvariant c.hold.new.self l in
    λ e text h. subst P (rest_whole c.args.octets.now inv.0 rest text inv.1)
    (part_invariant c.loop-part.self c.hold.new.self (text ++ inv.0) rest c.in_default.ensures.none c.hold.ensures.line_checker (held refl) (can_continue refl) (inv.2 text h))

pub returns-in-Some-2-clause-failure : goal.returns-in-Some-2-clause-failure
returns-in-Some-2-clause-failure c = rw c.failure.ensures tt

pub returns-in-Some-3-clause-failure : goal.returns-in-Some-3-clause-failure
returns-in-Some-3-clause-failure c = rw c.failure-in-Some-3.ensures tt
