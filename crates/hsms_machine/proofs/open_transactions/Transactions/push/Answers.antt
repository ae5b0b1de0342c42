use Rattle.std.proofs.Common.{◌≡◌, ◌+◌, ◌∙◌, ◌∷◌, [], false, length, length-append, ap, sym, subst, arith}
use Rattle.std.specs.Prelude.{Result, Ok, Err, OnOk, OnErr}
use Rattle.hsms_machine.specs.OpeningOrder.{AreUntil}
use Rattle.hsms_machine.specs.InnerOpeningOrder.{AreListed, uses}
use Rattle.hsms_machine.proofs.OtherEntries.{listed-push}
use Rattle.hsms_machine.proofs.open_transactions.Transactions.push.Goals as goal

either : {X E : Type 0} {P Q R : Type 0} (r : Result X E) → OnOk r P → OnErr r Q → (P → R) → (Q → R) → R
either (Ok x) p q f g = f p
either (Err e) p q f g = g q

pub invariant_of-self-2 : goal.invariant_of-self-2
invariant_of-self-2 c =
    let opened = c.args.transaction in
    let oldest = c.self.inside.oldest in
    let queue = c.self.inside.queue in
    let more = c.push.new.self in
    either c.push.result c.push.ensures.ok c.push.ensures.err
    (λ is.
    let size : length more ≡ length queue + 1 = ap length is ∙ length-append queue (opened ∷ []) in
    listed-push oldest queue more opened c.self.invariant is (omega (arith, size, c.if-len-ge-MOST.false, c.len-2.ensures.value))
    (subst (λ l. uses opened.header.system l ≡ false) (sym c.self.view_is) c.requires.fresh) (subst (AreUntil opened.time) (sym c.self.view_is) c.requires.later))
    (λ same. subst (AreListed oldest) (sym same) c.self.invariant)
