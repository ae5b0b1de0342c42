use Rattle.std.proofs.Common.{◌≡◌, ◌∙◌, subst, inl, inr, length, arith}
use Rattle.std.specs.Prelude.{Option}
use Rattle.std.proofs.lemmas.Bool.Decides.{nat_tests}
use Rattle.hsms_compare.specs.declared.contradiction.Contradiction.{Contradiction}
use Rattle.hsms_compare.specs.Agreement.{FirstContradiction}
use Rattle.hsms_compare.proofs.Connected.{after_more, all_consumed, is_first_in, one_consumed}
use Rattle.hsms_compare.proofs.connections.LogContradiction.first.Goals as goal

pub loop-host_left-preserved : goal.loop-host_left-preserved
loop-host_left-preserved c = record {
  gone = one_consumed c.args.host.now c.args.equipment.now c.loop-host_left.host_left.now c.loop-host_left.equipment_left.now
      c.split_at.result.0.now c.split_at-in-loop-host_left.result.0.now c.split_at.result.1.now c.split_at-in-loop-host_left.result.1.now
      c.is_open_last.result c.is_open_last-in-loop-host_left.result c.loop-host_left.invariant.gone
      (record {
        part_so = c.split_at.ensures.front ∙ c.first_length.ensures.prefix;
        rest_so = c.split_at.ensures.back ∙ c.first_length.ensures.rest;
        open_so = c.is_open_last.ensures;
      })
      (record {
        part_so = c.split_at-in-loop-host_left.ensures.front ∙ c.first_length-in-loop-host_left.ensures.prefix;
        rest_so = c.split_at-in-loop-host_left.ensures.back ∙ c.first_length-in-loop-host_left.ensures.rest;
        open_so = c.is_open_last-in-loop-host_left.ensures;
      })
      (c.in_ok-found.ensures.agree.0 c.in_default.is);
  after_host = after_more c.args.host.now c.loop-host_left.host_left.now c.split_at.result.1.now c.first_length.result c.loop-host_left.invariant.after_host c.first_length.ensures.within c.split_at.ensures.back;
  after_equipment = after_more c.args.equipment.now c.loop-host_left.equipment_left.now c.split_at-in-loop-host_left.result.1.now c.first_length-in-loop-host_left.result c.loop-host_left.invariant.after_equipment c.first_length-in-loop-host_left.ensures.within c.split_at-in-loop-host_left.ensures.back;
}

pub returns-in-Some : goal.returns-in-Some
returns-in-Some c =
    let P : Option Contradiction → Type 0 = λ x.
    FirstContradiction c.is_open_last.result c.is_open_last-in-loop-host_left.result c.split_at.result.0.now c.split_at-in-loop-host_left.result.0.now x in
    is_first_in c.args.host.now c.args.equipment.now c.loop-host_left.host_left.now c.loop-host_left.equipment_left.now
    c.split_at.result.0.now c.split_at-in-loop-host_left.result.0.now c.split_at.result.1.now c.split_at-in-loop-host_left.result.1.now
    c.is_open_last.result c.is_open_last-in-loop-host_left.result c.in-Some.contradiction c.loop-host_left.invariant.gone
    c.loop-host_left.invariant.after_host c.loop-host_left.invariant.after_equipment
    (record {
      part_so = c.split_at.ensures.front ∙ c.first_length.ensures.prefix;
      rest_so = c.split_at.ensures.back ∙ c.first_length.ensures.rest;
      open_so = c.is_open_last.ensures;
    })
    (record {
      part_so = c.split_at-in-loop-host_left.ensures.front ∙ c.first_length-in-loop-host_left.ensures.prefix;
      rest_so = c.split_at-in-loop-host_left.ensures.back ∙ c.first_length-in-loop-host_left.ensures.rest;
      open_so = c.is_open_last-in-loop-host_left.ensures;
    })
    (subst P c.in-Some.is c.in_ok-found.ensures.answer)

pub returns-else-not-is_empty : goal.returns-else-not-is_empty
returns-else-not-is_empty c =
    let host_left = c.loop-host_left.host_left.now in
    let equipment_left = c.loop-host_left.equipment_left.now in
    let a = c.is_empty-in-loop-host_left.ensures in
    let b = c.if-not-is_empty.false in
    let none : length equipment_left ≡ 0 = grind (arith, nat_tests) in
    all_consumed c.args.host.now c.args.equipment.now host_left equipment_left c.loop-host_left.invariant.gone (inr none)

pub returns-after-loop-host_left : goal.returns-after-loop-host_left
returns-after-loop-host_left c =
    let host_left = c.loop-host_left.host_left.now in
    let equipment_left = c.loop-host_left.equipment_left.now in
    let a = c.is_empty.ensures in
    let b = c.loop-host_left-test.false in
    let none : length host_left ≡ 0 = grind (arith, nat_tests) in
    all_consumed c.args.host.now c.args.equipment.now host_left equipment_left c.loop-host_left.invariant.gone (inl none)
