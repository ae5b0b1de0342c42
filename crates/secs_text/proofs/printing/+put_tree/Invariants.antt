use Rattle.std.proofs.Common.{◌++◌, length, take}
use Rattle.secs_item.specs.InnerItem.{views}
use Rattle.secs_text.specs.InRange.{AllHeld}
use Rattle.secs_text.specs.InnerBlockOutput.{Puts, opening_of}
use Rattle.secs_text.specs.Printed.{printed_elements}
use Rattle.secs_item.specs.declared.format.Format.TheVariants.{List}
use Rattle.secs_text.proofs.printing.+put_tree.Given as goal

abbrev pub invariant-loop-element : goal.invariant-loop-element
invariant-loop-element g l = record {
  puts : Puts (g.O.Output.Given l.fn.out) l.fn.block l.fn.from (g.O.Output.Given l.out) l.block l.at
      (opening_of List (length l.element-items) ++ printed_elements (views (take l.element-index l.element-items)));
  held : AllHeld (views (take l.element-index l.element-items));
}
