use Rattle.std.proofs.Common.{◌≡◌, ◌++◌, take}
use Rattle.std.specs.List.{flat_map, AllByRecursion}
use Rattle.text_parts.proofs.writing.put_all.Given as goal

abbrev pub invariant-loop-item : goal.invariant-loop-item
invariant-loop-item g l = record {
  text : l.out.items ≡ l.fn.out.items ++ flat_map g.P.WritePart.text (take l.item-index l.items);
  valid : AllByRecursion g.P.WritePart.valid (take l.item-index l.items);
}
