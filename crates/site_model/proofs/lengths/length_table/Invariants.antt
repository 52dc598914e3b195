use Rattle.std.proofs.Common.{◌≡◌, ◌++◌, take, map}
use Rattle.std.specs.List.{flat_map}
use Rattle.orienteering.specs.Instance.{distance}
use Rattle.fixed_num.specs.Length.{scale_number}
use Rattle.site_model.specs.Table.{lengths_from}
use Rattle.site_model.proofs.lengths.length_table.Given as goal

abbrev pub invariant-loop-a : goal.invariant-loop-a
invariant-loop-a l = l.lengths.items ≡ flat_map (lengths_from (scale_number l.scale) l.places) (take l.a-index l.places)

abbrev pub invariant-loop-b : goal.invariant-loop-b
invariant-loop-b l = l.lengths.items ≡ l.initial.lengths.items ++ map (distance (scale_number l.scale) l.a) (take l.b-index l.places)
