-- The tight box that leaves are judged by.
use Rattle.std.specs.Prelude.{Bool, true, if◌then◌else◌}
use Rattle.std.specs.declared.option.Option.{Option}
use Rattle.std.specs.declared.option.Option.TheVariants.{None, Some}
use Rattle.orienteering.specs.Instance.{Problem}
use Rattle.orienteering.specs.Region.{Region, tight_box}
use Rattle.orienteering.specs.RegionTests.{is_empty_box}
use Rattle.orienteering.specs.declared.Box2.{Box2}

-- the tight box, none where it is empty
abbrev pub tight_of : Problem → Region → Option Box2
tight_of p r = if is_empty_box (tight_box p r) then None else Some (tight_box p r)

-- the test passes at the tight box, or there is none
abbrev pub passes : (Box2 → Bool) → Option Box2 → Bool
passes test tight = elim tight [ None ↦ true | Some b ↦ test b ]
