-- The rules of the regions of a search.
use Rattle.orienteering.specs.Instance.{Problem}
use Rattle.orienteering.specs.Region.{Region, IsProper}
use Rattle.orienteering.specs.RegionRules.{RegionRules}
use Rattle.orienteering.specs.Decide.{region_rules}
use Rattle.sweep_solver.specs.declared.regions.Regions.{Regions}

abbrev pub problem_of : Regions → Problem
problem_of regions = regions.inst.now

abbrev pub rules_of : Regions → RegionRules Region
rules_of regions = region_rules regions.inst.now regions.labels

abbrev pub IsProperIn : Regions → Region → Type 0
IsProperIn regions r = IsProper regions.inst.now r
