-- Lists of points whose profits and times rise.
use Rattle.std.proofs.Common.{List, arith}
use Rattle.std.proofs.lemmas.List.Sorted.{IsNonDecreasingBy-from_all_adjacent}
use Rattle.std.specs.List.Sorted.{IsNonDecreasingBy}
use Rattle.orienteering.specs.Frontier.{AllRise}
use Rattle.orienteering.specs.declared.Listed.{Listed}

pub profits_rise : (points : List Listed) → AllRise points → IsNonDecreasingBy (λ h. h.point.profit) points
profits_rise points r =
    IsNonDecreasingBy-from_all_adjacent (λ (h : Listed). h.point.profit) points
    (λ k d below. let up = r k d below in omega (arith, up.profit))

pub times_rise : (points : List Listed) → AllRise points → IsNonDecreasingBy (λ h. h.point.time) points
times_rise points r =
    IsNonDecreasingBy-from_all_adjacent (λ (h : Listed). h.point.time) points
    (λ k d below. let up = r k d below in omega (arith, up.time))
