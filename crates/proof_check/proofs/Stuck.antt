-- Two tests that say whether a region is stuck agree.
use Rattle.std.proofs.Common.{◌≡◌, Bool, true, false, refl, sym}
use Rattle.std.specs.Prelude.{IsTrue, ◌↔◌}
use Rattle.orienteering.specs.Instance.{Problem}
use Rattle.orienteering.specs.Region.{Region, IsProper, IsStuck}
use Rattle.orienteering.specs.RegionTests.{is_stuck}
use Rattle.orienteering.specs.declared.Reason.{Reason}
use Rattle.orienteering.proofs.RegionTests.{stuck_if_tested, tested_if_stuck}

same_tests : (a b : Bool) → (a ≡ true → b ≡ true) → (b ≡ true → a ≡ true) → a ≡ b
same_tests true b there back = sym (there refl)
same_tests false true there back = back refl
same_tests false false there back = refl

pub is_stuck-from : (p : Problem) (r : Region) → IsProper p r → (why : Reason) (tested : Bool) →
    (IsTrue tested ↔ IsStuck p r why) → tested ≡ is_stuck p r why
is_stuck-from p r proper why tested says =
    same_tests tested (is_stuck p r why)
    (λ h. tested_if_stuck p r proper why (says.0 h))
    (λ h. says.1 (stuck_if_tested p r why h))
