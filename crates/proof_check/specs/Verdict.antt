-- The verdict on a tree, as its boxes.
use Rattle.std.specs.Prelude.{◌≡◌, ℕ, List}
use Rattle.std.specs.declared.result.Result.{Result}
use Rattle.std.specs.declared.result.Result.TheVariants.{Ok, Err}
use Rattle.orienteering.specs.Instance.{Problem}
use Rattle.orienteering.specs.Tour.{IsPlan}
use Rattle.orienteering.specs.Frontier.{point_of}
use Rattle.orienteering.specs.Region.{Region}
use Rattle.orienteering.specs.RegionTests.{agrees}
use Rattle.orienteering.specs.Preorder.{Leaf}
use Rattle.orienteering.specs.Decision.{Branch}
use Rattle.orienteering.specs.Cover.{HasOneLeaf}
use Rattle.orienteering.specs.Certificate.{Certificate}
use Rattle.orienteering.specs.Decide.{read_certificate, region_rules, boxes_left}
use Rattle.orienteering.specs.declared.Box2.{Box2}
use Rattle.orienteering.specs.declared.Listed.{Listed}
use Rattle.orienteering.specs.declared.Node.{Node}
use Rattle.orienteering.specs.declared.CheckFail.{CheckFail}

-- the boxes that the tree leaves, or the first refusal
abbrev pub decide_boxes : Problem → ℕ → List Listed → List Node → Result (List Box2) CheckFail
decide_boxes p limit points nodes =
    elim (read_certificate p limit points nodes) [ Err fail ↦ Err fail | Ok leaves ↦ Ok (boxes_left p leaves) ]

-- each plan agrees with exactly one leaf of the certificate's tree, and that leaf accounts for it
abbrev pub CoversPlans : Problem → ℕ → Certificate → Type 0
CoversPlans p limit c =
    (leaves : List (Leaf (Branch Region) Node)) × (read_certificate p limit c.points c.nodes ≡ Ok leaves)
    × ((plan : List (List ℕ)) → IsPlan p plan →
    HasOneLeaf (region_rules p limit) c.points leaves (agrees p plan) (point_of p plan))
