-- What the checker answers of a node, against the rule of the definitions.
use Rattle.std.specs.Prelude.{◌≡◌, ℕ, Bool, true, List, [], ◌∷◌, ◌++◌, if◌then◌else◌}
use Rattle.std.specs.declared.result.Result.{Result}
use Rattle.std.specs.declared.result.Result.TheVariants.{Ok, Err}
use Rattle.orienteering.specs.Instance.{Problem}
use Rattle.orienteering.specs.Region.{Region, IsProper}
use Rattle.orienteering.specs.RegionRules.{RegionRules}
use Rattle.orienteering.specs.Decision.{Branch, part_of}
use Rattle.orienteering.specs.Decide.{region_rules, keep_open}
use Rattle.orienteering.specs.declared.Box2.{Box2}
use Rattle.orienteering.specs.declared.Node.{Node}
use Rattle.orienteering.specs.declared.NodeCause.{NodeCause}
use Rattle.orienteering.specs.declared.Listed.{Listed}
use Rattle.orienteering.specs.declared.Step.{Step}
use Rattle.orienteering.specs.declared.Step.TheVariants.{Refused, Ends, Child, Children}
use Rattle.orienteering.specs.declared.CheckFail.{CheckFail}
use Rattle.orienteering.specs.declared.CheckFail.TheVariants.{NodeRefused, TooManyLabels, Memory}
use Rattle.label_engine.specs.declared.label.ReplayFail.{ReplayFail}
use Rattle.label_engine.specs.declared.label.ReplayFail.TheVariants as replay
use Rattle.proof_check.specs.Waiting.{branch}
use Rattle.proof_check.specs.declared.judge.Judge.{Judge}
use Rattle.proof_check.specs.declared.judge.Spot.{Spot}
use Rattle.proof_check.specs.declared.judge.Judged.{Judged}
use Rattle.proof_check.specs.declared.judge.Judged.TheVariants.{Leaf, Below, Parts}

abbrev pub rules_of : Judge → RegionRules Region
rules_of judge = region_rules judge.inst.now judge.labels

abbrev pub points_of : Judge → List Listed
points_of judge = judge.points.now

abbrev pub branch_at : Spot → Branch Region
branch_at spot = branch spot.context.now spot.cuts.now spot.under_cut

-- the answer is what the rule says, or want of memory
abbrev pub Gives : Branch Region → Result Judged CheckFail → Step (Branch Region) CheckFail → Type 0
Gives b (Ok Leaf) step = step ≡ Ends
Gives b (Ok (Below cut)) step = step ≡ Child (branch b.region (b.cuts ++ cut ∷ []) true)
Gives b (Ok (Parts first second)) step = step ≡ Children (part_of b first) (part_of b second)
Gives b (Err Memory) step = Unit {0}
Gives b (Err fail) step = step ≡ Refused fail

-- a leaf where the test passes, refused for the cause elsewhere
abbrev pub ends_if : ℕ → Bool → NodeCause → Step (Branch Region) CheckFail
ends_if i test cause = if test then Ends else Refused (NodeRefused i cause)

-- the refusal of a cut that can't be replayed
abbrev pub refusal_of : ℕ → ReplayFail → CheckFail
refusal_of i replay.TooManyLabels = TooManyLabels i
refusal_of i replay.Memory = Memory

-- the parts of a split are regions of the instance
abbrev pub HasProperParts : Problem → Judged → Type 0
HasProperParts p Leaf = Unit {0}
HasProperParts p (Below cut) = Unit {0}
HasProperParts p (Parts first second) = IsProper p first × IsProper p second

-- the branches that wait behind a node, and the boxes that are kept behind it
abbrev pub branches_behind : Branch Region → Judged → List (Branch Region) → List (Branch Region)
branches_behind b Leaf rest = rest
branches_behind b (Below cut) rest = branch b.region (b.cuts ++ cut ∷ []) true ∷ rest
branches_behind b (Parts first second) rest = part_of b first ∷ part_of b second ∷ rest

abbrev pub boxes_behind : Problem → Branch Region → Node → Judged → List Box2 → List Box2
boxes_behind p b node Leaf boxes = keep_open p boxes (record { branch = b; node = node })
boxes_behind p b node (Below cut) boxes = boxes
boxes_behind p b node (Parts first second) boxes = boxes
