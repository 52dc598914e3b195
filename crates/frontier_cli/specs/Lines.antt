-- The line of each refusal.
use Rattle.std.specs.Prelude.{ℕ, List, [], ◌∷◌, codes, decimal}
use Rattle.std.specs.List.{concat}
use Rattle.instance_files.specs.declared.values.FileCause.{FileCause}
use Rattle.instance_files.specs.declared.values.FileCause.TheVariants as file
use Rattle.text_parts.specs.declared.stop.TextCause.{TextCause}
use Rattle.text_parts.specs.declared.stop.TextCause.TheVariants.{End, Syntax}
use Rattle.orienteering.specs.declared.TourRefusal.{TourRefusal}
use Rattle.orienteering.specs.declared.TourRefusal.TheVariants.{Empty, UnknownCall, Repeat, Late}
use Rattle.orienteering.specs.declared.PlanRefusal.{PlanRefusal}
use Rattle.orienteering.specs.declared.PlanRefusal.TheVariants.{TooManyTours, Tour, Shared}
use Rattle.orienteering.specs.declared.PointWhy.{PointWhy}
use Rattle.orienteering.specs.declared.PointWhy.TheVariants.{Plan, WrongValue}
use Rattle.orienteering.specs.declared.PriceRefusal.{PriceRefusal}
use Rattle.orienteering.specs.declared.PriceRefusal.TheVariants as price
use Rattle.orienteering.specs.declared.NodeCause.{NodeCause}
use Rattle.orienteering.specs.declared.NodeCause.TheVariants as node
use Rattle.orienteering.specs.declared.CheckFail.{CheckFail}
use Rattle.orienteering.specs.declared.CheckFail.TheVariants as check

-- a line is the text of its parts, one after another
abbrev pub Parts : Type 0
Parts = List (List ℕ)

abbrev pub file_words : FileCause → List ℕ
file_words file.Head = codes "head\n"
file_words file.Fields = codes "fields\n"
file_words file.Number = codes "number\n"
file_words file.Score = codes "score\n"
file_words file.Window = codes "window\n"
file_words file.Team = codes "team\n"
file_words file.RowCount = codes "row count\n"
file_words file.TooMany = codes "too many\n"
file_words file.OutOfRange = codes "out of range\n"

abbrev pub instance_line : ℕ → FileCause → List ℕ
instance_line line why = concat (codes "instance: line " ∷ decimal line ∷ codes ": " ∷ file_words why ∷ [])

abbrev pub text_words : TextCause → List ℕ
text_words End = codes ": end\n"
text_words Syntax = codes ": syntax\n"

abbrev pub text_line : ℕ → TextCause → List ℕ
text_line at why = concat (codes "certificate: byte " ∷ decimal at ∷ text_words why ∷ [])

-- ---- points

abbrev pub tour_parts : TourRefusal → Parts
tour_parts Empty = codes "empty\n" ∷ []
tour_parts (UnknownCall call) = codes "call " ∷ decimal call ∷ codes " unknown\n" ∷ []
tour_parts (Repeat call) = codes "call " ∷ decimal call ∷ codes " repeated\n" ∷ []
tour_parts (Late place) = codes "place " ∷ decimal place ∷ codes " late\n" ∷ []

abbrev pub plan_parts : PlanRefusal → Parts
plan_parts TooManyTours = codes "too many tours\n" ∷ []
plan_parts (Tour tour why) = codes "tour " ∷ decimal tour ∷ codes ": " ∷ tour_parts why
plan_parts (Shared tour call) = codes "tour " ∷ decimal tour ∷ codes ": call " ∷ decimal call ∷ codes " shared\n" ∷ []

abbrev pub point_parts : PointWhy → Parts
point_parts (Plan why) = plan_parts why
point_parts WrongValue = codes "wrong value\n" ∷ []

abbrev pub point_line : ℕ → Parts → List ℕ
point_line k parts = concat (codes "certificate: point " ∷ decimal k ∷ codes ": " ∷ parts)

-- ---- nodes

abbrev pub price_parts : PriceRefusal → Parts
price_parts (price.UnknownCall k) = codes "price " ∷ decimal k ∷ codes " unknown call\n" ∷ []
price_parts (price.NotRising k) = codes "price " ∷ decimal k ∷ codes " not rising\n" ∷ []
price_parts (price.OutOfRange k) = codes "price " ∷ decimal k ∷ codes " out of range\n" ∷ []
price_parts (price.Negative k) = codes "price " ∷ decimal k ∷ codes " negative\n" ∷ []

abbrev pub node_parts : NodeCause → Parts
node_parts node.NoProgress = codes "no progress\n" ∷ []
node_parts node.CutUnderCut = codes "cut under cut\n" ∷ []
node_parts (node.Price why) = price_parts why
node_parts node.Critical = codes "critical set\n" ∷ []
node_parts node.NoSuchCut = codes "no such cut\n" ∷ []
node_parts node.NotAbove = codes "not above\n" ∷ []
node_parts node.NotDominated = codes "not dominated\n" ∷ []
node_parts node.NotStuck = codes "not stuck\n" ∷ []

abbrev pub node_line : ℕ → Parts → List ℕ
node_line index parts = concat (codes "certificate: node " ∷ decimal index ∷ codes ": " ∷ parts)

-- want of memory is no refusal
abbrev pub refusal_line : CheckFail → List ℕ
refusal_line check.OtherInstance = codes "certificate: other instance\n"
refusal_line (check.PointRefused k why) = point_line k (point_parts why)
refusal_line (check.NotRising k) = point_line k (codes "not rising\n" ∷ [])
refusal_line (check.NodeRefused index cause) = node_line index (node_parts cause)
refusal_line (check.Shape index) = node_line index (codes "shape\n" ∷ [])
refusal_line (check.TooManyLabels index) = node_line index (codes "too many labels\n" ∷ [])
refusal_line check.Memory = codes "out of memory\n"
