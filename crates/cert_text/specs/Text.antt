-- The one text of a certificate: lines that end with a line feed, words with one space between them, numbers in
-- decimal digits without a leading zero.
use Rattle.std.specs.Prelude.{ℕ, ◌<◌, ◌^◌, List, ◌++◌, length, decimal, codes, ℤ}
use Rattle.std.specs.Fmt.{signed_decimal}
use Rattle.std.specs.List.{flat_map}
use Rattle.text_parts.specs.Texts.{ended_number, counted_text, IsSigned64, AreItems}
use Rattle.orienteering.specs.declared.Listed.{Listed}
use Rattle.orienteering.specs.declared.Price.{Price}
use Rattle.orienteering.specs.declared.Reason.{Reason}
use Rattle.orienteering.specs.declared.Reason.TheVariants.{NoBox, Cycle, Late, Side, Many, Few}
use Rattle.orienteering.specs.declared.Node.{Node}
use Rattle.orienteering.specs.declared.Node.TheVariants.{Profit, Time, Count, Arc, Cut, Dominated, Cutoff, Stuck, Left}
use Rattle.orienteering.specs.Certificate.{Certificate}
use Rattle.cert_text.specs.declared.head.Version.{Version}
use Rattle.cert_text.specs.declared.head.Version.TheVariants.{One}

-- ---- points

abbrev pub call_text : ℕ → List ℕ
call_text call = codes " " ++ decimal call

-- calls up to the end of the line
abbrev pub calls_text : List ℕ → List ℕ
calls_text calls = flat_map call_text calls ++ codes "\n"

abbrev pub tour_text : List ℕ → List ℕ
tour_text calls = codes "tour " ++ (decimal (length calls) ++ calls_text calls)

-- profit, time and number of tours, and the tours
abbrev pub point_text : Listed → List ℕ
point_text listed =
    codes "point "
    ++ (ended_number (codes " ") listed.point.profit
    ++ (ended_number (codes " ") listed.point.time
    ++ (ended_number (codes "\n") (length listed.plan) ++ flat_map tour_text listed.plan)))

-- ---- nodes

abbrev pub reason_text : Reason → List ℕ
reason_text NoBox = codes "box\n"
reason_text Cycle = codes "cycle\n"
reason_text Late = codes "late\n"
reason_text Side = codes "side\n"
reason_text Many = codes "many\n"
reason_text Few = codes "few\n"

abbrev pub entry_text : ℕ × ℤ → List ℕ
entry_text entry = codes " " ++ (decimal entry.0 ++ (codes " " ++ signed_decimal entry.1))

-- both lists of a cut, behind their numbers of items
abbrev pub lists_text : List (ℕ × ℤ) → List ℕ → List ℕ
lists_text entries critical =
    ended_number (codes " ") (length entries)
    ++ (decimal (length critical) ++ (flat_map entry_text entries ++ calls_text critical))

abbrev pub cut_text : Price → List ℕ → List ℕ
cut_text price critical =
    ended_number (codes " ") price.alpha ++ (ended_number (codes " ") price.beta ++ lists_text price.pi critical)

abbrev pub node_text : Node → List ℕ
node_text (Profit v) = codes "profit " ++ ended_number (codes "\n") v
node_text (Time v) = codes "time " ++ ended_number (codes "\n") v
node_text (Count c) = codes "count " ++ ended_number (codes "\n") c
node_text (Arc i j) = codes "arc " ++ (ended_number (codes " ") i ++ ended_number (codes "\n") j)
node_text (Cut price critical) = codes "cut " ++ cut_text price critical
node_text Dominated = codes "dominated\n"
node_text (Cutoff k) = codes "cutoff " ++ ended_number (codes "\n") k
node_text (Stuck reason) = codes "stuck " ++ reason_text reason
node_text Left = codes "open\n"

-- ---- the whole text

abbrev pub version_line : Version → List ℕ
version_line One = codes "PARETO 1\n"

-- number of calls, members of the team, and scale
abbrev pub instance_line : ℕ → ℕ → ℕ → List ℕ
instance_line customers team scale =
    codes "instance "
    ++ (ended_number (codes " ") customers ++ (ended_number (codes " ") team ++ ended_number (codes "\n") scale))

abbrev pub cert_text : Certificate → List ℕ
cert_text c =
    version_line One
    ++ (instance_line c.customers c.team c.scale
    ++ (counted_text (codes "points ") point_text c.points
    ++ (counted_text (codes "nodes ") node_text c.nodes ++ codes "end\n")))

-- ---- what has a text: numbers of their types, lists that are shorter than 2^64

abbrev pub IsCall : ℕ → Type 0
IsCall call = call < 2 ^ 32

abbrev pub IsCalls : List ℕ → Type 0
IsCalls calls = AreItems IsCall calls

pub record IsListed (listed : Listed) : Type 0 where
  pub profit : listed.point.profit < 2 ^ 64
  pub time : listed.point.time < 2 ^ 64
  pub tours : AreItems IsCalls listed.plan

abbrev pub IsEntry : ℕ × ℤ → Type 0
IsEntry entry = IsCall entry.0 × IsSigned64 entry.1

pub record IsPrice (price : Price) : Type 0 where
  pub alpha : price.alpha < 2 ^ 32
  pub beta : price.beta < 2 ^ 32
  pub entries : AreItems IsEntry price.pi

abbrev pub IsNode : Node → Type 0
IsNode (Profit v) = v < 2 ^ 64
IsNode (Time v) = v < 2 ^ 64
IsNode (Count c) = c < 2 ^ 32
IsNode (Arc i j) = IsCall i × IsCall j
IsNode (Cut price critical) = IsPrice price × IsCalls critical
IsNode Dominated = Unit {0}
IsNode (Cutoff k) = k < 2 ^ 64
IsNode (Stuck reason) = Unit {0}
IsNode Left = Unit {0}

pub record IsCert (c : Certificate) : Type 0 where
  pub customers : c.customers < 2 ^ 64
  pub team : c.team < 2 ^ 64
  pub scale : c.scale < 2 ^ 64
  pub points : AreItems IsListed c.points
  pub nodes : AreItems IsNode c.nodes
