-- Reading a certificate from left to right.
use Rattle.std.specs.Prelude.{ℕ, List, [], ◌∷◌, length, codes, Result, Ok, Err, ℤ, ◌==◌, if◌then◌else◌}
use Rattle.orienteering.specs.declared.Listed.{Listed}
use Rattle.orienteering.specs.declared.Reason.{Reason}
use Rattle.orienteering.specs.declared.Reason.TheVariants.{NoBox, Cycle, Late, Side, Many, Few}
use Rattle.orienteering.specs.declared.Node.{Node}
use Rattle.orienteering.specs.declared.Node.TheVariants as nodes
use Rattle.orienteering.specs.Certificate.{Certificate}
use Rattle.cert_text.specs.declared.head.Version.{Version}
use Rattle.cert_text.specs.declared.head.Version.TheVariants.{One}
use Rattle.cert_text.specs.declared.head.Head.{Head}
use Rattle.cert_text.specs.declared.node.NodeKind.{NodeKind}
use Rattle.cert_text.specs.declared.node.NodeKind.TheVariants.{Profit, Time, Count, Arc, Cut, Dominated, Cutoff, Stuck, Open}
use Rattle.text_parts.specs.Reading.{◌>>=◌, word_at, number_at, signed_at, ended_number_at, one_of, list_at, counted_at, mapped, U32, U64}
use Rattle.cert_text.specs.Text.{reason_text, version_line}

unfoldable pub call_at : List ℕ → Result (ℕ × List ℕ) ℕ
call_at bytes = do
  space ← word_at (codes " ") bytes
  number_at U32 space.1

unfoldable pub entry_at : List ℕ → Result ((ℕ × ℤ) × List ℕ) ℕ
entry_at bytes = do
  space ← word_at (codes " ") bytes
  call ← number_at U32 space.1
  second ← word_at (codes " ") call.1
  price ← signed_at second.1
  Ok ((call.0, price.0), price.1)

unfoldable pub tour_at : List ℕ → Result (List ℕ × List ℕ) ℕ
tour_at bytes = do
  word ← word_at (codes "tour ") bytes
  count ← number_at U64 word.1
  calls ← list_at count.0 call_at count.1
  end ← word_at (codes "\n") calls.1
  Ok (calls.0, end.1)

unfoldable pub point_at : List ℕ → Result (Listed × List ℕ) ℕ
point_at bytes = do
  word ← word_at (codes "point ") bytes
  profit ← ended_number_at U64 (codes " ") word.1
  time ← ended_number_at U64 (codes " ") profit.1
  count ← ended_number_at U64 (codes "\n") time.1
  tours ← list_at count.0 tour_at count.1
  Ok (record { point = record { profit = profit.0; time = time.0 }; plan = tours.0 }, tours.1)

abbrev pub all_reasons : List Reason
all_reasons = NoBox ∷ Cycle ∷ Late ∷ Side ∷ Many ∷ Few ∷ []

abbrev pub all_kinds : List NodeKind
all_kinds = Profit ∷ Time ∷ Count ∷ Arc ∷ Cut ∷ Dominated ∷ Cutoff ∷ Stuck ∷ Open ∷ []

-- what a node line begins with
abbrev pub kind_text : NodeKind → List ℕ
kind_text Profit = codes "profit "
kind_text Time = codes "time "
kind_text Count = codes "count "
kind_text Arc = codes "arc "
kind_text Cut = codes "cut "
kind_text Dominated = codes "dominated\n"
kind_text Cutoff = codes "cutoff "
kind_text Stuck = codes "stuck "
kind_text Open = codes "open\n"

unfoldable pub arc_at : List ℕ → Result (Node × List ℕ) ℕ
arc_at bytes = do
  i ← ended_number_at U32 (codes " ") bytes
  j ← ended_number_at U32 (codes "\n") i.1
  Ok (nodes.Arc i.0 j.0, j.1)

unfoldable pub cut_at : List ℕ → Result (Node × List ℕ) ℕ
cut_at bytes = do
  alpha ← ended_number_at U32 (codes " ") bytes
  beta ← ended_number_at U32 (codes " ") alpha.1
  prices ← ended_number_at U64 (codes " ") beta.1
  count ← number_at U64 prices.1
  entries ← list_at prices.0 entry_at count.1
  critical ← list_at count.0 call_at entries.1
  end ← word_at (codes "\n") critical.1
  Ok (nodes.Cut (record { alpha = alpha.0; beta = beta.0; pi = entries.0 }) critical.0, end.1)

-- what stands behind the word of a node line
unfoldable pub body_at : NodeKind → List ℕ → Result (Node × List ℕ) ℕ
body_at Profit bytes = mapped nodes.Profit (ended_number_at U64 (codes "\n")) bytes
body_at Time bytes = mapped nodes.Time (ended_number_at U64 (codes "\n")) bytes
body_at Count bytes = mapped nodes.Count (ended_number_at U32 (codes "\n")) bytes
body_at Arc bytes = arc_at bytes
body_at Cut bytes = cut_at bytes
body_at Dominated bytes = Ok (nodes.Dominated, bytes)
body_at Cutoff bytes = mapped nodes.Cutoff (ended_number_at U64 (codes "\n")) bytes
body_at Stuck bytes = mapped nodes.Stuck (one_of reason_text all_reasons) bytes
body_at Open bytes = Ok (nodes.Left, bytes)

unfoldable pub node_at : List ℕ → Result (Node × List ℕ) ℕ
node_at bytes = do
  kind ← one_of kind_text all_kinds bytes
  body_at kind.0 kind.1

abbrev pub all_versions : List Version
all_versions = One ∷ []

unfoldable pub head_at : List ℕ → Result (Head × List ℕ) ℕ
head_at bytes = do
  word ← word_at (codes "instance ") bytes
  customers ← ended_number_at U64 (codes " ") word.1
  team ← ended_number_at U64 (codes " ") customers.1
  scale ← ended_number_at U64 (codes "\n") team.1
  Ok (record { customers = customers.0; team = team.0; scale = scale.0 }, scale.1)

unfoldable pub cert_at : List ℕ → Result (Certificate × List ℕ) ℕ
cert_at bytes = do
  version ← one_of version_line all_versions bytes
  head ← head_at version.1
  points ← counted_at (codes "points ") point_at head.1
  nodes ← counted_at (codes "nodes ") node_at points.1
  end ← word_at (codes "end\n") nodes.1
  Ok (
    record { customers = head.0.customers; team = head.0.team; scale = head.0.scale; points = points.0; nodes = nodes.0 },
    end.1,
  )

-- all of the bytes
unfoldable pub whole_at : List ℕ → Result Certificate ℕ
whole_at bytes = do
  cert ← cert_at bytes
  if length cert.1 == 0 then Ok cert.0 else Err (length cert.1)
