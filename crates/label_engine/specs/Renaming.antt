-- Renamings: moves that make the same walks, and carry the same on them under other names.
use Rattle.std.specs.Prelude.{◌≡◌, ℕ, ◌+◌, nat_lt, if◌then◌else◌, List, length, map, slice_index_or}
use Rattle.std.specs.Option.{option_map}
use Rattle.label_core.specs.Resource.{Rules}
use Rattle.label_engine.specs.Front.{MoveRules}
use Rattle.label_engine.specs.Cut.{CutValue, CutStep}
use Rattle.label_engine.specs.declared.label.Label.{Label}

-- each value and each step has one name in the other moves, which extend and compare the names as these do the values
pub record IsRenaming {R S R' S' : Type 0} (rules : Rules R S) (moves : MoveRules R S) (rules' : Rules R' S') (moves' : MoveRules R' S') (value : R → R') (step : S → S') : Type 0 where
  pub calls : moves'.calls ≡ moves.calls
  pub begin : (call : ℕ) → moves'.begin call ≡ option_map value (moves.begin call)
  pub steps : (from to : ℕ) → moves'.step from to ≡ option_map step (moves.step from to)
  pub extended : (v : R) (s : S) → rules'.extended (value v) (step s) ≡ option_map value (rules.extended v s)
  pub leq : (v w : R) → rules'.leq (value v) (value w) ≡ rules.leq v w
  pub one_to_one : (v w : R) → value v ≡ value w → v ≡ w

-- the label with its state renamed
abbrev pub renamed : {R R' : Type 0} → (R → R') → Label R → Label R'
renamed value label = record { call = label.call; hops = label.hops; state = value label.state; parent = label.parent }

-- the critical calls under other names
abbrev pub carried : (ℕ → ℕ) → CutValue → CutValue
carried g v = record { a = v.a; b = record { a = map g v.b.a; b = v.b.b } }

abbrev pub stepped : (ℕ → ℕ) → CutStep → CutStep
stepped g s = record { a = s.a; b = record { a = option_map g s.b.a; b = s.b.b } }

-- the call at a place of the critical set, and numbers above all calls past its end
abbrev pub name_at : List ℕ → ℕ → ℕ
name_at critical k = if nat_lt k (length critical) then slice_index_or critical k 0 else 301 + k
