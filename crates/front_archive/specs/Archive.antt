-- The archive of the best points so far: what it holds after one plan more.
use Rattle.std.specs.Prelude.{◌≡◌, ◌↔◌, ◌⊎◌, ℕ, Bool, not, ◌&&◌, List, ◌∷◌, ◌++◌, nat_le, nat_lt}
use Rattle.std.specs.List.{AllByRecursion, Contains, filter}
use Rattle.orienteering.specs.Instance.{Problem}
use Rattle.orienteering.specs.Frontier.{point_of, Dominates, IsCovered, IsReached}
use Rattle.orienteering.specs.declared.Point.{Point}
use Rattle.orienteering.specs.declared.Listed.{Listed}

-- a plan with its point
abbrev pub listed : Problem → List (List ℕ) → Listed
listed p plan = record { point = point_of p plan; plan = plan }

abbrev pub is_weakly_dominated_by : Point → Point → Bool
is_weakly_dominated_by a b = nat_le b.profit a.profit && nat_le a.time b.time

-- the held entries that the new point doesn't weakly dominate
abbrev pub still_held : Listed → List Listed → List Listed
still_held entry held = filter (λ h. not (is_weakly_dominated_by entry.point h.point)) held

-- these, with the new entry in its place by profit
abbrev pub with_entry : Listed → List Listed → List Listed
with_entry entry held =
    filter (λ h. nat_lt h.point.profit entry.point.profit) (still_held entry held)
    ++ (entry ∷ filter (λ h. nat_lt entry.point.profit h.point.profit) (still_held entry held))

-- some entry has this point
abbrev pub HasPoint : List Listed → Point → Type 0
HasPoint held v = (h : Listed) × Contains held h × (h.point ≡ v)

-- the point is a held one or the new one, and none of these dominates it
pub record IsUndominated (held : List Listed) (new v : Point) : Type 0 where
  pub known : HasPoint held v ⊎ (v ≡ new)
  pub by_held : (h : Listed) → Contains held h → Dominates h.point v → ⊥
  pub by_new : Dominates new v → ⊥

-- what is held after a plan was taken or was found covered
pub record HoldsTheBest (p : Problem) (plan : List (List ℕ)) (held after : List Listed) : Type 0 where
  -- exactly the undominated points are held
  pub points : (v : Point) → HasPoint after v ↔ IsUndominated held (point_of p plan) v
  -- each entry was held before, or is the plan's
  pub entries : (h : Listed) → Contains after h → Contains held h ⊎ (h ≡ listed p plan)
  -- where each held plan reached its point, each still does
  pub reached : AllByRecursion (IsReached p) held → AllByRecursion (IsReached p) after
  -- what was covered still is, and so is the plan's point
  pub still_covered : (v : Point) → IsCovered v held → IsCovered v after
  pub now_covered : IsCovered (point_of p plan) after
