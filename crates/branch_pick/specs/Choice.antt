-- The arc to branch on.
use Rattle.std.specs.Prelude.{◌≡◌, ℕ, ◌≤◌, ◌&&◌, Bool, true, List, [], ◌∷◌, ◌==◌, if◌then◌else◌}
use Rattle.std.specs.Int.{abs_diff}
use Rattle.orienteering.specs.Region.{Region, is_undecided}
use Rattle.branch_pick.specs.declared.ArcShare.{ArcShare}

-- whether the entry is one of this arc
abbrev pub is_of : ℕ → ℕ → ArcShare → Bool
is_of i j share = (share.from == i) && (share.to == j)

-- the parts of an arc: those of its first entry, and 0 where it has none
abbrev pub parts_of : List ArcShare → ℕ → ℕ → ℕ
parts_of [] i j = 0
parts_of (share ∷ others) i j = if is_of i j share then share.parts else parts_of others i j

-- how far the parts of an arc are from half a tour
abbrev pub distance : List ArcShare → ℕ → ℕ → ℕ
distance shares i j = abs_diff (parts_of shares i j) 500000

-- the arc (i, j) at the distance d comes before the arc (k, l) at the distance e, or is that arc
pub record ComesFirst (d i j e k l : ℕ) : Type 0 where
  pub nearer : d ≤ e
  pub leaves_earlier : d ≡ e → i ≤ k
  pub enters_earlier : d ≡ e → i ≡ k → j ≤ l

-- the arc is undecided, and it comes before every other undecided arc
pub record IsChosen (r : Region) (shares : List ArcShare) (i j : ℕ) : Type 0 where
  pub undecided : is_undecided r i j ≡ true
  pub first : (k l : ℕ) → is_undecided r k l ≡ true → ComesFirst (distance shares i j) i j (distance shares k l) k l
