-- The limits of instances. No definition and no law needs them, but every sum of the program fits its type by them.
use Rattle.std.specs.Prelude.{◌≡◌, ℕ, ◌^◌, ◌≤◌, ◌⊎◌, length, unsigned_abs, All}
use Rattle.orienteering.specs.Instance.{Problem, site, end_place, travel}
use Rattle.orienteering.specs.declared.Place.{Place}

abbrev pub most_calls : ℕ
most_calls = 300

abbrev pub most_members : ℕ
most_members = 32

abbrev pub most_score : ℕ
most_score = 10 ^ 5

-- the greatest magnitude of a coordinate, in ten-thousandths
abbrev pub most_coordinate : ℕ
most_coordinate = 10 ^ 9

-- the latest time, and the longest service
abbrev pub latest : ℕ
latest = 10 ^ 8

pub record IsPlaceWithinLimits (s : Place) : Type 0 where
  pub x : unsigned_abs s.x ≤ most_coordinate
  pub y : unsigned_abs s.y ≤ most_coordinate
  pub score : s.score ≤ most_score
  pub service : s.service ≤ latest
  pub window : s.opening ≤ s.closing
  pub closing : s.closing ≤ latest

-- nothing is earned or done at the place
pub record IsBare (s : Place) : Type 0 where
  pub score : s.score ≡ 0
  pub service : s.service ≡ 0

abbrev pub IsScale : ℕ → Type 0
IsScale s = (s ≡ 1) ⊎ (s ≡ 10) ⊎ (s ≡ 100) ⊎ (s ≡ 1000)

pub record IsInstance (p : Problem) : Type 0 where
  pub scale : IsScale p.scale
  pub some_member : 1 ≤ p.team
  pub few_members : p.team ≤ most_members
  pub both_ends : 2 ≤ length p.sites
  pub few_calls : length p.sites ≤ 302
  pub places : All IsPlaceWithinLimits p.sites
  pub start : IsBare (site p 0)
  pub end : IsBare (site p (end_place p))
  pub window : (site p 0).opening ≤ (site p (end_place p)).closing

-- no two places of an instance are farther apart
abbrev pub longest_arc : ℕ
longest_arc = 282842712

abbrev pub LengthsAreShort : Type 0
LengthsAreShort = (p : Problem) (i j : ℕ) → IsInstance p → travel p i j ≤ longest_arc
