-- Walks that may come to a call again.
use Rattle.std.specs.Prelude.{ℕ, ◌≤◌, List, length, All}
use Rattle.std.specs.List.{AllByRecursion}
use Rattle.orienteering.specs.Instance.{IsCallAmong}

-- at most as many calls as there are, each of them among these
pub record IsWalkAmong (last : ℕ) (walk : List ℕ) : Type 0 where
  pub calls : AllByRecursion (IsCallAmong last) walk
  pub few : length walk ≤ last

-- the most walks that are told
abbrev pub most_walks : ℕ
most_walks = 40

pub record AreWalksAmong (last : ℕ) (walks : List (List ℕ)) : Type 0 where
  pub among : All (IsWalkAmong last) walks
  pub few : length walks ≤ most_walks
