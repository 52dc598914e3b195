-- Shares of the tours that a master over corners has.
use Rattle.std.specs.Prelude.{ℕ, ◌≤◌, List}
use Rattle.std.specs.List.{Contains}
use Rattle.dual_master.specs.Shares.{Share, whole_tour}

-- a tour at one of these places, with at most a whole tour's parts
pub record IsShareAmong (places : List ℕ) (s : Share) : Type 0 where
  pub place : Contains places s.0
  pub parts : s.1 ≤ whole_tour
