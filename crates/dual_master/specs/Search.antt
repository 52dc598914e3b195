-- What a search for prices may rely on: that its places are within its lists, and that its sums fit.
use Rattle.std.specs.Prelude.{◌≡◌, ℕ, ◌+◌, ◌*◌, ◌^◌, ◌≤◌, List, length, ℤ, All}
use Rattle.orienteering.specs.Limits.{most_calls}
use Rattle.price_bound.specs.Magnitude.{IsWithin}
use Rattle.dual_master.specs.declared.open_tours.OpenTours.{OpenTours}
use Rattle.dual_master.specs.declared.open_tours.Span.{Span}
use Rattle.dual_master.specs.declared.search.Search.{Search}

-- the most that a tour is worth at the greatest weight of profit, and so more than any price need be
abbrev pub most_worth : ℕ
most_worth = 3 * 10 ^ 16

-- the calls of a tour stand in a list of this size, and are no more than an instance has
pub record IsSpan (size : ℕ) (s : Span) : Type 0 where
  pub order : s.begin ≤ s.end
  pub ends : s.end ≤ size
  pub few : s.end ≤ s.begin + most_calls
  pub worth : IsWithin most_worth s.worth

-- tours through calls up to the last
pub record AreLaidOut (last : ℕ) (tours : OpenTours) : Type 0 where
  pub spans : All (IsSpan (length tours.calls.items)) tours.spans.items
  pub calls : All (λ call. call ≤ last) tours.calls.items

-- a price for each call, by its number
pub record AreSought (last : ℕ) (table : List ℤ) : Type 0 where
  pub few : last ≤ most_calls
  pub size : length table ≡ last + 1
  pub small : All (IsWithin most_worth) table

pub record IsSearch (last : ℕ) (s : Search) : Type 0 where
  pub prices : AreSought last s.prices.items
  pub trial : AreSought last s.trial.items
  pub visits : length s.visits.items ≡ last + 1
