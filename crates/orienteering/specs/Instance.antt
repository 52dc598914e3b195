-- An instance of team orienteering, as plain lists and whole numbers. Place 0 is the start, the places 1 to n are
-- the calls, and place n + 1 is the end.
use Rattle.std.specs.Prelude.{ℕ, zero, suc, ◌+◌, ◌-◌, ◌*◌, ◌/◌, ◌^◌, ◌≡◌, ◌↔◌, ◌≤◌, max, Bool, not, ◌&&◌, ◌-ℤ◌, List, length, slice_index_or, unsigned_abs, nat_eq, nat_le, if◌then◌else◌}
use Rattle.std.specs.List.{range_with_len}
use Rattle.std.specs.declared.option.Option.{Option}
use Rattle.std.specs.declared.option.Option.TheVariants.{None, Some}
use Rattle.std.specs.Prelude.{pos}
use Rattle.orienteering.specs.declared.Place.{Place}

-- the scale of the lengths, the number of members, and the places: the start, the calls, the end
pub record Problem : Type 0 where
  pub scale : ℕ
  pub team : ℕ
  pub sites : List Place

abbrev pub nowhere : Place
nowhere = record { x = pos 0; y = pos 0; score = 0; service = 0; opening = 0; closing = 0 }

abbrev pub site : Problem → ℕ → Place
site p i = slice_index_or p.sites i nowhere

-- how many calls there are, and the place of the end
abbrev pub calls : Problem → ℕ
calls p = length p.sites - 2

abbrev pub end_place : Problem → ℕ
end_place p = calls p + 1

-- a call, where there are n of them
abbrev pub IsCallAmong : ℕ → ℕ → Type 0
IsCallAmong n i = (1 ≤ i) × (i ≤ n)

abbrev pub IsCall : Problem → ℕ → Type 0
IsCall p i = IsCallAmong (calls p) i

-- an arc leads from the start or a call to another place that is a call or the end, but not from the start to the end
pub record IsArc (n i j : ℕ) : Type 0 where
  pub from : i ≤ n
  pub low : 1 ≤ j
  pub high : j ≤ n + 1
  pub differ : (i ≡ j → ⊥)
  pub some_call : (i ≡ 0 → j ≡ n + 1 → ⊥)

-- the same as tests, and as ranges: the places that an arc may leave, those that it may enter, and the calls
abbrev pub origins : ℕ → List ℕ
origins n = range_with_len 0 (n + 1)

abbrev pub targets : ℕ → List ℕ
targets n = range_with_len 1 (n + 1)

abbrev pub all_calls : ℕ → List ℕ
all_calls n = range_with_len 1 n

abbrev pub is_call : ℕ → ℕ → Bool
is_call n i = nat_le 1 i && nat_le i n

abbrev pub is_arc : ℕ → ℕ → ℕ → Bool
is_arc n i j = nat_le i n && nat_le 1 j && nat_le j (n + 1) && not (nat_eq i j) && not (nat_eq i 0 && nat_eq j (n + 1))

-- the greatest number up to the bound at which the test passes, and 0 where there is none
unfoldable pub greatest_passing : (ℕ → Bool) → ℕ → ℕ
greatest_passing test zero = 0
greatest_passing test (suc k) = if test (suc k) then suc k else greatest_passing test k

-- a length of t fits into the distance: (t * 10^4)^2 <= scale^2 * (dx^2 + dy^2)
abbrev pub fits_distance : ℕ → ℕ → ℕ → ℕ → Bool
fits_distance scale dx dy t = nat_le ((t * 10 ^ 4) ^ 2) (scale ^ 2 * (dx ^ 2 + dy ^ 2))

-- the greatest whole length that fits; none that fits is above the bound of the search (`laws_of_lengths`)
unfoldable pub scaled_length : ℕ → ℕ → ℕ → ℕ
scaled_length scale dx dy = greatest_passing (fits_distance scale dx dy) (scale * (dx + dy) / 10 ^ 4)

-- the length between two places, at a scale
unfoldable pub distance : ℕ → Place → Place → ℕ
distance scale a b = scaled_length scale (unsigned_abs (a.x -ℤ b.x)) (unsigned_abs (a.y -ℤ b.y))

-- the length between two places of an instance
unfoldable pub travel : Problem → ℕ → ℕ → ℕ
travel p i j = distance p.scale (site p i) (site p j)

-- the clock at j for a member who is at i with the clock c, and none where the step is late
abbrev pub next_clock : Problem → ℕ → ℕ → ℕ → Option ℕ
next_clock p c i j =
    let arrival = max (c + (site p i).service + travel p i j) (site p j).opening in
    if nat_le arrival (site p j).closing then Some arrival else None

-- the length fits, and every length that fits is at most this one
pub record IsGreatestLength (scale dx dy t : ℕ) : Type 0 where
  pub fits : (t * 10 ^ 4) ^ 2 ≤ scale ^ 2 * (dx ^ 2 + dy ^ 2)
  pub greatest : (u : ℕ) → (u * 10 ^ 4) ^ 2 ≤ scale ^ 2 * (dx ^ 2 + dy ^ 2) → u ≤ t

-- exactly the scaled length is greatest
abbrev pub LengthsAreGreatest : Type 0
LengthsAreGreatest = (scale dx dy t : ℕ) → t ≡ scaled_length scale dx dy ↔ IsGreatestLength scale dx dy t
