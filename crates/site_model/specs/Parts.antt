-- The parts of an instance, and what is refused among them.
use Rattle.std.specs.Prelude.{◌≡◌, ◌↔◌, ℕ, ◌+◌, ◌-◌, ◌&&◌, ◌||◌, Bool, true, false, not, List, [], ◌∷◌, length, unsigned_abs, nat_eq, nat_lt, nat_le, Option, None, Some, if◌then◌else◌}
use Rattle.fixed_num.specs.declared.length.Scale.{Scale}
use Rattle.fixed_num.specs.Length.{scale_number}
use Rattle.orienteering.specs.Instance.{Problem, site}
use Rattle.orienteering.specs.Limits.{most_coordinate, most_score, most_members, latest, IsInstance, IsScale}
use Rattle.orienteering.specs.declared.Place.{Place}
use Rattle.site_model.specs.declared.parts.Parts.{Parts}
use Rattle.site_model.specs.declared.parts.PartsRefusal.{PartsRefusal}
use Rattle.site_model.specs.declared.parts.PartsRefusal.TheVariants.{TooFew, TooMany, Team, Range, Window}

abbrev pub problem_at : Scale → ℕ → List Place → Problem
problem_at scale team places = record { scale = scale_number scale; team = team; sites = places }

-- the instance that the parts describe
abbrev pub problem_of : Parts → Problem
problem_of parts = problem_at parts.scale parts.team parts.places

-- each field by itself is within its limit
abbrev pub is_within_limits : Place → Bool
is_within_limits s =
    nat_le (unsigned_abs s.x) most_coordinate && nat_le (unsigned_abs s.y) most_coordinate && nat_le s.score most_score
    && nat_le s.service latest && nat_le s.opening latest && nat_le s.closing latest

abbrev pub is_bare : Place → Bool
is_bare s = nat_eq s.score 0 && nat_eq s.service 0

-- what is refused of the place with this number; an end is the start or the end
abbrev pub place_refusal : Bool → ℕ → Place → Option PartsRefusal
place_refusal is_end number s =
    if not (is_within_limits s) || (is_end && not (is_bare s)) then Some (Range number)
    else if nat_lt s.closing s.opening then Some (Window number)
    else None

abbrev pub is_nothing : {A : Type 0} → List A → Bool
is_nothing [] = true
is_nothing (x ∷ xs) = false

-- the first refusal, or that of the rest
abbrev pub or_else : Option PartsRefusal → Option PartsRefusal → Option PartsRefusal
or_else (Some refusal) others = Some refusal
or_else None others = others

-- the first that is refused of the places, counted from this number
abbrev pub places_refusal : ℕ → List Place → Option PartsRefusal
places_refusal number [] = None
places_refusal number (s ∷ places) =
    or_else (place_refusal (nat_eq number 0 || is_nothing places) number s) (places_refusal (number + 1) places)

-- the end closes before the start opens
abbrev pub end_refusal : Problem → Option PartsRefusal
end_refusal p =
    if nat_lt (site p (length p.sites - 1)).closing (site p 0).opening then Some (Window (length p.sites - 1)) else None

-- the first part that is refused
unfoldable pub parts_refusal : Problem → Option PartsRefusal
parts_refusal p =
    if nat_lt (length p.sites) 2 then Some TooFew
    else if nat_lt 302 (length p.sites) then Some TooMany
    else if nat_eq p.team 0 || nat_lt most_members p.team then Some Team
    else or_else (places_refusal 0 p.sites) (end_refusal p)

-- nothing is refused exactly where every limit is kept
abbrev pub InstancesAreAccepted : Type 0
InstancesAreAccepted = (p : Problem) → IsScale p.scale → parts_refusal p ≡ None ↔ IsInstance p
