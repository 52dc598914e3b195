-- Walks joined at a call, and their travel.
use Rattle.std.proofs.Common.{◌≡◌, ℕ, ◌+◌, List, [], ◌∷◌, ◌++◌, ◌-◌, length, take, drop, take_all, length-drop, refl, ap, sym, ◌∙◌, append_assoc, add_assoc, add-zero, arith}
use Rattle.std.specs.Option.{option_and_then}
use Rattle.std.specs.declared.option.Option.{Option}
use Rattle.std.specs.declared.option.Option.TheVariants.{None, Some}
use Rattle.orienteering.specs.Instance.{Problem, site, end_place, travel, next_clock}
use Rattle.orienteering.specs.Tour.{stops, clock_along, travel_along, tour_time}
use Rattle.insert_heur.specs.Walk.{stepped, walked, time_of}
use Rattle.insert_heur.specs.declared.walk.Standing.{Standing}

-- where a tour begins
abbrev pub start_of : Problem → Standing
start_of p = record { place = 0; clock = (site p 0).opening; travelled = 0 }

abbrev pub travelled_at : Option Standing → Option ℕ
travelled_at o = option_and_then (λ s. Some s.travelled) o

and_then-and_then : {X Y Z : Type 0} (f : X → Option Y) (g : Y → Option Z) (o : Option X) →
    option_and_then g (option_and_then f o) ≡ option_and_then (λ x. option_and_then g (f x)) o
and_then-and_then f g None = refl
and_then-and_then f g (Some x) = refl

walked-append : (p : Problem) (s : Standing) (xs ys : List ℕ) →
    walked p s (xs ++ ys) ≡ option_and_then (λ t. walked p t ys) (walked p s xs)
walked-append p s [] ys = refl
walked-append p s (x ∷ xs) ys =
    elim (stepped p s x) as (λ (o : Option Standing). option_and_then (λ t. walked p t (xs ++ ys)) o
    ≡ option_and_then (λ t. walked p t ys) (option_and_then (λ t. walked p t xs) o)) [
      | None ↦ refl
      | Some t ↦ walked-append p t xs ys
    ]

-- a walk takes the travel along its places, and is late exactly where the clock is
walked_travel : (p : Problem) (s : Standing) (js : List ℕ) →
    travelled_at (walked p s js)
    ≡ option_and_then (λ d. Some (s.travelled + travel_along p s.place js)) (clock_along p s.clock s.place js)
walked_travel p s [] = ap Some (sym (add-zero s.travelled))
walked_travel p s (j ∷ js) =
    elim (next_clock p s.clock s.place j) as (λ (o : Option ℕ).
    travelled_at (option_and_then (λ t. walked p t js)
    (option_and_then (λ d. Some (record { place = j; clock = d; travelled = s.travelled + travel p s.place j })) o))
    ≡ option_and_then (λ d. Some (s.travelled + (travel p s.place j + travel_along p j js)))
    (option_and_then (λ d. clock_along p d j js) o)) [
      | None ↦ refl
      | Some d ↦
          walked_travel p (record { place = j; clock = d; travelled = s.travelled + travel p s.place j }) js
          ∙ ap (λ n. option_and_then (λ e. Some n) (clock_along p d j js))
          (add_assoc s.travelled (travel p s.place j) (travel_along p j js))
    ]

time_is_walked : (p : Problem) (tour : List ℕ) → time_of p tour ≡ travelled_at (walked p (start_of p) (stops p tour))
time_is_walked p tour =
    sym (walked_travel p (start_of p) (stops p tour)
    ∙ ap (λ n. option_and_then (λ d. Some n) (clock_along p (site p 0).opening 0 (stops p tour))) zero_first)
  where
    zero_first : 0 + travel_along p 0 (stops p tour) ≡ tour_time p tour
    zero_first = omega arith

-- the walk through the front, the call, the back and to the end
abbrev pub time_through : Problem → List ℕ → ℕ → List ℕ → Option ℕ
time_through p front call back =
    option_and_then
    (λ before. option_and_then
    (λ there. option_and_then (λ behind. travelled_at (stepped p behind (end_place p))) (walked p there back))
    (stepped p before call))
    (walked p (start_of p) front)

pub time_is_through : (p : Problem) (front : List ℕ) (call : ℕ) (back : List ℕ) →
    time_of p (front ++ call ∷ back) ≡ time_through p front call back
time_is_through p front call back =
    time_is_walked p (front ++ call ∷ back)
    ∙ ap (λ js. travelled_at (walked p (start_of p) js)) (append_assoc front (call ∷ back) (end_place p ∷ []))
    ∙ ap travelled_at (walked-append p (start_of p) front (call ∷ (back ++ end_place p ∷ [])))
    ∙ at_front (walked p (start_of p) front)
  where
    home : Standing → Option Standing
    home s = walked p s (end_place p ∷ [])

    at_end : (s : Standing) → travelled_at (home s) ≡ travelled_at (stepped p s (end_place p))
    at_end s = go (stepped p s (end_place p))
      where
        go : (o : Option Standing) → travelled_at (option_and_then (λ t. Some t) o) ≡ travelled_at o
        go None = refl
        go (Some t) = refl

    at_back : (s : Standing) → travelled_at (walked p s (back ++ end_place p ∷ []))
        ≡ option_and_then (λ behind. travelled_at (stepped p behind (end_place p))) (walked p s back)
    at_back s = ap travelled_at (walked-append p s back (end_place p ∷ [])) ∙ go (walked p s back)
      where
        go : (o : Option Standing) → travelled_at (option_and_then (λ t. home t) o)
            ≡ option_and_then (λ behind. travelled_at (stepped p behind (end_place p))) o
        go None = refl
        go (Some t) = at_end t

    at_call : (s : Standing) → travelled_at (walked p s (call ∷ (back ++ end_place p ∷ [])))
        ≡ option_and_then (λ there. option_and_then (λ behind. travelled_at (stepped p behind (end_place p))) (walked p there back)) (stepped p s call)
    at_call s = go (stepped p s call)
      where
        go : (o : Option Standing) → travelled_at (option_and_then (λ t. walked p t (back ++ end_place p ∷ [])) o)
            ≡ option_and_then (λ there. option_and_then (λ behind. travelled_at (stepped p behind (end_place p))) (walked p there back)) o
        go None = refl
        go (Some t) = at_back t

    at_front : (o : Option Standing) →
        travelled_at (option_and_then (λ t. walked p t (call ∷ (back ++ end_place p ∷ []))) o)
        ≡ option_and_then (λ before. option_and_then
        (λ there. option_and_then (λ behind. travelled_at (stepped p behind (end_place p))) (walked p there back))
        (stepped p before call)) o
    at_front None = refl
    at_front (Some t) = at_call t

-- where the walk is late, and where it ends
module _ (p : Problem) (front : List ℕ) (call : ℕ) (back : List ℕ) where
  pub late_before : walked p (start_of p) front ≡ None → time_of p (front ++ call ∷ back) ≡ None
  late_before e = time_is_through p front call back ∙ ap (λ (o : Option Standing). option_and_then
      (λ before. option_and_then
      (λ there. option_and_then (λ behind. travelled_at (stepped p behind (end_place p))) (walked p there back))
      (stepped p before call)) o) e

  after_front : (s : Standing) → walked p (start_of p) front ≡ Some s → time_of p (front ++ call ∷ back)
      ≡ option_and_then (λ there. option_and_then (λ behind. travelled_at (stepped p behind (end_place p))) (walked p there back)) (stepped p s call)
  after_front s e = time_is_through p front call back ∙ ap (λ (o : Option Standing). option_and_then
      (λ before. option_and_then
      (λ there. option_and_then (λ behind. travelled_at (stepped p behind (end_place p))) (walked p there back))
      (stepped p before call)) o) e

  pub late_there : (s : Standing) → walked p (start_of p) front ≡ Some s → stepped p s call ≡ None →
      time_of p (front ++ call ∷ back) ≡ None
  late_there s e f = after_front s e ∙ ap (λ (o : Option Standing).
      option_and_then (λ there. option_and_then (λ behind. travelled_at (stepped p behind (end_place p))) (walked p there back)) o) f

  after_call : (s t : Standing) → walked p (start_of p) front ≡ Some s → stepped p s call ≡ Some t →
      time_of p (front ++ call ∷ back) ≡ option_and_then (λ behind. travelled_at (stepped p behind (end_place p))) (walked p t back)
  after_call s t e f = after_front s e ∙ ap (λ (o : Option Standing).
      option_and_then (λ there. option_and_then (λ behind. travelled_at (stepped p behind (end_place p))) (walked p there back)) o) f

  pub late_behind : (s t : Standing) → walked p (start_of p) front ≡ Some s → stepped p s call ≡ Some t → walked p t back ≡ None →
      time_of p (front ++ call ∷ back) ≡ None
  late_behind s t e f g = after_call s t e f ∙ ap (λ (o : Option Standing). option_and_then (λ behind. travelled_at (stepped p behind (end_place p))) o) g

  pub at_home : (s t u : Standing) → walked p (start_of p) front ≡ Some s → stepped p s call ≡ Some t → walked p t back ≡ Some u →
      time_of p (front ++ call ∷ back) ≡ travelled_at (stepped p u (end_place p))
  at_home s t u e f g = after_call s t e f ∙ ap (λ (o : Option Standing). option_and_then (λ behind. travelled_at (stepped p behind (end_place p))) o) g

-- the rest of a list as a slice
pub rest_slice : (n : ℕ) (xs : List ℕ) → take (length xs - n) (drop n xs) ≡ drop n xs
rest_slice n xs = take_all (length xs - n) (drop n xs) (omega (arith, length-drop n xs))
