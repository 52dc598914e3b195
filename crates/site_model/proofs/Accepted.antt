-- Nothing is refused of parts exactly where they keep every limit.
use Rattle.std.proofs.Common.{◌≡◌, ℕ, suc, ◌+◌, ◌-◌, ◌<◌, ◌≤◌, inl, inr, Bool, true, false, cond, List, [], ◌∷◌, length, get_or, Option, None, Some, refl, sym, ap, subst, arith, unsigned_abs}
use Rattle.std.specs.Prelude.{not, ◌&&◌, ◌||◌, nat_eq, nat_lt, nat_le}
use Rattle.std.specs.List.{All}
use Rattle.std.proofs.lemmas.Bool.{leb-true, le-leb, ltb-false}
use Rattle.std.proofs.lemmas.Bool.Decides.{nat_tests}
use Rattle.std.proofs.lemmas.List.Elements.{All-cons}
use Rattle.orienteering.specs.Instance.{Problem, site, nowhere, end_place}
use Rattle.orienteering.specs.Limits.{IsInstance, IsScale, IsPlaceWithinLimits, IsBare, most_coordinate, most_score, most_members, latest}
use Rattle.orienteering.specs.declared.Place.{Place}
use Rattle.fixed_num.specs.Length.{scale_number}
use Rattle.fixed_num.specs.declared.length.Scale.{Scale}
use Rattle.fixed_num.specs.declared.length.Scale.TheVariants.{One, Ten, Hundred, Thousand}
use Rattle.site_model.specs.Parts.{is_within_limits, is_bare, place_refusal, places_refusal, or_else, end_refusal, parts_refusal, InstancesAreAccepted}
use Rattle.site_model.specs.declared.parts.PartsRefusal.{PartsRefusal}
use Rattle.site_model.specs.declared.parts.PartsRefusal.TheVariants.{TooFew, TooMany, Team, Range, Window}

and_both : (s t : Bool) → (s && t) ≡ true → (s ≡ true) × (t ≡ true)
and_both true t h = (refl, h)
and_both false t h = absurd cc

both_and : (s t : Bool) → s ≡ true → t ≡ true → (s && t) ≡ true
both_and s t h k = rw (h, k) refl

none_both : (a b : Option PartsRefusal) → or_else a b ≡ None → (a ≡ None) × (b ≡ None)
none_both None b h = (refl, h)
none_both (Some a) b h = absurd cc

both_none : (a b : Option PartsRefusal) → a ≡ None → b ≡ None → or_else a b ≡ None
both_none a b h k = rw h k

passed : (t : Bool) (refusal : PartsRefusal) (rest : Option PartsRefusal) → cond t (Some refusal) rest ≡ None → (t ≡ false) × (rest ≡ None)
passed false refusal rest h = (refl, h)
passed true refusal rest h = absurd cc

passes : (t : Bool) (refusal : PartsRefusal) (rest : Option PartsRefusal) → t ≡ false → rest ≡ None → cond t (Some refusal) rest ≡ None
passes t refusal rest h k = rw h k

or_true : (t : Bool) → (t || true) ≡ true
or_true true = refl
or_true false = refl

or_false : (t : Bool) → (t || false) ≡ true → t ≡ true
or_false true h = refl
or_false false h = h

or_both : (s t : Bool) → (s || t) ≡ false → (s ≡ false) × (t ≡ false)
or_both false t h = (refl, h)
or_both true t h = absurd cc

le-ltb : (a b : ℕ) → b ≤ a → nat_lt a b ≡ false
le-ltb a b le = grind (arith, nat_tests)

eqb-true : (a b : ℕ) → nat_eq a b ≡ true → a ≡ b
eqb-true a b h = grind (arith, nat_tests)

eq-eqb : (a b : ℕ) → a ≡ b → nat_eq a b ≡ true
eq-eqb a b h = grind (arith, nat_tests)

not_zero : (a : ℕ) → nat_eq a 0 ≡ false → 1 ≤ a
not_zero a h = grind (arith, nat_tests)

is_member_number : (a : ℕ) → 1 ≤ a → a ≤ most_members → (nat_eq a 0 || nat_lt most_members a) ≡ false
is_member_number a low high = grind (arith, nat_tests)

-- ---- one place

six_and : (a b c d e f : Bool) → (a && b && c && d && e && f) ≡ true →
    (a ≡ true) × (b ≡ true) × (c ≡ true) × (d ≡ true) × (e ≡ true) × (f ≡ true)
six_and true true true true true true h = (refl, refl, refl, refl, refl, refl)
six_and true true true true true false h = absurd cc
six_and true true true true false f h = absurd cc
six_and true true true false e f h = absurd cc
six_and true true false d e f h = absurd cc
six_and true false c d e f h = absurd cc
six_and false b c d e f h = absurd cc

and_six : (a b c d e f : Bool) → a ≡ true → b ≡ true → c ≡ true → d ≡ true → e ≡ true → f ≡ true → (a && b && c && d && e && f) ≡ true
and_six a b c d e f p q r t u v = rw (p, q, r, t, u, v) refl

fields_within : (s : Place) → is_within_limits s ≡ true → s.opening ≤ s.closing → IsPlaceWithinLimits s
fields_within s h window =
    let all = six_and (nat_le (unsigned_abs s.x) most_coordinate) (nat_le (unsigned_abs s.y) most_coordinate) (nat_le s.score most_score) (nat_le s.service latest) (nat_le s.opening latest) (nat_le s.closing latest) h in
    record {
      x = leb-true (unsigned_abs s.x) most_coordinate all.0;
      y = leb-true (unsigned_abs s.y) most_coordinate all.1;
      score = leb-true s.score most_score all.2;
      service = leb-true s.service latest all.3;
      window = window;
      closing = leb-true s.closing latest all.5;
    }

within_fields : (s : Place) → IsPlaceWithinLimits s → is_within_limits s ≡ true
within_fields s is =
    let opening : s.opening ≤ latest = omega (arith, is.window, is.closing) in
    and_six (nat_le (unsigned_abs s.x) most_coordinate) (nat_le (unsigned_abs s.y) most_coordinate) (nat_le s.score most_score) (nat_le s.service latest) (nat_le s.opening latest) (nat_le s.closing latest)
    (le-leb _ _ is.x) (le-leb _ _ is.y) (le-leb _ _ is.score) (le-leb _ _ is.service) (le-leb _ _ opening) (le-leb _ _ is.closing)

bare_is : (s : Place) → is_bare s ≡ true → IsBare s
bare_is s h =
    let both = and_both (nat_eq s.score 0) (nat_eq s.service 0) h in
    record { score = eqb-true s.score 0 both.0; service = eqb-true s.service 0 both.1 }

is_bare_of : (s : Place) → IsBare s → is_bare s ≡ true
is_bare_of s b = both_and (nat_eq s.score 0) (nat_eq s.service 0) (eq-eqb s.score 0 b.score) (eq-eqb s.service 0 b.service)

-- an end is bare
record FitsPlace (is_end : Bool) (s : Place) : Type 0 where
  within : IsPlaceWithinLimits s
  bare : is_end ≡ true → IsBare s

not_refused : (w e b : Bool) → (not w || (e && not b)) ≡ false → (w ≡ true) × (e ≡ true → b ≡ true)
not_refused true true true h = (refl, λ t. refl)
not_refused true true false h = absurd cc
not_refused true false b h = (refl, λ t. absurd cc)
not_refused false e b h = absurd cc

is_not_refused : (w e b : Bool) → w ≡ true → (e ≡ true → b ≡ true) → (not w || (e && not b)) ≡ false
is_not_refused w true b h k = rw (h, k refl) refl
is_not_refused w false b h k = rw h refl

place_fits : (is_end : Bool) (number : ℕ) (s : Place) → place_refusal is_end number s ≡ None → FitsPlace is_end s
place_fits is_end number s h =
    let first = passed (not (is_within_limits s) || (is_end && not (is_bare s))) (Range number) (cond (nat_lt s.closing s.opening) (Some (Window number)) None) h in
    let second = passed (nat_lt s.closing s.opening) (Window number) None first.1 in
    let tests = not_refused (is_within_limits s) is_end (is_bare s) first.0 in
    record {
      within = fields_within s tests.0 (ltb-false s.closing s.opening second.0);
      bare = λ e. bare_is s (tests.1 e);
    }

fits_place : (is_end : Bool) (number : ℕ) (s : Place) → FitsPlace is_end s → place_refusal is_end number s ≡ None
fits_place is_end number s f =
    passes (not (is_within_limits s) || (is_end && not (is_bare s))) (Range number) (cond (nat_lt s.closing s.opening) (Some (Window number)) None)
    (is_not_refused (is_within_limits s) is_end (is_bare s) (within_fields s f.within) (λ e. is_bare_of s (f.bare e)))
    (passes (nat_lt s.closing s.opening) (Window number) None (le-ltb s.closing s.opening f.within.window) refl)

-- ---- all places, from this number on

last_behind : (s t : Place) (places : List Place) →
    get_or (s ∷ (t ∷ places)) (length (s ∷ (t ∷ places)) - 1) nowhere ≡ get_or (t ∷ places) (length (t ∷ places) - 1) nowhere
last_behind s t places =
    let outer : length (s ∷ (t ∷ places)) - 1 ≡ suc (length (t ∷ places) - 1) = omega arith in
    ap (λ n. get_or (s ∷ (t ∷ places)) n nowhere) outer

record FitsPlaces (number : ℕ) (places : List Place) : Type 0 where
  each : All IsPlaceWithinLimits places
  first : number ≡ 0 → 0 < length places → IsBare (get_or places 0 nowhere)
  last : 0 < length places → IsBare (get_or places (length places - 1) nowhere)

places_fit : (number : ℕ) (places : List Place) → places_refusal number places ≡ None → FitsPlaces number places
places_fit number [] h = record { each = λ k d lt. absurd (omega arith); first = λ e lt. absurd (omega arith); last = λ lt. absurd (omega arith) }
places_fit number (s ∷ []) h =
    let both = none_both (place_refusal (nat_eq number 0 || true) number s) None h in
    let here = place_fits (nat_eq number 0 || true) number s both.0 in
    let bare = here.bare (or_true (nat_eq number 0)) in
    record { each = All-cons IsPlaceWithinLimits s [] here.within (λ k d lt. absurd (omega arith)); first = λ e lt. bare; last = λ lt. bare }
places_fit number (s ∷ (t ∷ places)) h =
    let both = none_both (place_refusal (nat_eq number 0 || false) number s) (places_refusal (number + 1) (t ∷ places)) h in
    let here = place_fits (nat_eq number 0 || false) number s both.0 in
    let rest = places_fit (number + 1) (t ∷ places) both.1 in
    record {
      each = All-cons IsPlaceWithinLimits s (t ∷ places) here.within rest.each;
      first = λ e lt. here.bare (rw (eq-eqb number 0 e) refl);
      last = λ lt. subst IsBare (sym (last_behind s t places)) (rest.last (omega arith));
    }

fit_places : (number : ℕ) (places : List Place) → FitsPlaces number places → places_refusal number places ≡ None
fit_places number [] f = refl
fit_places number (s ∷ []) f =
    both_none (place_refusal (nat_eq number 0 || true) number s) None
    (fits_place (nat_eq number 0 || true) number s (record { within = f.each 0 nowhere (omega arith); bare = λ e. f.last (omega arith) })) refl
fit_places number (s ∷ (t ∷ places)) f =
    both_none (place_refusal (nat_eq number 0 || false) number s) (places_refusal (number + 1) (t ∷ places))
    (fits_place (nat_eq number 0 || false) number s (record { within = f.each 0 nowhere (omega arith); bare = λ e. f.first (eqb-true number 0 (or_false (nat_eq number 0) e)) (omega arith) }))
    (fit_places (number + 1) (t ∷ places) (record {
      each = λ k d lt. f.each (suc k) d (omega arith);
      first = λ e lt. absurd (omega arith);
      last = λ lt. subst IsBare (last_behind s t places) (f.last (omega arith));
    }))

-- ---- the whole

refused_none : (p : Problem) → IsScale p.scale → parts_refusal p ≡ None → IsInstance p
unfolding parts_refusal
refused_none p scale h =
    let few = passed (nat_lt (length p.sites) 2) TooFew _ h in
    let many = passed (nat_lt 302 (length p.sites)) TooMany _ few.1 in
    let team = passed (nat_eq p.team 0 || nat_lt most_members p.team) Team _ many.1 in
    let both = none_both (places_refusal 0 p.sites) (end_refusal p) team.1 in
    let window = passed (nat_lt (site p (length p.sites - 1)).closing (site p 0).opening) (Window (length p.sites - 1)) None both.1 in
    let fits = places_fit 0 p.sites both.0 in
    let some : 2 ≤ length p.sites = ltb-false (length p.sites) 2 few.0 in
    let end : end_place p ≡ length p.sites - 1 = omega arith in
    let members = or_both (nat_eq p.team 0) (nat_lt most_members p.team) team.0 in
    record {
      scale = scale;
      some_member = not_zero p.team members.0;
      few_members = ltb-false most_members p.team members.1;
      both_ends = some;
      few_calls = ltb-false 302 (length p.sites) many.0;
      places = fits.each;
      start = fits.first refl (omega arith);
      end = subst (λ n. IsBare (site p n)) (sym end) (fits.last (omega arith));
      window = subst (λ n. (site p 0).opening ≤ (site p n).closing) (sym end) (ltb-false (site p (length p.sites - 1)).closing (site p 0).opening window.0);
    }

instance_accepted : (p : Problem) → IsInstance p → parts_refusal p ≡ None
unfolding parts_refusal
instance_accepted p is =
    let end : end_place p ≡ length p.sites - 1 = omega (arith, is.both_ends) in
    passes (nat_lt (length p.sites) 2) TooFew _ (le-ltb (length p.sites) 2 is.both_ends)
    (passes (nat_lt 302 (length p.sites)) TooMany _ (le-ltb 302 (length p.sites) is.few_calls)
    (passes (nat_eq p.team 0 || nat_lt most_members p.team) Team _ (is_member_number p.team is.some_member is.few_members)
    (both_none (places_refusal 0 p.sites) (end_refusal p)
    (fit_places 0 p.sites (record {
      each = is.places;
      first = λ e lt. is.start;
      last = λ lt. subst (λ n. IsBare (site p n)) end is.end;
    }))
    (passes (nat_lt (site p (length p.sites - 1)).closing (site p 0).opening) (Window (length p.sites - 1)) None
    (le-ltb (site p (length p.sites - 1)).closing (site p 0).opening (subst (λ n. (site p 0).opening ≤ (site p n).closing) end is.window)) refl))))

pub instances_are_accepted : InstancesAreAccepted
instances_are_accepted p scale = (refused_none p scale, instance_accepted p)

pub known_scale : (s : Scale) → IsScale (scale_number s)
known_scale One = inl refl
known_scale Ten = inr (inl refl)
known_scale Hundred = inr (inr (inl refl))
known_scale Thousand = inr (inr (inr refl))
