-- Rivals stand for all labels at a call: they beat exactly what these cover.
use Rattle.std.proofs.Common.{◌≡◌, ℕ, zero, suc, ◌+◌, ◌<◌, ◌≤◌, ⊎_elim, Bool, true, not, List, [], ◌∷◌, ◌++◌, length, map, get_or, Some, refl, sym, ap, ◌∙◌, subst, arith, length-append, length-set, set, Vec}
use Rattle.std.specs.List.{All, Contains, filter, list_any, slice_get}
use Rattle.std.specs.List.Sorted.{IsPermutation}
use Rattle.std.proofs.lemmas.Bool.{cases_Bool, cases_eq, cases_lt, not_from_false}
use Rattle.std.proofs.lemmas.List.{get_or_append_left, get_or_push, get_or-set_same, get_or-set_other}
use Rattle.std.proofs.lemmas.List.Elements.{All-append, All-contains, All-filter, All-map, All-weaker, Contains-get_or, Contains-append_cases, Contains-append_left, Contains-append_right}
use Rattle.std.proofs.lemmas.List.Folds.{Any-from_list_any, list_any-from_Any}
use Rattle.std.proofs.lemmas.List.Sorted.{All-permutation, list_any-IsPermutation}
use Rattle.label_core.specs.Resource.{Rules, Laws}
use Rattle.label_engine.specs.Settled.{state_of}
use Rattle.label_engine.specs.Offer.{label_covers, beats, is_outdone}
use Rattle.label_engine.specs.Rivals.{StandsFor, AreRivals, AreAllRivals, closed_rivals}
use Rattle.label_engine.specs.declared.label.Label.{Label}
use Rattle.label_engine.proofs.Covering.{cover_parts, cover_from}
use Rattle.label_engine.proofs.Kept.{same_bools, Contains-filter, Contains-map}

-- an element that passes
pub some_passes : {X : Type 0} (p : X → Bool) (xs : List X) (x : X) → Contains xs x → p x ≡ true → list_any p xs ≡ true
some_passes p xs x (k, within, is) e = list_any-from_Any p xs (k, x, within, is, e)

pub one_passes : {X : Type 0} (p : X → Bool) (xs : List X) → list_any p xs ≡ true → (x : X) × Contains xs x × (p x ≡ true)
one_passes p xs e = let a = Any-from_list_any p xs e in (a.1, (a.0, a.2, a.3), a.4)

pub some_at : {X : Type 0} (xs : List X) (k : ℕ) → k < length xs → (x : X) × (slice_get xs k ≡ Some x)
some_at [] k within = absurd (omega arith)
some_at (x ∷ xs) zero within = (x, refl)
some_at (x ∷ xs) (suc k) within = some_at xs k (omega arith)

module _ {R S : Type 0} (rules : Rules R S) where
  pub stands_longer : (labels more : List (Label R)) (call : ℕ) (rival : R) → StandsFor labels call rival → StandsFor (labels ++ more) call rival
  stands_longer labels more call rival s = record {
    label = s.label;
    held = Contains-append_left labels more s.label s.held;
    at = s.at;
    state = s.state;
  }

  -- more labels at other calls change no rivals
  pub rivals_longer : (labels more : List (Label R)) (call : ℕ) (rivals : List R) → AreRivals rules labels call rivals → All (λ label. label.call ≡ call → ⊥) more → AreRivals rules (labels ++ more) call rivals
  rivals_longer labels more call rivals r other = record {
    stand = All-weaker (StandsFor labels call) (StandsFor (labels ++ more) call) (stands_longer labels more call) rivals r.stand;
    beat = All-append (λ label. label.call ≡ call → list_any (beats rules label.state) rivals ≡ true) labels more r.beat
        (λ k d within at. absurd (other k d within at));
  }

  -- and fewer labels likewise
  pub rivals_shorter : (labels more : List (Label R)) (call : ℕ) (rivals : List R) → AreRivals rules (labels ++ more) call rivals → All (λ label. label.call ≡ call → ⊥) more → AreRivals rules labels call rivals
  rivals_shorter labels more call rivals r other = record {
    stand = All-weaker (StandsFor (labels ++ more) call) (StandsFor labels call)
        (λ rival s. record {
          label = s.label;
          held = ⊎_elim
              (λ here. here)
              (λ there. absurd (All-contains (λ label. label.call ≡ call → ⊥) more s.label other there s.at))
              (Contains-append_cases labels more s.label s.held);
          at = s.at;
          state = s.state;
        })
        rivals r.stand;
    beat = λ k d within at.
        let held = Contains-append_left labels more (get_or labels k d) (Contains-get_or labels k d within) in
        All-contains (λ label. label.call ≡ call → list_any (beats rules label.state) rivals ≡ true) (labels ++ more) (get_or labels k d) r.beat held at;
  }

  pub rivals_moved : (labels : List (Label R)) (call : ℕ) (rivals others : List R) → IsPermutation rivals others → AreRivals rules labels call rivals → AreRivals rules labels call others
  rivals_moved labels call rivals others same r = record {
    stand = All-permutation (StandsFor labels call) rivals others same r.stand;
    beat = λ k d within at. sym (list_any-IsPermutation (beats rules (get_or labels k d).state) rivals others same) ∙ r.beat k d within at;
  }

  -- the rivals of one call more, whose bucket comes behind the labels
  pub all_rivals_push : {A : Type 0} (labels bucket : List (Label R)) (rows : List (Vec R A)) (row : Vec R A) (call : ℕ) → length rows + 1 ≡ call → AreAllRivals rules labels rows → All (λ label. label.call ≡ call) bucket → AreRivals rules (labels ++ bucket) call row.items → AreAllRivals rules (labels ++ bucket) (rows ++ row ∷ [])
  all_rivals_push labels bucket rows row call count all at r = record {
    row = λ k d within.
        ⊎_elim
        (λ earlier.
        subst (λ v. AreRivals rules (labels ++ bucket) (k + 1) v.items) (sym (get_or_append_left rows (row ∷ []) d k earlier))
        (rivals_longer labels bucket (k + 1) (get_or rows k d).items (all.row k d earlier) (All-weaker (λ label. label.call ≡ call) (λ label. label.call ≡ k + 1 → ⊥) (λ label e f. omega arith) bucket at)))
        (λ last.
        let here : k ≡ length rows = omega (arith, length-append rows (row ∷ [])) in
        let is : get_or (rows ++ row ∷ []) k d ≡ row = get_or_push rows row d k (sym here) in
        let call_is : call ≡ k + 1 = omega arith in
        subst (λ v. AreRivals rules (labels ++ bucket) (k + 1) v.items) (sym is) (subst (λ n. AreRivals rules (labels ++ bucket) n row.items) call_is r))
        (cases_lt k (length rows));
  }

  -- the rivals of a call once more, whose bucket comes behind the labels
  pub all_rivals_set : {A : Type 0} (labels bucket : List (Label R)) (rows : List (Vec R A)) (i : ℕ) (row : Vec R A) → i < length rows → AreAllRivals rules labels rows → All (λ label. label.call ≡ i + 1) bucket → AreRivals rules (labels ++ bucket) (i + 1) row.items → AreAllRivals rules (labels ++ bucket) (set rows i row)
  all_rivals_set labels bucket rows i row in_rows all at r = record {
    row = λ k d within.
        let low : k < length rows = omega (arith, within, length-set rows i row) in
        ⊎_elim
        (λ same.
        let is : get_or (set rows i row) k d ≡ row = ap (λ n. get_or (set rows i row) n d) same ∙ get_or-set_same rows i row d in_rows in
        subst (λ v. AreRivals rules (labels ++ bucket) (k + 1) v.items) (sym is) (subst (λ n. AreRivals rules (labels ++ bucket) (n + 1) row.items) (sym same) r))
        (λ other.
        let is : get_or (set rows i row) k d ≡ get_or rows k d = get_or-set_other rows i k row d other in
        subst (λ v. AreRivals rules (labels ++ bucket) (k + 1) v.items) (sym is)
        (rivals_longer labels bucket (k + 1) (get_or rows k d).items (all.row k d low) (All-weaker (λ label. label.call ≡ i + 1) (λ label. label.call ≡ k + 1 → ⊥) (λ label e f. other (omega arith)) bucket at)))
        (cases_eq k i);
  }

  module _ {Fits : R → Type 0} {FitsStep : S → Type 0} (laws : Laws rules Fits FitsStep) where
    fits_rival : (labels : List (Label R)) (call : ℕ) (rival : R) → All (λ label. Fits label.state) labels → StandsFor labels call rival → Fits rival
    fits_rival labels call rival all_fit s = subst Fits s.state (All-contains (λ label. Fits label.state) labels s.label all_fit s.held)

    -- what beats a value beats all that it is at least as good as
    beats_more : (labels : List (Label R)) (call : ℕ) (rivals : List R) → All (λ label. Fits label.state) labels → All (StandsFor labels call) rivals → (v w : R) → Fits v → Fits w → rules.leq v w ≡ true → list_any (beats rules v) rivals ≡ true → list_any (beats rules w) rivals ≡ true
    beats_more labels call rivals all_fit stand v w f g le e =
        let one = one_passes (beats rules v) rivals e in
        let s = All-contains (StandsFor labels call) rivals one.0 stand one.1 in
        some_passes (beats rules w) rivals one.0 one.1
        (laws.transitive one.0 v w (fits_rival labels call one.0 all_fit s) f g one.2 le)

    -- a label at the call with no fewer hops than any is covered by one of the labels where a rival is at least as good
    pub rivals_cover : (labels : List (Label R)) (call : ℕ) (rivals : List R) (c : Label R) → All (λ label. Fits label.state) labels → All (λ label. label.hops ≤ c.hops) labels → AreRivals rules labels call rivals → c.call ≡ call → Fits c.state → list_any (λ k. label_covers rules k c) labels ≡ list_any (beats rules c.state) rivals
    rivals_cover labels call rivals c all_fit few r at fits =
        same_bools _ _
        (λ e.
        let one = one_passes (λ k. label_covers rules k c) labels e in
        let p = cover_parts rules (state_of one.0) (state_of c) one.2 in
        let known = All-contains (λ label. label.call ≡ call → list_any (beats rules label.state) rivals ≡ true) labels one.0 r.beat one.1 in
        beats_more labels call rivals all_fit r.stand one.0.state c.state (All-contains (λ label. Fits label.state) labels one.0 all_fit one.1) fits p.value (known (p.call ∙ at)))
        (λ e.
        let one = one_passes (beats rules c.state) rivals e in
        let s = All-contains (StandsFor labels call) rivals one.0 r.stand one.1 in
        let low : s.label.hops ≤ c.hops = All-contains (λ label. label.hops ≤ c.hops) labels s.label few s.held in
        some_passes (λ k. label_covers rules k c) labels s.label s.held
        (cover_from rules (state_of s.label) (state_of c)
        (record { call = s.at ∙ sym at; hops = low; value = ap (λ v. rules.leq v c.state) s.state ∙ one.2 })))

    module _ (labels bucket : List (Label R)) (call : ℕ) (rivals : List R) (all_fit : All (λ label. Fits label.state) labels) (bucket_fits : All (λ label. Fits label.state) bucket) (at : All (λ label. label.call ≡ call) bucket) (r : AreRivals rules labels call rivals) where
      abbrev spared : R → Bool
      spared rival = not (is_outdone rules bucket rival)

      abbrev states : List R
      states = map (λ (label : Label R). label.state) bucket

      -- what a label of the bucket is at least as good as is beaten
      new_beats : (label : Label R) (value : R) → Contains bucket label → rules.leq label.state value ≡ true → list_any (beats rules value) (closed_rivals rules bucket rivals) ≡ true
      new_beats label value held le =
          some_passes (beats rules value) (closed_rivals rules bucket rivals) label.state
          (Contains-append_right (filter spared rivals) states label.state (Contains-map (λ (l : Label R). l.state) bucket label held))
          le

      -- what an old rival beats stays beaten
      old_beaten : (value : R) → Fits value → list_any (beats rules value) rivals ≡ true → list_any (beats rules value) (closed_rivals rules bucket rivals) ≡ true
      old_beaten value fits e =
          let one = one_passes (beats rules value) rivals e in
          let s = All-contains (StandsFor labels call) rivals one.0 r.stand one.1 in
          ⊎_elim
          (λ out.
          let better = one_passes (λ (b : Label R). rules.leq b.state one.0) bucket out in
          let fits_better = All-contains (λ label. Fits label.state) bucket better.0 bucket_fits better.1 in
          new_beats better.0 value better.1 (laws.transitive better.0.state one.0 value fits_better (fits_rival labels call one.0 all_fit s) fits better.2 one.2))
          (λ not_out.
          some_passes (beats rules value) (closed_rivals rules bucket rivals) one.0
          (Contains-append_left (filter spared rivals) states one.0 (Contains-filter spared rivals one.0 (not_from_false _ not_out) one.1))
          one.2)
          (cases_Bool (is_outdone rules bucket one.0))

      pub rivals_closed : AreRivals rules (labels ++ bucket) call (closed_rivals rules bucket rivals)
      rivals_closed = record {
        stand = All-append (StandsFor (labels ++ bucket) call) (filter spared rivals) states
            (All-weaker (StandsFor labels call) (StandsFor (labels ++ bucket) call) (stands_longer labels bucket call) (filter spared rivals) (All-filter spared (StandsFor labels call) rivals r.stand))
            (All-map (StandsFor (labels ++ bucket) call) (λ (label : Label R). label.state) bucket
            (λ k d within. record {
              label = get_or bucket k d;
              held = Contains-append_right labels bucket (get_or bucket k d) (Contains-get_or bucket k d within);
              at = at k d within;
              state = refl;
            }));
        beat = All-append (λ label. label.call ≡ call → list_any (beats rules label.state) (closed_rivals rules bucket rivals) ≡ true) labels bucket
            (λ k d within here. old_beaten (get_or labels k d).state (all_fit k d within) (r.beat k d within here))
            (λ k d within here. new_beats (get_or bucket k d) (get_or bucket k d).state (Contains-get_or bucket k d within) (laws.reflexive (get_or bucket k d).state (bucket_fits k d within)));
      }
