-- The steps of the loops that make a layer.
use Rattle.std.proofs.Common.{◌≡◌, ℕ, ◌+◌, ◌<◌, ◌≤◌, ⊎_elim, true, List, [], ◌∷◌, ◌++◌, length, get_or, take, drop, Option, None, Some, refl, sym, ap, ◌∙◌, subst, arith, append_assoc, append-nil, length-append, length-take, get_or-take, ◌-◌}
use Rattle.std.specs.List.{All, AllPairs, Contains}
use Rattle.std.specs.Option.{MatchOption, option_to_list}
use Rattle.std.proofs.lemmas.Bool.{cases_lt, false_from_ne_true}
use Rattle.std.proofs.lemmas.List.{get_or_append_left, get_or-append_right, get_or-append-add, take_at, drop_at}
use Rattle.std.proofs.lemmas.List.Elements.{All-nil, All-cons, All-same, All-weaker, All-append, All-contains, All-push, Contains-get_or, Contains-push, Contains-append_left, Contains-append_cases, Contains-append_right}
use Rattle.std.proofs.lemmas.List.Quantifiers.{all_pairs_push}
use Rattle.std.proofs.lemmas.Option.{none-some, same_Some}
use Rattle.label_core.specs.Resource.{Rules, Laws}
use Rattle.label_engine.specs.Front.{MoveRules, State, IsCallOf, GivesFitting, begun, covers, IsFrontState, IsUncovered}
use Rattle.label_engine.specs.Settled.{Covered, state_of, IsExtended, HasMoreThan}
use Rattle.label_engine.specs.Offer.{labelled, begun_label, label_covers}
use Rattle.label_engine.specs.Layer.{Apart, IsLastLayer, IsReached, Whole, IsNew, IsNewAt, Growing, Tried, Bucket, NextLayer, FirstLayer}
use Rattle.label_engine.specs.Rivals.{StandsFor, AreRivals}
use Rattle.label_engine.specs.declared.label.Label.{Label}
use Rattle.label_engine.proofs.Covering.{mapped, move_parts, cover_parts, covers_reflexive}
use Rattle.label_engine.proofs.Fronts.{front_begun, front_end, front_within, bounded}
use Rattle.label_engine.proofs.Layers.{growing_none, grown_reached, reached_fits, covered_old, BeginningsCovered, begins_covered, longer_covered, tried_from, covering_grown, covering_next, uncovered_at, more_uncovered, whole_none, whole_next}
use Rattle.label_engine.proofs.Buckets.{found_cases, option_map-none}

-- pairs of a list with a layer and with a bucket, and of the layer with the bucket
pairs_joined : {X : Type 0} (P : X → X → Type 0) (old layer bucket : List X) → AllPairs P (old ++ layer) → AllPairs P (old ++ bucket) → ((a b : X) → Contains layer a → Contains bucket b → P a b) → AllPairs P ((old ++ layer) ++ bucket)
pairs_joined P old layer bucket first second cross i j d below within =
    let labels = old ++ layer in
    let long : length (labels ++ bucket) ≡ length labels + length bucket = length-append labels bucket in
    let long_old : length labels ≡ length old + length layer = length-append old layer in
    let long_new : length (old ++ bucket) ≡ length old + length bucket = length-append old bucket in
    ⊎_elim
    (λ j_in.
    let a = get_or_append_left labels bucket d i (omega arith) in
    let b = get_or_append_left labels bucket d j j_in in
    rw (a, b) (first i j d below j_in))
    (λ j_past.
    let n = j - length labels in
    let b : get_or (labels ++ bucket) j d ≡ get_or bucket n d = get_or-append_right labels bucket (length labels) j d refl j_past in
    let b_too : get_or (old ++ bucket) (length old + n) d ≡ get_or bucket n d = get_or-append-add old bucket n d in
    ⊎_elim
    (λ i_old.
    let a : get_or (labels ++ bucket) i d ≡ get_or old i d = get_or_append_left labels bucket d i (omega arith) ∙ get_or_append_left old layer d i i_old in
    let a_too : get_or (old ++ bucket) i d ≡ get_or old i d = get_or_append_left old bucket d i i_old in
    let p : P (get_or (old ++ bucket) i d) (get_or (old ++ bucket) (length old + n) d) = second i (length old + n) d (omega arith) (omega arith) in
    rw (a, b) (rw (a_too, b_too) at p))
    (λ i_past.
    ⊎_elim
    (λ i_layer.
    let m = i - length old in
    let a : get_or (labels ++ bucket) i d ≡ get_or layer m d = get_or_append_left labels bucket d i i_layer ∙ get_or-append_right old layer (length old) i d refl i_past in
    rw (a, b) (cross (get_or layer m d) (get_or bucket n d) (Contains-get_or layer m d (omega arith)) (Contains-get_or bucket n d (omega arith))))
    (λ i_bucket.
    let m = i - length labels in
    let a : get_or (labels ++ bucket) i d ≡ get_or bucket m d = get_or-append_right labels bucket (length labels) i d refl i_bucket in
    let a_too : get_or (old ++ bucket) (length old + m) d ≡ get_or bucket m d = get_or-append-add old bucket m d in
    let p : P (get_or (old ++ bucket) (length old + m) d) (get_or (old ++ bucket) (length old + n) d) = second (length old + m) (length old + n) d (omega arith) (omega arith) in
    rw (a, b) (rw (a_too, b_too) at p))
    (cases_lt i (length labels)))
    (cases_lt i (length old)))
    (cases_lt j (length labels))

module _ {R S : Type 0} (rules : Rules R S) (moves : MoveRules R S) where
  covered_in : (labels more : List (Label R)) (s : State R) → ((k : Label R) → Contains labels k → Contains more k) → Covered rules moves labels s → Covered rules moves more s
  covered_in labels more s held c = record { kept = c.kept; held = held c.kept c.held; covers = c.covers }

  -- labels at different calls are apart
  other_calls : (a b : Label R) → (a.call ≡ b.call → ⊥) → Apart (label_covers rules) a b
  other_calls a b differ = record {
    first = false_from_ne_true _ (λ e. differ (cover_parts rules (state_of a) (state_of b) e).call);
    second = false_from_ne_true _ (λ e. differ (sym (cover_parts rules (state_of b) (state_of a) e).call));
  }

  module _ {Fits : R → Type 0} {FitsStep : S → Type 0} (laws : Laws rules Fits FitsStep) (fitting : GivesFitting Fits FitsStep moves) where
    -- ---- the first layer

    pub first_none : FirstLayer rules moves Fits [] 1
    first_none = record {
      growing = growing_none rules moves 0 [] (whole_none rules moves laws fitting);
      below = All-nil (λ l. l.call < 1);
      tried = λ call low high. absurd (omega arith);
    }

    first_skipped : (labels : List (Label R)) (call : ℕ) → FirstLayer rules moves Fits labels call → begun_label rules moves call ≡ None → FirstLayer rules moves Fits labels (call + 1)
    first_skipped labels call first e = record {
      growing = first.growing;
      below = All-weaker (λ l. l.call < call) (λ l. l.call < call + 1) (λ l h. omega arith) labels first.below;
      tried = λ earlier low high. ⊎_elim
          (λ less. first.tried earlier low less)
          (λ most. record {
            covered = λ t f b.
                let same : earlier ≡ call = omega arith in
                let none : begun rules moves call ≡ None = option_map-none (labelled None) (begun rules moves call) e in
                absurd (none-some t (sym none ∙ ap (begun rules moves) (sym same) ∙ b));
          })
          (cases_lt earlier call);
    }

    -- the label of a beginning
    begun_is_new : (call : ℕ) (label : Label R) → IsCallOf moves call → begun_label rules moves call ≡ Some label → IsNewAt rules moves 0 [] call label × (begun rules moves call ≡ Some (state_of label))
    begun_is_new call label is_call e =
        let m = mapped (labelled None) (begun rules moves call) label e in
        let b = mapped _ (moves.begin call) m.value m.is in
        let state : m.value ≡ state_of label = ap state_of m.gives in
        let begins : begun rules moves call ≡ Some (state_of label) = m.is ∙ ap (λ s. Some s) state in
        let call_is : label.call ≡ call = sym (ap (λ s. s.call) (b.gives ∙ state)) in (
          record {
            new = record {
              front = front_begun rules moves call (state_of label) is_call begins;
              hops_is = sym (ap (λ s. s.hops) (b.gives ∙ state));
              parent = subst (λ p. MatchOption p (begun rules moves label.call ≡ Some (state_of label)) (IsExtended rules moves [] label)) (ap (λ l. l.parent) m.gives) (ap (begun rules moves) call_is ∙ begins);
            };
            at = call_is;
          },
          begins,
        )

    first_added : (labels : List (Label R)) (call : ℕ) (label : Label R) → FirstLayer rules moves Fits labels call → IsCallOf moves call → begun_label rules moves call ≡ Some label → FirstLayer rules moves Fits (labels ++ label ∷ []) (call + 1)
    first_added labels call label first is_call e =
        let new = begun_is_new call label is_call e in
        let growing = first.growing in
        let grown = growing.grown in
        record {
          growing = record {
            grown = record {
              layer = grown.layer ++ label ∷ [];
              joined = ap (λ l. l ++ label ∷ []) grown.joined;
              new = All-push (IsNew rules moves 0 []) grown.layer label grown.new new.0.new;
            };
            apart = all_pairs_push (Apart (label_covers rules)) labels label growing.apart (λ k d within. other_calls (get_or labels k d) label (λ same. omega (arith, first.below k d within, new.0.at)));
          };
          below = All-push (λ l. l.call < call + 1) labels label (All-weaker (λ l. l.call < call) (λ l. l.call < call + 1) (λ l h. omega arith) labels first.below) (omega (arith, new.0.at));
          tried = λ earlier low high. ⊎_elim
              (λ less. record { covered = λ t f b. covered_in labels (labels ++ label ∷ []) t (Contains-append_left labels (label ∷ [])) ((first.tried earlier low less).covered t f b) })
              (λ most. record {
                covered = λ t f b.
                    let same : earlier ≡ call = omega arith in
                    let state : state_of label ≡ t = same_Some _ _ (sym new.1 ∙ ap (begun rules moves) (sym same) ∙ b) in
                    record {
                      kept = label;
                      held = Contains-push labels label;
                      covers = subst (λ s. covers rules s t ≡ true) (sym state) (covers_reflexive rules laws t f);
                    };
              })
              (cases_lt earlier call);
        }

    pub first_step : (labels : List (Label R)) (call : ℕ) → FirstLayer rules moves Fits labels call → IsCallOf moves call → FirstLayer rules moves Fits (labels ++ option_to_list (begun_label rules moves call)) (call + 1)
    first_step labels call first is_call =
        let P : Option (Label R) → Type 0 = λ o. FirstLayer rules moves Fits (labels ++ option_to_list o) (call + 1) in
        ⊎_elim
        (λ none. subst P (sym none) (subst (λ l. FirstLayer rules moves Fits l (call + 1)) (sym (append-nil labels)) (first_skipped labels call first none)))
        (λ some. subst P (sym some.1) (first_added labels call some.0 first is_call some.1))
        (found_cases (begun_label rules moves call))

    -- the label of a beginning stands at its call
    pub begun_at : (call : ℕ) → IsCallOf moves call → All (λ l. l.call ≡ call) (option_to_list (begun_label rules moves call)) × All (λ l. Fits l.state) (option_to_list (begun_label rules moves call))
    begun_at call is_call =
        let P : Option (Label R) → Type 0 = λ o. All (λ l. l.call ≡ call) (option_to_list o) × All (λ l. Fits l.state) (option_to_list o) in
        ⊎_elim
        (λ none. subst P (sym none) (All-nil (λ l. l.call ≡ call), All-nil (λ l. Fits l.state)))
        (λ some.
        let new = (begun_is_new call some.0 is_call some.1).0 in
        let fits = (bounded rules moves laws fitting 1 (state_of some.0) new.new.front).fits in
        subst P (sym some.1) (All-cons (λ l. l.call ≡ call) some.0 [] new.at (All-nil (λ l. l.call ≡ call)), All-cons (λ l. Fits l.state) some.0 [] fits (All-nil (λ l. Fits l.state))))
        (found_cases (begun_label rules moves call))

    -- no label stands at the next call
    pub first_rivals : (labels : List (Label R)) (call : ℕ) → FirstLayer rules moves Fits labels call → AreRivals rules labels call []
    first_rivals labels call first = record {
      stand = All-nil (StandsFor labels call);
      beat = λ k d within at. absurd (omega (arith, first.below k d within, at));
    }

    pub first_whole : (labels : List (Label R)) (call : ℕ) → FirstLayer rules moves Fits labels call → moves.calls < call → Whole rules moves 1 labels × IsLastLayer 1 0 labels
    first_whole labels call first past =
        let grown = first.growing.grown in
        let none = whole_none rules moves laws fitting in
        let begins : BeginningsCovered rules moves labels = record {
          covered = λ t b. (first.tried b.call b.is_call.low (omega (arith, b.is_call.high))).covered t (bounded rules moves laws fitting 1 t (front_begun rules moves b.call t b.is_call b.begins)).fits b.begins;
        } in (
          whole_next rules moves laws fitting 0 [] labels none first.growing (covering_grown rules moves laws fitting 0 [] labels none.covering grown begins (λ from to held. absurd (omega (arith, held.1)))),
          record {
            before = All-nil (λ l. l.hops < 1);
            layer = All-same (λ l. l.hops ≡ 1) labels grown.layer grown.joined (All-weaker (IsNew rules moves 0 []) (λ l. l.hops ≡ 1) (λ l n. n.hops_is) grown.layer grown.new);
          },
        )

    -- ---- the next layer

    pub next_none : (hops start : ℕ) (old : List (Label R)) → Whole rules moves hops old → NextLayer rules moves Fits hops start old old 1
    next_none hops start old whole = record {
      growing = record {
        grown = record { layer = []; joined = sym (append-nil old); new = All-nil (IsNew rules moves hops old) };
        apart = whole.apart;
      };
      below = All-nil (λ (l : Label R). l.call < 1);
      tried = λ i d call low high some below. absurd (omega arith);
    }

    -- what labels have is meant
    pub next_fit : (hops start : ℕ) (old labels : List (Label R)) (to : ℕ) → Whole rules moves hops old → NextLayer rules moves Fits hops start old labels to → All (λ l. Fits l.state) labels
    next_fit hops start old labels to whole next =
        All-weaker (IsReached rules moves (hops + 1)) (λ l. Fits l.state) (reached_fits rules moves laws fitting (hops + 1)) labels (grown_reached rules moves laws fitting hops old labels whole.covering next.growing.grown)

    pub bucket_fit : (hops start : ℕ) (old bucket : List (Label R)) (to place : ℕ) → Bucket rules moves Fits hops start old bucket to place → All (λ l. Fits l.state) bucket
    bucket_fit hops start old bucket to place b =
        All-weaker (IsNewAt rules moves hops old to) (λ l. Fits l.state) (λ l n. (bounded rules moves laws fitting (hops + 1) (state_of l) n.new.front).fits) bucket b.new

    -- the bucket of a call is added
    pub next_bucket : (hops start : ℕ) (old labels bucket : List (Label R)) (to : ℕ) → NextLayer rules moves Fits hops start old labels to → Bucket rules moves Fits hops start old bucket to (length old) → NextLayer rules moves Fits hops start old (labels ++ bucket) (to + 1)
    next_bucket hops start old labels bucket to next b =
        let layer = next.growing.grown.layer in
        let joined = next.growing.grown.joined in
        let apart : AllPairs (Apart (label_covers rules)) ((old ++ layer) ++ bucket) =
        pairs_joined (Apart (label_covers rules)) old layer bucket
        (subst (AllPairs (Apart (label_covers rules))) joined next.growing.apart) b.apart
        (λ k l in_layer in_bucket. other_calls k l (λ same.
        let low = All-contains (λ k. k.call < to) layer k next.below in_layer in
        let at = (All-contains (IsNewAt rules moves hops old to) bucket l b.new in_bucket).at in
        omega arith)) in
        let in_labels : (k : Label R) → Contains (old ++ bucket) k → Contains (labels ++ bucket) k = λ k held.
        ⊎_elim
        (λ first. Contains-append_left labels bucket k (subst (λ l. Contains l k) (sym joined) (Contains-append_left old layer k first)))
        (λ second. Contains-append_right labels bucket k second)
        (Contains-append_cases old bucket k held) in
        record {
          growing = record {
            grown = record {
              layer = layer ++ bucket;
              joined = ap (λ l. l ++ bucket) joined ∙ append_assoc old layer bucket;
              new = All-append (IsNew rules moves hops old) layer bucket next.growing.grown.new (All-weaker (IsNewAt rules moves hops old to) (IsNew rules moves hops old) (λ k n. n.new) bucket b.new);
            };
            apart = subst (λ l. AllPairs (Apart (label_covers rules)) (l ++ bucket)) (sym joined) apart;
          };
          below = All-append (λ l. l.call < to + 1) layer bucket
              (All-weaker (λ l. l.call < to) (λ l. l.call < to + 1) (λ l h. omega arith) layer next.below)
              (All-weaker (IsNewAt rules moves hops old to) (λ l. l.call < to + 1) (λ l n. omega (arith, n.at)) bucket b.new);
          tried = λ i d call low high some below. ⊎_elim
              (λ less. record { covered = λ t f e. covered_in labels (labels ++ bucket) t (Contains-append_left labels bucket) ((next.tried i d call low high some less).covered t f e) })
              (λ most.
              let same : call ≡ to = omega arith in
              subst (λ c. Tried rules moves Fits (labels ++ bucket) (get_or old i d) c) (sym same)
              (record { covered = λ t f e. covered_in (old ++ bucket) (labels ++ bucket) t in_labels ((b.tried i d low high).covered t f e) }))
              (cases_lt call to);
        }

    pub next_whole : (hops start : ℕ) (old labels : List (Label R)) (to : ℕ) → 1 ≤ hops → Whole rules moves hops old → IsLastLayer hops start old → NextLayer rules moves Fits hops start old labels to → moves.calls < to → Whole rules moves (hops + 1) labels × IsLastLayer (hops + 1) (length old) labels
    next_whole hops start old labels to some whole last next past =
        let both = covering_next rules moves laws fitting hops start old labels to some whole.covering last next.growing.grown next.tried past in
        (whole_next rules moves laws fitting hops old labels whole next.growing both.0, both.1)

    -- a new label stands at a call whose bucket is finished
    new_below : (hops start : ℕ) (old labels : List (Label R)) (to k : ℕ) (d : Label R) → Whole rules moves hops old → NextLayer rules moves Fits hops start old labels to → k < length labels → (get_or labels k d).hops ≡ hops + 1 → (get_or labels k d).call < to
    new_below hops start old labels to k d whole next within is_new =
        let layer = next.growing.grown.layer in
        let joined = next.growing.grown.joined in
        let long : length labels ≡ length old + length layer = ap length joined ∙ length-append old layer in
        ⊎_elim
        (λ first.
        let at = ap (λ l. get_or l k d) joined ∙ get_or_append_left old layer d k first in
        absurd (omega (arith, (whole.covering.reached k d first).few, ap (λ l. l.hops) at, is_new)))
        (λ past.
        let at = ap (λ l. get_or l k d) joined ∙ get_or-append_right old layer (length old) k d refl past in
        let low = next.below (k - length old) d (omega arith) in
        omega (arith, low, ap (λ l. l.call) at))
        (cases_lt k (length old))

    -- labels of finished buckets are covered by no different state, however long fronts may be
    pub next_uncovered : (hops start most : ℕ) (old labels : List (Label R)) (to : ℕ) → 1 ≤ hops → hops + 1 ≤ most → Whole rules moves hops old → IsLastLayer hops start old → NextLayer rules moves Fits hops start old labels to → All (λ l. IsUncovered rules moves most (state_of l)) labels
    next_uncovered hops start most old labels to some le whole last next k d within =
        let growing = next.growing in
        let grown = growing.grown in
        let all_reached = grown_reached rules moves laws fitting hops old labels whole.covering grown in
        let label = get_or labels k d in
        let few_label = (all_reached k d within).few in
        let covered : (t : State R) → IsFrontState rules moves t.hops t → t.call ≡ label.call → t.hops ≤ label.hops → Covered rules moves labels t = λ t own call few.
        ⊎_elim
        (λ short. covered_old rules moves hops old labels t grown (whole.covering.covered t (front_within rules moves t.hops hops t (omega arith) own)))
        (λ long.
        let front : IsFrontState rules moves (hops + 1) t = subst (λ h. IsFrontState rules moves h t) (omega arith) own in
        let low = new_below hops start old labels to k d whole next within (omega arith) in
        ⊎_elim
        ((begins_covered rules moves laws fitting hops old labels some whole.covering grown).covered t)
        (λ e. longer_covered rules moves laws fitting hops old labels whole.covering grown t front e
        (λ from held is. tried_from rules moves laws fitting hops start old labels to last next.tried from e.to held is e.is_call.low (omega (arith, (move_parts rules moves e.before e.to t e.extends).call, call, low))))
        (front_end rules moves hops t front))
        (cases_lt t.hops (hops + 1)) in
        uncovered_at rules moves laws fitting (hops + 1) most labels k d le all_reached growing.apart within covered

    -- so there are too many where these labels are too many
    pub next_many : (limit hops start most : ℕ) (old labels : List (Label R)) (to : ℕ) → 1 ≤ hops → hops + 1 ≤ most → limit < length labels → Whole rules moves hops old → IsLastLayer hops start old → NextLayer rules moves Fits hops start old labels to → HasMoreThan rules moves limit most
    next_many limit hops start most old labels to some le many whole last next =
        more_uncovered rules moves laws fitting limit (hops + 1) most labels many (grown_reached rules moves laws fitting hops old labels whole.covering next.growing.grown) next.growing.apart
        (next_uncovered hops start most old labels to some le whole last next)
