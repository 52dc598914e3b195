-- Layers of labels: what is kept of all fronts of at most so many calls, and how a layer of longer ones grows.
use Rattle.std.proofs.Common.{◌≡◌, ◌≢◌, ℕ, zero, suc, ◌+◌, ◌<◌, ◌≤◌, ◌⊎◌, ⊎_elim, inl, inr, true, List, [], ◌∷◌, ◌++◌, length, get_or, take, drop, None, Some, refl, sym, ap, ◌∙◌, subst, arith, append-nil, add-zero, length-append, length-take, get_or-take, ◌-◌, map}
use Rattle.std.specs.List.{All, AllPairs, Contains}
use Rattle.std.specs.Option.{MatchOption}
use Rattle.std.proofs.lemmas.Bool.{both_ways, cases_lt, cases_order}
use Rattle.std.proofs.lemmas.List.Elements.{All-nil, All-append, All-contains, All-weaker, All-same, Contains-append_left, All-map}
use Rattle.std.proofs.lemmas.List.{get_or-append_right, get_or-map, get_or_default, get_or_append_left, length-map, take_at, drop_at}
use Rattle.std.proofs.lemmas.Option.{none-some}
use Rattle.label_core.specs.Resource.{Rules, Laws}
use Rattle.label_engine.specs.Front.{MoveRules, State, IsCallOf, GivesFitting, begun, covers, IsFrontState, IsUncovered}
use Rattle.label_engine.specs.Settled.{CoversFronts, Covered, state_of, IsExtended, HasParent, IsSettled, HasMoreThan}
use Rattle.label_engine.specs.Offer.{label_covers}
use Rattle.label_engine.specs.Layer.{Apart, InOrder, IsLastLayer, IsReached, Covering, Whole, IsNew, Grown, Growing, Tried}
use Rattle.label_engine.specs.declared.label.Label.{Label}
use Rattle.label_engine.proofs.Covering.{cover_parts, covers_reflexive, covers_transitive, covers_antisymmetric, moves_too, fits_moved}
use Rattle.label_engine.proofs.Fronts.{Begins, Extends, front_longer, front_begun, front_within, front_end, bounded}
use Rattle.label_engine.proofs.Kept.{slice_get-append_left}

cases_lt_suc : (a b : ℕ) → (a + 1 ≤ b) ⊎ (b ≤ a)
cases_lt_suc a b = ⊎_elim (λ l. inl (omega arith)) (λ g. inr g) (cases_lt a b)

module _ {R S : Type 0} (rules : Rules R S) (moves : MoveRules R S) where
  pub grown_none : (hops : ℕ) (old : List (Label R)) → Grown rules moves hops old old
  grown_none hops old = record { layer = []; joined = sym (append-nil old); new = All-nil (IsNew rules moves hops old) }

  pub growing_none : (hops : ℕ) (old : List (Label R)) → Whole rules moves hops old → Growing rules moves hops old old
  growing_none hops old whole = record { grown = grown_none hops old; apart = whole.apart }

  -- what old labels cover is covered by more
  pub covered_old : (hops : ℕ) (old labels : List (Label R)) (s : State R) → Grown rules moves hops old labels → Covered rules moves old s → Covered rules moves labels s
  covered_old hops old labels s grown c = record {
    kept = c.kept;
    held = subst (λ l. Contains l c.kept) (sym grown.joined) (Contains-append_left old grown.layer c.kept c.held);
    covers = c.covers;
  }

  -- every beginning is covered
  pub record BeginningsCovered (labels : List (Label R)) : Type 0 where
    pub covered : (t : State R) → Begins rules moves t → Covered rules moves labels t

  module _ {Fits : R → Type 0} {FitsStep : S → Type 0} (laws : Laws rules Fits FitsStep) (fitting : GivesFitting Fits FitsStep moves) where
    pub reached_fits : (hops : ℕ) (label : Label R) → IsReached rules moves hops label → Fits label.state
    reached_fits hops label r = (bounded rules moves laws fitting hops (state_of label) r.front).fits

    -- each label of a grown list is of a front
    pub grown_reached : (hops : ℕ) (old labels : List (Label R)) → Covering rules moves hops old → Grown rules moves hops old labels → All (IsReached rules moves (hops + 1)) labels
    grown_reached hops old labels covering grown =
        All-same (IsReached rules moves (hops + 1)) labels (old ++ grown.layer) grown.joined
        (All-append (IsReached rules moves (hops + 1)) old grown.layer
        (All-weaker (IsReached rules moves hops) (IsReached rules moves (hops + 1)) (λ k r. record { front = front_within rules moves hops (hops + 1) (state_of k) (omega arith) r.front; few = omega (arith, r.few) }) old covering.reached)
        (All-weaker (IsNew rules moves hops old) (IsReached rules moves (hops + 1)) (λ k n. record { front = n.front; few = omega (arith, n.hops_is) }) grown.layer grown.new))

    pub covered_more : (hops : ℕ) (labels : List (Label R)) (s t : State R) → All (IsReached rules moves hops) labels → Fits s.value → Fits t.value → Covered rules moves labels s → covers rules s t ≡ true → Covered rules moves labels t
    covered_more hops labels s t reached f g c e =
        let fits_kept = reached_fits hops c.kept (All-contains (IsReached rules moves hops) labels c.kept reached c.held) in
        record { kept = c.kept; held = c.held; covers = covers_transitive rules laws (state_of c.kept) s t fits_kept f g c.covers e }

    parent_kept : (old layer : List (Label R)) (label : Label R) → HasParent rules moves old label → HasParent rules moves (old ++ layer) label
    parent_kept old layer label h =
        elim label.parent as (λ p. MatchOption p (begun rules moves label.call ≡ Some (state_of label)) (IsExtended rules moves old label) → MatchOption p (begun rules moves label.call ≡ Some (state_of label)) (IsExtended rules moves (old ++ layer) label)) [
          | None ↦ λ b. b
          | Some place ↦ λ e. record { from = e.from; stands = slice_get-append_left old layer place e.from e.stands; extends = e.extends }
        ] h

    -- the labels of the layer come behind the old ones
    rising_joined : (hops : ℕ) (old layer : List (Label R)) → All (IsReached rules moves (hops + 1)) (old ++ layer) → AllPairs InOrder old → All (IsNew rules moves hops old) layer → AllPairs InOrder (old ++ layer)
    rising_joined hops old layer reached rising new i j d below within =
        let all_long : length (old ++ layer) ≡ length old + length layer = length-append old layer in
        let first : (get_or (old ++ layer) i d).hops ≤ hops + 1 = (reached i d (omega arith)).few in
        ⊎_elim
        (λ left.
        let a = get_or_append_left old layer d i (omega arith) in
        let b = get_or_append_left old layer d j left in
        rw (a, b) (rising i j d below left))
        (λ right.
        let b = get_or-append_right old layer (length old) j d refl right in
        let second = (new (j - length old) d (omega arith)).hops_is in
        record { rising = omega (arith, first, second, ap (λ l. l.hops) b) })
        (cases_lt j (length old))

    -- a front one call longer is covered where all that follows from the last layer by its last call is
    pub longer_covered : (hops : ℕ) (old labels : List (Label R)) → Covering rules moves hops old → Grown rules moves hops old labels → (t : State R) → IsFrontState rules moves (hops + 1) t → (e : Extends rules moves hops t) → ((from : Label R) → Contains old from → from.hops ≡ hops → Tried rules moves Fits labels from e.to) → Covered rules moves labels t
    longer_covered hops old labels covering grown t front e tried =
        let reached = grown_reached hops old labels covering grown in
        let t_known = bounded rules moves laws fitting (hops + 1) t front in
        let before = bounded rules moves laws fitting hops e.before e.reached in
        let c = covering.covered e.before e.reached in
        let kept_reached = All-contains (IsReached rules moves hops) old c.kept covering.reached c.held in
        let kept = bounded rules moves laws fitting hops (state_of c.kept) kept_reached.front in
        let too = moves_too rules laws moves fitting (state_of c.kept) e.before e.to t kept.fits before.fits before.is_call e.is_call c.covers e.extends in
        let fits_after = fits_moved rules laws moves fitting (state_of c.kept) e.to too.after kept.fits kept.is_call e.is_call too.extends in
        let after_covered : Covered rules moves labels too.after =
        ⊎_elim
        (λ few. covered_old hops old labels too.after grown
        (covering.covered too.after (front_within rules moves (c.kept.hops + 1) hops too.after few (front_longer rules moves c.kept.hops (state_of c.kept) e.to too.after kept.own e.is_call too.extends))))
        (λ most. (tried c.kept c.held (omega (arith, kept.few))).covered too.after fits_after too.extends)
        (cases_lt_suc c.kept.hops hops)
        in
        covered_more (hops + 1) labels too.after t reached fits_after t_known.fits after_covered too.covers

    -- all fronts one call longer are covered where all that follows from the last layer is
    pub covering_grown : (hops : ℕ) (old labels : List (Label R)) → Covering rules moves hops old → Grown rules moves hops old labels → BeginningsCovered labels → ((from : Label R) (to : ℕ) → Contains old from → from.hops ≡ hops → IsCallOf moves to → Tried rules moves Fits labels from to) → Covering rules moves (hops + 1) labels
    covering_grown hops old labels covering grown begins tried = record {
      reached = grown_reached hops old labels covering grown;
      covered = λ s front. ⊎_elim (begins.covered s) (λ e. longer_covered hops old labels covering grown s front e (λ from held is. tried from e.to held is e.is_call)) (front_end rules moves hops s front);
      parents =
          subst (λ l. All (HasParent rules moves l) l) (sym grown.joined)
          (All-append (HasParent rules moves (old ++ grown.layer)) old grown.layer
          (All-weaker (HasParent rules moves old) (HasParent rules moves (old ++ grown.layer)) (parent_kept old grown.layer) old covering.parents)
          (All-weaker (IsNew rules moves hops old) (HasParent rules moves (old ++ grown.layer)) (λ k n. parent_kept old grown.layer k n.parent) grown.layer grown.new));
    }

    -- every beginning is covered where there is a layer
    pub begins_covered : (hops : ℕ) (old labels : List (Label R)) → 1 ≤ hops → Covering rules moves hops old → Grown rules moves hops old labels → BeginningsCovered labels
    begins_covered hops old labels some covering grown = record {
      covered = λ t b. covered_old hops old labels t grown
          (covering.covered t (front_within rules moves 1 hops t some (front_begun rules moves b.call t b.is_call b.begins)));
    }

    -- what follows from the last layer by the calls below one is covered
    pub tried_from : (hops start : ℕ) (old labels : List (Label R)) (to : ℕ) → IsLastLayer hops start old → ((i : ℕ) (d : Label R) (call : ℕ) → start ≤ i → i < length old → 1 ≤ call → call < to → Tried rules moves Fits labels (get_or old i d) call) → (from : Label R) (call : ℕ) → Contains old from → from.hops ≡ hops → 1 ≤ call → call < to → Tried rules moves Fits labels from call
    tried_from hops start old labels to last tried from call held is some below =
        ⊎_elim
        (λ less.
        let at = get_or-take start old held.0 from less in
        let short = last.before held.0 from (omega (arith, length-take start old, held.1)) in
        absurd (omega (arith, short, ap (λ l. l.hops) (at ∙ held.2))))
        (λ most. subst (λ l. Tried rules moves Fits labels l call) held.2 (tried held.0 from call most held.1 some below))
        (cases_lt held.0 start)

    -- with all calls tried the labels cover all fronts one call longer, and the new ones are the last layer
    pub covering_next : (hops start : ℕ) (old labels : List (Label R)) (to : ℕ) → 1 ≤ hops → Covering rules moves hops old → IsLastLayer hops start old → Grown rules moves hops old labels → ((i : ℕ) (d : Label R) (call : ℕ) → start ≤ i → i < length old → 1 ≤ call → call < to → Tried rules moves Fits labels (get_or old i d) call) → moves.calls < to → Covering rules moves (hops + 1) labels × IsLastLayer (hops + 1) (length old) labels
    covering_next hops start old labels to some covering last grown tried past = (
      covering_grown hops old labels covering grown (begins_covered hops old labels some covering grown)
          (λ from call held is is_call. tried_from hops start old labels to last tried from call held is is_call.low (omega (arith, is_call.high))),
      record {
        before = All-same (λ l. l.hops < hops + 1) (take (length old) labels) old (ap (take (length old)) grown.joined ∙ take_at old grown.layer (length old) refl)
            (All-weaker (IsReached rules moves hops) (λ l. l.hops < hops + 1) (λ l r. omega (arith, r.few)) old covering.reached);
        layer = All-same (λ l. l.hops ≡ hops + 1) (drop (length old) labels) grown.layer (ap (drop (length old)) grown.joined ∙ drop_at old grown.layer (length old) refl)
            (All-weaker (IsNew rules moves hops old) (λ l. l.hops ≡ hops + 1) (λ l n. n.hops_is) grown.layer grown.new);
      },
    )

    -- the layer is whole
    pub whole_next : (hops : ℕ) (old labels : List (Label R)) → Whole rules moves hops old → Growing rules moves hops old labels → Covering rules moves (hops + 1) labels → Whole rules moves (hops + 1) labels
    whole_next hops old labels whole growing covering =
        let grown = growing.grown in record {
          covering = covering;
          apart = growing.apart;
          rising = subst (AllPairs InOrder) (sym grown.joined) (rising_joined hops old grown.layer (All-same (IsReached rules moves (hops + 1)) (old ++ grown.layer) labels (sym grown.joined) covering.reached) whole.rising grown.new);
        }

    no_front : (s : State R) → IsFrontState rules moves 0 s → ⊥
    no_front s ([], f) = none-some s f.state
    no_front s (c ∷ cs, f) = omega (arith, f.short)

    -- nothing stands for fronts of no call
    pub whole_none : Whole rules moves 0 []
    whole_none = record {
      covering = record {
        reached = All-nil (IsReached rules moves 0);
        covered = λ s front. absurd (no_front s front);
        parents = All-nil (HasParent rules moves []);
      };
      apart = λ i j d below within. absurd (omega arith);
      rising = λ i j d below within. absurd (omega arith);
    }

    -- without labels of a length there are none of the next
    pub covering_stays : (hops more : ℕ) (labels : List (Label R)) → 1 ≤ hops → All (λ l. l.hops < hops) labels → Covering rules moves hops labels → Covering rules moves (hops + more) labels
    covering_stays hops zero labels some short covering = rw add-zero covering
    covering_stays hops (suc more) labels some short covering =
        let before = covering_stays hops more labels some short covering in
        let none = grown_none (hops + more) labels in
        let next = covering_grown (hops + more) labels labels before none (begins_covered (hops + more) labels labels (omega arith) before none)
        (λ from to held is is_call. let k = All-contains (λ l. l.hops < hops) labels from short held in absurd (omega arith)) in
        subst (λ h. Covering rules moves h labels) (omega arith) next

    pub whole_stays : (hops more : ℕ) (labels : List (Label R)) → 1 ≤ hops → All (λ l. l.hops < hops) labels → Whole rules moves hops labels → Whole rules moves (hops + more) labels
    whole_stays hops more labels some short whole = record {
      covering = covering_stays hops more labels some short whole.covering;
      apart = whole.apart;
      rising = whole.rising;
    }

    -- labels that cover all fronts of at most so many calls
    pub covering_covers : (hops : ℕ) (labels : List (Label R)) → Covering rules moves hops labels → CoversFronts rules moves hops labels
    covering_covers hops labels covering = record {
      reached = All-weaker (IsReached rules moves hops) (λ l. IsFrontState rules moves hops (state_of l)) (λ l r. r.front) labels covering.reached;
      covering = covering.covered;
      parents = covering.parents;
    }

    -- of two labels that one covers the other, both are the same
    same_label : (labels : List (Label R)) (i j : ℕ) (d : Label R) → AllPairs (Apart (label_covers rules)) labels → i < length labels → j < length labels → label_covers rules (get_or labels i d) (get_or labels j d) ≡ true → i ≡ j
    same_label labels i j d apart in_i in_j e =
        ⊎_elim (λ same. same)
        (⊎_elim
        (λ less. absurd (both_ways _ (apart i j d less in_j).first e))
        (λ more. absurd (both_ways _ (apart j i d more in_i).second e)))
        (cases_order i j)

    -- a kept label is covered by no different state where all states at its call with no more calls are covered
    pub uncovered_at : (hops most : ℕ) (labels : List (Label R)) (k : ℕ) (d : Label R) → hops ≤ most → All (IsReached rules moves hops) labels → AllPairs (Apart (label_covers rules)) labels → k < length labels → ((t : State R) → IsFrontState rules moves t.hops t → t.call ≡ (get_or labels k d).call → t.hops ≤ (get_or labels k d).hops → Covered rules moves labels t) → IsUncovered rules moves most (state_of (get_or labels k d))
    uncovered_at hops most labels k d le all_reached apart within covered =
        let label = get_or labels k d in
        let reached = all_reached k d within in
        let label_known = bounded rules moves laws fitting hops (state_of label) reached.front in
        record {
          reached = front_within rules moves hops most (state_of label) le reached.front;
          alone = λ t front e.
              let t_known = bounded rules moves laws fitting most t front in
              let p = cover_parts rules t (state_of label) e in
              let c = covered t t_known.own p.call p.hops in
              let kept_fits = reached_fits hops c.kept (All-contains (IsReached rules moves hops) labels c.kept all_reached c.held) in
              let over : covers rules (state_of c.kept) (state_of label) ≡ true = covers_transitive rules laws (state_of c.kept) t (state_of label) kept_fits t_known.fits label_known.fits c.covers e in
              let place : get_or labels c.held.0 d ≡ c.kept = get_or_default labels c.held.0 d c.kept c.held.1 ∙ c.held.2 in
              let same : c.held.0 ≡ k = same_label labels c.held.0 k d apart c.held.1 within (ap (λ l. label_covers rules l label) place ∙ over) in
              let is_label : label ≡ c.kept = ap (λ i. get_or labels i d) (sym same) ∙ place in
              let back : covers rules (state_of label) t ≡ true = ap (λ l. covers rules (state_of l) t) is_label ∙ c.covers in
              covers_antisymmetric rules laws t (state_of label) t_known.fits label_known.fits e back;
        }

    -- a label that is kept is covered by no different state
    pub uncovered : (hops most : ℕ) (labels : List (Label R)) → hops ≤ most → Whole rules moves hops labels → All (λ label. IsUncovered rules moves most (state_of label)) labels
    uncovered hops most labels le whole k d within =
        uncovered_at hops most labels k d le whole.covering.reached whole.apart within
        (λ t own call few. whole.covering.covered t (front_within rules moves t.hops hops t (omega (arith, few, (whole.covering.reached k d within).few)) own))

    apart_states : (hops : ℕ) (labels : List (Label R)) → All (IsReached rules moves hops) labels → AllPairs (Apart (label_covers rules)) labels → AllPairs (λ a b. state_of a ≢ state_of b) labels
    apart_states hops labels all_reached apart i j d below within same =
        let fits = reached_fits hops (get_or labels i d) (all_reached i d (omega arith)) in
        let covers_itself = covers_reflexive rules laws (state_of (get_or labels i d)) fits in
        both_ways _ (apart i j d below within).first (ap (covers rules (state_of (get_or labels i d))) (sym same) ∙ covers_itself)

    -- labels that stand for all fronts are the settled ones
    pub settled : (hops : ℕ) (labels : List (Label R)) → Whole rules moves hops labels → IsSettled rules moves hops labels
    settled hops labels whole = record {
      exact = uncovered hops hops labels (omega arith) whole;
      covering = whole.covering.covered;
      complete = λ s only.
          let c = whole.covering.covered s only.reached in
          let kept_reached = All-contains (IsReached rules moves hops) labels c.kept whole.covering.reached c.held in
          let same : state_of c.kept ≡ s = only.alone (state_of c.kept) kept_reached.front c.covers in
          (c.held.0, omega (arith, length-map labels (state_of {R = R}), c.held.1), get_or-map state_of labels c.held.0 c.kept s c.held.1 ∙ ap state_of c.held.2 ∙ same);
      once = apart_states hops labels whole.covering.reached whole.apart;
      rising = λ i j d below within. (whole.rising i j d below within).rising;
      parents = whole.covering.parents;
    }

    -- labels that no different state covers are too many states where they are too many
    pub more_uncovered : (limit hops most : ℕ) (labels : List (Label R)) → limit < length labels → All (IsReached rules moves hops) labels → AllPairs (Apart (label_covers rules)) labels → All (λ label. IsUncovered rules moves most (state_of label)) labels → HasMoreThan rules moves limit most
    more_uncovered limit hops most labels many all_reached apart all_uncovered = record {
      states = map state_of labels;
      many = omega (arith, length-map labels (state_of {R = R}), many);
      uncovered = All-map (IsUncovered rules moves most) state_of labels all_uncovered;
      once = λ i j d below within same.
          let none : Label R = record { call = d.call; hops = d.hops; state = d.value; parent = None } in
          let long : length (map (state_of {R = R}) labels) ≡ length labels = length-map labels state_of in
          apart_states hops labels all_reached apart i j none below (omega arith)
          (sym (get_or-map state_of labels i none d (omega arith)) ∙ same ∙ get_or-map state_of labels j none d (omega arith));
    }

    pub more_than : (limit hops most : ℕ) (labels : List (Label R)) → hops ≤ most → limit < length labels → Whole rules moves hops labels → HasMoreThan rules moves limit most
    more_than limit hops most labels le many whole =
        more_uncovered limit hops most labels many whole.covering.reached whole.apart (uncovered hops most labels le whole)
