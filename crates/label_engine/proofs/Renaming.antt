-- A renaming of what walks carry keeps what labels cover, and there are as many uncovered states.
use Rattle.std.proofs.Common.{◌≡◌, ◌≢◌, ℕ, suc, ◌+◌, ◌<◌, ◌≤◌, true, ◌&&◌, nat_eq, nat_le, List, [], ◌∷◌, length, map, get_or, Option, None, Some, refl, sym, ap, ◌∙◌, subst, arith, All, AllPairs, Contains}
use Rattle.std.specs.Option.{option_and_then, option_map, MatchOption}
use Rattle.std.proofs.lemmas.List.{get_or-map, length-map}
use Rattle.std.proofs.lemmas.List.Elements.{All-map, All-weaker}
use Rattle.std.proofs.lemmas.Option.{slice_get-map}
use Rattle.orienteering.proofs.Lists.{AllByRecursion-weaker}
use Rattle.label_core.specs.Resource.{Rules}
use Rattle.label_engine.specs.Front.{MoveRules, State, IsCallOf, begun, moved, covers, state_after, front_state, IsFront, IsFrontState, IsUncovered}
use Rattle.label_engine.specs.Settled.{CoversFronts, state_of, IsExtended, HasParent, Covered, HasMoreThan, IsFrontOf}
use Rattle.label_engine.specs.Renaming.{IsRenaming, renamed}
use Rattle.label_engine.specs.declared.label.Label.{Label}
use Rattle.label_engine.proofs.Covering.{mapped}
use Rattle.label_engine.proofs.Kept.{Contains-map}

-- ---- lists and options under a map

All-unmap : {X Y : Type 0} (P : Y → Type 0) (f : X → Y) (xs : List X) → All P (map f xs) → All (λ x. P (f x)) xs
All-unmap P f xs h k d below = subst P (get_or-map f xs k d (f d) below) (h k (f d) (let e = length-map xs f in omega arith))

AllPairs-map : {X Y : Type 0} (R : Y → Y → Type 0) (f : X → Y) (xs : List X) → AllPairs (λ a b. R (f a) (f b)) xs → AllPairs R (map f xs)
AllPairs-map R f [] h i j d below within = absurd (omega arith)
AllPairs-map R f (x ∷ xs) h i j d below within =
    let l : length (map f (x ∷ xs)) ≡ length (x ∷ xs) = length-map (x ∷ xs) f in
    let high : j < length (x ∷ xs) = omega arith in
    subst (λ a. R a (get_or (map f (x ∷ xs)) j d)) (sym (get_or-map f (x ∷ xs) i x d (omega arith)))
    (subst (λ b. R (f (get_or (x ∷ xs) i x)) b) (sym (get_or-map f (x ∷ xs) j x d high)) (h i j x below high))

AllPairs-unmap : {X Y : Type 0} (R : Y → Y → Type 0) (f : X → Y) (xs : List X) → AllPairs R (map f xs) → AllPairs (λ a b. R (f a) (f b)) xs
AllPairs-unmap R f xs h i j d below within =
    let l : length (map f xs) ≡ length xs = length-map xs f in
    subst (λ a. R a (f (get_or xs j d))) (get_or-map f xs i d (f d) (omega arith))
    (subst (λ b. R (get_or (map f xs) i (f d)) b) (get_or-map f xs j d (f d) within) (h i j (f d) below (omega arith)))

pub MatchOption-weaker : {X : Type 0} (o : Option X) (P P' : Type 0) (Q Q' : X → Type 0) → (P → P') → ((x : X) → Q x → Q' x) → MatchOption o P Q → MatchOption o P' Q'
MatchOption-weaker None P P' Q Q' f g m = f m
MatchOption-weaker (Some x) P P' Q Q' f g m = g x m

and_then-map : {A B A' B' : Type 0} (m : A → A') (n : B → B') (f : A → Option B) (f' : A' → Option B') → ((x : A) → f' (m x) ≡ option_map n (f x)) → (o : Option A) → option_and_then f' (option_map m o) ≡ option_map n (option_and_then f o)
and_then-map m n f f' same None = refl
and_then-map m n f f' same (Some x) = same x

module _ {R S R' S' : Type 0} (rules : Rules R S) (moves : MoveRules R S) (rules' : Rules R' S') (moves' : MoveRules R' S') (value : R → R') (step : S → S') (is : IsRenaming rules moves rules' moves' value step) where
  -- the state with its value renamed
  abbrev name : State R → State R'
  name s = record { hops = s.hops; call = s.call; value = value s.value }

  name_one_to_one : (s t : State R) → name s ≡ name t → s ≡ t
  name_one_to_one s t e =
      let v : s.value ≡ t.value = is.one_to_one s.value t.value (ap (λ (u : State R'). u.value) e) in
      λ i. record { hops = (e i).hops; call = (e i).call; value = v i }

  states-map : (hops call : ℕ) (o : Option R) → option_map (λ v. record { hops = hops; call = call; value = v }) (option_map value o) ≡ option_map name (option_map (λ v. record { hops = hops; call = call; value = v }) o)
  states-map hops call None = refl
  states-map hops call (Some v) = refl

  begun-name : (call : ℕ) → begun rules' moves' call ≡ option_map name (begun rules moves call)
  begun-name call = ap (option_map (λ v. record { hops = 1; call = call; value = v })) (is.begin call) ∙ states-map 1 call (moves.begin call)

  moved-name : (s : State R) (to : ℕ) → moved rules' moves' (name s) to ≡ option_map name (moved rules moves s to)
  moved-name s to =
      ap (λ o. option_map (λ v. record { hops = s.hops + 1; call = to; value = v }) (option_and_then (rules'.extended (value s.value)) o)) (is.steps s.call to) ∙
      ap (option_map (λ v. record { hops = s.hops + 1; call = to; value = v }))
      (and_then-map step value (rules.extended s.value) (rules'.extended (value s.value)) (is.extended s.value) (moves.step s.call to)) ∙
      states-map (s.hops + 1) to (option_and_then (rules.extended s.value) (moves.step s.call to))

  state_after-name : (s : State R) (js : List ℕ) → state_after rules' moves' (name s) js ≡ option_map name (state_after rules moves s js)
  state_after-name s [] = refl
  state_after-name s (j ∷ js) =
      ap (option_and_then (λ t. state_after rules' moves' t js)) (moved-name s j) ∙
      and_then-map name name (λ t. state_after rules moves t js) (λ t. state_after rules' moves' t js) (λ t. state_after-name t js) (moved rules moves s j)

  front_state-name : (front : List ℕ) → front_state rules' moves' front ≡ option_map name (front_state rules moves front)
  front_state-name [] = refl
  front_state-name (c ∷ js) =
      ap (option_and_then (λ t. state_after rules' moves' t js)) (begun-name c) ∙
      and_then-map name name (λ t. state_after rules moves t js) (λ t. state_after rules' moves' t js) (λ t. state_after-name t js) (begun rules moves c)

  call_renamed : (call : ℕ) → IsCallOf moves call → IsCallOf moves' call
  call_renamed call c = record { low = c.low; high = subst (λ n. call ≤ n) (sym is.calls) c.high }

  call_named : (call : ℕ) → IsCallOf moves' call → IsCallOf moves call
  call_named call c = record { low = c.low; high = subst (λ n. call ≤ n) is.calls c.high }

  front_name : (hops : ℕ) (front : List ℕ) (s : State R) → IsFront rules moves hops front s → IsFront rules' moves' hops front (name s)
  front_name hops front s f =
      record {
        short = f.short;
        calls = AllByRecursion-weaker (IsCallOf moves) (IsCallOf moves') call_renamed front f.calls;
        state = front_state-name front ∙ ap (option_map name) f.state;
      }

  state_name : (hops : ℕ) (s : State R) → IsFrontState rules moves hops s → IsFrontState rules' moves' hops (name s)
  state_name hops s (front, f) = (front, front_name hops front s f)

  -- what a state of a front is the name of
  record Named (hops : ℕ) (t : State R') : Type 0 where
    state : State R
    reached : IsFrontState rules moves hops state
    names : name state ≡ t

  from_name : (hops : ℕ) (t : State R') → IsFrontState rules' moves' hops t → Named hops t
  from_name hops t (front, f) =
      let m = mapped name (front_state rules moves front) t (sym (front_state-name front) ∙ f.state) in
      record {
        state = m.value;
        reached = (
          front,
          record {
            short = f.short;
            calls = AllByRecursion-weaker (IsCallOf moves') (IsCallOf moves) call_named front f.calls;
            state = m.is;
          },
        );
        names = m.gives;
      }

  covers-name : (s t : State R) → covers rules' (name s) (name t) ≡ covers rules s t
  covers-name s t = ap (λ b. nat_eq s.call t.call && (nat_le s.hops t.hops && b)) (is.leq s.value t.value)

  uncovered_name : (hops : ℕ) (s : State R) → IsUncovered rules moves hops s → IsUncovered rules' moves' hops (name s)
  uncovered_name hops s u =
      record {
        reached = state_name hops s u.reached;
        alone = λ t f c.
            let n = from_name hops t f in
            let same = u.alone n.state n.reached (sym (covers-name n.state s) ∙ subst (λ x. covers rules' x (name s) ≡ true) (sym n.names) c) in
            sym n.names ∙ ap name same;
      }

  named_uncovered : (hops : ℕ) (s : State R) → IsUncovered rules' moves' hops (name s) → IsUncovered rules moves hops s
  named_uncovered hops s u =
      record {
        reached = let n = from_name hops (name s) u.reached in subst (IsFrontState rules moves hops) (name_one_to_one n.state s n.names) n.reached;
        alone = λ t f c. name_one_to_one t s (u.alone (name t) (state_name hops t f) (covers-name t s ∙ c));
      }

  -- ---- labels

  states-renamed : (labels : List (Label R)) → map name (map state_of labels) ≡ map state_of (map (renamed value) labels)
  states-renamed [] = refl
  states-renamed (l ∷ labels) = ap (λ ss. name (state_of l) ∷ ss) (states-renamed labels)

  covered_name : (labels : List (Label R)) (s : State R) → Covered rules moves labels s → Covered rules' moves' (map (renamed value) labels) (name s)
  covered_name labels s c =
      record {
        kept = renamed value c.kept;
        held = Contains-map (renamed value) labels c.kept c.held;
        covers = covers-name (state_of c.kept) s ∙ c.covers;
      }

  extended_renamed : (labels : List (Label R)) (label : Label R) (place : ℕ) → IsExtended rules moves labels label place → IsExtended rules' moves' (map (renamed value) labels) (renamed value label) place
  extended_renamed labels label place e =
      record {
        from = renamed value e.from;
        stands = slice_get-map (renamed value) labels place ∙ ap (option_map (renamed value)) e.stands;
        extends = moved-name (state_of e.from) label.call ∙ ap (option_map name) e.extends;
      }

  parent_renamed : (labels : List (Label R)) (label : Label R) → HasParent rules moves labels label → HasParent rules' moves' (map (renamed value) labels) (renamed value label)
  parent_renamed labels label h =
      MatchOption-weaker label.parent
      (begun rules moves label.call ≡ Some (state_of label)) (begun rules' moves' label.call ≡ Some (name (state_of label)))
      (IsExtended rules moves labels label) (IsExtended rules' moves' (map (renamed value) labels) (renamed value label))
      (λ e. begun-name label.call ∙ ap (option_map name) e) (extended_renamed labels label) h

  pub covers_renamed : (hops : ℕ) (labels : List (Label R)) → CoversFronts rules moves hops labels → CoversFronts rules' moves' hops (map (renamed value) labels)
  covers_renamed hops labels e =
      record {
        reached = All-map (λ l. IsFrontState rules' moves' hops (state_of l)) (renamed value) labels
            (All-weaker (λ l. IsFrontState rules moves hops (state_of l)) (λ l. IsFrontState rules' moves' hops (name (state_of l))) (λ l. state_name hops (state_of l)) labels e.reached);
        covering = λ t f.
            let n = from_name hops t f in
            subst (Covered rules' moves' (map (renamed value) labels)) n.names (covered_name labels n.state (e.covering n.state n.reached));
        parents = All-map (HasParent rules' moves' (map (renamed value) labels)) (renamed value) labels
            (All-weaker (HasParent rules moves labels) (λ l. HasParent rules' moves' (map (renamed value) labels) (renamed value l)) (parent_renamed labels) labels e.parents);
      }

  -- ---- how many uncovered states there are

  pub more_renamed : (limit hops : ℕ) → HasMoreThan rules moves limit hops → HasMoreThan rules' moves' limit hops
  more_renamed limit hops h =
      record {
        states = map name h.states;
        many = (let e = length-map h.states name in let m : limit < length h.states = h.many in omega arith);
        uncovered = All-map (IsUncovered rules' moves' hops) name h.states
            (All-weaker (IsUncovered rules moves hops) (λ s. IsUncovered rules' moves' hops (name s)) (uncovered_name hops) h.states h.uncovered);
        once = AllPairs-map ◌≢◌ name h.states
            (λ i j d below within e. h.once i j d below within (name_one_to_one (get_or h.states i d) (get_or h.states j d) e));
      }

  -- states whose names the states are
  record Sources (ts : List (State R')) : Type 0 where
    states : List (State R)
    names : map name states ≡ ts

  sources : (hops : ℕ) (ts : List (State R')) → All (IsUncovered rules' moves' hops) ts → Sources ts
  sources hops [] h = record { states = []; names = refl }
  sources hops (t ∷ ts) h =
      let u : IsUncovered rules' moves' hops t = h 0 t (omega arith) in
      let n = from_name hops t u.reached in
      let rest = sources hops ts (λ k d below. h (suc k) d (omega arith)) in
      record { states = n.state ∷ rest.states; names = ap (λ x. x ∷ map name rest.states) n.names ∙ ap (λ xs. t ∷ xs) rest.names }

  pub more_named : (limit hops : ℕ) → HasMoreThan rules' moves' limit hops → HasMoreThan rules moves limit hops
  more_named limit hops h =
      let from = sources hops h.states h.uncovered in
      let e : length (map name from.states) ≡ length from.states = length-map from.states name in
      let g : length (map name from.states) ≡ length h.states = ap length from.names in
      let m : limit < length h.states = h.many in
      record {
        states = from.states;
        many = omega arith;
        uncovered = All-weaker (λ s. IsUncovered rules' moves' hops (name s)) (IsUncovered rules moves hops) (named_uncovered hops) from.states
            (All-unmap (IsUncovered rules' moves' hops) name from.states (subst (All (IsUncovered rules' moves' hops)) (sym from.names) h.uncovered));
        once = λ i j d below within same. AllPairs-unmap ◌≢◌ name from.states (subst (AllPairs ◌≢◌) (sym from.names) h.once) i j d below within (ap name same);
      }

  pub front_renamed : (labels : List (Label R)) (place : ℕ) (front : List ℕ) → IsFrontOf rules moves labels place front → IsFrontOf rules' moves' (map (renamed value) labels) place front
  front_renamed labels place front h =
      record {
        label = renamed value h.label;
        stands = slice_get-map (renamed value) labels place ∙ ap (option_map (renamed value)) h.stands;
        front_is = front_name h.label.hops front (state_of h.label) h.front_is;
      }
