-- Labels that are found beside a row of a few rivals of each call cover the state of each front.
use Rattle.std.proofs.Common.{◌≡◌, ℕ, ◌+◌, ◌<◌, ◌≤◌, ⊎_elim, true, List, [], ◌∷◌, ◌++◌, length, get_or, take, set, Option, None, Some, Vec, refl, sym, ap, ◌∙◌, subst, arith, append_assoc, append-nil, length-append, length-set}
use Rattle.std.specs.Prelude.{nat_lt}
use Rattle.std.specs.List.{All, Contains, list_any}
use Rattle.std.specs.List.Sorted.{IsPermutation}
use Rattle.std.proofs.lemmas.Bool.{cases_lt, cases_eq, cond_both}
use Rattle.std.proofs.lemmas.List.{get_or_append_left, get_or_default, get_or-set_same, get_or-set_other}
use Rattle.std.proofs.lemmas.List.Elements.{All-nil, All-contains, All-push, All-set, All-take, All-weaker, Contains-append_left, Contains-append_right, Contains-append_cases, Contains-push}
use Rattle.std.proofs.lemmas.List.Sorted.{All-permutation, Contains-permutation}
use Rattle.std.proofs.lemmas.Option.{none-some, same_Some}
use Rattle.label_core.specs.Resource.{Rules, Laws}
use Rattle.label_engine.specs.BoundedRows.{replaced, kept, gathered, IsLonger, AreRowsOf, CallLayer, LongerFronts}
use Rattle.label_engine.specs.Front.{MoveRules, State, IsCallOf, GivesFitting, moved, covers}
use Rattle.label_engine.specs.Layer.{IsLastLayer, IsReached, Covering, IsNew, IsNewAt, Grown, Tried}
use Rattle.label_engine.specs.Offer.{labelled, stepped_label, beats}
use Rattle.label_engine.specs.Rivals.{StandsFor, AreAllRivals}
use Rattle.label_engine.specs.Settled.{CoversFronts, state_of, Covered}
use Rattle.label_engine.specs.declared.label.Label.{Label}
use Rattle.label_engine.proofs.Buckets.{found_cases, option_map-none, last_hops, moved_is_new}
use Rattle.label_engine.proofs.Covering.{cover_from, covers_reflexive}
use Rattle.label_engine.proofs.Fronts.{bounded}
use Rattle.label_engine.proofs.Layers.{grown_none, grown_reached, covered_more, covering_next, covering_covers, whole_none}
use Rattle.label_engine.proofs.Rivals.{one_passes, stands_longer}

-- ---- lists and rows

pub longer_itself : {X : Type 0} (xs : List X) → IsLonger xs xs
longer_itself xs = record { more = []; joined = sym (append-nil xs) }

pub longer_append : {X : Type 0} (xs ys zs : List X) → IsLonger xs ys → IsLonger xs (ys ++ zs)
longer_append xs ys zs l = record { more = l.more ++ zs; joined = ap (λ k. k ++ zs) l.joined ∙ append_assoc xs l.more zs }

-- the one element of a list
one_of : {X : Type 0} (x y : X) → Contains (x ∷ []) y → y ≡ x
one_of x y c = let same : c.0 ≡ 0 = omega (arith, c.1) in sym c.2 ∙ ap (λ n. get_or (x ∷ []) n y) same

All-front : {X : Type 0} (P : X → Type 0) (xs ys : List X) → All P (xs ++ ys) → All P xs
All-front P xs ys h k d within = subst P (get_or_append_left xs ys d k within) (h k d (omega (arith, within, length-append xs ys)))

-- what holds of all rivals and of one more holds of the row after it
pub All-replaced : {X : Type 0} (P : X → Type 0) (row : List X) (place : ℕ) (x : X) → All P row → P x → All P (replaced row place x)
All-replaced P row place x h p =
    cond_both (nat_lt (length row) 32) (row ++ x ∷ []) (set row place x) (All P) (λ _. All-push P row x h p) (λ _. All-set P row place x p h)

module _ {R S : Type 0} (rules : Rules R S) where
  pub row_longer : (labels more : List (Label R)) (call : ℕ) (row : List R) → All (StandsFor labels call) row → All (StandsFor (labels ++ more) call) row
  row_longer labels more call row h = All-weaker (StandsFor labels call) (StandsFor (labels ++ more) call) (stands_longer rules labels more call) row h

  -- a label that is kept stands for its state
  pub stands_new : (labels : List (Label R)) (label : Label R) (call : ℕ) → label.call ≡ call → StandsFor (labels ++ label ∷ []) call label.state
  stands_new labels label call at = record { label = label; held = Contains-push labels label; at = at; state = refl }

  pub rows_of_rivals : {A : Type 0} (labels : List (Label R)) (rows : List (Vec R A)) → AreAllRivals rules labels rows → AreRowsOf labels rows
  rows_of_rivals labels rows r = record { row = λ k d within. (r.row k d within).stand }

  -- more labels, and the row of a call made anew
  pub rows_set : {A : Type 0} (labels longer : List (Label R)) (rows : List (Vec R A)) (i : ℕ) (row : Vec R A) → i < length rows → IsLonger labels longer → AreRowsOf labels rows → All (StandsFor longer (i + 1)) row.items → AreRowsOf longer (set rows i row)
  rows_set labels longer rows i row in_rows l all r = record {
    row = λ k d within.
        let low : k < length rows = omega (arith, within, length-set rows i row) in
        ⊎_elim
        (λ same.
        let is : get_or (set rows i row) k d ≡ row = ap (λ n. get_or (set rows i row) n d) same ∙ get_or-set_same rows i row d in_rows in
        subst (λ v. All (StandsFor longer (k + 1)) v.items) (sym is) (subst (λ n. All (StandsFor longer (n + 1)) row.items) (sym same) r))
        (λ other.
        let is : get_or (set rows i row) k d ≡ get_or rows k d = get_or-set_other rows i k row d other in
        subst (λ v. All (StandsFor longer (k + 1)) v.items) (sym is)
        (subst (λ ls. All (StandsFor ls (k + 1)) (get_or rows k d).items) (sym l.joined)
        (row_longer labels l.more (k + 1) (get_or rows k d).items (all.row k d low))))
        (cases_eq k i);
  }

module _ {R S : Type 0} (rules : Rules R S) (moves : MoveRules R S) where
  covered_in : (labels more : List (Label R)) (s : State R) → Covered rules moves labels s → Covered rules moves (labels ++ more) s
  covered_in labels more s c = record { kept = c.kept; held = Contains-append_left labels more c.kept c.held; covers = c.covers }

  tried_in : (Fits : R → Type 0) (labels longer : List (Label R)) (from : Label R) (to : ℕ) → IsLonger labels longer → Tried rules moves Fits labels from to → Tried rules moves Fits longer from to
  tried_in Fits labels longer from to l tried = record {
    covered = λ t f e. subst (λ ls. Covered rules moves ls t) (sym l.joined) (covered_in labels l.more t (tried.covered t f e));
  }

  module _ {Fits : R → Type 0} {FitsStep : S → Type 0} (laws : Laws rules Fits FitsStep) (fitting : GivesFitting Fits FitsStep moves) where
    -- ---- the candidates of a call

    -- nothing follows from the label at the place
    tried_skipped : (start : ℕ) (old labels : List (Label R)) (to place : ℕ) (from : Label R) → ((i : ℕ) (d : Label R) → start ≤ i → i < place → Tried rules moves Fits labels (get_or old i d) to) → place < length old → from ≡ get_or old place from → moved rules moves (state_of from) to ≡ None → (i : ℕ) (d : Label R) → start ≤ i → i < place + 1 → Tried rules moves Fits labels (get_or old i d) to
    tried_skipped start old labels to place from tried within is none i d low high =
        ⊎_elim
        (λ less. tried i d low less)
        (λ most. record {
          covered = λ t f e.
              let same : i ≡ place = omega arith in
              let at : get_or old i d ≡ from = ap (λ k. get_or old k d) same ∙ get_or_default old place d from within ∙ sym is in
              absurd (none-some t (sym none ∙ ap (λ l. moved rules moves (state_of l) to) (sym at) ∙ e));
        })
        (cases_lt i place)

    -- what follows is covered by these labels
    tried_more : (start : ℕ) (old labels longer : List (Label R)) (to place : ℕ) (from label : Label R) → ((i : ℕ) (d : Label R) → start ≤ i → i < place → Tried rules moves Fits labels (get_or old i d) to) → place < length old → from ≡ get_or old place from → moved rules moves (state_of from) to ≡ Some (state_of label) → IsLonger labels longer → (Fits label.state → Covered rules moves longer (state_of label)) → (i : ℕ) (d : Label R) → start ≤ i → i < place + 1 → Tried rules moves Fits longer (get_or old i d) to
    tried_more start old labels longer to place from label tried within is moves_on l covered i d low high =
        ⊎_elim
        (λ less. tried_in Fits labels longer (get_or old i d) to l (tried i d low less))
        (λ most. record {
          covered = λ t f e.
              let same : i ≡ place = omega arith in
              let at : get_or old i d ≡ from = ap (λ k. get_or old k d) same ∙ get_or_default old place d from within ∙ sym is in
              let state : state_of label ≡ t = same_Some _ _ (sym moves_on ∙ ap (λ l. moved rules moves (state_of l) to) (sym at) ∙ e) in
              subst (Covered rules moves longer) state (covered (subst Fits (ap (λ s. s.value) (sym state)) f));
        })
        (cases_lt i place)

    pub gathered_none : (hops start : ℕ) (old labels : List (Label R)) (to : ℕ) → Grown rules moves hops old labels → CallLayer rules moves Fits hops start old labels [] to start
    gathered_none hops start old labels to grown = record {
      grown = grown;
      new = All-nil (IsNewAt rules moves hops old to);
      tried = λ i d low high. absurd (omega arith);
    }

    -- what a rival is at least as good as is covered
    rival_covers : (hops : ℕ) (old labels : List (Label R)) (row : List R) (to : ℕ) (label : Label R) → Covering rules moves hops old → Grown rules moves hops old labels → All (StandsFor labels to) row → IsNewAt rules moves hops old to label → list_any (beats rules label.state) row ≡ true → Covered rules moves labels (state_of label)
    rival_covers hops old labels row to label covering grown standing new e =
        let one = one_passes (beats rules label.state) row e in
        let s = All-contains (StandsFor labels to) row one.0 standing one.1 in
        let low = (All-contains (IsReached rules moves (hops + 1)) labels s.label (grown_reached rules moves laws fitting hops old labels covering grown) s.held).few in
        record {
          kept = s.label;
          held = s.held;
          covers = cover_from rules (state_of s.label) (state_of label)
              (record { call = s.at ∙ sym new.at; hops = omega (arith, low, new.new.hops_is); value = ap (λ v. rules.leq v label.state) s.state ∙ one.2 });
        }

    -- the label at the place was extended: it is a candidate, or one of the first rivals is at least as good
    gathered_label : (hops start : ℕ) (old labels candidates : List (Label R)) (row : List R) (to place : ℕ) (from label : Label R) → Covering rules moves hops old → All (StandsFor labels to) row → CallLayer rules moves Fits hops start old labels candidates to place → place < length old → from ≡ get_or old place from → IsNewAt rules moves hops old to label → moved rules moves (state_of from) to ≡ Some (state_of label) → CallLayer rules moves Fits hops start old labels (candidates ++ kept rules (take 8 row) label) to (place + 1)
    gathered_label hops start old labels candidates row to place from label covering standing x within is new moves_on =
        let first = take 8 row in
        cond_both (list_any (beats rules label.state) first) [] (label ∷ []) (λ more. CallLayer rules moves Fits hops start old labels (candidates ++ more) to (place + 1))
        (λ beaten.
        subst (λ cs. CallLayer rules moves Fits hops start old labels cs to (place + 1)) (sym (append-nil candidates))
        (record {
          grown = x.grown;
          new = x.new;
          tried = tried_more start old (labels ++ candidates) (labels ++ candidates) to place from label x.tried within is moves_on (longer_itself (labels ++ candidates))
              (λ f. covered_in labels candidates (state_of label) (rival_covers hops old labels first to label covering x.grown (All-take (StandsFor labels to) 8 row standing) new beaten));
        }))
        (λ _.
        let all = (labels ++ candidates) ++ label ∷ [] in
        let joined : all ≡ labels ++ (candidates ++ label ∷ []) = append_assoc labels candidates (label ∷ []) in
        record {
          grown = x.grown;
          new = All-push (IsNewAt rules moves hops old to) candidates label x.new new;
          tried = λ i d low high. subst (λ ls. Tried rules moves Fits ls (get_or old i d) to) joined
              (tried_more start old (labels ++ candidates) all to place from label x.tried within is moves_on (record { more = label ∷ []; joined = refl })
              (λ f. record { kept = label; held = Contains-push (labels ++ candidates) label; covers = covers_reflexive rules laws (state_of label) f }) i d low high);
        })

    -- one label more was extended
    pub gathered_step : (hops start : ℕ) (old labels candidates : List (Label R)) (row : List R) (to place : ℕ) (from : Label R) → Covering rules moves hops old → IsLastLayer hops start old → All (StandsFor labels to) row → CallLayer rules moves Fits hops start old labels candidates to place → start ≤ place → place < length old → from ≡ get_or old place from → IsCallOf moves to → CallLayer rules moves Fits hops start old labels (candidates ++ gathered rules row (stepped_label rules from place (moves.step from.call to) to)) to (place + 1)
    gathered_step hops start old labels candidates row to place from covering layer standing x low high is is_call =
        let P : Option (Label R) → Type 0 = λ o. CallLayer rules moves Fits hops start old labels (candidates ++ gathered rules row o) to (place + 1) in
        let last : from.hops ≡ hops = ap (λ l. l.hops) is ∙ sym (last_hops rules moves laws fitting hops start old place from layer low high) in
        ⊎_elim
        (λ none. subst P (sym none)
        (subst (λ cs. CallLayer rules moves Fits hops start old labels cs to (place + 1)) (sym (append-nil candidates))
        (record {
          grown = x.grown;
          new = x.new;
          tried = tried_skipped start old (labels ++ candidates) to place from x.tried high is (option_map-none (labelled (Some place)) (moved rules moves (state_of from) to) none);
        })))
        (λ some.
        let new = moved_is_new rules moves laws fitting hops place to old from some.0 covering.reached last high is is_call some.1 in
        subst P (sym some.1) (gathered_label hops start old labels candidates row to place from some.0 covering standing x high is new.0 new.1))
        (found_cases (stepped_label rules from place (moves.step from.call to) to))

    -- the candidates in another order
    pub gathered_sorted : (hops start : ℕ) (old labels candidates others : List (Label R)) (to place : ℕ) → CallLayer rules moves Fits hops start old labels candidates to place → IsPermutation candidates others → CallLayer rules moves Fits hops start old labels others to place
    gathered_sorted hops start old labels candidates others to place x same = record {
      grown = x.grown;
      new = All-permutation (IsNewAt rules moves hops old to) candidates others same x.new;
      tried = λ i d low high. record {
        covered = λ t f e.
            let c = (x.tried i d low high).covered t f e in
            record {
              kept = c.kept;
              held = ⊎_elim
                  (λ first. Contains-append_left labels others c.kept first)
                  (λ second. Contains-append_right labels others c.kept (Contains-permutation candidates others c.kept same second))
                  (Contains-append_cases labels candidates c.kept c.held);
              covers = c.covers;
            };
      };
    }

    -- the last candidate is kept, or a rival is at least as good
    pub kept_step : (hops start : ℕ) (old labels rest : List (Label R)) (row : List R) (to place : ℕ) (label : Label R) → Covering rules moves hops old → All (StandsFor labels to) row → CallLayer rules moves Fits hops start old labels (rest ++ label ∷ []) to place → CallLayer rules moves Fits hops start old (labels ++ kept rules row label) rest to place
    kept_step hops start old labels rest row to place label covering standing x =
        let P = IsNewAt rules moves hops old to in
        let rest_new : All P rest = All-front P rest (label ∷ []) x.new in
        let new : P label = All-contains P (rest ++ label ∷ []) label x.new (Contains-push rest label) in
        cond_both (list_any (beats rules label.state) row) [] (label ∷ []) (λ more. CallLayer rules moves Fits hops start old (labels ++ more) rest to place)
        (λ beaten.
        subst (λ ls. CallLayer rules moves Fits hops start old ls rest to place) (sym (append-nil labels))
        (record {
          grown = x.grown;
          new = rest_new;
          tried = λ i d low high. record {
            covered = λ t f e.
                let c = (x.tried i d low high).covered t f e in
                ⊎_elim
                (λ first. record { kept = c.kept; held = Contains-append_left labels rest c.kept first; covers = c.covers })
                (λ other. ⊎_elim
                (λ second. record { kept = c.kept; held = Contains-append_right labels rest c.kept second; covers = c.covers })
                (λ last.
                let reached = grown_reached rules moves laws fitting hops old labels covering x.grown in
                let known = bounded rules moves laws fitting (hops + 1) (state_of label) new.new.front in
                let over : covers rules (state_of label) t ≡ true = subst (λ l. covers rules (state_of l) t ≡ true) (one_of label c.kept last) c.covers in
                covered_in labels rest t
                (covered_more rules moves laws fitting (hops + 1) labels (state_of label) t reached known.fits f (rival_covers hops old labels row to label covering x.grown standing new beaten) over))
                (Contains-append_cases rest (label ∷ []) c.kept other))
                (Contains-append_cases labels (rest ++ label ∷ []) c.kept c.held);
          };
        }))
        (λ _. record {
          grown = record {
            layer = x.grown.layer ++ label ∷ [];
            joined = ap (λ ls. ls ++ label ∷ []) x.grown.joined ∙ append_assoc old x.grown.layer (label ∷ []);
            new = All-push (IsNew rules moves hops old) x.grown.layer label x.grown.new new.new;
          };
          new = rest_new;
          tried = λ i d low high. record {
            covered = λ t f e.
                let c = (x.tried i d low high).covered t f e in
                let longer = labels ++ label ∷ [] in
                record {
                  kept = c.kept;
                  held = ⊎_elim
                      (λ first. Contains-append_left longer rest c.kept (Contains-append_left labels (label ∷ []) c.kept first))
                      (λ other. ⊎_elim
                      (λ second. Contains-append_right longer rest c.kept second)
                      (λ last. Contains-append_left longer rest c.kept (Contains-append_right labels (label ∷ []) c.kept last))
                      (Contains-append_cases rest (label ∷ []) c.kept other))
                      (Contains-append_cases labels (rest ++ label ∷ []) c.kept c.held);
                  covers = c.covers;
                };
          };
        })

    -- ---- a layer

    pub longer_none : (hops start : ℕ) (old : List (Label R)) → LongerFronts rules moves Fits hops start old old 1
    longer_none hops start old = record { grown = grown_none rules moves hops old; tried = λ i d call low high some below. absurd (omega arith) }

    -- one call more, of which no candidate is left
    pub longer_step : (hops start : ℕ) (old labels longer : List (Label R)) (to : ℕ) → LongerFronts rules moves Fits hops start old labels to → CallLayer rules moves Fits hops start old longer [] to (length old) → IsLonger labels longer → LongerFronts rules moves Fits hops start old longer (to + 1)
    longer_step hops start old labels longer to before x l = record {
      grown = x.grown;
      tried = λ i d call low high some below. ⊎_elim
          (λ less. tried_in Fits labels longer (get_or old i d) call l (before.tried i d call low high some less))
          (λ most.
          let same : call ≡ to = omega arith in
          subst (λ c. Tried rules moves Fits longer (get_or old i d) c) (sym same)
          (subst (λ ls. Tried rules moves Fits ls (get_or old i d) to) (append-nil longer) (x.tried i d low high)))
          (cases_lt call to);
    }

    pub longer_next : (hops start : ℕ) (old labels : List (Label R)) (to : ℕ) → 1 ≤ hops → Covering rules moves hops old → IsLastLayer hops start old → LongerFronts rules moves Fits hops start old labels to → moves.calls < to → Covering rules moves (hops + 1) labels × IsLastLayer (hops + 1) (length old) labels
    longer_next hops start old labels to some covering last next past =
        covering_next rules moves laws fitting hops start old labels to some covering last next.grown next.tried past

    pub covers_none : CoversFronts rules moves 0 []
    covers_none = covering_covers rules moves laws fitting 0 [] (whole_none rules moves laws fitting).covering
