-- The bucket of a call: taking a label into it is offering the label to all labels.
use Rattle.std.proofs.Common.{◌≡◌, ℕ, ◌+◌, ◌<◌, ◌≤◌, ◌⊎◌, ⊎_elim, inl, inr, Bool, true, false, not, ◌&&◌, ◌||◌, nat_le, cond, List, [], ◌∷◌, ◌++◌, length, get_or, Option, None, Some, refl, sym, ap, ◌∙◌, subst, arith, append-nil, length-drop, get_or-drop, ◌-◌}
use Rattle.std.specs.List.{All, AllPairs, filter, list_any, slice_get}
use Rattle.std.specs.Option.{option_map, MatchOption}
use Rattle.std.proofs.lemmas.Bool.{eq-eqb, le-leb, not_from_false, false_from_ne_true, cases_Bool, cases_lt, cond_both}
use Rattle.std.proofs.lemmas.List.{get_or_default}
use Rattle.std.proofs.lemmas.List.Elements.{All-nil, All-weaker, All-contains, Contains-push, Contains-append_left}
use Rattle.std.proofs.lemmas.List.Folds.{Any-from_list_any}
use Rattle.std.proofs.lemmas.Option.{none-some, same_Some, slice_get-get_or}
use Rattle.label_core.specs.Resource.{Rules, Laws}
use Rattle.label_engine.specs.Front.{MoveRules, State, IsCallOf, GivesFitting, begun, moved}
use Rattle.label_engine.specs.Settled.{Covered, state_of, IsExtended}
use Rattle.label_engine.specs.Offer.{labelled, stepped_label, label_covers, is_better, beats, offered, taken}
use Rattle.label_engine.specs.Layer.{Apart, IsLastLayer, IsReached, Covering, Whole, IsNew, IsNewAt, Grown, Bucket}
use Rattle.label_engine.specs.Rivals.{AreRivals}
use Rattle.label_engine.specs.declared.label.Label.{Label}
use Rattle.label_engine.proofs.Covering.{mapped, move_parts, cover_parts, covers_reflexive, covers_transitive}
use Rattle.label_engine.proofs.Fronts.{front_longer, Bounded, bounded}
use Rattle.label_engine.proofs.Kept.{list_any_agrees, filter_agrees, Contains-filter, offered-cases, All-offered, apart-offered, offered-behind}
use Rattle.label_engine.proofs.Layers.{reached_fits, grown_reached}
use Rattle.label_engine.proofs.Rivals.{rivals_cover}

-- there is none, or there is one
pub found_cases : {A : Type 0} (o : Option A) → (o ≡ None) ⊎ ((x : A) × (o ≡ Some x))
found_cases None = inl refl
found_cases (Some x) = inr (x, refl)

pub option_map-none : {A B : Type 0} (f : A → B) (o : Option A) → option_map f o ≡ None → o ≡ None
option_map-none f None e = refl
option_map-none f (Some x) e = absurd (none-some (f x) (sym e))

cond-or : {A : Type 0} (a b : Bool) (x y : A) → cond a x (cond b x y) ≡ cond (a || b) x y
cond-or true b x y = refl
cond-or false b x y = refl

module _ {R S : Type 0} (rules : Rules R S) where
  -- at the same call with the same number of calls, covering is being at least as good
  same_kind : (a b : Label R) → a.call ≡ b.call → a.hops ≡ b.hops → label_covers rules a b ≡ is_better rules a b
  same_kind a b call hops =
      ap (λ t. t && (nat_le a.hops b.hops && is_better rules a b)) (eq-eqb a.call b.call call) ∙
      ap (λ t. t && is_better rules a b) (le-leb a.hops b.hops (omega arith))

  -- taking a label into the bucket is offering it to the labels before and the bucket
  taken_behind : (old bucket : List (Label R)) (rivals : List R) (c : Label R) → list_any (λ k. label_covers rules k c) old ≡ list_any (beats rules c.state) rivals → All (λ k. label_covers rules c k ≡ false) old → All (λ k. label_covers rules k c ≡ is_better rules k c) bucket → All (λ k. label_covers rules c k ≡ is_better rules c k) bucket → old ++ taken rules rivals bucket (Some c) ≡ offered (label_covers rules) (old ++ bucket) c
  taken_behind old bucket rivals c rivalled spared over under =
      let beaten = list_any (beats rules c.state) rivals in
      let some_old = list_any (λ k. label_covers rules k c) old in
      let some_new = list_any (λ k. label_covers rules k c) bucket in
      let left = filter (λ k. not (label_covers rules c k)) bucket in
      let some : list_any (λ k. is_better rules k c) bucket ≡ some_new = sym (list_any_agrees (λ k. label_covers rules k c) (λ k. is_better rules k c) bucket over) in
      let rest : filter (λ k. not (is_better rules c k)) bucket ≡ left = sym (filter_agrees (λ k. not (label_covers rules c k)) (λ k. not (is_better rules c k)) bucket (All-weaker (λ k. label_covers rules c k ≡ is_better rules c k) (λ k. not (label_covers rules c k) ≡ not (is_better rules c k)) (λ k e. ap not e) bucket under)) in
      let made : taken rules rivals bucket (Some c) ≡ cond (some_old || some_new) bucket (left ++ c ∷ []) =
      ap (λ b. cond b bucket (offered (is_better rules) bucket c)) (sym rivalled) ∙
      ap (λ b. cond some_old bucket (cond b bucket (filter (λ k. not (is_better rules c k)) bucket ++ c ∷ []))) some ∙
      ap (λ l. cond some_old bucket (cond some_new bucket (l ++ c ∷ []))) rest ∙
      cond-or some_old some_new bucket (left ++ c ∷ []) in
      ap (λ l. old ++ l) made ∙ sym (offered-behind (label_covers rules) old bucket c spared)

  -- what holds of the bucket and of a label holds of the bucket after it
  All-taken : (P : Label R → Type 0) (bucket : List (Label R)) (rivals : List R) (c : Label R) → All P bucket → P c → All P (taken rules rivals bucket (Some c))
  All-taken P bucket rivals c h p =
      cond_both (list_any (beats rules c.state) rivals) bucket (offered (is_better rules) bucket c) (All P) (λ _. h) (λ _. All-offered (is_better rules) P bucket c h p)

  module _ (moves : MoveRules R S) {Fits : R → Type 0} {FitsStep : S → Type 0} (laws : Laws rules Fits FitsStep) (fitting : GivesFitting Fits FitsStep moves) where
    -- what was covered stays covered when a label is offered
    covered_kept : (hops : ℕ) (labels : List (Label R)) (c : Label R) (s : State R) → All (IsReached rules moves hops) labels → IsReached rules moves hops c → Fits s.value → Covered rules moves labels s → Covered rules moves (offered (label_covers rules) labels c) s
    covered_kept hops labels c s reached new f covered =
        let left : Label R → Bool = λ k. not (label_covers rules c k) in
        let k = covered.kept in
        let fits_kept = reached_fits rules moves laws fitting hops k (All-contains (IsReached rules moves hops) labels k reached covered.held) in
        offered-cases (label_covers rules) (λ l. Covered rules moves l s) labels c (λ _. covered)
        (λ _. ⊎_elim
        (λ over. record {
          kept = c;
          held = Contains-push (filter left labels) c;
          covers = covers_transitive rules laws (state_of c) (state_of k) s (reached_fits rules moves laws fitting hops c new) fits_kept f over covered.covers;
        })
        (λ not_over. record {
          kept = k;
          held = Contains-append_left (filter left labels) (c ∷ []) k (Contains-filter left labels k (not_from_false _ not_over) covered.held);
          covers = covered.covers;
        })
        (cases_Bool (label_covers rules c k)))

    -- what is offered is covered then
    covered_offered : (hops : ℕ) (labels : List (Label R)) (c : Label R) → IsReached rules moves hops c → Covered rules moves (offered (label_covers rules) labels c) (state_of c)
    covered_offered hops labels c new =
        let left : Label R → Bool = λ k. not (label_covers rules c k) in
        offered-cases (label_covers rules) (λ l. Covered rules moves l (state_of c)) labels c
        (λ some. let any = Any-from_list_any (λ k. label_covers rules k c) labels some in record {
          kept = any.1;
          held = (any.0, any.2, any.3);
          covers = any.4;
        })
        (λ _. record {
          kept = c;
          held = Contains-push (filter left labels) c;
          covers = covers_reflexive rules laws (state_of c) (reached_fits rules moves laws fitting hops c new);
        })

    bucket_grown : (hops start : ℕ) (old bucket : List (Label R)) (to place : ℕ) → Bucket rules moves Fits hops start old bucket to place → Grown rules moves hops old (old ++ bucket)
    bucket_grown hops start old bucket to place b = record {
      layer = bucket;
      joined = refl;
      new = All-weaker (IsNewAt rules moves hops old to) (IsNew rules moves hops old) (λ k n. n.new) bucket b.new;
    }

    -- nothing was made yet
    pub bucket_none : (hops start : ℕ) (old : List (Label R)) (to : ℕ) → Whole rules moves hops old → Bucket rules moves Fits hops start old [] to start
    bucket_none hops start old to whole = record {
      new = All-nil (IsNewAt rules moves hops old to);
      apart = subst (AllPairs (Apart (label_covers rules))) (sym (append-nil old)) whole.apart;
      tried = λ i d low high. absurd (omega arith);
    }

    -- nothing follows from the label at the place
    bucket_skipped : (hops start : ℕ) (old bucket : List (Label R)) (to place : ℕ) (from : Label R) → Bucket rules moves Fits hops start old bucket to place → place < length old → from ≡ get_or old place from → moved rules moves (state_of from) to ≡ None → Bucket rules moves Fits hops start old bucket to (place + 1)
    bucket_skipped hops start old bucket to place from b within is none = record {
      new = b.new;
      apart = b.apart;
      tried = λ i d low high. ⊎_elim
          (λ less. b.tried i d low less)
          (λ most. record {
            covered = λ t f e.
                let same : i ≡ place = omega arith in
                let at : get_or old i d ≡ from = ap (λ k. get_or old k d) same ∙ get_or_default old place d from within ∙ sym is in
                absurd (none-some t (sym none ∙ ap (λ l. moved rules moves (state_of l) to) (sym at) ∙ e));
          })
          (cases_lt i place);
    }

    -- the labels from the last layer on have so many calls
    pub last_hops : (hops start : ℕ) (old : List (Label R)) (place : ℕ) (d : Label R) → IsLastLayer hops start old → start ≤ place → place < length old → hops ≡ (get_or old place d).hops
    last_hops hops start old place d layer low high =
        let here = layer.layer (place - start) d (omega (arith, length-drop start old)) in
        let place_is : start + (place - start) ≡ place = omega arith in
        sym here ∙ ap (λ l. l.hops) (get_or-drop start old (place - start) d ∙ ap (λ k. get_or old k d) place_is)

    -- the label that is extended is at a call, and has so many calls
    pub from_known : (hops : ℕ) (old : List (Label R)) (place : ℕ) (from : Label R) → Covering rules moves hops old → place < length old → from ≡ get_or old place from → Bounded rules moves laws fitting hops (state_of from)
    from_known hops old place from covering within is =
        bounded rules moves laws fitting hops (state_of from) (subst (IsReached rules moves hops) (sym is) (covering.reached place from within)).front

    -- the label of a move
    pub moved_is_new : (hops place to : ℕ) (old : List (Label R)) (from label : Label R) → All (IsReached rules moves hops) old → from.hops ≡ hops → place < length old → from ≡ get_or old place from → IsCallOf moves to → stepped_label rules from place (moves.step from.call to) to ≡ Some label → IsNewAt rules moves hops old to label × (moved rules moves (state_of from) to ≡ Some (state_of label))
    moved_is_new hops place to old from label all_reached last within is is_call e =
        let m = mapped (labelled (Some place)) (moved rules moves (state_of from) to) label e in
        let state : m.value ≡ state_of label = ap state_of m.gives in
        let moves_on : moved rules moves (state_of from) to ≡ Some (state_of label) = m.is ∙ ap (λ s. Some s) state in
        let parts = move_parts rules moves (state_of from) to (state_of label) moves_on in
        let reached : IsReached rules moves hops from = subst (IsReached rules moves hops) (sym is) (all_reached place from within) in
        let stands : slice_get old place ≡ Some from = slice_get-get_or old place from within ∙ ap (λ l. Some l) (sym is) in (
          record {
            new = record {
              front = front_longer rules moves hops (state_of from) to (state_of label) reached.front is_call moves_on;
              hops_is = omega (arith, parts.hops, last);
              parent = subst (λ p. MatchOption p (begun rules moves label.call ≡ Some (state_of label)) (IsExtended rules moves old label)) (ap (λ l. l.parent) m.gives)
                  (record { from = from; stands = stands; extends = ap (moved rules moves (state_of from)) parts.call ∙ moves_on });
            };
            at = parts.call;
          },
          moves_on,
        )

    bucket_offered : (hops start : ℕ) (old bucket : List (Label R)) (rivals : List R) (to place : ℕ) (from label : Label R) → Whole rules moves hops old → Bucket rules moves Fits hops start old bucket to place → AreRivals rules old to rivals → place < length old → from ≡ get_or old place from → IsNewAt rules moves hops old to label → moved rules moves (state_of from) to ≡ Some (state_of label) → Bucket rules moves Fits hops start old (taken rules rivals bucket (Some label)) to (place + 1)
    bucket_offered hops start old bucket rivals to place from label whole b rivalled within is new moves_on =
        let all_reached = grown_reached rules moves laws fitting hops old (old ++ bucket) whole.covering (bucket_grown hops start old bucket to place b) in
        let reached : IsReached rules moves (hops + 1) label = record { front = new.new.front; few = omega (arith, new.new.hops_is) } in
        let fits = reached_fits rules moves laws fitting (hops + 1) label reached in
        let old_fit : All (λ k. Fits k.state) old = All-weaker (IsReached rules moves hops) (λ k. Fits k.state) (reached_fits rules moves laws fitting hops) old whole.covering.reached in
        let few : All (λ k. k.hops ≤ label.hops) old = All-weaker (IsReached rules moves hops) (λ k. k.hops ≤ label.hops) (λ k r. omega (arith, r.few, new.new.hops_is)) old whole.covering.reached in
        let spared : All (λ k. label_covers rules label k ≡ false) old =
        All-weaker (IsReached rules moves hops) (λ k. label_covers rules label k ≡ false)
        (λ k r. false_from_ne_true _ (λ e. let p = cover_parts rules (state_of label) (state_of k) e in omega (arith, p.hops, r.few, new.new.hops_is))) old whole.covering.reached in
        let over : All (λ k. label_covers rules k label ≡ is_better rules k label) bucket =
        All-weaker (IsNewAt rules moves hops old to) (λ k. label_covers rules k label ≡ is_better rules k label) (λ k n. same_kind k label (n.at ∙ sym new.at) (n.new.hops_is ∙ sym new.new.hops_is)) bucket b.new in
        let under : All (λ k. label_covers rules label k ≡ is_better rules label k) bucket =
        All-weaker (IsNewAt rules moves hops old to) (λ k. label_covers rules label k ≡ is_better rules label k) (λ k n. same_kind label k (new.at ∙ sym n.at) (new.new.hops_is ∙ sym n.new.hops_is)) bucket b.new in
        let made : old ++ taken rules rivals bucket (Some label) ≡ offered (label_covers rules) (old ++ bucket) label =
        taken_behind old bucket rivals label (rivals_cover rules laws old to rivals label old_fit few rivalled new.at fits) spared over under in
        let back : (t : State R) → Covered rules moves (offered (label_covers rules) (old ++ bucket) label) t → Covered rules moves (old ++ taken rules rivals bucket (Some label)) t = λ t c. subst (λ l. Covered rules moves l t) (sym made) c in
        record {
          new = All-taken (IsNewAt rules moves hops old to) bucket rivals label b.new new;
          apart = subst (AllPairs (Apart (label_covers rules))) (sym made) (apart-offered (label_covers rules) (old ++ bucket) label b.apart);
          tried = λ i d low high. ⊎_elim
              (λ less. record { covered = λ t f e. back t (covered_kept (hops + 1) (old ++ bucket) label t all_reached reached f ((b.tried i d low less).covered t f e)) })
              (λ most. record {
                covered = λ t f e.
                    let same : i ≡ place = omega arith in
                    let at : get_or old i d ≡ from = ap (λ k. get_or old k d) same ∙ get_or_default old place d from within ∙ sym is in
                    let state : state_of label ≡ t = same_Some _ _ (sym moves_on ∙ ap (λ l. moved rules moves (state_of l) to) (sym at) ∙ e) in
                    back t (subst (Covered rules moves (offered (label_covers rules) (old ++ bucket) label)) state (covered_offered (hops + 1) (old ++ bucket) label reached));
              })
              (cases_lt i place);
        }

    -- one label more was extended
    pub bucket_step : (hops start : ℕ) (old bucket : List (Label R)) (rivals : List R) (to place : ℕ) (from : Label R) → Whole rules moves hops old → IsLastLayer hops start old → Bucket rules moves Fits hops start old bucket to place → AreRivals rules old to rivals → start ≤ place → place < length old → from ≡ get_or old place from → IsCallOf moves to → Bucket rules moves Fits hops start old (taken rules rivals bucket (stepped_label rules from place (moves.step from.call to) to)) to (place + 1)
    bucket_step hops start old bucket rivals to place from whole layer b rivalled low high is is_call =
        let P : Option (Label R) → Type 0 = λ o. Bucket rules moves Fits hops start old (taken rules rivals bucket o) to (place + 1) in
        let last : from.hops ≡ hops = ap (λ l. l.hops) is ∙ sym (last_hops hops start old place from layer low high) in
        ⊎_elim
        (λ none. subst P (sym none) (bucket_skipped hops start old bucket to place from b high is (option_map-none (labelled (Some place)) (moved rules moves (state_of from) to) none)))
        (λ some.
        let new = moved_is_new hops place to old from some.0 whole.covering.reached last high is is_call some.1 in
        subst P (sym some.1) (bucket_offered hops start old bucket rivals to place from some.0 whole b rivalled high is new.0 new.1))
        (found_cases (stepped_label rules from place (moves.step from.call to) to))
