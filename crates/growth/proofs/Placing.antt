-- Trees in the places of the open nodes of another tree.
use Rattle.std.proofs.Common.{◌≡◌, ℕ, zero, suc, ◌+◌, ◌<◌, List, [], ◌∷◌, ◌++◌, length, replicate, set, refl, ap, subst, sym, ◌∙◌, arith, length-append}
use Rattle.std.specs.List.{AllByRecursion, Contains, sum_by}
use Rattle.std.proofs.lemmas.List.{append-nil}
use Rattle.std.proofs.lemmas.List.Sums.{sum_by-cons}
use Rattle.std.specs.declared.option.Option.TheVariants.{Some}
use Rattle.orienteering.specs.Preorder.{Leaf}
use Rattle.orienteering.specs.declared.Listed.{Listed}
use Rattle.orienteering.specs.declared.Step.{Step}
use Rattle.orienteering.specs.declared.Step.TheVariants.{Refused, Ends, Child, Children}
use Rattle.orienteering.proofs.Lists.{AllByRecursion-append, AllByRecursion-weaker}
use Rattle.orienteering.specs.RegionRules.{RegionRules}
use Rattle.orienteering.specs.Decision.{node_step, Branch}
use Rattle.orienteering.specs.Size.{IsWeight}
use Rattle.orienteering.specs.declared.Node.{Node}
use Rattle.orienteering.specs.declared.Node.TheVariants.{Profit, Time, Count, Arc, Cut, Dominated, Cutoff, Stuck, Left}
use Rattle.growth.specs.Reading.{Reading, after}
use Rattle.growth.specs.Growth.{Improves, IsGrown, IsAccepted, SplitsShrink, IsFromOpen, open_branches, with_trees}
use Rattle.growth.proofs.Reading.{goes_on, after-append, after-framed, after-kept, adds}
use Rattle.growth.proofs.Steps.{keeps_accepted}
use Rattle.growth.proofs.Awaiting.{not_open, open_branches-append}
use Rattle.growth.proofs.Shrinking.{IsBelow, leaves_shrink}

-- one tree at each branch
abbrev pub Fit : {R : Type 0} → RegionRules R → List Listed → List (List Node) → List (Branch R) → Type 0
Fit rules points [] [] = Unit {0}
Fit rules points [] (b ∷ bs) = ⊥
Fit rules points (t ∷ ts) [] = ⊥
Fit rules points (t ∷ ts) (b ∷ bs) = IsAccepted rules points b t × Fit rules points ts bs

-- the branch stands at the place
abbrev pub StandsAt : {P : Type 0} → List P → ℕ → P → Type 0
StandsAt [] k b = ⊥
StandsAt (c ∷ cs) zero b = c ≡ b
StandsAt (c ∷ cs) (suc k) b = StandsAt cs k b

pub place_below : {P : Type 0} (bs : List P) (k : ℕ) (b : P) → StandsAt bs k b → k < length bs
place_below [] k b at = absurd at
place_below (c ∷ cs) zero b at = omega arith
place_below (c ∷ cs) (suc k) b at = omega (arith, place_below cs k b at)

pub Fit-length : {R : Type 0} (rules : RegionRules R) (points : List Listed) (ts : List (List Node)) (bs : List (Branch R)) →
    Fit rules points ts bs → length ts ≡ length bs
Fit-length rules points [] [] f = refl
Fit-length rules points [] (b ∷ bs) f = absurd f
Fit-length rules points (t ∷ ts) [] f = absurd f
Fit-length rules points (t ∷ ts) (b ∷ bs) f = ap (λ n. suc n) (Fit-length rules points ts bs f.1)

-- an open node is a tree at any branch
pub Fit-open : {R : Type 0} (rules : RegionRules R) (points : List Listed) (bs : List (Branch R)) →
    Fit rules points (replicate (length bs) (Left ∷ [])) bs
Fit-open rules points [] = tt
Fit-open {R} rules points (b ∷ bs) =
    let l : Leaf (Branch R) Node = record { branch = b; node = Left } in
    ((l ∷ [], refl), Fit-open rules points bs)

pub Fit-set : {R : Type 0} (rules : RegionRules R) (points : List Listed) (ts : List (List Node)) (bs : List (Branch R)) (k : ℕ)
    (b : Branch R) (t : List Node) → Fit rules points ts bs → StandsAt bs k b → IsAccepted rules points b t →
    Fit rules points (set ts k t) bs
Fit-set rules points [] [] k b t f at a = absurd at
Fit-set rules points [] (c ∷ cs) k b t f at a = absurd f
Fit-set rules points (u ∷ us) [] k b t f at a = absurd f
Fit-set rules points (u ∷ us) (c ∷ cs) zero b t f at a = (subst (λ d. IsAccepted rules points d t) (sym at) a, f.1)
Fit-set rules points (u ∷ us) (c ∷ cs) (suc k) b t f at a = (f.0, Fit-set rules points us cs k b t f.1 at a)

pub Fit-kept : {R : Type 0} (rules : RegionRules R) (points better : List Listed) → Improves points better →
    (ts : List (List Node)) (bs : List (Branch R)) → Fit rules points ts bs → Fit rules better ts bs
Fit-kept rules points better i [] [] f = tt
Fit-kept rules points better i [] (b ∷ bs) f = absurd f
Fit-kept rules points better i (t ∷ ts) [] f = absurd f
Fit-kept {R} rules points better i (t ∷ ts) (b ∷ bs) f =
    let end : Reading (Branch R) Node = record { found = f.0.0; pending = [] } in (
      (
        f.0.0,
        after-kept (node_step rules points) (node_step rules better) (keeps_accepted rules points better i) [] (b ∷ []) t end f.0.1,
      ),
      Fit-kept rules points better i ts bs f.1,
    )

-- the leaves of nodes are found behind those that were found before
from_there : {P N E : Type 0} (step : ℕ → P → N → Step P E) (front : List (Leaf P N)) (ps rest : List P) (ns : List N)
    (more : List (Leaf P N)) → after step [] ps ns ≡ Some (record { found = more; pending = rest }) →
    after step front ps ns ≡ Some (record { found = front ++ more; pending = rest })
from_there {P} {N} step front ps rest ns more e =
    let end : Reading P N = record { found = more; pending = rest } in
    ap (λ f. after step f ps ns) (sym (append-nil front))
    ∙ ap (λ qs. after step (front ++ []) qs ns) (sym (append-nil ps))
    ∙ after-framed step front [] [] ps ns end e
    ∙ ap (λ (qs : List P). Some (record { found = front ++ more; pending = qs })) (append-nil rest)

module _ {R : Type 0} (rules : RegionRules R) (Proper : R → Type 0) (weight : R → ℕ) (weighs : IsWeight rules Proper weight)
    (shrinks : SplitsShrink rules Proper) (points : List Listed) (old : List (Leaf (Branch R) Node)) where
  -- the nodes with the trees in the places of the open ones
  pub record Placed (pending rest : List (Branch R)) (ns : List Node) (ts : List (List Node)) : Type 0 where
    pub leaves : List (Leaf (Branch R) Node)
    pub read : after (node_step rules points) [] pending (with_trees ns ts) ≡ Some (record { found = leaves; pending = rest })
    pub within : AllByRecursion (IsFromOpen rules old) leaves
    pub grown : AllByRecursion (λ t. AllByRecursion IsGrown t) ts → AllByRecursion IsGrown (with_trees ns ts)
    pub sized : length (with_trees ns ts) + length ts ≡ length ns + sum_by (λ t. length t) ts

  -- a leaf of the old tree, at a proper region
  pub record IsOld (l : Leaf (Branch R) Node) : Type 0 where
    pub proper : Proper l.branch.region
    pub held : Contains old l

  abbrev pub Places : List Node → Type 0
  Places ns =
      (pending rest : List (Branch R)) (found : List (Leaf (Branch R) Node)) (ts : List (List Node)) →
      after (node_step rules points) [] pending ns ≡ Some (record { found = found; pending = rest }) →
      Fit rules points ts (open_branches found) → AllByRecursion IsOld found → Placed pending rest ns ts

  at_end : Places []
  at_end pending rest found [] e fit all =
      let here : Reading (Branch R) Node = record { found = []; pending = pending } in
      let there : Reading (Branch R) Node = record { found = found; pending = rest } in
      let same : here ≡ there = cc in
      record {
        leaves = [];
        read = ap (λ (r : Reading (Branch R) Node). Some (record { found = []; pending = r.pending })) same;
        within = tt;
        grown = λ g. tt;
        sized = refl;
      }
  at_end pending rest found (t ∷ ts) e fit all =
      let here : Reading (Branch R) Node = record { found = []; pending = pending } in
      let there : Reading (Branch R) Node = record { found = found; pending = rest } in
      let same : here ≡ there = cc in
      absurd (subst (λ (r : Reading (Branch R) Node). Fit rules points (t ∷ ts) (open_branches r.found)) (sym same) fit)

  -- a tree in the place of an open node
  tree_here : (p : Branch R) (ps rest : List (Branch R)) (ns : List Node) (more : List (Leaf (Branch R) Node)) (ts : List (List Node)) →
      Places ns → after (node_step rules points) [] ps ns ≡ Some (record { found = more; pending = rest }) →
      Fit rules points ts (p ∷ open_branches more) →
      AllByRecursion IsOld (record { branch = p; node = Left } ∷ more) → Placed (p ∷ ps) rest (Left ∷ ns) ts
  tree_here p ps rest ns more [] places e fit all = absurd fit
  tree_here p ps rest ns more (t ∷ ts) places e fit all =
      let rule = node_step rules points in
      let l : Leaf (Branch R) Node = record { branch = p; node = Left } in
      let tl = fit.0.0 in
      let ends : Reading (Branch R) Node = record { found = tl; pending = [] } in
      let here : Reading (Branch R) Node = record { found = tl; pending = ps } in
      let behind = places ps rest more ts e fit.1 all.1 in
      let shrunk = leaves_shrink rules Proper weight weighs shrinks points p t tl fit.0.1 all.0.proper in
      record {
        leaves = tl ++ behind.leaves;
        read = after-append rule [] (p ∷ ps) t (with_trees ns ts) here (after-framed rule [] ps [] (p ∷ []) t ends fit.0.1)
            ∙ from_there rule tl ps rest (with_trees ns ts) behind.leaves behind.read;
        within = AllByRecursion-append (IsFromOpen rules old) tl behind.leaves
            (AllByRecursion-weaker (λ (l : Leaf (Branch R) Node). IsBelow rules Proper weight weighs shrinks points p.region l.branch)
            (IsFromOpen rules old) (λ k b e. (l, all.0.held, refl, b.shrunk)) tl shrunk)
            behind.within;
        grown = λ g. AllByRecursion-append IsGrown t (with_trees ns ts) g.0 (behind.grown g.1);
        sized = omega (arith, length-append t (with_trees ns ts), behind.sized, sum_by-cons (λ (t : List Node). length t) t ts);
      }

  at_left : (ns : List Node) → Places ns → Places (Left ∷ ns)
  at_left ns places [] rest found ts e fit all = absurd (cc)
  at_left ns places (p ∷ ps) rest found ts e fit all =
      let l : Leaf (Branch R) Node = record { branch = p; node = Left } in
      let r : Reading (Branch R) Node = record { found = found; pending = rest } in
      let a = adds (node_step rules points) (l ∷ []) [] ps ns r e in
      tree_here p ps rest ns a.more ts places a.alone
      (subst (λ ls. Fit rules points ts (open_branches ls)) a.grown fit)
      (subst (λ ls. AllByRecursion IsOld ls) a.grown all)

  -- a node that isn't open stays
  over : (n : Node) (ns : List Node) → IsGrown n → ((ts : List (List Node)) → with_trees (n ∷ ns) ts ≡ n ∷ with_trees ns ts) →
      Places ns → Places (n ∷ ns)
  over n ns g is places [] rest found ts e fit all = absurd (cc)
  over n ns g is places (p ∷ ps) rest found ts e fit all =
      elim (node_step rules points 0 p n) as (λ s. node_step rules points 0 p n ≡ s →
      goes_on (node_step rules points) [] p ps n ns s ≡ Some r → Placed (p ∷ ps) rest (n ∷ ns) ts) [
        | Refused w ↦ λ at h. absurd (cc)
        | Ends ↦ λ at h.
            let a = adds (node_step rules points) (l ∷ []) [] ps ns r h in
            let opens : open_branches found ≡ open_branches a.more =
            ap (λ ls. open_branches ls) a.grown ∙ ap (λ bs. bs ++ open_branches a.more) (not_open p n g) in
            let behind = places ps rest a.more ts a.alone (subst (λ bs. Fit rules points ts bs) opens fit)
            (subst (λ ls. AllByRecursion IsOld ls) a.grown all).1 in
            stays behind (l ∷ behind.leaves)
            (ap (λ s. goes_on (node_step rules points) [] p ps n (with_trees ns ts) s) at
            ∙ from_there (node_step rules points) (l ∷ []) ps rest (with_trees ns ts) behind.leaves behind.read)
            (λ e. absurd (subst (λ m. IsGrown m) e g), behind.within)
        | Child q ↦ λ at h.
            let behind = places (q ∷ ps) rest found ts h fit all in
            stays behind behind.leaves
            (ap (λ s. goes_on (node_step rules points) [] p ps n (with_trees ns ts) s) at ∙ behind.read) behind.within
        | Children q t ↦ λ at h.
            let behind = places (q ∷ t ∷ ps) rest found ts h fit all in
            stays behind behind.leaves
            (ap (λ s. goes_on (node_step rules points) [] p ps n (with_trees ns ts) s) at ∙ behind.read) behind.within
      ] refl e
    where
      l : Leaf (Branch R) Node
      l = record { branch = p; node = n }

      r : Reading (Branch R) Node
      r = record { found = found; pending = rest }

      stays : {qs : List (Branch R)} → Placed qs rest ns ts → (leaves : List (Leaf (Branch R) Node)) →
          after (node_step rules points) [] (p ∷ ps) (n ∷ with_trees ns ts) ≡ Some (record { found = leaves; pending = rest }) →
          AllByRecursion (IsFromOpen rules old) leaves → Placed (p ∷ ps) rest (n ∷ ns) ts
      stays behind leaves read within =
          record {
            leaves = leaves;
            read = ap (λ ms. after (node_step rules points) [] (p ∷ ps) ms) (is ts) ∙ read;
            within = within;
            grown = λ a. subst (λ ms. AllByRecursion IsGrown ms) (sym (is ts)) (g, behind.grown a);
            sized = omega (arith, ap length (is ts), behind.sized);
          }

  pub places : (ns : List Node) → Places ns
  places [] = at_end
  places (Profit v ∷ ns) = over (Profit v) ns tt (λ ts. refl) (places ns)
  places (Time v ∷ ns) = over (Time v) ns tt (λ ts. refl) (places ns)
  places (Count c ∷ ns) = over (Count c) ns tt (λ ts. refl) (places ns)
  places (Arc i j ∷ ns) = over (Arc i j) ns tt (λ ts. refl) (places ns)
  places (Cut price critical ∷ ns) = over (Cut price critical) ns tt (λ ts. refl) (places ns)
  places (Dominated ∷ ns) = over Dominated ns tt (λ ts. refl) (places ns)
  places (Cutoff k ∷ ns) = over (Cutoff k) ns tt (λ ts. refl) (places ns)
  places (Stuck reason ∷ ns) = over (Stuck reason) ns tt (λ ts. refl) (places ns)
  places (Left ∷ ns) = at_left ns (places ns)

-- an open leaf that was found stays
open_stays : {R : Type 0} (rules : RegionRules R) (points : List Listed) (found : List (Leaf (Branch R) Node)) (p : Branch R)
    (ps : List (Branch R)) (ns : List Node) (r : Reading (Branch R) Node) →
    after (node_step rules points) (found ++ record { branch = p; node = Left } ∷ []) ps ns ≡ Some r →
    open_branches r.found ≡ [] → ⊥
open_stays {R} rules points found p ps ns r e none =
    let l : Leaf (Branch R) Node = record { branch = p; node = Left } in
    let front = found ++ l ∷ [] in
    let a = adds (node_step rules points) front [] ps ns r
    (ap (λ f. after (node_step rules points) f ps ns) (append-nil front) ∙ e) in
    let opens : (open_branches found ++ p ∷ []) ++ open_branches a.more ≡ [] =
    ap (λ bs. bs ++ open_branches a.more) (sym (open_branches-append found (l ∷ [])))
    ∙ sym (open_branches-append front a.more)
    ∙ ap (λ ls. open_branches ls) (sym a.grown)
    ∙ none in
    omega (arith, simp length-append at (ap length opens))

node_grown : {R : Type 0} (rules : RegionRules R) (points : List Listed) (found : List (Leaf (Branch R) Node)) (p : Branch R)
    (ps : List (Branch R)) (n : Node) (ns : List Node) (r : Reading (Branch R) Node) →
    goes_on (node_step rules points) found p ps n ns (node_step rules points 0 p n) ≡ Some r → open_branches r.found ≡ [] → IsGrown n
node_grown rules points found p ps (Profit v) ns r e none = tt
node_grown rules points found p ps (Time v) ns r e none = tt
node_grown rules points found p ps (Count c) ns r e none = tt
node_grown rules points found p ps (Arc i j) ns r e none = tt
node_grown rules points found p ps (Cut price critical) ns r e none = tt
node_grown rules points found p ps Dominated ns r e none = tt
node_grown rules points found p ps (Cutoff k) ns r e none = tt
node_grown rules points found p ps (Stuck reason) ns r e none = tt
node_grown rules points found p ps Left ns r e none = open_stays rules points found p ps ns r e none

-- a tree that has no open leaf has no open node
pub all_grown : {R : Type 0} (rules : RegionRules R) (points : List Listed) (found : List (Leaf (Branch R) Node)) (pending : List (Branch R))
    (ns : List Node) (r : Reading (Branch R) Node) → after (node_step rules points) found pending ns ≡ Some r →
    open_branches r.found ≡ [] → AllByRecursion IsGrown ns
all_grown rules points found pending [] r e none = tt
all_grown rules points found [] (n ∷ ns) r e none = absurd (cc)
all_grown {R} rules points found (p ∷ ps) (n ∷ ns) r e none = (
  node_grown rules points found p ps n ns r e none,
  elim (node_step rules points 0 p n) as (λ s. goes_on (node_step rules points) found p ps n ns s ≡ Some r → AllByRecursion IsGrown ns) [
    | Refused w ↦ λ h. absurd (cc)
    | Ends ↦ λ h. all_grown rules points (found ++ record { branch = p; node = n } ∷ []) ps ns r h none
    | Child q ↦ λ h. all_grown rules points found (q ∷ ps) ns r h none
    | Children q t ↦ λ h. all_grown rules points found (q ∷ t ∷ ps) ns r h none
  ] e,
)
