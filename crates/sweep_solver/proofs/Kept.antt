-- The boxes that an accepted tree leaves are the tight boxes of its open leaves.
use Rattle.std.proofs.Common.{◌≡◌, ℕ, zero, suc, true, false, cond, ◌&&◌, nat_eq, List, [], ◌∷◌, ◌++◌, refl, sym, ap, subst, arith}
use Rattle.std.specs.List.{AllByRecursion, Contains, fold, list_any}
use Rattle.std.proofs.lemmas.Bool.Decides.{nat_tests}
use Rattle.std.proofs.lemmas.List.Elements.{Contains-append_left, Contains-push}
use Rattle.std.specs.declared.option.Option.{Option}
use Rattle.std.specs.declared.option.Option.TheVariants.{None, Some}
use Rattle.orienteering.specs.Instance.{Problem}
use Rattle.orienteering.specs.Region.{Region, tight_box}
use Rattle.orienteering.specs.RegionTests.{is_empty_box}
use Rattle.orienteering.specs.Preorder.{Leaf}
use Rattle.orienteering.specs.Decision.{Branch}
use Rattle.orienteering.specs.Decide.{boxes_left, keep_box, keep_open, region_rules, same_box}
use Rattle.orienteering.specs.declared.Box2.{Box2}
use Rattle.orienteering.specs.declared.Node.{Node}
use Rattle.orienteering.specs.declared.Node.TheVariants.{Profit, Time, Count, Arc, Cut, Dominated, Cutoff, Stuck, Left}
use Rattle.orienteering.proofs.Lists.{AllByRecursion-push, found_by}
use Rattle.growth.specs.Growth.{IsFromOpen, LiesWithin}
use Rattle.sweep_solver.specs.Resumed.{LieWithin}

same_parts : (a b c d e f g h : ℕ) → a ≡ b → c ≡ d → e ≡ f → g ≡ h →
    ◌≡◌ {A = Box2} (record { p_lo = a; p_hi = c; t_lo = e; t_hi = g }) (record { p_lo = b; p_hi = d; t_lo = f; t_hi = h })
same_parts a b c d e f g h p q r s = cc

same_box_is : (b c : Box2) → same_box b c ≡ true → b ≡ c
same_box_is b c h =
    let e = all_equal b.p_lo c.p_lo b.p_hi c.p_hi b.t_lo c.t_lo b.t_hi c.t_hi h in
    same_parts b.p_lo c.p_lo b.p_hi c.p_hi b.t_lo c.t_lo b.t_hi c.t_hi e.0 e.1 e.2 e.3
  where
    all_equal : (a b c d e f g h : ℕ) → (nat_eq a b && (nat_eq c d && (nat_eq e f && nat_eq g h))) ≡ true →
        (a ≡ b) × (c ≡ d) × (e ≡ f) × (g ≡ h)
    all_equal a b c d e f g h t =
        (grind (arith, nat_tests), grind (arith, nat_tests), grind (arith, nat_tests), grind (arith, nat_tests))

-- a box that is kept stays
keep_box_keeps : (kept : List Box2) (b c : Box2) → Contains kept c → Contains (keep_box kept b) c
keep_box_keeps kept b c h =
    elim (list_any (same_box b) kept) as (λ t. Contains (cond t kept (kept ++ b ∷ [])) c) [
      | true ↦ h
      | false ↦ Contains-append_left kept (b ∷ []) c h
    ]

-- the box that comes is kept
keep_box_holds : (kept : List Box2) (b : Box2) → Contains (keep_box kept b) b
keep_box_holds kept b =
    elim (list_any (same_box b) kept) as (λ t. list_any (same_box b) kept ≡ t → Contains (cond t kept (kept ++ b ∷ [])) b) [
      | true ↦ λ e. let f = found_by (same_box b) kept e in subst (Contains kept) (sym (same_box_is b f.0 f.2)) f.1
      | false ↦ λ e. Contains-push kept b
    ] refl

-- what all kept boxes have, and the one that comes, all have that are kept then
keep_box_all : (P : Box2 → Type 0) (kept : List Box2) (b : Box2) → AllByRecursion P kept → P b → AllByRecursion P (keep_box kept b)
keep_box_all P kept b all here =
    elim (list_any (same_box b) kept) as (λ t. AllByRecursion P (cond t kept (kept ++ b ∷ []))) [
      | true ↦ all
      | false ↦ AllByRecursion-push P kept b all here
    ]

module _ (p : Problem) (labels : ℕ) where
  abbrev tight_of : Region → Option Box2
  tight_of r = (region_rules p labels).tight r

  -- the tight box, where there is one
  tight_is : (r : Region) (b : Box2) → tight_of r ≡ Some b → (is_empty_box (tight_box p r) ≡ false) × (tight_box p r ≡ b)
  tight_is r b e =
      elim (is_empty_box (tight_box p r)) as (λ t. is_empty_box (tight_box p r) ≡ t →
      ◌≡◌ {A = Option Box2} (cond t None (Some (tight_box p r))) (Some b) →
      (is_empty_box (tight_box p r) ≡ false) × (tight_box p r ≡ b)) [
        | true ↦ λ h m. absurd (cc)
        | false ↦ λ h m. (h, same_some (tight_box p r) b m)
      ] refl e
    where
      same_some : (x y : Box2) → ◌≡◌ {A = Option Box2} (Some x) (Some y) → x ≡ y
      same_some x y m = cc

  keep_open_keeps : (kept : List Box2) (r : Branch Region) (n : Node) (c : Box2) → Contains kept c →
      Contains (keep_open p kept (record { branch = r; node = n })) c
  keep_open_keeps kept r (Profit w) c h = h
  keep_open_keeps kept r (Time w) c h = h
  keep_open_keeps kept r (Count w) c h = h
  keep_open_keeps kept r (Arc i j) c h = h
  keep_open_keeps kept r (Cut price critical) c h = h
  keep_open_keeps kept r Dominated c h = h
  keep_open_keeps kept r (Cutoff k) c h = h
  keep_open_keeps kept r (Stuck reason) c h = h
  keep_open_keeps kept r Left c h =
      elim (is_empty_box (tight_box p r.region)) as (λ t. Contains (cond t kept (keep_box kept (tight_box p r.region))) c) [
        | true ↦ h
        | false ↦ keep_box_keeps kept (tight_box p r.region) c h
      ]

  keep_open_holds : (kept : List Box2) (l : Leaf (Branch Region) Node) (b : Box2) → l.node ≡ Left → tight_of l.branch.region ≡ Some b →
      Contains (keep_open p kept l) b
  keep_open_holds kept l b is_open e =
      let is = tight_is l.branch.region b e in
      subst (λ n. Contains (keep_open p kept (record { branch = l.branch; node = n })) b) (sym is_open)
      (subst (λ t. Contains (cond t kept (keep_box kept (tight_box p l.branch.region))) b) (sym is.0)
      (subst (λ c. Contains (keep_box kept c) b) (sym is.1) (keep_box_holds kept b)))

  kept_to_end : (kept : List Box2) (leaves : List (Leaf (Branch Region) Node)) (c : Box2) → Contains kept c →
      Contains (fold (keep_open p) kept leaves) c
  kept_to_end kept [] c h = h
  kept_to_end kept (x ∷ xs) c h = kept_to_end (keep_open p kept x) xs c (keep_open_keeps kept x.branch x.node c h)

  -- the tight box of an open leaf is left
  left_box : (kept : List Box2) (leaves : List (Leaf (Branch Region) Node)) (l : Leaf (Branch Region) Node) (b : Box2) →
      Contains leaves l → l.node ≡ Left → tight_of l.branch.region ≡ Some b → Contains (fold (keep_open p) kept leaves) b
  left_box kept [] l b (k, below, same) is_open e = absurd (omega arith)
  left_box kept (x ∷ xs) l b (zero, below, same) is_open e =
      kept_to_end (keep_open p kept x) xs b
      (subst (λ y. Contains (keep_open p kept y) b) (sym same) (keep_open_holds kept l b is_open e))
  left_box kept (x ∷ xs) l b (suc k, below, same) is_open e = left_box (keep_open p kept x) xs l b (k, omega arith, same) is_open e

  module _ (P : Box2 → Type 0) where
    -- the tight box of the leaf, if that is open
    abbrev Here : Leaf (Branch Region) Node → Type 0
    Here l = l.node ≡ Left → (b : Box2) → tight_of l.branch.region ≡ Some b → P b

    keep_open_all : (kept : List Box2) (r : Branch Region) (n : Node) → AllByRecursion P kept → Here (record { branch = r; node = n }) →
        AllByRecursion P (keep_open p kept (record { branch = r; node = n }))
    keep_open_all kept r (Profit w) all here = all
    keep_open_all kept r (Time w) all here = all
    keep_open_all kept r (Count w) all here = all
    keep_open_all kept r (Arc i j) all here = all
    keep_open_all kept r (Cut price critical) all here = all
    keep_open_all kept r Dominated all here = all
    keep_open_all kept r (Cutoff k) all here = all
    keep_open_all kept r (Stuck reason) all here = all
    keep_open_all kept r Left all here =
        elim (is_empty_box (tight_box p r.region)) as (λ t. is_empty_box (tight_box p r.region) ≡ t →
        AllByRecursion P (cond t kept (keep_box kept (tight_box p r.region)))) [
          | true ↦ λ e. all
          | false ↦ λ e. keep_box_all P kept (tight_box p r.region) all
              (here refl (tight_box p r.region) (ap (λ t. cond t None (Some (tight_box p r.region))) e))
        ] refl

    -- what the tight boxes of open leaves have, all boxes that are left have
    left_all : (kept : List Box2) (leaves : List (Leaf (Branch Region) Node)) → AllByRecursion P kept → AllByRecursion Here leaves →
        AllByRecursion P (fold (keep_open p) kept leaves)
    left_all kept [] all here = all
    left_all kept (x ∷ xs) all here = left_all (keep_open p kept x) xs (keep_open_all kept x.branch x.node all here.0) here.1

  from_open : (old leaves : List (Leaf (Branch Region) Node)) → AllByRecursion (IsFromOpen (region_rules p labels) old) leaves →
      AllByRecursion (Here (λ b. (c : Box2) × Contains (boxes_left p old) c × LiesWithin b c)) leaves
  from_open old [] within = tt
  from_open old (l ∷ ls) within = (
    λ is_open b e.
        let o = within.0 is_open in
        let c = o.3 b e in
        (c.0, left_box [] old o.0 c.0 o.1 o.2 c.1, c.2),
    from_open old ls within.1,
  )

  -- each box lies in an old one where each open leaf comes from an old one
  pub boxes_within : (old leaves : List (Leaf (Branch Region) Node)) → AllByRecursion (IsFromOpen (region_rules p labels) old) leaves →
      LieWithin (boxes_left p old) (boxes_left p leaves)
  boxes_within old leaves within =
      left_all (λ b. (c : Box2) × Contains (boxes_left p old) c × LiesWithin b c) [] leaves tt (from_open old leaves within)
