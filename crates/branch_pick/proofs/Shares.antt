-- The parts of arcs, where entries stand one behind the other.
use Rattle.std.proofs.Common.{◌≡◌, ℕ, Bool, true, false, true≢false, ◌||◌, List, [], ◌∷◌, ◌++◌, refl, sym, ap, ◌∙◌, arith}
use Rattle.std.proofs.lemmas.Bool.Decides.{nat_tests}
use Rattle.std.proofs.lemmas.List.Folds.{list_any-append}
use Rattle.std.specs.Int.{abs_diff}
use Rattle.branch_pick.specs.declared.ArcShare.{ArcShare}
use Rattle.branch_pick.specs.Choice.{is_of, parts_of, distance}
use Rattle.branch_pick.specs.Candidates.{is_listed}

-- an entry is one of its own arc
pub own_arc : (share : ArcShare) → is_of share.from share.to share ≡ true
own_arc share = grind (arith, nat_tests)

-- an entry of an arc has the ends of that arc
pub same_from : (i j : ℕ) (share : ArcShare) → is_of i j share ≡ true → share.from ≡ i
same_from i j share e = grind (arith, nat_tests)

pub same_to : (i j : ℕ) (share : ArcShare) → is_of i j share ≡ true → share.to ≡ j
same_to i j share e = grind (arith, nat_tests)

or_false : (b : Bool) → (b || false) ≡ b
or_false true = refl
or_false false = refl

-- one entry more lists its own arc, and leaves the others as they are
pub listed_more : (earlier : List ArcShare) (share : ArcShare) (i j : ℕ) → is_listed (earlier ++ share ∷ []) i j ≡ (is_listed earlier i j || is_of i j share)
listed_more earlier share i j =
    list_any-append (is_of i j) earlier (share ∷ []) ∙ ap (λ b. is_listed earlier i j || b) (or_false (is_of i j share))

-- the parts of an arc that is listed stay
pub parts_kept : (shares others : List ArcShare) (i j : ℕ) → is_listed shares i j ≡ true → parts_of (shares ++ others) i j ≡ parts_of shares i j
parts_kept [] others i j listed = absurd (true≢false (sym listed))
parts_kept (share ∷ shares) others i j listed =
    elim (is_of i j share) as (λ b. is_of i j share ≡ b → parts_of (share ∷ shares ++ others) i j ≡ parts_of (share ∷ shares) i j) [
      | true ↦ λ own. rw (own) refl
      | false ↦ λ other. rw (other) (parts_kept shares others i j (rw other at listed))
    ] refl

-- the first entry of an arc gives its parts
pub parts_new : (shares : List ArcShare) (share : ArcShare) (i j : ℕ) → is_listed shares i j ≡ false → is_of i j share ≡ true → parts_of (shares ++ share ∷ []) i j ≡ share.parts
parts_new [] share i j listed own = rw own refl
parts_new (first ∷ shares) share i j listed own =
    elim (is_of i j first) as (λ b. is_of i j first ≡ b → parts_of (first ∷ shares ++ share ∷ []) i j ≡ share.parts) [
      | true ↦ λ there. absurd (true≢false (rw there at listed))
      | false ↦ λ other. rw (other) (parts_new shares share i j (rw other at listed) own)
    ] refl

-- an arc that isn't listed has no parts
pub parts_none : (shares : List ArcShare) (i j : ℕ) → is_listed shares i j ≡ false → parts_of shares i j ≡ 0
parts_none [] i j listed = refl
parts_none (first ∷ shares) i j listed =
    elim (is_of i j first) as (λ b. is_of i j first ≡ b → parts_of (first ∷ shares) i j ≡ 0) [
      | true ↦ λ there. absurd (true≢false (rw there at listed))
      | false ↦ λ other. rw (other) (parts_none shares i j (rw other at listed))
    ] refl

pub distance_kept : (shares others : List ArcShare) (i j : ℕ) → is_listed shares i j ≡ true → distance (shares ++ others) i j ≡ distance shares i j
distance_kept shares others i j listed = ap (λ n. abs_diff n 500000) (parts_kept shares others i j listed)

pub distance_new : (shares : List ArcShare) (share : ArcShare) (i j : ℕ) → is_listed shares i j ≡ false → is_of i j share ≡ true → distance (shares ++ share ∷ []) i j ≡ abs_diff share.parts 500000
distance_new shares share i j listed own = ap (λ n. abs_diff n 500000) (parts_new shares share i j listed own)

pub distance_none : (shares : List ArcShare) (i j : ℕ) → is_listed shares i j ≡ false → distance shares i j ≡ 500000
distance_none shares i j listed = ap (λ n. abs_diff n 500000) (parts_none shares i j listed)
