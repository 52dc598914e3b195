-- Nodes that are grown from others: the others, with trees in the places of open ones.
use Rattle.std.proofs.Common.{◌≡◌, ◌⊎◌, inl, inr, List, [], ◌∷◌, ◌++◌, reverse, refl, ap, subst, sym, ◌∙◌}
use Rattle.std.proofs.lemmas.List.{append_assoc, append-nil, reverse-append, reverse-reverse}
use Rattle.orienteering.specs.declared.Node.{Node}
use Rattle.orienteering.specs.declared.Node.TheVariants.{Profit, Time, Count, Arc, Cut, Dominated, Cutoff, Stuck, Left}
use Rattle.growth.specs.Growth.{IsGrown, with_trees}

-- each node gave way to some nodes, one that isn't open to itself
abbrev pub IsGrownFrom : List Node → List Node → Type 0
IsGrownFrom [] grown = grown ≡ []
IsGrownFrom (n ∷ ns) grown =
    (tree rest : List Node) × (IsGrown n → tree ≡ n ∷ []) × (grown ≡ tree ++ rest) × IsGrownFrom ns rest

-- a node that isn't open stays where trees are put in
abbrev Stays : Node → Type 0
Stays n = IsGrown n × ((ns : List Node) (ts : List (List Node)) → with_trees (n ∷ ns) ts ≡ n ∷ with_trees ns ts)

open_or_stays : (n : Node) → (n ≡ Left) ⊎ Stays n
open_or_stays (Profit v) = inr (tt, λ ns ts. refl)
open_or_stays (Time v) = inr (tt, λ ns ts. refl)
open_or_stays (Count c) = inr (tt, λ ns ts. refl)
open_or_stays (Arc i j) = inr (tt, λ ns ts. refl)
open_or_stays (Cut price critical) = inr (tt, λ ns ts. refl)
open_or_stays Dominated = inr (tt, λ ns ts. refl)
open_or_stays (Cutoff k) = inr (tt, λ ns ts. refl)
open_or_stays (Stuck reason) = inr (tt, λ ns ts. refl)
open_or_stays Left = inl refl

-- ---- the definition with trees, and back

abbrev pub KeepsNodes : List Node → List Node → Type 0
KeepsNodes nodes grown = (trees : List (List Node)) × (grown ≡ with_trees nodes trees)

pub to_trees : (nodes grown : List Node) → IsGrownFrom nodes grown → KeepsNodes nodes grown
to_trees [] grown none = ([], none)
to_trees (n ∷ ns) grown (tree, rest, stays, is, behind) =
    let more = to_trees ns rest behind in
    elim (open_or_stays n) [
      | inl e ↦
          subst (λ m. KeepsNodes (m ∷ ns) grown) (sym e) (tree ∷ more.0, is ∙ ap (λ ms. tree ++ ms) more.1)
      | inr s ↦
          (more.0, is ∙ ap (λ ms. ms ++ rest) (stays s.0) ∙ ap (λ ms. n ∷ ms) more.1 ∙ sym (s.1 ns more.0))
    ]

open_gives_way : (ns : List Node) → ((ts : List (List Node)) → IsGrownFrom ns (with_trees ns ts)) → (ts : List (List Node)) →
    IsGrownFrom (Left ∷ ns) (with_trees (Left ∷ ns) ts)
open_gives_way ns behind [] = (Left ∷ [], with_trees ns [], (λ g. refl), refl, behind [])
open_gives_way ns behind (t ∷ ts) = (t, with_trees ns ts, (λ g. absurd g), refl, behind ts)

pub from_trees : (ns : List Node) (ts : List (List Node)) → IsGrownFrom ns (with_trees ns ts)
from_trees [] ts = refl
from_trees (n ∷ ns) ts =
    elim (open_or_stays n) [
      | inl e ↦
          subst (λ m. IsGrownFrom (m ∷ ns) (with_trees (m ∷ ns) ts)) (sym e)
          (open_gives_way ns (λ us. from_trees ns us) ts)
      | inr s ↦ (n ∷ [], with_trees ns ts, (λ g. refl), s.1 ns ts, from_trees ns ts)
    ]

-- without a tree all nodes stay
pub no_trees : (ns : List Node) → with_trees ns [] ≡ ns
no_trees [] = refl
no_trees (n ∷ ns) =
    elim (open_or_stays n) [
      | inl e ↦ subst (λ m. with_trees (m ∷ ns) [] ≡ m ∷ ns) (sym e) (ap (λ ms. Left ∷ ms) (no_trees ns))
      | inr s ↦ s.1 ns [] ∙ ap (λ ms. n ∷ ms) (no_trees ns)
    ]

-- ---- growth after growth

-- what is grown from two lists of nodes
pub record GrownApart (front behind grown : List Node) : Type 0 where
  pub first : List Node
  pub second : List Node
  pub is : grown ≡ first ++ second
  pub from_first : IsGrownFrom front first
  pub from_second : IsGrownFrom behind second

grown_apart : (front behind grown : List Node) → IsGrownFrom (front ++ behind) grown → GrownApart front behind grown
grown_apart [] behind grown g = record { first = []; second = grown; is = refl; from_first = refl; from_second = g }
grown_apart (n ∷ ns) behind grown (tree, rest, stays, is, more) =
    let parts = grown_apart ns behind rest more in
    record {
      first = tree ++ parts.first;
      second = parts.second;
      is = is ∙ ap (λ ms. tree ++ ms) parts.is ∙ sym (append_assoc tree parts.first parts.second);
      from_first = (tree, parts.first, stays, refl, parts.from_first);
      from_second = parts.from_second;
    }

-- a node alone that isn't open stays alone
one_stays : (n : Node) (grown : List Node) → IsGrown n → IsGrownFrom (n ∷ []) grown → grown ≡ n ∷ []
one_stays n grown g (tree, rest, stays, is, none) =
    is ∙ ap (λ ms. tree ++ ms) none ∙ append-nil tree ∙ stays g

pub grown_then : (nodes between grown : List Node) → IsGrownFrom nodes between → IsGrownFrom between grown → IsGrownFrom nodes grown
grown_then [] between grown none g = subst (λ ms. IsGrownFrom ms grown) none g
grown_then (n ∷ ns) between grown (tree, rest, stays, is, behind) g =
    let parts = grown_apart tree rest grown (subst (λ ms. IsGrownFrom ms grown) is g) in (
      parts.first,
      parts.second,
      (λ closed. one_stays n parts.first closed (subst (λ ms. IsGrownFrom ms parts.first) (stays closed) parts.from_first)),
      parts.is,
      grown_then ns rest parts.second behind parts.from_second,
    )

-- trees in the places of open nodes twice are trees there once
pub trees_then : (nodes between grown : List Node) → KeepsNodes nodes between → KeepsNodes between grown → KeepsNodes nodes grown
trees_then nodes between grown (ts, before) (us, after) =
    to_trees nodes grown (grown_then nodes between grown
    (subst (λ ms. IsGrownFrom nodes ms) (sym before) (from_trees nodes ts))
    (subst (λ ms. IsGrownFrom between ms) (sym after) (from_trees between us)))

-- ---- nodes that are read from the end of a list, and written

-- what is grown from the nodes that are still behind completes what is written
abbrev pub IsKeeping : List Node → List Node → List Node → Type 0
IsKeeping nodes behind written =
    (more : List Node) → IsGrownFrom (reverse behind) more → IsGrownFrom nodes (written ++ more)

pub keeping_begins : (behind written : List Node) → written ≡ [] → IsKeeping (reverse behind) behind written
keeping_begins behind written none more g = subst (λ ms. IsGrownFrom (reverse behind) (ms ++ more)) (sym none) g

-- the next node gives way to a tree, or is written again
pub keeping_on : (nodes behind after_it written grown tree : List Node) (n : Node) → behind ≡ after_it ++ n ∷ [] →
    grown ≡ written ++ tree → (IsGrown n → tree ≡ n ∷ []) → IsKeeping nodes behind written → IsKeeping nodes after_it grown
keeping_on nodes behind after_it written grown tree n split is stays keeps more g =
    subst (λ ms. IsGrownFrom nodes ms)
    (sym (ap (λ ms. ms ++ more) is ∙ append_assoc written tree more))
    (keeps (tree ++ more)
    (subst (λ ms. IsGrownFrom ms (tree ++ more)) (sym (ap reverse split ∙ reverse-append after_it (n ∷ [])))
    (tree, more, stays, refl, g)))

pub keeping_ends : (nodes behind written : List Node) → behind ≡ [] → IsKeeping nodes behind written → KeepsNodes nodes written
keeping_ends nodes behind written none keeps =
    to_trees nodes written (subst (λ ms. IsGrownFrom nodes ms) (append-nil written)
    (keeps [] (subst (λ ms. IsGrownFrom (reverse ms) []) (sym none) refl)))

-- nodes that were handed in from the end
pub kept_from_behind : (nodes behind written : List Node) → behind ≡ reverse nodes → KeepsNodes (reverse behind) written →
    KeepsNodes nodes written
kept_from_behind nodes behind written back kept =
    subst (λ ns. KeepsNodes ns written) (ap reverse back ∙ reverse-reverse nodes) kept
