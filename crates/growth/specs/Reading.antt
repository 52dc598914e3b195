-- The first nodes of a tree in preorder: the leaves among them, and the branches that wait for the nodes behind them.
use Rattle.std.specs.Prelude.{◌≡◌, ℕ, List, [], ◌∷◌, ◌++◌}
use Rattle.std.specs.declared.option.Option.{Option}
use Rattle.std.specs.declared.option.Option.TheVariants.{None, Some}
use Rattle.orienteering.specs.Preorder.{Leaf}
use Rattle.orienteering.specs.declared.Step.{Step}
use Rattle.orienteering.specs.declared.Step.TheVariants.{Refused, Ends, Child, Children}

pub record Reading (P N : Type 0) : Type 0 where
  pub found : List (Leaf P N)
  pub pending : List P

-- the reading after these nodes, and none where one of them is refused or stands behind the whole tree
abbrev pub after : {P N E : Type 0} → (ℕ → P → N → Step P E) → List (Leaf P N) → List P → List N → Option (Reading P N)
after step found pending [] = Some (record { found = found; pending = pending })
after step found [] (n ∷ ns) = None
after step found (p ∷ ps) (n ∷ ns) =
    elim (step 0 p n) [
      | Refused e ↦ None
      | Ends ↦ after step (found ++ record { branch = p; node = n } ∷ []) ps ns
      | Child q ↦ after step found (q ∷ ps) ns
      | Children q r ↦ after step found (q ∷ r ∷ ps) ns
    ]

-- the nodes are a whole tree below the branch, with these leaves
abbrev pub IsTree : {P N E : Type 0} → (ℕ → P → N → Step P E) → P → List N → List (Leaf P N) → Type 0
IsTree step p nodes leaves = after step [] (p ∷ []) nodes ≡ Some (record { found = leaves; pending = [] })

-- a step that isn't refused is kept
abbrev pub IsKept : {P E F : Type 0} → Step P E → Step P F → Type 0
IsKept (Refused e) t = Unit {0}
IsKept Ends t = t ≡ Ends
IsKept (Child q) t = t ≡ Child q
IsKept (Children q r) t = t ≡ Children q r

-- what the first rule accepts, the second accepts in the same way, whatever the node's number is
abbrev pub KeepsAccepted : {P N E : Type 0} → (ℕ → P → N → Step P E) → (ℕ → P → N → Step P E) → Type 0
KeepsAccepted {P} {N} {E} step better = (i j : ℕ) (p : P) (n : N) → IsKept (step i p n) (better j p n)
