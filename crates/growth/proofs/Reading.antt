-- Laws of the reading of the first nodes.
use Rattle.std.proofs.Common.{◌≡◌, ℕ, ◌+◌, List, [], ◌∷◌, ◌++◌, refl, sym, ◌∙◌, ap}
use Rattle.std.proofs.lemmas.List.{append_assoc}
use Rattle.std.specs.declared.option.Option.{Option}
use Rattle.std.specs.declared.option.Option.TheVariants.{None, Some}
use Rattle.std.specs.declared.result.Result.{Result}
use Rattle.std.specs.declared.result.Result.TheVariants.{Ok, Err}
use Rattle.orienteering.specs.Preorder.{Leaf, read_tree}
use Rattle.orienteering.specs.declared.Step.{Step}
use Rattle.orienteering.specs.declared.Step.TheVariants.{Refused, Ends, Child, Children}
use Rattle.growth.specs.Reading.{Reading, after, IsKept, KeepsAccepted}

-- what a node makes of a reading, by its step
abbrev pub goes_on : {P N E : Type 0} → (ℕ → P → N → Step P E) → List (Leaf P N) → P → List P → N → List N → Step P E →
    Option (Reading P N)
goes_on step found p ps n ns s =
    elim s [
      | Refused e ↦ None
      | Ends ↦ after step (found ++ record { branch = p; node = n } ∷ []) ps ns
      | Child q ↦ after step found (q ∷ ps) ns
      | Children q r ↦ after step found (q ∷ r ∷ ps) ns
    ]

module _ {P N E : Type 0} (step : ℕ → P → N → Step P E) where
  -- the nodes behind are read from where the first ones lead
  pub after-append : (found : List (Leaf P N)) (pending : List P) (xs ys : List N) (r : Reading P N) →
      after step found pending xs ≡ Some r → after step found pending (xs ++ ys) ≡ after step r.found r.pending ys
  after-append found pending [] ys r e =
      let here : Reading P N = record { found = found; pending = pending } in
      let same : here ≡ r = cc in
      ap (λ s. after step s.found s.pending ys) same
  after-append found [] (x ∷ xs) ys r e = absurd (cc)
  after-append found (p ∷ ps) (x ∷ xs) ys r e =
      elim (step 0 p x) as (λ s. goes_on step found p ps x xs s ≡ Some r →
      goes_on step found p ps x (xs ++ ys) s ≡ after step r.found r.pending ys) [
        | Refused w ↦ λ h. absurd (cc)
        | Ends ↦ λ h. after-append (found ++ record { branch = p; node = x } ∷ []) ps xs ys r h
        | Child q ↦ λ h. after-append found (q ∷ ps) xs ys r h
        | Children q t ↦ λ h. after-append found (q ∷ t ∷ ps) xs ys r h
      ] e

  -- more leaves in front and more branches behind change nothing
  pub after-framed : (front : List (Leaf P N)) (more : List P) (found : List (Leaf P N)) (pending : List P) (ns : List N)
      (r : Reading P N) → after step found pending ns ≡ Some r →
      after step (front ++ found) (pending ++ more) ns
      ≡ Some (record { found = front ++ r.found; pending = r.pending ++ more })
  after-framed front more found pending [] r e =
      let here : Reading P N = record { found = found; pending = pending } in
      let same : here ≡ r = cc in
      ap (λ (s : Reading P N). Some (record { found = front ++ s.found; pending = s.pending ++ more })) same
  after-framed front more found [] (n ∷ ns) r e = absurd (cc)
  after-framed front more found (p ∷ ps) (n ∷ ns) r e =
      elim (step 0 p n) as (λ s. goes_on step found p ps n ns s ≡ Some r →
      goes_on step (front ++ found) p (ps ++ more) n ns s
      ≡ Some (record { found = front ++ r.found; pending = r.pending ++ more })) [
        | Refused w ↦ λ h. absurd (cc)
        | Ends ↦ λ h.
            let l : Leaf P N = record { branch = p; node = n } in
            ap (λ f. after step f (ps ++ more) ns) (append_assoc front found (l ∷ []))
            ∙ after-framed front more (found ++ l ∷ []) ps ns r h
        | Child q ↦ λ h. after-framed front more found (q ∷ ps) ns r h
        | Children q t ↦ λ h. after-framed front more found (q ∷ t ∷ ps) ns r h
      ] e

  -- the leaves that are there before stay in front, and those behind them come from the nodes
  pub record Adds (front found : List (Leaf P N)) (pending : List P) (ns : List N) (r : Reading P N) : Type 0 where
    pub more : List (Leaf P N)
    pub grown : r.found ≡ front ++ more
    pub alone : after step found pending ns ≡ Some (record { found = more; pending = r.pending })

  pub adds : (front found : List (Leaf P N)) (pending : List P) (ns : List N) (r : Reading P N) →
      after step (front ++ found) pending ns ≡ Some r → Adds front found pending ns r
  adds front found pending [] r e =
      let here : Reading P N = record { found = front ++ found; pending = pending } in
      let same : here ≡ r = cc in
      record {
        more = found;
        grown = sym (ap (λ s. s.found) same);
        alone = ap (λ (s : Reading P N). Some (record { found = found; pending = s.pending })) same;
      }
  adds front found [] (n ∷ ns) r e = absurd (cc)
  adds front found (p ∷ ps) (n ∷ ns) r e =
      elim (step 0 p n) as (λ s. step 0 p n ≡ s → goes_on step (front ++ found) p ps n ns s ≡ Some r →
      Adds front found (p ∷ ps) (n ∷ ns) r) [
        | Refused w ↦ λ is h. absurd (cc)
        | Ends ↦ λ is h.
            let l : Leaf P N = record { branch = p; node = n } in
            let a = adds front (found ++ l ∷ []) ps ns r
            (ap (λ f. after step f ps ns) (sym (append_assoc front found (l ∷ []))) ∙ h) in
            record { more = a.more; grown = a.grown; alone = ap (λ s. goes_on step found p ps n ns s) is ∙ a.alone }
        | Child q ↦ λ is h.
            let a = adds front found (q ∷ ps) ns r h in
            record { more = a.more; grown = a.grown; alone = ap (λ s. goes_on step found p ps n ns s) is ∙ a.alone }
        | Children q t ↦ λ is h.
            let a = adds front found (q ∷ t ∷ ps) ns r h in
            record { more = a.more; grown = a.grown; alone = ap (λ s. goes_on step found p ps n ns s) is ∙ a.alone }
      ] refl e

-- what a better rule makes of nodes that a rule accepted
pub after-kept : {P N E : Type 0} (step better : ℕ → P → N → Step P E) → KeepsAccepted step better →
    (found : List (Leaf P N)) (pending : List P) (ns : List N) (r : Reading P N) →
    after step found pending ns ≡ Some r → after better found pending ns ≡ Some r
after-kept step better keeps found pending [] r e = e
after-kept step better keeps found [] (n ∷ ns) r e = absurd (cc)
after-kept step better keeps found (p ∷ ps) (n ∷ ns) r e =
    elim (step 0 p n) as (λ s. IsKept s (better 0 p n) → goes_on step found p ps n ns s ≡ Some r →
    goes_on better found p ps n ns (better 0 p n) ≡ Some r) [
      | Refused w ↦ λ k h. absurd (cc)
      | Ends ↦ λ k h. ap (λ s. goes_on better found p ps n ns s) k
          ∙ after-kept step better keeps (found ++ record { branch = p; node = n } ∷ []) ps ns r h
      | Child q ↦ λ k h. ap (λ s. goes_on better found p ps n ns s) k ∙ after-kept step better keeps found (q ∷ ps) ns r h
      | Children q t ↦ λ k h. ap (λ s. goes_on better found p ps n ns s) k
          ∙ after-kept step better keeps found (q ∷ t ∷ ps) ns r h
    ] (keeps 0 0 p n) e

-- a tree that is read to its end, and back: the numbers of the nodes don't matter
module _ {P N E : Type 0} (step : ℕ → P → N → Step P E) (shape : ℕ → E) (steady : KeepsAccepted step step)
    (leaves : List (Leaf P N)) where
  abbrev tree_on : List (Leaf P N) → P → List P → ℕ → N → List N → Step P E → Result (List (Leaf P N)) E
  tree_on found p ps i n ns s =
      elim s [
        | Refused e ↦ Err e
        | Ends ↦ read_tree step shape (found ++ record { branch = p; node = n } ∷ []) ps (i + 1) ns
        | Child q ↦ read_tree step shape found (q ∷ ps) (i + 1) ns
        | Children q r ↦ read_tree step shape found (q ∷ r ∷ ps) (i + 1) ns
      ]

  pub from_read : (found : List (Leaf P N)) (pending : List P) (i : ℕ) (ns : List N) →
      read_tree step shape found pending i ns ≡ Ok leaves →
      after step found pending ns ≡ Some (record { found = leaves; pending = [] })
  from_read found [] i [] e =
      let same : found ≡ leaves = cc in
      ap (λ (f : List (Leaf P N)). Some (record { found = f; pending = [] })) same
  from_read found (p ∷ ps) i [] e = absurd (cc)
  from_read found [] i (n ∷ ns) e = absurd (cc)
  from_read found (p ∷ ps) i (n ∷ ns) e =
      elim (step i p n) as (λ s. IsKept s (step 0 p n) → tree_on found p ps i n ns s ≡ Ok leaves →
      goes_on step found p ps n ns (step 0 p n) ≡ Some (record { found = leaves; pending = [] })) [
        | Refused w ↦ λ k h. absurd (cc)
        | Ends ↦ λ k h. ap (λ s. goes_on step found p ps n ns s) k
            ∙ from_read (found ++ record { branch = p; node = n } ∷ []) ps (i + 1) ns h
        | Child q ↦ λ k h. ap (λ s. goes_on step found p ps n ns s) k ∙ from_read found (q ∷ ps) (i + 1) ns h
        | Children q t ↦ λ k h. ap (λ s. goes_on step found p ps n ns s) k ∙ from_read found (q ∷ t ∷ ps) (i + 1) ns h
      ] (steady i 0 p n) e

  pub to_read : (found : List (Leaf P N)) (pending : List P) (i : ℕ) (ns : List N) →
      after step found pending ns ≡ Some (record { found = leaves; pending = [] }) →
      read_tree step shape found pending i ns ≡ Ok leaves
  to_read found [] i [] e = ap (λ (o : Option (Reading P N)). elim o [ None ↦ Ok found | Some r ↦ Ok r.found ]) e
  to_read found (p ∷ ps) i [] e =
      let none : p ∷ ps ≡ [] = ap (λ (o : Option (Reading P N)). elim o [ None ↦ [] | Some r ↦ r.pending ]) e in
      absurd (cc)
  to_read found [] i (n ∷ ns) e = absurd (cc)
  to_read found (p ∷ ps) i (n ∷ ns) e =
      elim (step 0 p n) as (λ s. IsKept s (step i p n) →
      goes_on step found p ps n ns s ≡ Some (record { found = leaves; pending = [] }) →
      tree_on found p ps i n ns (step i p n) ≡ Ok leaves) [
        | Refused w ↦ λ k h. absurd (cc)
        | Ends ↦ λ k h. ap (λ s. tree_on found p ps i n ns s) k
            ∙ to_read (found ++ record { branch = p; node = n } ∷ []) ps (i + 1) ns h
        | Child q ↦ λ k h. ap (λ s. tree_on found p ps i n ns s) k ∙ to_read found (q ∷ ps) (i + 1) ns h
        | Children q t ↦ λ k h. ap (λ s. tree_on found p ps i n ns s) k ∙ to_read found (q ∷ t ∷ ps) (i + 1) ns h
      ] (steady 0 i p n) e
