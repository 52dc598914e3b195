-- One step of a loop that collects over a range.
use Rattle.std.proofs.Common.{◌≡◌, ℕ, zero, suc, ◌+◌, List, [], ◌∷◌, ◌++◌, ap, sym, ◌∙◌, append_assoc, append-nil, add-one, arith}
use Rattle.std.proofs.lemmas.List.Elements.{filter_map-append}
use Rattle.std.proofs.lemmas.List.Concat.{flat_map-append}
use Rattle.std.specs.List.{filter_map, flat_map, range_with_len, cons_option}
use Rattle.std.specs.declared.option.Option.{Option}
use Rattle.std.specs.declared.option.Option.TheVariants.{None, Some}

range_next : (a n : ℕ) → range_with_len a (suc n) ≡ range_with_len a n ++ (a + n) ∷ []
range_next a zero = let same : a + 0 ≡ a = omega arith in ap (λ k. k ∷ []) (sym same)
range_next a (suc n) =
    let same : a + 1 + n ≡ a + suc n = omega arith in
    ap (λ rest. a ∷ rest) (range_next (a + 1) n ∙ ap (λ k. range_with_len (a + 1) n ++ k ∷ []) same)

pub range_more : (a n k : ℕ) → a + n ≡ k → range_with_len a (n + 1) ≡ range_with_len a n ++ k ∷ []
range_more a n k same = rw add-one (range_next a n ∙ ap (λ j. range_with_len a n ++ j ∷ []) same)

filter_map_next : {X : Type 0} (f : ℕ → Option X) (init : List X) (a n k : ℕ) → a + n ≡ k →
    init ++ filter_map f (range_with_len a (n + 1)) ≡ (init ++ filter_map f (range_with_len a n)) ++ cons_option (f k) []
filter_map_next f init a n k same =
    ap (λ ks. init ++ filter_map f ks) (range_more a n k same)
    ∙ ap (λ xs. init ++ xs) (filter_map-append f (range_with_len a n) (k ∷ []))
    ∙ sym (append_assoc init (filter_map f (range_with_len a n)) (cons_option (f k) []))

pub filter_map_one : {X : Type 0} (f : ℕ → Option X) (init : List X) (a n k : ℕ) (x : X) → a + n ≡ k → f k ≡ Some x →
    (init ++ filter_map f (range_with_len a n)) ++ x ∷ [] ≡ init ++ filter_map f (range_with_len a (n + 1))
filter_map_one f init a n k x same is =
    sym (filter_map_next f init a n k same ∙ ap (λ o. (init ++ filter_map f (range_with_len a n)) ++ cons_option o []) is)

pub filter_map_none : {X : Type 0} (f : ℕ → Option X) (init : List X) (a n k : ℕ) → a + n ≡ k → f k ≡ None →
    init ++ filter_map f (range_with_len a n) ≡ init ++ filter_map f (range_with_len a (n + 1))
filter_map_none {X} f init a n k same is =
    sym (filter_map_next f init a n k same
    ∙ ap (λ (o : Option X). (init ++ filter_map f (range_with_len a n)) ++ cons_option o []) is
    ∙ append-nil (init ++ filter_map f (range_with_len a n)))

pub flat_map_one : {X : Type 0} (f : ℕ → List X) (init : List X) (a n k : ℕ) → a + n ≡ k →
    (init ++ flat_map f (range_with_len a n)) ++ f k ≡ init ++ flat_map f (range_with_len a (n + 1))
flat_map_one f init a n k same =
    append_assoc init (flat_map f (range_with_len a n)) (f k)
    ∙ sym (ap (λ ks. init ++ flat_map f ks) (range_more a n k same)
    ∙ ap (λ xs. init ++ xs) (flat_map-append f (range_with_len a n) (k ∷ []))
    ∙ ap (λ xs. init ++ (flat_map f (range_with_len a n) ++ xs)) (append-nil (f k)))
