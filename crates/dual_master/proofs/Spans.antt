-- Tours that are laid out one after another.
use Rattle.std.proofs.Common.{◌≡◌, ℕ, ◌+◌, ◌≤◌, List, [], ◌∷◌, ◌++◌, length, length-append, ap, sym, subst, ◌∙◌, arith}
use Rattle.std.proofs.lemmas.List.Elements.{All-append, All-push, All-weaker, All-from_recursion}
use Rattle.std.specs.Prelude.{All}
use Rattle.std.specs.List.{AllByRecursion}
use Rattle.orienteering.specs.Instance.{Problem, calls, IsCall}
use Rattle.price_bound.specs.Magnitude.{IsWithin}
use Rattle.dual_master.specs.Search.{IsSpan, most_worth}
use Rattle.dual_master.specs.declared.open_tours.Span.{Span}

pub record AreLaid (last : ℕ) (calls : List ℕ) (spans : List Span) : Type 0 where
  pub spans_are : All (IsSpan (length calls)) spans
  pub calls_are : All (λ call. call ≤ last) calls

grown : (size more : ℕ) (s : Span) → size ≤ more → IsSpan size s → IsSpan more s
grown size more s h is = record { order = is.order; ends = omega (arith, h, is.ends); few = is.few; worth = is.worth }

-- one more tour behind the others
pub laid_more : (p : Problem) (last : ℕ) (old new tour : List ℕ) (spans : List Span) (s : Span) → last ≡ calls p →
    AllByRecursion (IsCall p) tour → length tour ≤ 300 → new ≡ old ++ tour → s.begin ≡ length old → s.end ≡ length new →
    IsWithin most_worth s.worth → All (IsSpan (length old)) spans → All (λ call. call ≤ last) old →
    AreLaid last new (spans ++ s ∷ [])
laid_more p last old new tour spans s e feasible few is begins ends worth before low =
    let size : length new ≡ length old + length tour = ap length is ∙ length-append old tour in
    record {
      spans_are =
          All-push (IsSpan (length new)) spans s
          (All-weaker (IsSpan (length old)) (IsSpan (length new)) (λ t k. grown (length old) (length new) t (omega arith) k) spans before)
          (record { order = omega arith; ends = omega arith; few = omega arith; worth = worth });
      calls_are =
          subst (All (λ call. call ≤ last)) (sym is)
          (All-append (λ call. call ≤ last) old tour low
          (All-weaker (IsCall p) (λ call. call ≤ last) (λ call k. omega (arith, k.1, e)) tour (All-from_recursion (IsCall p) tour feasible)));
    }
