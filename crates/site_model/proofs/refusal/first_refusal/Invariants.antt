use Rattle.std.proofs.Common.{◌≡◌, ◌+◌, length}
use Rattle.site_model.specs.Parts.{places_refusal}
use Rattle.site_model.proofs.refusal.first_refusal.Given as goal

abbrev pub invariant-loop-place : goal.invariant-loop-place
invariant-loop-place l = record {
  counted : l.number + length l.rest ≡ length l.places;
  same : places_refusal l.number l.rest ≡ places_refusal 0 l.places;
}

abbrev pub decreases-loop-place : goal.decreases-loop-place
decreases-loop-place l = length l.rest
