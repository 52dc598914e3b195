use Rattle.std.proofs.Common.{rules, ◌≡◌, ◌≤◌, ◌<◌, ◌∙◌, All, length, slice_index_or, sym, ap, subst}
use Rattle.std.specs.List.{Contains}
use Rattle.std.proofs.lemmas.List.Elements.{All-push, Contains-get_or}
use Rattle.dual_master.proofs.corners.CornerMaster.put_near.Goals.{then-low-cost+then-cost-high+then-len-lt-MOST_NEAR+in_ok-push, else-low-cost}
use Rattle.dual_master.proofs.corners.CornerMaster.put_near.Goals as goal

pub loop-place-preserved : goal.loop-place-preserved
loop-place-preserved c =
    let places = c.deref-place-items.result.now in
    let place = slice_index_or places c.loop-place.place-index 0 in
    let same : places ≡ c.args.self.now = search rules in
    let inside : c.loop-place.place-index < length places = search rules in
    let there = subst (λ known. Contains known place) same (Contains-get_or places c.loop-place.place-index 0 inside) in
    elim c.if-low-cost.branch [
      | then-low-cost+then-cost-high+then-len-lt-MOST_NEAR+in_ok-push w ↦
          record {
            places = subst (All (Contains c.args.self.now)) (sym (ap (λ near. near.items) w.near-is ∙ w.in_ok-push.ensures.items))
                (All-push (Contains c.args.self.now) c.loop-place.near.items place c.loop-place.invariant.places there);
            few = search rules;
          }
      | else-low-cost w ↦
          record {
            places = subst (λ near. All (Contains c.args.self.now) near.items) (sym w.near-is) c.loop-place.invariant.places;
            few = subst (λ near. length near.items ≤ 400) (sym w.near-is) c.loop-place.invariant.few;
          }
    ]
