use Rattle.std.proofs.Common.{rules, ◌≡◌, ◌≤◌, ◌<◌, All, length, slice_index_or, sym, subst}
use Rattle.std.specs.List.{Contains}
use Rattle.std.proofs.lemmas.List.Elements.{All-push, Contains-get_or}
use Rattle.dual_master.specs.Corners.{IsShareAmong}
use Rattle.dual_master.proofs.corners.CornerMaster.shares.Goals as goal

pub loop-column-preserved-in-Continue-branch-2 : goal.loop-column-preserved-in-Continue-branch-2
loop-column-preserved-in-Continue-branch-2 c =
    let place = c.in-Some-get.place.now in
    let places = c.deref.result.now in
    let tour = c.in-Some-checked_sub.tour in
    let same : places ≡ c.args.self.now = search rules in
    let inside : tour < length places = search rules in
    let is : slice_index_or places tour 0 ≡ place = search rules in
    let there = subst (λ known. Contains known place) same (subst (Contains places) is (Contains-get_or places tour 0 inside)) in
    subst (All (IsShareAmong c.args.self.now)) (sym c.in_ok-push.ensures.items)
    (All-push (IsShareAmong c.args.self.now) c.loop-column.shares.items (place, c.parts_of.result) c.loop-column.invariant
    (record { place = there; parts = c.parts_of.ensures }))
