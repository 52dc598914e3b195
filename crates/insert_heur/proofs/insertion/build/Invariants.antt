use Rattle.std.proofs.Common.{◌≡◌, ◌-◌}
use Rattle.orienteering.specs.Instance.{calls}
use Rattle.orienteering.specs.Tour.{IsPlan}
use Rattle.draws.specs.Draws.{draws_behind}
use Rattle.insert_heur.specs.Insertion.{insertion, grown}
use Rattle.insert_heur.proofs.insertion.build.Given as goal

abbrev pub invariant-loop : goal.invariant-loop
invariant-loop l = record {
  plan : IsPlan l.inst l.tours.items;
  same :
      insertion l.inst l.seed l.weight
      ≡ grown l.inst l.weight l.tours.items (draws_behind l.draws (calls l.inst - l.counter));
}
