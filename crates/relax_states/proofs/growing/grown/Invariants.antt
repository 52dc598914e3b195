use Rattle.relax_states.specs.Growing.{IsReplayed}
use Rattle.relax_states.proofs.growing.grown.Given as goal

abbrev pub invariant-loop : goal.invariant-loop
invariant-loop l = IsReplayed l.inst l.ctx l.price l.limit l.counter l.now.critical.items l.now.outcome
