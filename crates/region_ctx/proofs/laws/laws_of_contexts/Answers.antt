use Rattle.region_ctx.proofs.Narrower.{children_are_within, forced_is_visited}
use Rattle.region_ctx.proofs.laws.laws_of_contexts.Goals as goal

pub returns-clause-forced : goal.returns-clause-forced
returns-clause-forced c = λ p r plan call same is_plan agrees is_call forced. forced_is_visited p r plan call same agrees is_call forced

pub returns-clause-narrow : goal.returns-clause-narrow
returns-clause-narrow c = children_are_within
