use Rattle.site_model.proofs.Accepted.{instances_are_accepted}
use Rattle.site_model.proofs.refusal.laws_of_parts.Goals as goal

pub returns : goal.returns
returns c = instances_are_accepted
