use Rattle.std.proofs.Common.{Some, subst}
use Rattle.frontier_cli.specs.Files.{demo_nodes}
use Rattle.frontier_cli.specs.Ran.{IsFound}
use Rattle.frontier_cli.proofs.Solutions.{demonstrated}
use Rattle.frontier_cli.proofs.work.demonstrated.Goals as goal

pub returns : goal.returns
returns g c =
    let r = c.args.command in
    let p = c.in_ok-inst.inst in
    let found = subst (λ s. IsFound p s.labels (Some demo_nodes) 0 c.in_ok-found.found.cert c.in_ok-found.found.accepted) c.demo_settings-settings.ensures
    c.in_ok-found.ensures.found in
    demonstrated r p c.in_ok-found.found.cert c.in_ok-found.found.accepted c.in_ok-inst.ensures.found found c.summarised.result c.summarised.ensures.summary
    c.summarised.ensures.memory
