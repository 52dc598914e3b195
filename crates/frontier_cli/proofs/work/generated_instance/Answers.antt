use Rattle.std.proofs.Common.{◌≡◌, ap, ◌∙◌}
use Rattle.frontier_cli.specs.Files.{demo_instance, demo_settings, instance_in}
use Rattle.frontier_cli.proofs.Demonstrations.{demo_found, demo_read, demo_wanting}
use Rattle.frontier_cli.proofs.work.generated_instance.Goals as goal

pub returns-clause-found : goal.returns-clause-found
returns-clause-found c =
    let r = c.args.command in
    let same : instance_in c.args.settings c.as_slice.result.now ≡ demo_instance r =
    ap (λ s. instance_in s c.as_slice.result.now) c.requires.settings ∙ ap (instance_in (demo_settings r)) (c.as_slice.ensures.value ∙ c.in-Ok.ensures) in
    demo_found r c.args.settings c.as_slice.result.now same c.instance_of.result c.instance_of.ensures

pub returns-clause-memory : goal.returns-clause-memory
returns-clause-memory c =
    let r = c.args.command in
    let same : instance_in c.args.settings c.as_slice.result.now ≡ demo_instance r =
    ap (λ s. instance_in s c.as_slice.result.now) c.requires.settings ∙ ap (instance_in (demo_settings r)) (c.as_slice.ensures.value ∙ c.in-Ok.ensures) in
    let read = demo_read r c.requires.within.calls c.laws_of_generated_files.ensures.read c.laws_of_generated_files.ensures.short in
    demo_wanting r c.args.settings c.as_slice.result.now same read.0 read.1 c.instance_of.result c.instance_of.ensures
