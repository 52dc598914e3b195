use Rattle.std.proofs.Common.{◌≡◌, ◌∙◌, take}
use Rattle.fixed_num.specs.Length.{scale_number}
use Rattle.instance_files.specs.File.{file_problem}
use Rattle.frontier_cli.specs.Files.{instance_in, or_refused}
use Rattle.frontier_cli.specs.Ran.{LooksAt}
use Rattle.frontier_cli.specs.Refusal.{step_of}
use Rattle.frontier_cli.proofs.Steps.{reads-got, measured-take}
use Rattle.frontier_cli.proofs.work.get_instance.Goals as goal

pub returns : goal.returns
returns g c =
    let settings = c.args.settings in
    let bytes = c.in_ok-bytes.bytes.items in
    let look : LooksAt (λ read. read ≡ instance_in settings bytes) (step_of c.instance_of.result) = rw (← c.deref.ensures.value) c.instance_of.ensures in
    reads-got c.args.name.now (take 16777217) (λ whole read. read ≡ instance_in settings whole) bytes
    (λ whole read is got. got ∙ measured-take 16777216 (λ b. or_refused (file_problem settings.format (scale_number settings.scale) settings.team b)) whole bytes is) _ _ (step_of c.instance_of.result) look c.in_ok-bytes.ensures
