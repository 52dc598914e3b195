use Rattle.instance_gen.proofs.Profiles.{generated_files_are_read}
use Rattle.instance_gen.proofs.Texts.{files_are_short}
use Rattle.instance_gen.proofs.laws_of_generated_files.Goals as goal

pub returns : goal.returns
returns c = record { read = generated_files_are_read; short = files_are_short }
