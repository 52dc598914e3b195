use Rattle.instance_files.proofs.SoundFiles.{files_are_instances}
use Rattle.instance_files.proofs.file.laws_of_files.Goals as goal

pub returns : goal.returns
returns c = files_are_instances
