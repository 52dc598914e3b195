use Rattle.std.proofs.Common.{Result, subst}
use Rattle.orienteering.specs.Instance.{Problem}
use Rattle.fixed_num.specs.Length.{scale_number}
use Rattle.site_model.specs.Parts.{problem_of}
use Rattle.instance_files.specs.Rows.{Answers, Refusal}
use Rattle.instance_files.proofs.KeptReading.{file-kept}
use Rattle.instance_files.proofs.file.read_parts.Goals as goal

pub returns : goal.returns
returns c =
    subst (λ (wanted : Result Problem Refusal). Answers problem_of wanted c.read_rows.result)
    (file-kept c.args.format (scale_number c.args.scale) c.args.team c.args.bytes.now) c.read_rows.ensures
