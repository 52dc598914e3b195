-- The law of what files say.
use Rattle.std.specs.Prelude.{◌≡◌, ℕ, List, Ok, Option}
use Rattle.orienteering.specs.Instance.{Problem}
use Rattle.orienteering.specs.Limits.{IsInstance, IsScale}
use Rattle.instance_files.specs.Rows.{IsTeam}
use Rattle.instance_files.specs.File.{file_problem}
use Rattle.instance_files.specs.declared.file.Format.{Format}

-- what a file says keeps every limit of an instance
abbrev pub FilesAreInstances : Type 0
FilesAreInstances =
    (format : Format) (scale : ℕ) (team : Option ℕ) (bytes : List ℕ) (p : Problem) → IsScale scale → IsTeam team →
    file_problem format scale team bytes ≡ Ok p → IsInstance p
