-- The laws of generated files.
use Rattle.std.specs.Prelude.{◌≡◌, ℕ, ◌≤◌, length, Ok, None}
use Rattle.orienteering.specs.Instance.{Problem}
use Rattle.instance_files.specs.File.{file_problem}
use Rattle.instance_files.specs.declared.file.Format.{Format}
use Rattle.instance_gen.specs.Generated.{generated}

-- no generated file is longer than 20000 bytes
abbrev pub FilesAreShort : Type 0
FilesAreShort = (format : Format) (seed calls : ℕ) → calls ≤ 300 → length (generated seed calls format) ≤ 20000

-- each generated file is read at each scale, and is never refused
abbrev pub GeneratedFilesAreRead : Type 0
GeneratedFilesAreRead =
    (format : Format) (scale seed calls : ℕ) → scale ≤ 1000 → calls ≤ 300 →
    (p : Problem) × (file_problem format scale None (generated seed calls format) ≡ Ok p)
