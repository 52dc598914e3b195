-- What a file says.
use Rattle.std.specs.Prelude.{ℕ, List, Result, Option}
use Rattle.orienteering.specs.Instance.{Problem}
use Rattle.fixed_num.specs.declared.length.Scale.{Scale}
use Rattle.fixed_num.specs.declared.length.Scale.TheVariants.{Ten, Hundred}
use Rattle.instance_files.specs.Lines.{Row, rows_from, end_from}
use Rattle.instance_files.specs.Rows.{Refusal}
use Rattle.instance_files.specs.Op.{op_problem}
use Rattle.instance_files.specs.Top.{top_problem}
use Rattle.instance_files.specs.Toptw.{toptw_problem}
use Rattle.instance_files.specs.declared.file.Format.{Format}
use Rattle.instance_files.specs.declared.file.Format.TheVariants.{Op, Top, Toptw}

-- the instance of the rows, or the first refusal; the number behind that of the last line stands for what is missing
unfoldable pub rows_problem : Format → ℕ → Option ℕ → ℕ → List Row → Result Problem Refusal
rows_problem Op scale team end rows = op_problem scale team end rows
rows_problem Top scale team end rows = top_problem scale team end rows
rows_problem Toptw scale team end rows = toptw_problem scale team end rows

-- the instance of the bytes, or the first refusal
unfoldable pub file_problem : Format → ℕ → Option ℕ → List ℕ → Result Problem Refusal
file_problem format scale team bytes = rows_problem format scale team (end_from 1 bytes) (rows_from 1 bytes)

-- the scale of a format's files where none is given
abbrev pub default_scale : Format → Scale
default_scale Op = Hundred
default_scale Top = Hundred
default_scale Toptw = Ten
