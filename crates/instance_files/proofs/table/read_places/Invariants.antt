use Rattle.std.proofs.Common.{◌≡◌, ◌≤◌, length}
use Rattle.instance_files.specs.Rows.{places_of}
use Rattle.instance_files.proofs.Tables.{behind}
use Rattle.instance_files.proofs.table.read_places.Given as goal

abbrev pub invariant-rows : goal.invariant-rows
invariant-rows g l = record {
  same : behind l.places.items (places_of (g.R.RowReader.reading l.reader) (length l.places.items) l.lines.rows) ≡ places_of (g.R.RowReader.reading l.reader) 0 l.fn.lines.rows;
  end : l.lines.end ≡ l.fn.lines.end;
}

abbrev pub decreases-rows : goal.decreases-rows
decreases-rows g l = length l.lines.rows
