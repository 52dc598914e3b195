use Rattle.std.proofs.Common.{◌≡◌, List, ℕ, Result, length, sym, ap, subst, ◌∙◌}
use Rattle.std.proofs.lemmas.Result.{err_from_is_err_and}
use Rattle.orienteering.specs.declared.Place.{Place}
use Rattle.instance_files.specs.declared.values.FileCause.{FileCause}
use Rattle.instance_files.specs.Rows.{at_line, IsFirstRefusal}
use Rattle.instance_files.specs.Ahead.{row_of}
use Rattle.instance_files.proofs.Tables.{rows-step, rows-refused, rows-end}
use Rattle.instance_files.proofs.table.read_places.Goals as goal

pub rows-preserved : goal.rows-preserved
rows-preserved g c =
    let gives = rw c.in-NextRow.is at c.next_row.ensures in
    let read = g.R.RowReader.reading c.args.reader.now in
    let row = row_of c.in-NextRow.row in
    let at : c.len.result ≡ length c.rows.places.items = c.len.ensures ∙ c.rows.places.ok.0 in
    record {
      same = rows-step read c.rows.places.items c.add.new.places.items c.len.result c.in_ok-place-in-NextRow.place row c.rows.lines.rows c.next_row.new.self.rows _
          at c.in_ok-add-in-NextRow.ensures gives.0
          (ap (at_line row.line) (sym c.read_row-read.ensures) ∙ c.in_ok-place-in-NextRow.ensures)
          c.rows.invariant.same;
      end = sym gives.1 ∙ c.rows.invariant.end;
    }

pub returns-in-End-clause-places : goal.returns-in-End-clause-places
returns-in-End-clause-places g c =
    let gives = rw c.in-End.is at c.next_row.ensures in
    rows-end (g.R.RowReader.reading c.args.reader.now) c.rows.places.items c.rows.lines.rows _ gives.0 c.rows.invariant.same

pub returns-in_err-place-in-NextRow-clause-places : goal.returns-in_err-place-in-NextRow-clause-places
returns-in_err-place-in-NextRow-clause-places g c =
    let gives = rw c.in-NextRow.is at c.next_row.ensures in
    let read = g.R.RowReader.reading c.args.reader.now in
    let row = row_of c.in-NextRow.row in
    let at : c.len.result ≡ length c.rows.places.items = c.len.ensures ∙ c.rows.places.ok.0 in
    let fail = c.in_err-place-in-NextRow.field-0.0 in
    let refused = subst (λ (r : Result Place FileCause). IsFirstRefusal (at_line row.line r) fail) c.read_row-read.ensures c.in_err-place-in-NextRow.ensures in
    let told = err_from_is_err_and c.from_residual.result c.from_residual.ensures.1 in
    rw (told.1, told.2)
    (rows-refused read c.rows.places.items c.len.result row c.rows.lines.rows c.next_row.new.self.rows _ fail at gives.0 refused c.rows.invariant.same)
