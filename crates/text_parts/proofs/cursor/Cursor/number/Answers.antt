use Rattle.text_parts.proofs.Numbers.{number_reads}
use Rattle.text_parts.proofs.Cursors.{moves, goes_on, stops, stays}
use Rattle.text_parts.proofs.cursor.Cursor.number.Goals as goal

pub returns-in-Ok-clause-asked : goal.returns-in-Ok-clause-asked
returns-in-Ok-clause-asked c =
    rw (← c.self.view_is) (moves (number_reads c.args.max c.ranges.max.fits) c.self.inside.bytes.now c.self.inside.at c.self.invariant c.saturating_sub-self-inside.result c.in-Ok.rest.now c.in-Ok.n c.in-Ok.ensures.reading c.saturating_sub-self-inside.ensures)

pub returns-in-Ok-clause-reading : goal.returns-in-Ok-clause-reading
returns-in-Ok-clause-reading c =
    rw (← c.self.view_is) (goes_on (number_reads c.args.max c.ranges.max.fits) c.self.inside.bytes.now c.self.inside.at c.self.invariant c.saturating_sub-self-inside.result c.in-Ok.rest.now c.in-Ok.n c.in-Ok.ensures.reading c.saturating_sub-self-inside.ensures)

pub returns-in-Err-clause-asked : goal.returns-in-Err-clause-asked
returns-in-Err-clause-asked c =
    rw (← c.self.view_is) (stops (number_reads c.args.max c.ranges.max.fits) c.self.inside.bytes.now c.self.inside.at c.self.invariant c.in-Err.stop c.placed.result c.in-Err.ensures.reading c.placed.ensures)

pub returns-in-Err-clause-reading : goal.returns-in-Err-clause-reading
returns-in-Err-clause-reading c =
    rw (← c.self.view_is) (stays (number_reads c.args.max c.ranges.max.fits) c.self.inside.bytes.now c.self.inside.at c.self.invariant c.in-Err.stop c.placed.result c.in-Err.ensures.reading c.placed.ensures)
