use Rattle.text_parts.proofs.Parts.{word_reads}
use Rattle.text_parts.proofs.Cursors.{moves, goes_on, stops, stays}
use Rattle.text_parts.proofs.cursor.Cursor.word.Goals as goal

pub returns-in-Ok-clause-asked : goal.returns-in-Ok-clause-asked
returns-in-Ok-clause-asked c =
    rw (← c.self.view_is) (moves (word_reads c.args.text.now) c.self.inside.bytes.now c.self.inside.at c.self.invariant c.saturating_sub-self-inside.result c.in-Ok.rest.now tt c.in-Ok.ensures c.saturating_sub-self-inside.ensures)

pub returns-in-Ok-clause-reading : goal.returns-in-Ok-clause-reading
returns-in-Ok-clause-reading c =
    rw (← c.self.view_is) (goes_on (word_reads c.args.text.now) c.self.inside.bytes.now c.self.inside.at c.self.invariant c.saturating_sub-self-inside.result c.in-Ok.rest.now tt c.in-Ok.ensures c.saturating_sub-self-inside.ensures)

pub returns-in-Err-clause-asked : goal.returns-in-Err-clause-asked
returns-in-Err-clause-asked c =
    rw (← c.self.view_is) (stops (word_reads c.args.text.now) c.self.inside.bytes.now c.self.inside.at c.self.invariant c.in-Err.stop c.placed.result c.in-Err.ensures c.placed.ensures)

pub returns-in-Err-clause-reading : goal.returns-in-Err-clause-reading
returns-in-Err-clause-reading c =
    rw (← c.self.view_is) (stays (word_reads c.args.text.now) c.self.inside.bytes.now c.self.inside.at c.self.invariant c.in-Err.stop c.placed.result c.in-Err.ensures c.placed.ensures)
