use Rattle.std.proofs.Common.{rules}
use Rattle.std.proofs.lemmas.Int.{to_z-of_z}
use mir.Syntax.{w64}
use mir.Val.{SFits}
use Rattle.text_parts.proofs.Numbers.{signed_reads}
use Rattle.text_parts.proofs.Cursors.{moves, goes_on, stops, stays}
use Rattle.text_parts.proofs.cursor.Cursor.signed.Goals as goal

pub returns-in-Ok-clause-asked : goal.returns-in-Ok-clause-asked
returns-in-Ok-clause-asked c =
    let fits : SFits w64 c.in-Ok.n = search rules in
    rw (← c.self.view_is, to_z-of_z)
    (moves signed_reads c.self.inside.bytes.now c.self.inside.at c.self.invariant c.saturating_sub-self-inside.result c.in-Ok.rest.now c.in-Ok.n c.in-Ok.ensures c.saturating_sub-self-inside.ensures)

pub returns-in-Ok-clause-reading : goal.returns-in-Ok-clause-reading
returns-in-Ok-clause-reading c =
    let fits : SFits w64 c.in-Ok.n = search rules in
    rw (← c.self.view_is, to_z-of_z)
    (goes_on signed_reads c.self.inside.bytes.now c.self.inside.at c.self.invariant c.saturating_sub-self-inside.result c.in-Ok.rest.now c.in-Ok.n c.in-Ok.ensures c.saturating_sub-self-inside.ensures)

pub returns-in-Err-clause-asked : goal.returns-in-Err-clause-asked
returns-in-Err-clause-asked c =
    rw (← c.self.view_is) (stops signed_reads c.self.inside.bytes.now c.self.inside.at c.self.invariant c.in-Err.stop c.placed.result c.in-Err.ensures c.placed.ensures)

pub returns-in-Err-clause-reading : goal.returns-in-Err-clause-reading
returns-in-Err-clause-reading c =
    rw (← c.self.view_is) (stays signed_reads c.self.inside.bytes.now c.self.inside.at c.self.invariant c.in-Err.stop c.placed.result c.in-Err.ensures c.placed.ensures)
