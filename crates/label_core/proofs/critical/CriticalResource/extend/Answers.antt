use Rattle.std.proofs.Common.{sym, subst}
use Rattle.bit_sets.specs.NumberSet.{IsSmall}
use Rattle.bit_sets.specs.NumberSetLaws.{small-inserted}
use Rattle.label_core.proofs.critical.CriticalResource.extend.Goals as goal

pub invariant_of-result : goal.invariant_of-result
invariant_of-result c =
    let held = subst IsSmall (sym c.copy_small-held.ensures) c.self.invariant in
    subst IsSmall (sym c.insert_small.ensures.added)
    (small-inserted c.in-Some.number c.copy_small-held.result (c.step.invariant c.in-Some.number c.in-Some.is) held)
