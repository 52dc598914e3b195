use Rattle.std.proofs.Common.{sym, ap, ◌∙◌}
use Rattle.proof_check.proofs.Branches.{taken}
use Rattle.proof_check.proofs.pending.Pending.take.Goals as goal

pub returns-clause-taken : goal.returns-clause-taken
returns-clause-taken c =
    ap (λ b. b.branches) (sym c.self.view_is)
    ∙ taken c.self.inside.path.items c.self.inside.waiting.items c.self.invariant c.pop.new.self.items c.in_ok-next.next
    c.truncate.new.self.items c.in_ok-next.ensures.items c.truncate.ensures.items
