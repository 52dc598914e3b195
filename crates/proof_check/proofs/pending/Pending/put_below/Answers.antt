use Rattle.std.proofs.Common.{true, [], ◌∷◌, ◌++◌, sym, ap, subst, ◌∙◌, length}
use Rattle.std.specs.Prelude.{reverse}
use Rattle.proof_check.specs.Nested.{AreNested}
use Rattle.proof_check.specs.Waiting.{branch}
use Rattle.proof_check.proofs.Branches.{still_nested, nested_below, put_below}
use Rattle.proof_check.proofs.pending.Pending.put_below.Goals as goal

pub invariant_of-self-in_err-push-2 : goal.invariant_of-self-in_err-push-2
invariant_of-self-in_err-push-2 c =
    subst (λ ws. AreNested (length c.push.new.self.items) (reverse ws)) (sym c.in_err-push-2.ensures.items)
    (still_nested c.self.inside.path.items c.self.inside.waiting.items c.self.invariant c.args.cut c.push.new.self.items
    c.in_ok-push.ensures.items)

pub invariant_of-self-2 : goal.invariant_of-self-2
invariant_of-self-2 c =
    nested_below c.self.inside.path.items c.self.inside.waiting.items c.self.invariant c.args.cut c.push.new.self.items
    c.in_ok-push.ensures.items (record { context = c.args.context; cuts = c.len.result; under_cut = true }) c.push-2.new.self.items
    c.in_ok-push-2.ensures.items (c.len.ensures ∙ c.push.new.self.ok.0)

pub returns : goal.returns
returns c =
    put_below c.self.inside.path.items c.self.inside.waiting.items c.self.invariant c.args.cut c.push.new.self.items
    c.in_ok-push.ensures.items (record { context = c.args.context; cuts = c.len.result; under_cut = true }) c.push-2.new.self.items
    c.in_ok-push-2.ensures.items (c.len.ensures ∙ c.push.new.self.ok.0)
    ∙ ap (λ v. branch c.args.context (v.cuts ++ c.args.cut ∷ []) true ∷ v.branches) c.self.view_is
