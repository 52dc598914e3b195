-- One open node is a tree over the whole instance.
use Rattle.std.proofs.Common.{◌≡◌, ℕ, List, [], ◌∷◌, sym, ap, subst, length, arith}
use Rattle.std.specs.declared.option.Option.{Option}
use Rattle.std.specs.declared.option.Option.TheVariants.{None, Some}
use Rattle.orienteering.specs.Instance.{Problem}
use Rattle.orienteering.specs.Region.{root}
use Rattle.orienteering.specs.Decision.{read_nodes}
use Rattle.orienteering.specs.Decide.{region_rules}
use Rattle.orienteering.specs.declared.Listed.{Listed}
use Rattle.orienteering.specs.declared.Node.{Node}
use Rattle.orienteering.specs.declared.Node.TheVariants.{Left}
use Rattle.growth.specs.Branches.{root_branch}
use Rattle.growth.specs.Growth.{IsWithin}
use Rattle.sweep_solver.specs.Trees.{IsTreeWithin}

one_is_within : (limit : Option ℕ) → IsWithin limit 1
one_is_within None = tt
one_is_within (Some budget) = omega arith

pub open_is_tree : (p : Problem) (labels : ℕ) (points : List Listed) (limit : Option ℕ) (nodes : List Node) → nodes ≡ Left ∷ [] →
    IsTreeWithin p labels points limit nodes
open_is_tree p labels points limit nodes e =
    record {
      leaves = record { branch = root_branch (root p); node = Left } ∷ [];
      accepted = ap (λ ns. read_nodes (region_rules p labels) points (root p) ns) e;
      few = subst (λ (ns : List Node). IsWithin limit (length ns)) (sym e) (one_is_within limit);
    }
