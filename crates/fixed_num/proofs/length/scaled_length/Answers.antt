use Rattle.std.proofs.Common.{◌≡◌, ◌+◌, ◌*◌, ◌/◌, unsigned_abs, w64, ap, ◌∙◌, arith}
use Rattle.std.proofs.lemmas.Int.{to_z-of_z}
use Rattle.fixed_num.specs.Length.{scale_number}
use Rattle.fixed_num.proofs.Roots.{root-fits, root-greatest, length-is, product-is}
use Rattle.fixed_num.proofs.length.scaled_length.Goals as goal

-- the number whose root is taken
product : (c : goal.After-floor_root-root) →
    c.from-number.result * c.from-number.result * (c.from-across.result * c.from-across.result + c.from-along.result * c.from-along.result)
    ≡ scale_number c.args.scale * scale_number c.args.scale * (unsigned_abs c.args.dx * unsigned_abs c.args.dx + unsigned_abs c.args.dy * unsigned_abs c.args.dy)
product c =
    product-is c.from-number.result c.from-across.result c.from-along.result (scale_number c.args.scale) (unsigned_abs c.args.dx) (unsigned_abs c.args.dy)
    (c.from-number.ensures ∙ c.number.ensures.value)
    (c.from-across.ensures ∙ c.unsigned_abs.ensures.value ∙ ap unsigned_abs (to_z-of_z w64 c.args.dx c.ranges.dx))
    (c.from-along.ensures ∙ c.unsigned_abs-2.ensures.value ∙ ap unsigned_abs (to_z-of_z w64 c.args.dy c.ranges.dy))

pub returns-clause-greatest : goal.returns-clause-greatest
returns-clause-greatest c =
    let s = scale_number c.args.scale in
    let x = unsigned_abs c.args.dx in
    let y = unsigned_abs c.args.dy in
    let root = c.floor_root-root.result in
    record {
      fits = root-fits s x y root (root / 10000) (omega (arith, product c, c.floor_root-root.ensures.within)) (omega arith);
      greatest = λ u fits. root-greatest s x y root (root / 10000) u (omega (arith, product c, c.floor_root-root.ensures.greatest)) (omega arith) fits;
    }

pub returns-clause-value : goal.returns-clause-value
returns-clause-value c =
    length-is (scale_number c.args.scale) (unsigned_abs c.args.dx) (unsigned_abs c.args.dy) (c.floor_root-root.result / 10000) (returns-clause-greatest c)
