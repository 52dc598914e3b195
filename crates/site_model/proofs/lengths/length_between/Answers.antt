use Rattle.std.proofs.Common.{◌≤◌, ℤ, unsigned_abs, ap₂, ◌∙◌, arith}
use Rattle.orienteering.specs.Instance.{distance, scaled_length}
use Rattle.orienteering.proofs.ShortLengths.{distance-short}
use Rattle.fixed_num.specs.Length.{scale_number}
use Rattle.fixed_num.specs.declared.length.Scale.{Scale}
use Rattle.fixed_num.specs.declared.length.Scale.TheVariants.{One, Ten, Hundred, Thousand}
use Rattle.std.proofs.Common.{lit≤}
use Rattle.site_model.proofs.Differences.{difference-read}
use Rattle.site_model.proofs.lengths.length_between.Goals as goal

scale-low : (s : Scale) → scale_number s ≤ 1000
scale-low One = lit≤ tt
scale-low Ten = lit≤ tt
scale-low Hundred = lit≤ tt
scale-low Thousand = lit≤ tt

pub returns : goal.returns
unfolding distance
returns c =
    let a = c.args.a in
    let b = c.args.b in
    c.scaled_length.ensures.value ∙ ap₂ (λ (x y : ℤ). scaled_length (scale_number c.args.scale) (unsigned_abs x) (unsigned_abs y))
    (difference-read a.x b.x c.requires.from.x c.requires.to.x)
    (difference-read a.y b.y c.requires.from.y c.requires.to.y)

pub overflow_cast-result : goal.overflow_cast-result
overflow_cast-result c =
    omega (arith, returns c, distance-short (scale_number c.args.scale) c.args.a c.args.b (scale-low c.args.scale) c.requires.from c.requires.to)
