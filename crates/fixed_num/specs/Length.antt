-- Lengths at a scale.
use Rattle.std.specs.Prelude.{ℕ}
use Rattle.fixed_num.specs.declared.length.Scale.{Scale}
use Rattle.fixed_num.specs.declared.length.Scale.TheVariants.{One, Ten, Hundred, Thousand}

-- how many scaled units make one unit
abbrev pub scale_number : Scale → ℕ
scale_number One = 1
scale_number Ten = 10
scale_number Hundred = 100
scale_number Thousand = 1000
