use Rattle.std.proofs.Common.{◌<◌, ◌^◌, length, refl, inl, inr, arith}
use Rattle.std.proofs.lemmas.Bool.{cases_lt}
use Rattle.std.specs.Str.Parse.{digits_value}
use Rattle.fixed_num.proofs.Digits.{digits-parsed, some-length}
use Rattle.fixed_num.proofs.decimal.whole_part.Goals as goal

pub returns-in-Err-clause-refused : goal.returns-in-Err-clause-refused
returns-in-Err-clause-refused c =
    let some : 0 < length c.args.digits.now = some-length c.args.digits.now c.if-is_empty.ensures in
    let not_small = rw c.in-Err.is at (digits-parsed c.args.digits.now c.parse_u64.result c.parse_u64.ensures c.requires) in
    elim (cases_lt (digits_value 10 c.args.digits.now) (2 ^ 64)) [
      | inl less ↦ absurd (not_small (some, less))
      | inr more ↦ (refl, omega (arith, more))
    ]
