use Rattle.std.proofs.Common.{List, [], ℕ, drop, refl, ap, ◌∙◌, arith}
use Rattle.instance_files.specs.NextField.{fields_ahead}
use Rattle.instance_files.proofs.KeptFields.{kept_with, kept-with}
use Rattle.instance_files.proofs.lines.read_line.Goals as goal

pub loop-start-init : goal.loop-start-init
loop-start-init c =
    let ahead = fields_ahead (drop c.args.from c.args.bytes.now) in
    record {
      within = c.requires;
      from = omega arith;
      fields = ap (λ (fields : List (List ℕ)). kept_with fields ahead) c.new-fields.ensures ∙ kept-with [] ahead;
      same_line = refl;
    }
