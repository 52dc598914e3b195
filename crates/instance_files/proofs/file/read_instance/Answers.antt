use Rattle.std.proofs.Common.{◌≡◌, inl, inr, None, rules}
use Rattle.orienteering.specs.Limits.{IsInstance}
use Rattle.fixed_num.specs.Length.{scale_number}
use Rattle.site_model.specs.Parts.{parts_refusal, problem_of}
use Rattle.site_model.specs.declared.parts.PartsRefusal.TheVariants.{Memory}
use Rattle.instance_files.proofs.SoundFiles.{known_scale}
use Rattle.instance_files.proofs.file.read_instance.Goals as goal

pub prove-unreachable-requires : goal.prove-unreachable-requires
prove-unreachable-requires c =
    let p = problem_of c.in_ok-parts.parts in
    let is : IsInstance p = c.laws_of_files.ensures c.args.format (scale_number c.args.scale) c.args.team c.args.bytes.now p (known_scale c.args.scale) c.requires c.in_ok-parts.ensures in
    let none : parts_refusal p ≡ None = (c.laws_of_parts.ensures p (known_scale c.in_ok-parts.parts.scale)).1 is in
    elim c.in-Err.ensures.refused [
      | inl memory ↦ search rules
      | inr refused ↦ absurd cc
    ]
