use Rattle.std.proofs.Common.{◌≡◌, sym, ap, ◌∙◌, None}
use Rattle.fixed_num.specs.Length.{scale_number}
use Rattle.orienteering.specs.Limits.{IsInstance}
use Rattle.site_model.specs.Parts.{problem_of, parts_refusal}
use Rattle.site_model.specs.Table.{length_table}
use Rattle.site_model.proofs.Accepted.{instances_are_accepted, known_scale}
use Rattle.site_model.proofs.instance.Instance.new.Goals as goal

pub length_table-requires : goal.length_table-requires
length_table-requires c =
    let nothing : parts_refusal (problem_of c.args.parts) ≡ None = sym c.parts_refusal.ensures ∙ c.in_default.is in
    let is : IsInstance (problem_of c.args.parts) = (instances_are_accepted (problem_of c.args.parts) (known_scale c.args.parts.scale)).0 nothing in
    rw c.list.ensures is.places

pub invariant_of-result : goal.invariant_of-result
invariant_of-result c =
    let nothing : parts_refusal (problem_of c.args.parts) ≡ None = sym c.parts_refusal.ensures ∙ c.in_default.is in
    record {
      within = (instances_are_accepted (problem_of c.args.parts) (known_scale c.args.parts.scale)).0 nothing;
      table = c.in-Ok.ensures ∙ ap (length_table (scale_number c.args.parts.scale)) c.list.ensures;
    }
