use Rattle.std.proofs.Common.{List, ℕ, ◌++◌, ap, subst, ◌∙◌}
use Rattle.std.specs.Prelude.{codes}
use Rattle.orienteering.specs.declared.Listed.{Listed}
use Rattle.orienteering.specs.declared.Node.{Node}
use Rattle.text_parts.specs.Texts.{counted_text, AreItems}
use Rattle.text_parts.proofs.Appends.{appended5}
use Rattle.cert_text.specs.declared.head.Version.TheVariants.{One}
use Rattle.cert_text.specs.Text.{version_line, instance_line, point_text, node_text, cert_text, IsListed, IsNode}
use Rattle.cert_text.proofs.writing.write_cert.Goals as goal

pub returns-clause-text : goal.returns-clause-text
returns-clause-text c =
    let cert = c.args.cert.now in
    appended5 c.new-out.result.items c.put.new.out.items c.put_instance.new.out.items c.put_counted.new.out.items c.put_counted-2.new.out.items c.put-2.new.out.items
    (version_line One) (instance_line cert.customers cert.team cert.scale) (counted_text (codes "points ") point_text cert.points) (counted_text (codes "nodes ") node_text cert.nodes) (codes "end\n")
    (c.in_ok-put.ensures ∙ ap (λ (x : List ℕ). c.new-out.result.items ++ x) c.word.ensures)
    c.in_ok-put_instance.ensures.text
    (c.in_ok-put_counted.ensures.text ∙ ap (λ (xs : List Listed). c.put_instance.new.out.items ++ counted_text (codes "points ") point_text xs) c.points.ensures)
    (c.in_ok-put_counted-2.ensures.text ∙ ap (λ (xs : List Node). c.put_counted.new.out.items ++ counted_text (codes "nodes ") node_text xs) c.nodes.ensures)
    c.in_ok-put-2.ensures
    ∙ ap (λ (x : List ℕ). x ++ cert_text cert) c.new-out.ensures.items

pub returns-clause-valid : goal.returns-clause-valid
returns-clause-valid c = record {
  customers = c.in_ok-put_instance.ensures.valid.0;
  team = c.in_ok-put_instance.ensures.valid.1;
  scale = c.in_ok-put_instance.ensures.valid.2;
  points = subst (AreItems IsListed) c.points.ensures c.in_ok-put_counted.ensures.valid;
  nodes = subst (AreItems IsNode) c.nodes.ensures c.in_ok-put_counted-2.ensures.valid;
}
