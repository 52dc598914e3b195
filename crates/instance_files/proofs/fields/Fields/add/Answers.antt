use Rattle.instance_files.proofs.KeptFields.{field-put}
use Rattle.instance_files.proofs.fields.Fields.add.Goals as goal

pub returns-then-self-lt7 : goal.returns-then-self-lt7
returns-then-self-lt7 c = field-put c.self.inside.list c.self.inside.len c.args.field c.args.self.now c.self.told c.if-self-lt7.true c.self.view_is
