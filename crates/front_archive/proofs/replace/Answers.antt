use Rattle.std.proofs.Common.{◌∙◌, ap}
use Rattle.std.specs.List.{splice}
use Rattle.std.specs.Iterator.Adapters.{once_item}
use Rattle.front_archive.proofs.Places.{once_gives}
use Rattle.front_archive.proofs.replace.Goals as goal

pub returns-clause-ok : goal.returns-clause-ok
returns-clause-ok c =
    let done = c.in_ok-splice.ensures.items in
    done.4 ∙ ap (splice c.args.entries.now.items c.args.low c.args.high)
    (once_gives c.args.entry done.1 (ap once_item done.2 ∙ c.once.ensures.item) done.3)
