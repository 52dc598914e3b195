use Rattle.std.proofs.Common.{subst}
use Rattle.label_core.specs.Flags.{IsFlags}
use Rattle.label_core.proofs.WordFlags.{flags_of_word}
use Rattle.label_core.proofs.flags.FlagsResource.tell.Goals as goal

pub returns : goal.returns
returns c = subst IsFlags c.self.view_is (flags_of_word c.self.inside.word)
