-- The instance of a request, as it is read of its file.
use Rattle.std.proofs.Common.{◌≡◌, ℕ, List, Option, Some, None, Result, Ok, IsSomeAnd, sym, ap}
use Rattle.std.specs.Prelude.{option_map}
use Rattle.edge_core.specs.Store.{Files, file}
use Rattle.orienteering.specs.Instance.{Problem}
use Rattle.command_line.specs.declared.settings.Settings.{Settings}
use Rattle.frontier_cli.specs.Outcome.{Cause}
use Rattle.frontier_cli.specs.Files.{instance_in}
use Rattle.frontier_cli.specs.Ran.{FileReadsAs, ReadsInstance}

abbrev pub IsInstance : Settings → List ℕ → Result Problem Cause → Type 0
IsInstance s bytes read = read ≡ instance_in s bytes

pub instance_found : (s : Settings) (found : Option (List ℕ)) (p : Problem) → IsSomeAnd found (λ b. IsInstance s b (Ok p)) →
    option_map (instance_in s) found ≡ Some (Ok p)
instance_found s None p is = absurd is
instance_found s (Some bytes) p is = ap Some (sym is)

-- an instance that was read of its file is read without refusal
pub reads_instance : (s : Settings) (name : List ℕ) (files : Option Files) (p : Problem) → FileReadsAs (IsInstance s) name files (Ok p) →
    ReadsInstance s name files
reads_instance s name None p is = tt
reads_instance s name (Some f) p is = (p, instance_found s (file f name) p is)
