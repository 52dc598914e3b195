-- What the bytes of files come to.
use Rattle.std.specs.Prelude.{◌≡◌, ℕ, List, length, nat_lt, None, Result, Ok, Err, if◌then◌else◌}
use Rattle.fixed_num.specs.Length.{scale_number}
use Rattle.instance_files.specs.File.{file_problem}
use Rattle.instance_files.specs.Rows.{Refusal}
use Rattle.orienteering.specs.Instance.{Problem}
use Rattle.orienteering.specs.Certificate.{Certificate}
use Rattle.cert_text.specs.Text.{cert_text, IsCert}
use Rattle.cert_text.specs.Refusal.{IsRefusal}
use Rattle.fixed_num.specs.declared.length.Scale.TheVariants.{Hundred}
use Rattle.instance_files.specs.declared.file.Format.TheVariants.{Op}
use Rattle.report_text.specs.declared.style.Style.TheVariants.{Plain}
use Rattle.instance_gen.specs.Generated.{generated}
use Rattle.command_line.specs.Requests.{DemoRequest}
use Rattle.command_line.specs.declared.settings.Settings.{Settings}
use Rattle.frontier_cli.specs.Outcome.{Cause, InstanceTooLong, InstanceRefused, CertUnread, CertRefused}

-- the most bytes of an instance file
abbrev pub instance_limit : ℕ
instance_limit = 16777216

abbrev pub or_refused : Result Problem Refusal → Result Problem Cause
or_refused (Ok p) = Ok p
or_refused (Err refusal) = Err (InstanceRefused refusal.line refusal.cause)

-- refused where it is longer than the limit, and then read
abbrev pub measured : {V : Type 0} → ℕ → (List ℕ → Result V Cause) → List ℕ → Result V Cause
measured limit read bytes = if nat_lt limit (length bytes) then Err InstanceTooLong else read bytes

-- the instance that the bytes describe, or their first refusal
abbrev pub instance_in : Settings → List ℕ → Result Problem Cause
instance_in s bytes = measured instance_limit (λ b. or_refused (file_problem s.format (scale_number s.scale) s.team b)) bytes

-- the certificate whose text the bytes are, or where they stop being the beginning of one
abbrev pub IsReadAs : List ℕ → Result Certificate Cause → Type 0
IsReadAs bytes (Ok c) = IsCert c × (bytes ≡ cert_text c)
IsReadAs bytes (Err InstanceTooLong) = ⊥
IsReadAs bytes (Err (InstanceRefused line why)) = ⊥
IsReadAs bytes (Err (CertUnread at why)) = IsRefusal bytes at why
IsReadAs bytes (Err (CertRefused fail)) = ⊥

-- ---- demonstrations

-- how many nodes the search of a demonstration has
abbrev pub demo_nodes : ℕ
demo_nodes = 2000

-- how the instance of a demonstration is read and checked
abbrev pub demo_settings : DemoRequest → Settings
demo_settings r =
    record { format = Op; scale = Hundred; team = None; labels = 1000000; workers = r.workers; style = Plain }

-- the instance that is generated for a demonstration
abbrev pub demo_instance : DemoRequest → Result Problem Cause
demo_instance r = instance_in (demo_settings r) (generated r.seed r.calls Op)
