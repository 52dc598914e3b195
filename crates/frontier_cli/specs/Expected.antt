-- What the files of accepted words come to where nothing fails.
use Rattle.std.specs.Prelude.{◌≡◌, ℕ, List, Option, Some, None, Result, Ok, Err}
use Rattle.edge_core.specs.Store.{Files, file}
use Rattle.orienteering.specs.Instance.{Problem}
use Rattle.orienteering.specs.Certificate.{Certificate, Acceptance}
use Rattle.orienteering.specs.Decide.{decide}
use Rattle.orienteering.specs.declared.CheckFail.{CheckFail}
use Rattle.command_line.specs.Requests.{Request, Check, Solve, Resume, Generate, Demo}
use Rattle.command_line.specs.declared.settings.Settings.{Settings}
use Rattle.frontier_cli.specs.Outcome.{Cause, CertRefused}
use Rattle.frontier_cli.specs.Files.{instance_in, IsReadAs}

pub data Expectation : Type 0 where
  -- a file that is needed is missing
  Missing : Expectation
  RefusedBy : (cause : Cause) → Expectation
  -- there is something to print
  Accepted : Expectation

abbrev pub of_verdict : Result Acceptance CheckFail → Expectation
of_verdict (Ok accepted) = Accepted
of_verdict (Err fail) = RefusedBy (CertRefused fail)

abbrev pub of_certificate : Settings → Problem → Result Certificate Cause → Expectation
of_certificate s p (Ok c) = of_verdict (decide p s.labels c)
of_certificate s p (Err cause) = RefusedBy cause

-- the certificate of a check, behind the instance
abbrev pub CertificateComesTo : Settings → Problem → Option (List ℕ) → Expectation → Type 0
CertificateComesTo s p None e = e ≡ Missing
CertificateComesTo s p (Some bytes) e = (read : Result Certificate Cause) × IsReadAs bytes read × (e ≡ of_certificate s p read)

abbrev pub CheckReadComesTo : Settings → Result Problem Cause → Option (List ℕ) → Expectation → Type 0
CheckReadComesTo s (Ok p) cert e = CertificateComesTo s p cert e
CheckReadComesTo s (Err cause) cert e = e ≡ RefusedBy cause

-- the instance first, then the certificate
abbrev pub CheckComesTo : Settings → Option (List ℕ) → Option (List ℕ) → Expectation → Type 0
CheckComesTo s None cert e = e ≡ Missing
CheckComesTo s (Some bytes) cert e = CheckReadComesTo s (instance_in s bytes) cert e

abbrev pub of_instance : Result Problem Cause → Expectation
of_instance (Ok p) = Accepted
of_instance (Err cause) = RefusedBy cause

-- an instance that is read is solved
abbrev pub SolveComesTo : Settings → Option (List ℕ) → Expectation → Type 0
SolveComesTo s None e = e ≡ Missing
SolveComesTo s (Some bytes) e = e ≡ of_instance (instance_in s bytes)

-- what a command comes to over these files
abbrev pub ComesTo : Files → Request → Expectation → Type 0
ComesTo files (Check r) e = CheckComesTo r.settings (file files r.instance) (file files r.certificate) e
ComesTo files (Solve r) e = SolveComesTo r.settings (file files r.instance) e
ComesTo files (Resume r) e = CheckComesTo r.settings (file files r.instance) (file files r.certificate) e
ComesTo files (Generate r) e = e ≡ Accepted
ComesTo files (Demo r) e = e ≡ Accepted
