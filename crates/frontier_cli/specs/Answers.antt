-- What is printed, and what it says.
use Rattle.std.specs.Prelude.{◌≡◌, ◌==◌, ◌≤◌, ◌*◌, ℕ, not, Bool, true, false, List, [], ◌++◌, length, Option, Some, Ok, option_map, if◌then◌else◌}
use Rattle.edge_core.specs.Store.{Files, file}
use Rattle.orienteering.specs.Instance.{Problem}
use Rattle.orienteering.specs.Certificate.{Certificate, Acceptance}
use Rattle.orienteering.specs.Decide.{decide}
use Rattle.orienteering.specs.Frontier.{IsFrontier, IsWholeFrontier}
use Rattle.orienteering.specs.Region.{root}
use Rattle.orienteering.specs.Weight.{weight}
use Rattle.orienteering.specs.declared.Box2.{Box2}
use Rattle.orienteering.specs.declared.Listed.{Listed}
use Rattle.cert_text.specs.Text.{cert_text, IsCert}
use Rattle.report_text.specs.Report.{report_text, summary_text}
use Rattle.instance_gen.specs.Generated.{generated}
use Rattle.command_line.specs.Requests.{Request, Check, Solve, Resume, Generate, Demo}
use Rattle.sweep_solver.specs.Solved.{IsAccepted, IsSolved, UsesUp}
use Rattle.sweep_solver.specs.Resumed.{IsResumed, LeavesNoBox, budget_after}
use Rattle.command_line.specs.Requests.{SolveRequest, ResumeRequest, GenerateRequest, DemoRequest}
use Rattle.command_line.specs.declared.settings.Settings.{Settings}
use Rattle.frontier_cli.specs.Files.{demo_instance, demo_nodes, demo_settings, instance_in}

abbrev pub has_some : List Box2 → Bool
has_some boxes = not (length boxes == 0)

-- the points and the boxes of the text are a frontier of the instance, and without a box the points are exactly the
-- nondominated ones
pub record IsCertifiedReport (s : Settings) (p : Problem) (text : List ℕ) (has_box : Bool) : Type 0 where
  pub points : List Listed
  pub boxes : List Box2
  pub printed : text ≡ report_text s.style points boxes
  pub left : has_box ≡ has_some boxes
  pub frontier : IsFrontier p points boxes
  pub whole : has_box ≡ false → IsWholeFrontier p points

-- an accepted tree has at most four times as many nodes as its root weighs
abbrev pub IsSmall : Problem → Certificate → Type 0
IsSmall p c = length c.nodes ≤ 4 * weight (root p)

-- the certificate whose text these bytes are is accepted, and the text reports what it accepts
pub record IsReportOf (s : Settings) (p : Problem) (bytes text : List ℕ) (has_box : Bool) : Type 0 where
  pub certificate : Certificate
  pub is_cert : IsCert certificate
  pub bytes_are : bytes ≡ cert_text certificate
  pub accepted : Acceptance
  pub verdict : decide p s.labels certificate ≡ Ok accepted
  pub printed : text ≡ report_text s.style accepted.points accepted.boxes
  pub left : has_box ≡ has_some accepted.boxes
  pub small : IsSmall p certificate

-- the report of the certificate under a name, for the instance under another
pub record Reports (s : Settings) (instance certificate : Option (List ℕ)) (text : List ℕ) (has_box : Bool) : Type 0 where
  pub problem : Problem
  pub instance_is : option_map (instance_in s) instance ≡ Some (Ok problem)
  pub bytes : List ℕ
  pub certificate_is : certificate ≡ Some bytes
  pub report : IsReportOf s problem bytes text has_box
  pub certified : IsCertifiedReport s problem text has_box

-- the certificate that was put, for the instance under a name: it is solved within the request's nodes and covers its
-- starting plans, the text reports what it accepts, and a box is left only where the nodes are used up
pub record Solves (r : SolveRequest) (instance out : Option (List ℕ)) (text : List ℕ) (has_box : Bool) : Type 0 where
  pub problem : Problem
  pub instance_is : option_map (instance_in r.settings) instance ≡ Some (Ok problem)
  pub bytes : List ℕ
  pub put : out ≡ Some bytes
  pub report : IsReportOf r.settings problem bytes text has_box
  pub solved : IsSolved problem r.settings.labels r.nodes r.seed report.certificate
  pub boxes : has_box ≡ true → UsesUp r.nodes (length report.certificate.nodes)
  pub certified : IsCertifiedReport r.settings problem text has_box

-- the certificate that was put, for the instance under a name: it goes on from the accepted one under another, and is the same
-- bytes where that leaves no box; the text reports what it accepts, and a box is left only where the request's nodes are used
-- up, counted from those that the old one has
pub record Resumes (r : ResumeRequest) (instance certificate out : Option (List ℕ)) (text : List ℕ) (has_box : Bool) : Type 0 where
  pub problem : Problem
  pub instance_is : option_map (instance_in r.settings) instance ≡ Some (Ok problem)
  pub old : Certificate
  pub is_cert : IsCert old
  pub certificate_is : certificate ≡ Some (cert_text old)
  pub accepted : IsAccepted problem r.settings.labels old
  pub bytes : List ℕ
  pub put : out ≡ Some bytes
  pub report : IsReportOf r.settings problem bytes text has_box
  pub resumed : IsResumed problem r.settings.labels r.nodes r.seed old report.certificate
  pub same : LeavesNoBox problem r.settings.labels old → out ≡ certificate
  pub boxes : has_box ≡ true → UsesUp (budget_after (length old.nodes) r.nodes) (length report.certificate.nodes)
  pub certified : IsCertifiedReport r.settings problem text has_box

-- the generated instance, which has no box
abbrev pub IsGenerated : GenerateRequest → List ℕ → Bool → Type 0
IsGenerated r text has_box = (text ≡ generated r.seed r.calls r.format) × (has_box ≡ false)

-- the text of the certificate where a box is left, and nothing else
abbrev pub behind : Bool → Certificate → List ℕ
behind has_box certificate = if has_box then cert_text certificate else []

-- the summary of a frontier of the generated instance, and behind it the certificate where a box is left, for which the
-- nodes were used up; without a box the listed points are exactly the nondominated ones
pub record Demonstrates (r : DemoRequest) (text : List ℕ) (has_box : Bool) : Type 0 where
  pub problem : Problem
  pub instance_is : demo_instance r ≡ Ok problem
  pub certificate : Certificate
  pub is_cert : has_box ≡ true → IsCert certificate
  pub solved : IsSolved problem (demo_settings r).labels (Some demo_nodes) 0 certificate
  pub accepted : Acceptance
  pub verdict : decide problem (demo_settings r).labels certificate ≡ Ok accepted
  pub printed : text ≡ summary_text r.calls accepted.points accepted.boxes ++ behind has_box certificate
  pub left : has_box ≡ has_some accepted.boxes
  pub boxes : has_box ≡ true → demo_nodes ≤ length certificate.nodes
  pub frontier : IsFrontier problem accepted.points accepted.boxes
  pub whole : has_box ≡ false → IsWholeFrontier problem accepted.points

-- what the printed text of a request says, by the files before and after
abbrev pub Answers : Request → Files → Files → List ℕ → Bool → Type 0
Answers (Check r) before after text has_box = Reports r.settings (file before r.instance) (file before r.certificate) text has_box
Answers (Solve r) before after text has_box = Solves r (file before r.instance) (file after r.out) text has_box
Answers (Resume r) before after text has_box =
    Resumes r (file before r.instance) (file before r.certificate) (file after r.out) text has_box
Answers (Generate r) before after text has_box = IsGenerated r text has_box
Answers (Demo r) before after text has_box = Demonstrates r text has_box
