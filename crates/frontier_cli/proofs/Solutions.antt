-- What a solver's certificate and its verdict come to.
use Rattle.std.proofs.Common.{◌≡◌, ℕ, Bool, true, false, List, [], ◌∷◌, Result, Ok, Err, Some, refl, sym, subst, ◌∙◌, arith}
use Rattle.std.specs.Prelude.{IfOk, IfErr}
use Rattle.orienteering.specs.Instance.{Problem}
use Rattle.orienteering.specs.Certificate.{Certificate, Acceptance}
use Rattle.orienteering.specs.Frontier.{IsWholeFrontier}
use Rattle.orienteering.specs.declared.Box2.{Box2}
use Rattle.sweep_solver.specs.Solved.{IsAccepted}
use Rattle.command_line.specs.Requests.{SolveRequest, ResumeRequest, DemoRequest}
use Rattle.frontier_cli.specs.Answers.{Demonstrates, has_some}
use Rattle.frontier_cli.specs.Files.{demo_instance, demo_nodes, demo_settings}
use Rattle.command_line.specs.declared.settings.Settings.{Settings}
use Rattle.frontier_cli.specs.Outcome.{Outcome, WordsRefused, Refused, Printed, ReadFault, WriteFault, OutOfMemory}
use Rattle.frontier_cli.specs.Refusal.{outcome_of, refused}
use Rattle.frontier_cli.specs.declared.refusal.Refusal.{Refusal}
use Rattle.frontier_cli.specs.declared.work.Report.{Report}
use Rattle.frontier_cli.specs.Ran.{Demos, IsContinuation, IsContinued, IsFound, IsSolution, IsSummary, IsTold, ReportsAll}

some_box : (boxes : List Box2) → has_some boxes ≡ true → boxes ≡ [] → ⊥
some_box [] some none = absurd (cc)
some_box (b ∷ bs) some none = absurd (cc)

no_box : (boxes : List Box2) → has_some boxes ≡ false → boxes ≡ []
no_box [] h = refl
no_box (b ∷ bs) h = absurd (grind arith)

whole_without : (p : Problem) (a : Acceptance) (has_box : Bool) → has_box ≡ has_some a.boxes → (a.boxes ≡ [] → IsWholeFrontier p a.points) →
    has_box ≡ false → IsWholeFrontier p a.points
whole_without p a has_box left whole none = whole (no_box a.boxes (sym left ∙ none))

pub solution : (r : SolveRequest) (p : Problem) (c : Certificate) (a : Acceptance) (bytes text : List ℕ) (has_box : Bool) →
    IsFound p r.settings.labels r.nodes r.seed c a → IsTold r.settings c a bytes text has_box → IsSolution r p bytes text has_box
solution r p c a bytes text has_box f t = record {
  certificate = c;
  is_cert = t.is_cert;
  bytes_are = t.bytes_are;
  verdict = record {
    accepted = a;
    verdict = f.verdict;
    printed = t.printed;
    left = t.left;
    small = f.small;
    certified = record {
      points = a.points;
      boxes = a.boxes;
      printed = t.printed;
      left = t.left;
      frontier = f.frontier;
      whole = whole_without p a has_box t.left f.whole;
    };
  };
  solved = f.solved;
  boxes = λ some. f.solved.boxes a f.verdict (some_box a.boxes (sym t.left ∙ some));
}

pub continuation : (r : ResumeRequest) (p : Problem) (old c : Certificate) (a : Acceptance) (bytes text : List ℕ) (has_box : Bool) →
    IsAccepted p r.settings.labels old → IsContinued p r.settings.labels r.nodes r.seed old c a → IsTold r.settings c a bytes text has_box →
    IsContinuation r p old bytes text has_box
continuation r p old c a bytes text has_box is f t = record {
  accepted = is;
  certificate = c;
  is_cert = t.is_cert;
  bytes_are = t.bytes_are;
  verdict = record {
    accepted = a;
    verdict = f.verdict;
    printed = t.printed;
    left = t.left;
    small = f.small;
    certified = record {
      points = a.points;
      boxes = a.boxes;
      printed = t.printed;
      left = t.left;
      frontier = f.frontier;
      whole = whole_without p a has_box t.left f.whole;
    };
  };
  resumed = f.resumed;
  boxes = λ some. f.resumed.boxes a f.verdict (some_box a.boxes (sym t.left ∙ some));
}

pub demonstration : (r : DemoRequest) (p : Problem) (c : Certificate) (a : Acceptance) (text : List ℕ) (has_box : Bool) →
    demo_instance r ≡ Ok p → IsFound p (demo_settings r).labels (Some demo_nodes) 0 c a → IsSummary r.calls c a text has_box →
    Demonstrates r text has_box
demonstration r p c a text has_box is f t = record {
  problem = p;
  instance_is = is;
  certificate = c;
  is_cert = t.is_cert;
  solved = f.solved;
  accepted = a;
  verdict = f.verdict;
  printed = t.printed;
  left = t.left;
  boxes = λ some. f.solved.boxes a f.verdict (some_box a.boxes (sym t.left ∙ some));
  frontier = f.frontier;
  whole = whole_without p a has_box t.left f.whole;
}

-- where no report is printed, memory was wanting
pub reports_memory : (s : Settings) (a : Acceptance) (outcome : Outcome) → ((text : List ℕ) (has_box : Bool) → outcome ≡ Printed text has_box → ⊥) →
    ReportsAll s a outcome → outcome ≡ OutOfMemory
reports_memory s a OutOfMemory plain is = refl
reports_memory s a (Printed text has_box) plain is = absurd (plain text has_box refl)
reports_memory s a (WordsRefused text) plain is = absurd is
reports_memory s a (Refused cause) plain is = absurd is
reports_memory s a (ReadFault name) plain is = absurd is
reports_memory s a WriteFault plain is = absurd is

pub demonstrated : (r : DemoRequest) (p : Problem) (c : Certificate) (a : Acceptance) → demo_instance r ≡ Ok p →
    IsFound p (demo_settings r).labels (Some demo_nodes) 0 c a → (result : Result Report Refusal) →
    IfOk result (λ report. IsSummary r.calls c a report.text.items report.has_box) → IfErr result (λ refusal. refused refusal ≡ OutOfMemory) →
    Demos r (outcome_of result)
demonstrated r p c a is f (Ok report) summary memory = demonstration r p c a report.text.items report.has_box is f summary
demonstrated r p c a is f (Err refusal) summary memory = subst (Demos r) (sym memory) tt
