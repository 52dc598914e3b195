-- How a run goes, step by step: what it reads, what it comes to, what it prints and what it tells.
use Rattle.std.specs.Prelude.{◌≡◌, ◌⊎◌, ◌≤◌, ℕ, Bool, true, List, [], ◌++◌, length, Option, Some, None, Result, Ok, Err, IfSome, IsSomeAnd, option_map}
use Rattle.edge_core.specs.Faults.{Rose}
use Rattle.edge_core.specs.Store.{Files, StoreState, file, ChangesOnly, Holds}
use Rattle.edge_core.specs.Sink.{SinkState, Gains, GainsFront}
use Rattle.sweep_solver.specs.Solved.{IsAccepted, IsSolved, UsesUp}
use Rattle.sweep_solver.specs.Resumed.{IsResumed, budget_after}
use Rattle.cert_text.specs.Text.{cert_text, IsCert}
use Rattle.command_line.specs.Told.{Told, Fault, line_of as line_of_words}
use Rattle.command_line.specs.Requests.{SolveRequest, ResumeRequest, GenerateRequest, DemoRequest}
use Rattle.command_line.specs.Requests.{Request, Check, Solve, Resume, Generate, Demo}
use Rattle.orienteering.specs.Certificate.{Certificate, Acceptance}
use Rattle.orienteering.specs.Decide.{decide}
use Rattle.orienteering.specs.Frontier.{IsFrontier, IsWholeFrontier}
use Rattle.orienteering.specs.Instance.{Problem}
use Rattle.orienteering.specs.declared.CheckFail.{CheckFail}
use Rattle.orienteering.specs.declared.CheckFail.TheVariants.{Memory}
use Rattle.command_line.specs.declared.settings.Settings.{Settings}
use Rattle.report_text.specs.Report.{report_text, summary_text}
use Rattle.frontier_cli.specs.Outcome.{Cause, CertRefused, Outcome, WordsRefused, Refused, Printed, Step, ReadFault, WriteFault, OutOfMemory, status_of, report_status, line_of}
use Rattle.frontier_cli.specs.Files.{instance_in}
use Rattle.frontier_cli.specs.Expected.{RefusedBy, Accepted, ComesTo, of_verdict}
use Rattle.frontier_cli.specs.Answers.{Answers, Demonstrates, IsCertifiedReport, IsGenerated, IsSmall, behind, has_some}

-- the bytes of the file are read as this, where the store tells
abbrev pub FileReadsAs : {V : Type 0} → (List ℕ → Result V Cause → Type 0) → List ℕ → Option Files → Result V Cause → Type 0
FileReadsAs Reading name files result =
    IfSome files (λ files. IsSomeAnd (file files name) (λ bytes. Reading bytes result))

-- why a step over the file of this name ended so: a value or a refusal is by the bytes of the file, a read fault is a
-- count that rose, and want of memory is free
abbrev pub StepCause : {V : Type 0} → (List ℕ → Result V Cause → Type 0) → List ℕ → StoreState → StoreState → Step V → Type 0
StepCause Reading name old new (Ok value) = FileReadsAs Reading name old.files (Ok value)
StepCause Reading name old new (Err (Refused cause)) = FileReadsAs Reading name old.files (Err cause)
StepCause Reading name old new (Err (Printed text has_box)) = ⊥
StepCause Reading name old new (Err (ReadFault at)) = (at ≡ name) × (new.failed ≡ name) × Rose old.get_faults new.get_faults
StepCause Reading name old new (Err (WordsRefused text)) = ⊥
StepCause Reading name old new (Err WriteFault) = ⊥
StepCause Reading name old new (Err OutOfMemory) = Unit {0}

-- a step that reads the file of this name
pub record Reads {V : Type 0} (Reading : List ℕ → Result V Cause → Type 0) (name : List ℕ) (old new : StoreState) (step : Step V) : Type 0 where
  pub files : new.files ≡ old.files
  pub later : old.get_faults ≤ new.get_faults
  pub put_faults : new.put_faults ≡ old.put_faults
  pub cause : StepCause Reading name old new step

-- a step that only looks at bytes: its value or refusal is one of these; want of memory is free
abbrev pub LooksAt : {V : Type 0} → (Result V Cause → Type 0) → Step V → Type 0
LooksAt Is (Ok value) = Is (Ok value)
LooksAt Is (Err (Refused cause)) = Is (Err cause)
LooksAt Is (Err OutOfMemory) = Unit {0}
LooksAt Is (Err outcome) = ⊥

-- the report of what is accepted; want of memory is free
abbrev pub ReportsAll : Settings → Acceptance → Outcome → Type 0
ReportsAll s a (Printed text has_box) = (text ≡ report_text s.style a.points a.boxes) × (has_box ≡ has_some a.boxes)
ReportsAll s a OutOfMemory = Unit {0}
ReportsAll s a outcome = ⊥

-- the report of an accepted certificate
pub record PrintsVerdict (s : Settings) (p : Problem) (c : Certificate) (text : List ℕ) (has_box : Bool) : Type 0 where
  pub accepted : Acceptance
  pub verdict : decide p s.labels c ≡ Ok accepted
  pub printed : text ≡ report_text s.style accepted.points accepted.boxes
  pub left : has_box ≡ has_some accepted.boxes
  pub small : IsSmall p c
  pub certified : IsCertifiedReport s p text has_box

-- what the verdict on a certificate comes to; want of memory is free
abbrev pub Judges : Settings → Problem → Certificate → Outcome → Type 0
Judges s p c (Refused cause) = of_verdict (decide p s.labels c) ≡ RefusedBy cause
Judges s p c (Printed text has_box) = PrintsVerdict s p c text has_box
Judges s p c OutOfMemory = Unit {0}
Judges s p c outcome = ⊥

-- a certificate that solves the instance, with what it accepts
pub record IsFound (p : Problem) (labels : ℕ) (nodes : Option ℕ) (seed : ℕ) (c : Certificate) (a : Acceptance) : Type 0 where
  pub solved : IsSolved p labels nodes seed c
  pub verdict : decide p labels c ≡ Ok a
  pub frontier : IsFrontier p a.points a.boxes
  pub whole : a.boxes ≡ [] → IsWholeFrontier p a.points
  pub small : IsSmall p c

-- a certificate that goes on from another, with what it accepts
pub record IsContinued (p : Problem) (labels : ℕ) (nodes : Option ℕ) (seed : ℕ) (old c : Certificate) (a : Acceptance) : Type 0 where
  pub resumed : IsResumed p labels nodes seed old c
  pub verdict : decide p labels c ≡ Ok a
  pub frontier : IsFrontier p a.points a.boxes
  pub whole : a.boxes ≡ [] → IsWholeFrontier p a.points
  pub small : IsSmall p c

-- the text of the certificate, and the report of what it accepts
pub record IsTold (s : Settings) (c : Certificate) (a : Acceptance) (bytes text : List ℕ) (has_box : Bool) : Type 0 where
  pub is_cert : IsCert c
  pub bytes_are : bytes ≡ cert_text c
  pub printed : text ≡ report_text s.style a.points a.boxes
  pub left : has_box ≡ has_some a.boxes

-- the summary of what is accepted, and the certificate behind it where a box is left
pub record IsSummary (calls : ℕ) (c : Certificate) (a : Acceptance) (text : List ℕ) (has_box : Bool) : Type 0 where
  pub is_cert : has_box ≡ true → IsCert c
  pub printed : text ≡ summary_text calls a.points a.boxes ++ behind has_box c
  pub left : has_box ≡ has_some a.boxes

-- a certificate that solves the instance, with its text and its report
pub record IsSolution (r : SolveRequest) (p : Problem) (bytes text : List ℕ) (has_box : Bool) : Type 0 where
  pub certificate : Certificate
  pub is_cert : IsCert certificate
  pub bytes_are : bytes ≡ cert_text certificate
  pub verdict : PrintsVerdict r.settings p certificate text has_box
  pub solved : IsSolved p r.settings.labels r.nodes r.seed certificate
  pub boxes : has_box ≡ true → UsesUp r.nodes (length certificate.nodes)

-- a certificate that goes on from an accepted one, with its text and its report
pub record IsContinuation (r : ResumeRequest) (p : Problem) (old : Certificate) (bytes text : List ℕ) (has_box : Bool) : Type 0 where
  pub accepted : IsAccepted p r.settings.labels old
  pub certificate : Certificate
  pub is_cert : IsCert certificate
  pub bytes_are : bytes ≡ cert_text certificate
  pub verdict : PrintsVerdict r.settings p certificate text has_box
  pub resumed : IsResumed p r.settings.labels r.nodes r.seed old certificate
  pub boxes : has_box ≡ true → UsesUp (budget_after (length old.nodes) r.nodes) (length certificate.nodes)

-- why a put ended so: the name holds the bytes, a count rose, or want of memory
abbrev pub PutCause : List ℕ → List ℕ → StoreState → StoreState → Step (Unit {0}) → Type 0
PutCause name bytes old new (Ok done) = Holds name bytes new.files
PutCause name bytes old new (Err WriteFault) = Rose old.put_faults new.put_faults
PutCause name bytes old new (Err OutOfMemory) = Unit {0}
PutCause name bytes old new (Err outcome) = ⊥

-- a step that puts these bytes under this name
pub record Puts (name bytes : List ℕ) (old new : StoreState) (step : Step (Unit {0})) : Type 0 where
  pub only : ChangesOnly name old.files new.files
  pub cause : PutCause name bytes old new step

-- the generated instance is printed; want of memory is free
abbrev pub Generates : GenerateRequest → Outcome → Type 0
Generates r (Printed text has_box) = IsGenerated r text has_box
Generates r OutOfMemory = Unit {0}
Generates r outcome = ⊥

-- the summary of the generated instance is printed; want of memory is free
abbrev pub Demos : DemoRequest → Outcome → Type 0
Demos r (Printed text has_box) = Demonstrates r text has_box
Demos r OutOfMemory = Unit {0}
Demos r outcome = ⊥

-- the outcome of a refused certificate
abbrev pub refused_by : CheckFail → Outcome
refused_by Memory = OutOfMemory
refused_by fail = Refused (CertRefused fail)

-- the instance under this name is read without refusal, where the store tells
abbrev pub ReadsInstance : Settings → List ℕ → Option Files → Type 0
ReadsInstance s name files = IfSome files (λ files. (p : Problem) × (option_map (instance_in s) (file files name) ≡ Some (Ok p)))

-- the request comes to reading the file of this name: the instance first, and a certificate only once the instance is read
abbrev pub ComesToRead : Request → Option Files → List ℕ → Type 0
ComesToRead (Check r) files name = (name ≡ r.instance) ⊎ ((name ≡ r.certificate) × ReadsInstance r.settings r.instance files)
ComesToRead (Solve r) files name = name ≡ r.instance
ComesToRead (Resume r) files name = (name ≡ r.instance) ⊎ ((name ≡ r.certificate) × ReadsInstance r.settings r.instance files)
ComesToRead (Generate r) files name = ⊥
ComesToRead (Demo r) files name = ⊥

-- the request puts a certificate
abbrev pub PutsFile : Request → Type 0
PutsFile (Check r) = ⊥
PutsFile (Solve r) = Unit {0}
PutsFile (Resume r) = Unit {0}
PutsFile (Generate r) = ⊥
PutsFile (Demo r) = ⊥

-- a put of the request failed, before which its files were accepted
pub record PutFailed (request : Request) (old new : StoreState) : Type 0 where
  pub puts : PutsFile request
  pub accepted : IfSome old.files (λ files. ComesTo files request Accepted)
  pub rose : Rose old.put_faults new.put_faults

-- what a request that reads no file comes to
abbrev pub Makes : Request → Outcome → Type 0
Makes (Check r) outcome = Unit {0}
Makes (Solve r) outcome = Unit {0}
Makes (Resume r) outcome = Unit {0}
Makes (Generate r) outcome = Generates r outcome
Makes (Demo r) outcome = Demos r outcome

-- why the work of a request came to this
abbrev pub WorkCause : Request → StoreState → StoreState → Outcome → Type 0
WorkCause request old new (WordsRefused text) = ⊥
WorkCause request old new (Refused cause) = IfSome old.files (λ files. ComesTo files request (RefusedBy cause))
WorkCause request old new (Printed text has_box) =
    IfSome old.files (λ files. ComesTo files request Accepted × IsSomeAnd new.files (λ after. Answers request files after text has_box))
WorkCause request old new (ReadFault name) = ComesToRead request old.files name × (new.failed ≡ name) × Rose old.get_faults new.get_faults
WorkCause request old new WriteFault = PutFailed request old new
WorkCause request old new OutOfMemory = Unit {0}

-- a refusal leaves all files, and every other outcome all but this one
abbrev pub LeavesOthers : List ℕ → Outcome → Option Files → Option Files → Type 0
LeavesOthers name (WordsRefused text) old new = new ≡ old
LeavesOthers name (Refused cause) old new = new ≡ old
LeavesOthers name (ReadFault at) old new = new ≡ old
LeavesOthers name (Printed text has_box) old new = ChangesOnly name old new
LeavesOthers name WriteFault old new = ChangesOnly name old new
LeavesOthers name OutOfMemory old new = ChangesOnly name old new

-- what the work leaves of the store, by what it came to: a request that reads no file leaves all of it
abbrev pub Leaves : Request → Outcome → StoreState → StoreState → Type 0
Leaves (Check r) outcome old new = new.files ≡ old.files
Leaves (Solve r) outcome old new = LeavesOthers r.out outcome old.files new.files
Leaves (Resume r) outcome old new = LeavesOthers r.out outcome old.files new.files
Leaves (Generate r) outcome old new = new ≡ old
Leaves (Demo r) outcome old new = new ≡ old

-- the work of accepted words
pub record Does (request : Request) (old new : StoreState) (outcome : Outcome) : Type 0 where
  pub files : Leaves request outcome old new
  pub cause : WorkCause request old new outcome
  pub made : Makes request outcome

-- the words are refused, with some text for the user
abbrev pub Declines : Outcome → Type 0
Declines (WordsRefused text) = Unit {0}
Declines outcome = ⊥

-- the line of this cause is told, or the option reader's own text for its fault
abbrev pub TellsCause : Told → Outcome → Type 0
TellsCause cause (WordsRefused text) = (text ≡ line_of_words cause) ⊎ (cause ≡ Fault)
TellsCause cause outcome = ⊥

-- the words are refused, since they ask for nothing; want of memory is free
abbrev pub DeclinesWords : Option Request → Outcome → Type 0
DeclinesWords asked (WordsRefused text) = asked ≡ None
DeclinesWords asked OutOfMemory = Unit {0}
DeclinesWords asked outcome = ⊥

-- the work of words that ask for this, or for nothing
abbrev pub Works : Option Request → StoreState → StoreState → Outcome → Type 0
Works None old new outcome = DeclinesWords None outcome × (new ≡ old)
Works (Some request) old new outcome = Does request old new outcome

-- the error stream gets the line of this outcome
pub data Tells (outcome : Outcome) (old new : SinkState) (status : ℕ) : Type 0 where
  told : status ≡ status_of outcome → Gains (line_of outcome) old.bytes new.bytes → Tells outcome old new status
  broke : status ≡ status_of outcome → Rose old.faults new.faults → GainsFront (line_of outcome) old.bytes new.bytes → Tells outcome old new status
  no_memory : status ≡ 7 → GainsFront (line_of outcome) old.bytes new.bytes → Tells outcome old new status

-- a text is printed, in one piece
pub data Prints (text : List ℕ) (has_box : Bool) (out out' err err' : SinkState) (status : ℕ) : Type 0 where
  printed : status ≡ report_status has_box → Gains text out.bytes out'.bytes → err' ≡ err → Prints text has_box out out' err err' status
  print_broke : Rose out.faults out'.faults → GainsFront text out.bytes out'.bytes → Tells WriteFault err err' status → Prints text has_box out out' err err' status
  print_no_memory : out' ≡ out → Tells OutOfMemory err err' status → Prints text has_box out out' err err' status

-- a run ends: a text is printed, any other outcome is told
abbrev pub Ends : Outcome → SinkState → SinkState → SinkState → SinkState → ℕ → Type 0
Ends (Printed text has_box) out out' err err' status = Prints text has_box out out' err err' status
Ends outcome out out' err err' status = (out' ≡ out) × Tells outcome err err' status

-- a whole run
pub record Ran (request : Option Request) (store store' : StoreState) (out out' err err' : SinkState) (status : ℕ) : Type 0 where
  -- what the work came to
  pub outcome : Outcome
  pub works : Works request store store' outcome
  pub ends : Ends outcome out out' err err' status
