-- What a user may rely on, one fact at a time.
use Rattle.std.specs.Prelude.{◌≡◌, ◌⊎◌, ◌<◌, ◌*◌, ℕ, Bool, List, Option, Some, None, Ok, IfSome, IsSomeAnd, option_map}
use Rattle.edge_core.specs.Faults.{Rose}
use Rattle.edge_core.specs.Store.{Files, StoreState, file, ChangesOnly}
use Rattle.edge_core.specs.Sink.{SinkState, Gains, GainsFront}
use Rattle.orienteering.specs.Instance.{Problem}
use Rattle.orienteering.specs.Region.{root}
use Rattle.orienteering.specs.Weight.{weight}
use Rattle.command_line.specs.Requests.{Request, Check, Solve, Resume, Generate, Demo}
use Rattle.command_line.specs.declared.settings.Settings.{Settings}
use Rattle.frontier_cli.specs.Outcome.{Outcome, WordsRefused, Refused, Printed, ReadFault, WriteFault, OutOfMemory, status_of, cause_status, report_status, line_of}
use Rattle.frontier_cli.specs.Files.{instance_in}
use Rattle.frontier_cli.specs.Expected.{Expectation, Missing, RefusedBy, Accepted, ComesTo}
use Rattle.frontier_cli.specs.Answers.{Answers, Demonstrates, IsCertifiedReport, IsGenerated}
use Rattle.frontier_cli.specs.Ran.{ComesToRead, PutFailed}

-- a text was printed
abbrev pub IsPrinted : ℕ → Type 0
IsPrinted status = (status ≡ 0) ⊎ (status ≡ 3)

-- the status of a refusal by the files
abbrev pub IsOfCause : ℕ → Type 0
IsOfCause status = (status ≡ 1) ⊎ (status ≡ 4) ⊎ (status ≡ 8) ⊎ (status ≡ 9)

-- the files of accepted words come to something of which this holds, where the store tells them
abbrev pub Comes : Option Request → Option Files → (Expectation → Type 0) → Type 0
Comes request files P =
    IfSome files (λ files. IsSomeAnd request (λ asked. (e : Expectation) × ComesTo files asked e × P e))

-- a refusal with this status
abbrev pub IsRefusedWith : ℕ → Expectation → Type 0
IsRefusedWith status (RefusedBy cause) = status ≡ cause_status cause
IsRefusedWith status Missing = ⊥
IsRefusedWith status Accepted = ⊥

-- a read of a file failed in this run, to which the request comes
abbrev pub ReadFailed : Option Request → StoreState → StoreState → Type 0
ReadFailed request old new = IsSomeAnd request (λ asked. ComesToRead asked old.files new.failed) × Rose old.get_faults new.get_faults

-- a put failed in this run, or the write of what was to be printed did
abbrev pub WriteFailed : Option Request → StoreState → StoreState → SinkState → SinkState → Type 0
WriteFailed request store store' out out' =
    IsSomeAnd request (λ asked. PutFailed asked store store') ⊎ Rose out.faults out'.faults

-- what kept a run from the status of its files: want of memory, or a fault
abbrev pub KeptFrom : Option Request → StoreState → StoreState → SinkState → SinkState → ℕ → Type 0
KeptFrom request store store' out out' status =
    (status ≡ 7) ⊎ ((status ≡ 5) × ReadFailed request store store') ⊎ ((status ≡ 6) × WriteFailed request store store' out out')

-- a status to which these files lead
abbrev pub LeadsTo : Expectation → ℕ → Type 0
LeadsTo Missing status = ⊥
LeadsTo (RefusedBy cause) status = status ≡ cause_status cause
LeadsTo Accepted status = IsPrinted status

-- where the store tells its files and the words are accepted, the run ends as the files say, or was kept from it
abbrev pub EndsSo : Option Request → StoreState → StoreState → SinkState → SinkState → ℕ → Type 0
EndsSo request store store' out out' status =
    IfSome store.files (λ files. IfSome request (λ asked. (e : Expectation) → ComesTo files asked e →
    LeadsTo e status ⊎ KeptFrom request store store' out out' status))

-- what was printed answers the request by the files before and after, and has a box exactly with status 3
pub record Certified (request : Option Request) (before after : Files) (out out' : SinkState) (status : ℕ) : Type 0 where
  pub asked : Request
  pub asked_is : request ≡ Some asked
  pub text : List ℕ
  pub has_box : Bool
  pub answers : Answers asked before after text has_box
  pub printed : Gains text out.bytes out'.bytes
  pub boxes : status ≡ report_status has_box

-- The headline. What was printed are points with plans, and boxes: each plan is feasible and reaches its point, no listed
-- point weakly dominates another, and every feasible plan of the instance that this file describes is weakly dominated by
-- a listed point or lies in a listed box. With status 0 there is no box, and the points are exactly the nondominated ones,
-- by rising profit.
pub record IsHeadline (name : List ℕ) (settings : Settings) (before : Files) (out out' : SinkState) (status : ℕ) : Type 0 where
  pub problem : Problem
  pub instance_is : option_map (instance_in settings) (file before name) ≡ Some (Ok problem)
  pub text : List ℕ
  pub has_box : Bool
  pub printed : Gains text out.bytes out'.bytes
  pub report : IsCertifiedReport settings problem text has_box
  pub boxes : status ≡ report_status has_box

-- the headline of each request that reports a frontier of an instance in a file
abbrev pub HeadlineOf : Request → Files → SinkState → SinkState → ℕ → Type 0
HeadlineOf (Check r) before out out' status = IsHeadline r.instance r.settings before out out' status
HeadlineOf (Solve r) before out out' status = IsHeadline r.instance r.settings before out out' status
HeadlineOf (Resume r) before out out' status = IsHeadline r.instance r.settings before out out' status
HeadlineOf (Generate r) before out out' status = Unit {0}
HeadlineOf (Demo r) before out out' status = Unit {0}

-- what the store holds answers the request
abbrev pub IsAnswered : Option Request → Files → Files → Type 0
IsAnswered request before after =
    IsSomeAnd request (λ asked. (text : List ℕ) × (has_box : Bool) × Answers asked before after text has_box)

-- a put failed in this run, or what the store holds answers the request all the same
abbrev pub PutFailedOrAnswered : Option Request → StoreState → StoreState → Type 0
PutFailedOrAnswered request old new =
    IsSomeAnd request (λ asked. PutFailed asked old new)
    ⊎ IfSome old.files (λ before. IsSomeAnd new.files (λ after. IsAnswered request before after))

-- with these statuses the file of a certificate may have been put
abbrev pub MayHavePut : ℕ → Type 0
MayHavePut status = IsPrinted status ⊎ ((status ≡ 6) ⊎ (status ≡ 7))

-- every file but this one stays, and with most statuses this one too
pub record OthersStayBy (name : List ℕ) (status : ℕ) (old new : Option Files) : Type 0 where
  pub others : ChangesOnly name old new
  pub all : (MayHavePut status → ⊥) → new ≡ old

-- which files stay
abbrev pub FilesStay : Option Request → ℕ → Option Files → Option Files → Type 0
FilesStay None status old new = new ≡ old
FilesStay (Some (Check r)) status old new = new ≡ old
FilesStay (Some (Solve r)) status old new = OthersStayBy r.out status old new
FilesStay (Some (Resume r)) status old new = OthersStayBy r.out status old new
FilesStay (Some (Generate r)) status old new = new ≡ old
FilesStay (Some (Demo r)) status old new = new ≡ old

-- the front of a text of this kind was printed
abbrev pub PrintsFrontOf : (List ℕ → Bool → Type 0) → SinkState → SinkState → Type 0
PrintsFrontOf Is out out' = (text : List ℕ) × (has_box : Bool) × Is text has_box × GainsFront text out.bytes out'.bytes

-- the front of a text was printed that answers the request, where the store tells
abbrev pub PrintsFrontOfAnswer : Option Request → Option Files → Option Files → SinkState → SinkState → Type 0
PrintsFrontOfAnswer request before after out out' =
    IfSome before (λ before. IsSomeAnd after (λ after. IsSomeAnd request (λ asked. PrintsFrontOf (Answers asked before after) out out')))

-- nothing was printed, or the front of an answer where the sink failed
abbrev pub PrintedFront : Option Request → StoreState → StoreState → SinkState → SinkState → Type 0
PrintedFront request store store' out out' =
    (out' ≡ out) ⊎ (Rose out.faults out'.faults × PrintsFrontOfAnswer request store.files store'.files out out')

-- what may have ended a run that prints no report: its words or its files are refused, a fault came, or memory was wanting
abbrev pub MayEnd : Option Request → StoreState → StoreState → SinkState → SinkState → Outcome → Type 0
MayEnd request store store' out out' (WordsRefused text) = request ≡ None
MayEnd request store store' out out' (Refused cause) = Comes request store.files (λ e. e ≡ RefusedBy cause)
MayEnd request store store' out out' (Printed text has_box) = ⊥
MayEnd request store store' out out' (ReadFault name) = (store'.failed ≡ name) × ReadFailed request store store'
MayEnd request store store' out out' WriteFault = WriteFailed request store store' out out'
MayEnd request store store' out out' OutOfMemory = Unit {0}

-- the error stream got this line, or the front of it where it failed
abbrev pub GetsLine : List ℕ → SinkState → SinkState → Type 0
GetsLine line err err' = Gains line err.bytes err'.bytes ⊎ (Rose err.faults err'.faults × GainsFront line err.bytes err'.bytes)

-- the error stream got the line of what ended the run with this status
abbrev pub TellsLine : (Outcome → Type 0) → SinkState → SinkState → ℕ → Type 0
TellsLine Ended err err' status = (outcome : Outcome) × Ended outcome × (status ≡ status_of outcome) × GetsLine (line_of outcome) err err'

-- the error stream got the front of the line of what may have ended the run
abbrev pub TellsFront : (Outcome → Type 0) → SinkState → SinkState → Type 0
TellsFront Ended err err' = (outcome : Outcome) × Ended outcome × GainsFront (line_of outcome) err.bytes err'.bytes

-- ---- requests that read no file

-- a text of this kind was printed, or memory was wanting, or the sink failed after the front of such a text
abbrev pub EndsPrinting : (List ℕ → Bool → Type 0) → SinkState → SinkState → ℕ → Type 0
EndsPrinting Is out out' status =
    ((text : List ℕ) × (has_box : Bool) × Is text has_box × (status ≡ report_status has_box) × Gains text out.bytes out'.bytes)
    ⊎ (status ≡ 7)
    ⊎ ((status ≡ 6) × Rose out.faults out'.faults × PrintsFrontOf Is out out')

-- refused words and requests that read no file leave all of the store, and such a request prints its text whatever that holds
abbrev pub NeedsNoFile : Option Request → StoreState → StoreState → SinkState → SinkState → ℕ → Type 0
NeedsNoFile None store store' out out' status = store' ≡ store
NeedsNoFile (Some (Check r)) store store' out out' status = Unit {0}
NeedsNoFile (Some (Solve r)) store store' out out' status = Unit {0}
NeedsNoFile (Some (Resume r)) store store' out out' status = Unit {0}
NeedsNoFile (Some (Generate r)) store store' out out' status = (store' ≡ store) × EndsPrinting (IsGenerated r) out out' status
NeedsNoFile (Some (Demo r)) store store' out out' status = (store' ≡ store) × EndsPrinting (Demonstrates r) out out' status

-- ---- budgets that suffice

-- no budget, or one above what any accepted tree of the instance has
abbrev pub Suffices : Option ℕ → Problem → Type 0
Suffices None p = Unit {0}
Suffices (Some nodes) p = 4 * weight (root p) < nodes

-- the budget suffices for the instance under this name
abbrev pub SufficesFor : Settings → List ℕ → Option ℕ → Files → Type 0
SufficesFor s name nodes files = (p : Problem) → option_map (instance_in s) (file files name) ≡ Some (Ok p) → Suffices nodes p

-- a search whose budget suffices
abbrev pub HasBudget : Request → Files → Type 0
HasBudget (Check r) files = ⊥
HasBudget (Solve r) files = SufficesFor r.settings r.instance r.nodes files
HasBudget (Resume r) files = SufficesFor r.settings r.instance r.nodes files
HasBudget (Generate r) files = ⊥
HasBudget (Demo r) files = ⊥

-- a search whose budget suffices and whose files are accepted leaves no box, or was kept from its end
abbrev pub Closes : Option Request → StoreState → StoreState → SinkState → SinkState → ℕ → Type 0
Closes request store store' out out' status =
    IfSome store.files (λ files. IfSome request (λ asked. HasBudget asked files → ComesTo files asked Accepted →
    (status ≡ 0) ⊎ KeptFrom request store store' out out' status))
