-- What the work of words comes to.
use Rattle.std.proofs.Common.{◌≡◌, ℕ, Bool, List, Option, Some, None, IfSome, IsSomeAnd, refl, sym, subst}
use Rattle.edge_core.specs.Store.{Files, StoreState}
use Rattle.command_line.specs.Requests.{GenerateRequest, DemoRequest}
use Rattle.command_line.specs.Requests.{Request, Check, Solve, Resume, Generate, Demo}
use Rattle.frontier_cli.specs.Outcome.{Outcome, WordsRefused, Refused, Printed, ReadFault, WriteFault, OutOfMemory}
use Rattle.frontier_cli.specs.Answers.{Demonstrates, IsGenerated}
use Rattle.frontier_cli.proofs.Solves.{leaves_none}
use Rattle.frontier_cli.specs.Expected.{Accepted, ComesTo}
use Rattle.frontier_cli.specs.Ran.{DeclinesWords, Demos, Does, Generates, Leaves, Makes, Works}

-- where nothing was done to the files, they are left as each request leaves them
leaves_same : (request : Request) (outcome : Outcome) (store : StoreState) → Leaves request outcome store store
leaves_same (Check r) outcome store = refl
leaves_same (Solve r) outcome store = leaves_none r.out outcome store.files
leaves_same (Resume r) outcome store = leaves_none r.out outcome store.files
leaves_same (Generate r) outcome store = refl
leaves_same (Demo r) outcome store = refl

-- every request may find no memory
makes_memory : (request : Request) → Makes request OutOfMemory
makes_memory (Check r) = tt
makes_memory (Solve r) = tt
makes_memory (Resume r) = tt
makes_memory (Generate r) = tt
makes_memory (Demo r) = tt

pub ended_by_words : (asked : Option Request) (store : StoreState) (outcome : Outcome) → DeclinesWords asked outcome →
    Works asked store store outcome
ended_by_words None store (WordsRefused text) d = (refl, refl)
ended_by_words None store OutOfMemory d = (tt, refl)
ended_by_words (Some request) store (WordsRefused text) d = absurd (cc)
ended_by_words (Some request) store OutOfMemory d = record { files = leaves_same request OutOfMemory store; cause = tt; made = makes_memory request }
ended_by_words asked store (Refused cause) d = absurd d
ended_by_words asked store (Printed text has_box) d = absurd d
ended_by_words asked store (ReadFault name) d = absurd d
ended_by_words asked store WriteFault d = absurd d

pub works-asked : (asked : Option Request) (request : Request) (old new : StoreState) (outcome : Outcome) → asked ≡ Some request →
    Does request old new outcome → Works asked old new outcome
works-asked asked request old new outcome is does = subst (λ o. Works o old new outcome) (sym is) does

-- ---- a generated instance

printed_generated : (files : Option Files) (r : GenerateRequest) (text : List ℕ) (has_box : Bool) → IsGenerated r text has_box →
    IfSome files (λ f. ComesTo f (Generate r) Accepted × IsSomeAnd files (λ g. IsGenerated r text has_box))
printed_generated None r text has_box is = tt
printed_generated (Some f) r text has_box is = (refl, is)

pub ended_by_generating : (r : GenerateRequest) (store : StoreState) (outcome : Outcome) → Generates r outcome → Does (Generate r) store store outcome
ended_by_generating r store (Printed text has_box) is = record { files = refl; cause = printed_generated store.files r text has_box is; made = is }
ended_by_generating r store OutOfMemory is = record { files = refl; cause = tt; made = tt }
ended_by_generating r store (WordsRefused text) is = absurd is
ended_by_generating r store (Refused cause) is = absurd is
ended_by_generating r store (ReadFault name) is = absurd is
ended_by_generating r store WriteFault is = absurd is

-- ---- a demonstration

demo_printed : (files : Option Files) (r : DemoRequest) (text : List ℕ) (has_box : Bool) → Demonstrates r text has_box →
    IfSome files (λ f. ComesTo f (Demo r) Accepted × IsSomeAnd files (λ g. Demonstrates r text has_box))
demo_printed None r text has_box is = tt
demo_printed (Some f) r text has_box is = (refl, is)

pub ended_by_demo : (r : DemoRequest) (store : StoreState) (outcome : Outcome) → Demos r outcome → Does (Demo r) store store outcome
ended_by_demo r store (Printed text has_box) is = record { files = refl; cause = demo_printed store.files r text has_box is; made = is }
ended_by_demo r store OutOfMemory is = record { files = refl; cause = tt; made = tt }
ended_by_demo r store (WordsRefused text) is = absurd is
ended_by_demo r store (Refused cause) is = absurd is
ended_by_demo r store (ReadFault name) is = absurd is
ended_by_demo r store WriteFault is = absurd is
