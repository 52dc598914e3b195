-- How a run ends that reads no file.
use Rattle.std.proofs.Common.{◌≡◌, ◌⊎◌, ℕ, Bool, List, Option, Some, None, refl, inl, inr}
use Rattle.edge_core.specs.Faults.{Rose}
use Rattle.edge_core.specs.Store.{StoreState}
use Rattle.edge_core.specs.Sink.{SinkState, GainsFront}
use Rattle.command_line.specs.Requests.{Request, Check, Solve, Resume, Generate, Demo, GenerateRequest, DemoRequest}
use Rattle.frontier_cli.specs.Answers.{Demonstrates, IsGenerated}
use Rattle.frontier_cli.specs.Outcome.{Outcome, WordsRefused, Refused, Printed, ReadFault, WriteFault, OutOfMemory, status_of}
use Rattle.frontier_cli.specs.Ran.{Demos, Generates, Prints, printed, print_broke, print_no_memory, Works}
use Rattle.frontier_cli.specs.Promises.{EndsPrinting, NeedsNoFile}
use Rattle.frontier_cli.proofs.Told.{tells-status}

-- ---- a text is printed

broke_off : (Is : List ℕ → Bool → Type 0) (text : List ℕ) (has_box : Bool) (out out' : SinkState) (status : ℕ) → Is text has_box →
    Rose out.faults out'.faults → GainsFront text out.bytes out'.bytes → (status ≡ 6) ⊎ (status ≡ 7) → EndsPrinting Is out out' status
broke_off Is text has_box out out' status is rose front (inl six) = inr (inr (six, rose, (text, has_box, is, front)))
broke_off Is text has_box out out' status is rose front (inr seven) = inr (inl seven)

ends_printing : (Is : List ℕ → Bool → Type 0) (text : List ℕ) (has_box : Bool) (out out' err err' : SinkState) (status : ℕ) → Is text has_box →
    Prints text has_box out out' err err' status → EndsPrinting Is out out' status
ends_printing Is text has_box out out' err err' status made (printed is gains same) = inl (text, has_box, made, is, gains)
ends_printing Is text has_box out out' err err' status made (print_broke rose front tells) =
    broke_off Is text has_box out out' status made rose front (tells-status WriteFault err err' status tells)
ends_printing Is text has_box out out' err err' status made (print_no_memory same tells) =
    inr (inl (elim (tells-status OutOfMemory err err' status tells) [ inl e ↦ e | inr e ↦ e ]))

pub no_file_printed : (asked : Option Request) (old new : StoreState) (text : List ℕ) (has_box : Bool) (out out' err err' : SinkState) (status : ℕ) →
    Works asked old new (Printed text has_box) → Prints text has_box out out' err err' status → NeedsNoFile asked old new out out' status
no_file_printed None old new text has_box out out' err err' status works prints = absurd works.0
no_file_printed (Some (Check r)) old new text has_box out out' err err' status works prints = tt
no_file_printed (Some (Solve r)) old new text has_box out out' err err' status works prints = tt
no_file_printed (Some (Resume r)) old new text has_box out out' err err' status works prints = tt
no_file_printed (Some (Generate r)) old new text has_box out out' err err' status works prints =
    (works.files, ends_printing (IsGenerated r) text has_box out out' err err' status works.made prints)
no_file_printed (Some (Demo r)) old new text has_box out out' err err' status works prints =
    (works.files, ends_printing (Demonstrates r) text has_box out out' err err' status works.made prints)

-- ---- nothing is printed

module _ (status : ℕ) (out : SinkState) where
  generated_ends : (r : GenerateRequest) (o : Outcome) → ((text : List ℕ) (has_box : Bool) → o ≡ Printed text has_box → ⊥) → Generates r o →
      (status ≡ status_of o) ⊎ (status ≡ 7) → EndsPrinting (IsGenerated r) out out status
  generated_ends r o plain made (inr seven) = inr (inl seven)
  generated_ends r OutOfMemory plain made (inl seven) = inr (inl seven)
  generated_ends r (Printed text has_box) plain made (inl e) = absurd (plain text has_box refl)
  generated_ends r (WordsRefused text) plain made (inl e) = absurd made
  generated_ends r (Refused cause) plain made (inl e) = absurd made
  generated_ends r (ReadFault name) plain made (inl e) = absurd made
  generated_ends r WriteFault plain made (inl e) = absurd made

  demo_ends : (r : DemoRequest) (o : Outcome) → ((text : List ℕ) (has_box : Bool) → o ≡ Printed text has_box → ⊥) → Demos r o →
      (status ≡ status_of o) ⊎ (status ≡ 7) → EndsPrinting (Demonstrates r) out out status
  demo_ends r o plain made (inr seven) = inr (inl seven)
  demo_ends r OutOfMemory plain made (inl seven) = inr (inl seven)
  demo_ends r (Printed text has_box) plain made (inl e) = absurd (plain text has_box refl)
  demo_ends r (WordsRefused text) plain made (inl e) = absurd made
  demo_ends r (Refused cause) plain made (inl e) = absurd made
  demo_ends r (ReadFault name) plain made (inl e) = absurd made
  demo_ends r WriteFault plain made (inl e) = absurd made

pub no_file_told : (asked : Option Request) (old new : StoreState) (out : SinkState) (o : Outcome) (status : ℕ) →
    ((text : List ℕ) (has_box : Bool) → o ≡ Printed text has_box → ⊥) → Works asked old new o →
    (status ≡ status_of o) ⊎ (status ≡ 7) → NeedsNoFile asked old new out out status
no_file_told None old new out o status plain works ends = works.1
no_file_told (Some (Check r)) old new out o status plain works ends = tt
no_file_told (Some (Solve r)) old new out o status plain works ends = tt
no_file_told (Some (Resume r)) old new out o status plain works ends = tt
no_file_told (Some (Generate r)) old new out o status plain works ends = (works.files, generated_ends status out r o plain works.made ends)
no_file_told (Some (Demo r)) old new out o status plain works ends = (works.files, demo_ends status out r o plain works.made ends)
