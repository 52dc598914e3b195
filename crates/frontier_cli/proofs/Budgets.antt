-- A budget above what any accepted tree has is never used up, so it leaves no box.
use Rattle.std.proofs.Common.{◌≡◌, ℕ, ◌*◌, ◌≤◌, Bool, true, false, List, Option, Some, None, IsSomeAnd, refl, inl, inr, arith}
use Rattle.edge_core.specs.Store.{Files, StoreState}
use Rattle.edge_core.specs.Sink.{SinkState}
use Rattle.cert_text.specs.Refusal.{HasOneText}
use Rattle.orienteering.specs.Instance.{Problem}
use Rattle.orienteering.specs.Region.{root}
use Rattle.orienteering.specs.Weight.{weight}
use Rattle.sweep_solver.specs.Solved.{UsesUp}
use Rattle.sweep_solver.specs.Resumed.{budget_after}
use Rattle.command_line.specs.Requests.{Request, Check, Solve, Resume, Generate, Demo}
use Rattle.frontier_cli.specs.Answers.{Answers}
use Rattle.frontier_cli.specs.Outcome.{Printed, report_status}
use Rattle.frontier_cli.specs.Expected.{Accepted, ComesTo}
use Rattle.frontier_cli.specs.Ran.{Prints, Works}
use Rattle.frontier_cli.specs.Promises.{Closes, EndsSo, HasBudget, IsPrinted, Suffices}
use Rattle.frontier_cli.proofs.Told.{always-printed, at_any, both_at, from_files, print_status, some_after}

not_used_up : (nodes : Option ℕ) (p : Problem) (count : ℕ) → Suffices nodes p → count ≤ 4 * weight (root p) → UsesUp nodes count → ⊥
not_used_up None p count suffices small used = used
not_used_up (Some n) p count suffices small used = omega (arith, suffices, small, used)

not_used_up_after : (before : ℕ) (nodes : Option ℕ) (p : Problem) (count : ℕ) → Suffices nodes p → count ≤ 4 * weight (root p) →
    UsesUp (budget_after before nodes) count → ⊥
not_used_up_after before None p count suffices small used = used
not_used_up_after before (Some n) p count suffices small used = omega (arith, suffices, small, used)

-- no answer of a search whose budget suffices has a box
no_box_within : (request : Request) (f g : Files) (text : List ℕ) → HasBudget request f → Answers request f g text true → ⊥
no_box_within (Check r) f g text budget answers = budget
no_box_within (Solve r) f g text budget answers =
    not_used_up r.nodes answers.problem _ (budget answers.problem answers.instance_is) answers.report.small (answers.boxes refl)
no_box_within (Resume r) f g text budget answers =
    not_used_up_after _ r.nodes answers.problem _ (budget answers.problem answers.instance_is) answers.report.small (answers.boxes refl)
no_box_within (Generate r) f g text budget answers = budget
no_box_within (Demo r) f g text budget answers = budget

module _ (old new : StoreState) (out out' : SinkState) (status : ℕ) where
  no_request : Closes None old new out out' status
  no_request = at_any old.files _ (λ f. tt)

  -- a run that prints no report was kept from its end
  pub closes_told : (asked : Option Request) → EndsSo asked old new out out' status → (IsPrinted status → ⊥) → Closes asked old new out out' status
  closes_told None ends unprinted = no_request
  closes_told (Some request) ends unprinted =
      from_files old.files _ _ (λ f leads budget comes. elim (leads Accepted comes) [ inl is ↦ absurd (unprinted is) | inr kept ↦ inr kept ]) ends

  module _ (request : Request) (text : List ℕ) where
    -- a report without a box closes, and a report with one isn't printed
    closes_with : (has_box : Bool) → (IsPrinted status → status ≡ report_status has_box) → (f : Files) → HasBudget request f →
        IsSomeAnd new.files (λ g. Answers request f g text has_box) → IsPrinted status → status ≡ 0
    closes_with false is f budget after printed = is printed
    closes_with true is f budget after printed =
        absurd (some_after new.files _ ⊥ (λ g answers. no_box_within request f g text budget answers) after)

  closes_printed : (asked : Option Request) (text : List ℕ) (has_box : Bool) → Works asked old new (Printed text has_box) →
      (IsPrinted status → status ≡ report_status has_box) → EndsSo asked old new out out' status → Closes asked old new out out' status
  closes_printed None text has_box works is ends = no_request
  closes_printed (Some request) text has_box works is ends =
      both_at old.files _ _ _ (λ f leads cause budget comes. elim (leads Accepted comes) [
        | inl printed ↦ inl (closes_with request text has_box is f budget cause.1 printed)
        | inr kept ↦ inr kept
      ]) ends works.cause

-- a run that prints a text closes where its budget suffices
pub closes_ended : HasOneText → (asked : Option Request) (old new : StoreState) (text : List ℕ) (has_box : Bool)
    (out out' err err' : SinkState) (status : ℕ) → Works asked old new (Printed text has_box) →
    Prints text has_box out out' err err' status → Closes asked old new out out' status
closes_ended one asked old new text has_box out out' err err' status works prints =
    closes_printed old new out out' status asked text has_box works (print_status text has_box out out' err err' status prints)
    (always-printed one old new out out' asked err err' text has_box status works prints)
