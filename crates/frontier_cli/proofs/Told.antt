-- What follows for the status, the streams and the files from how a run went.
use Rattle.std.proofs.Common.{◌≡◌, ◌⊎◌, ℕ, Bool, true, false, List, Option, Some, None, IfSome, IsSomeAnd, refl, sym, ap, ◌∙◌, subst, inl, inr, arith}
use Rattle.edge_core.specs.Faults.{Rose}
use Rattle.edge_core.specs.Store.{Files, StoreState}
use Rattle.edge_core.specs.Sink.{SinkState, Gains, GainsFront}
use Rattle.edge_core.specs.SinkLaws.{front-all}
use Rattle.orienteering.specs.declared.CheckFail.TheVariants.{OtherInstance, PointRefused, NotRising, NodeRefused, TooManyLabels, Shape, Memory}
use Rattle.cert_text.specs.Refusal.{HasOneText}
use Rattle.command_line.specs.Requests.{Request, Check, Solve, Resume, Generate, Demo}
use Rattle.frontier_cli.specs.Outcome.{Cause, InstanceTooLong, InstanceRefused, CertUnread, CertRefused, Outcome, WordsRefused, Refused, Printed, ReadFault, WriteFault, OutOfMemory, status_of, cause_status, report_status}
use Rattle.frontier_cli.specs.Expected.{Expectation, RefusedBy, Accepted, ComesTo}
use Rattle.frontier_cli.specs.Answers.{Answers}
use Rattle.frontier_cli.proofs.Solves.{changes_none}
use Rattle.frontier_cli.specs.Ran.{ComesToRead, LeavesOthers, Works, WorkCause, Tells, told, broke, no_memory, Prints, printed, Ends, Ran}
use Rattle.frontier_cli.specs.Ran as ran
use Rattle.frontier_cli.specs.Promises.{Comes, Certified, EndsSo, FilesStay, HeadlineOf, IsOfCause, IsPrinted, IsRefusedWith, KeptFrom, LeadsTo, MayEnd, OthersStayBy, PrintedFront, PrintsFrontOfAnswer, PutFailedOrAnswered, ReadFailed, TellsFront, TellsLine, WriteFailed}
use Rattle.frontier_cli.specs.Refusal.{refused}
use Rattle.frontier_cli.specs.declared.refusal.Refusal.{Refusal}
use Rattle.frontier_cli.specs.declared.refusal.Refusal.TheVariants as refusals
use Rattle.frontier_cli.proofs.Once.{comes_once}

-- ---- statuses

-- the status of a refusal by the files is none of the others
pub cause_is_plain : (cause : Cause) → IsOfCause (cause_status cause)
cause_is_plain InstanceTooLong = inr (inr (inr refl))
cause_is_plain (InstanceRefused line why) = inr (inl refl)
cause_is_plain (CertUnread at why) = inl refl
cause_is_plain (CertRefused OtherInstance) = inl refl
cause_is_plain (CertRefused (PointRefused k why)) = inl refl
cause_is_plain (CertRefused (NotRising k)) = inl refl
cause_is_plain (CertRefused (NodeRefused index cause)) = inl refl
cause_is_plain (CertRefused (Shape index)) = inl refl
cause_is_plain (CertRefused (TooManyLabels index)) = inr (inr (inl refl))
cause_is_plain (CertRefused Memory) = inl refl

pub report_is_printed : (has_box : Bool) (status : ℕ) → status ≡ report_status has_box → IsPrinted status
report_is_printed true status is = inr is
report_is_printed false status is = inl is

-- ---- the error stream

pub tells-front : (Ended : Outcome → Type 0) (outcome : Outcome) (err err' : SinkState) (status : ℕ) → Ended outcome →
    Tells outcome err err' status → TellsFront Ended err err'
tells-front Ended outcome err err' status ended (told is gains) = (outcome, ended, front-all _ err.bytes err'.bytes gains)
tells-front Ended outcome err err' status ended (broke is rose front) = (outcome, ended, front)
tells-front Ended outcome err err' status ended (no_memory is front) = (outcome, ended, front)

pub tells-status : (outcome : Outcome) (err err' : SinkState) (status : ℕ) → Tells outcome err err' status →
    (status ≡ status_of outcome) ⊎ (status ≡ 7)
tells-status outcome err err' status (told is gains) = inl is
tells-status outcome err err' status (broke is rose front) = inl is
tells-status outcome err err' status (no_memory is front) = inr is

printed_is_not_7 : (status : ℕ) → IsPrinted status → status ≡ 7 → ⊥
printed_is_not_7 status is seven = grind arith

pub prints-front : (asked : Option Request) (old new : StoreState) (text : List ℕ) (has_box : Bool) (out out' err err' : SinkState) (status : ℕ) →
    Prints text has_box out out' err err' status → status ≡ 7 → TellsFront (MayEnd asked old new out out') err err'
prints-front asked old new text has_box out out' err err' status (printed is gains same) seven =
    absurd (printed_is_not_7 status (report_is_printed has_box status is) seven)
prints-front asked old new text has_box out out' err err' status (ran.print_broke rose front tells) seven =
    tells-front (MayEnd asked old new out out') WriteFault err err' status (inr rose) tells
prints-front asked old new text has_box out out' err err' status (ran.print_no_memory same tells) seven =
    tells-front (MayEnd asked old new out out') OutOfMemory err err' status tt tells

six_is_not_7 : (status : ℕ) → status ≡ 6 → status ≡ 7 → ⊥
six_is_not_7 status six seven = grind arith

write_is_not_printed : (status : ℕ) → (status ≡ 6) ⊎ (status ≡ 7) → IsPrinted status → ⊥
write_is_not_printed status (inl six) is = grind arith
write_is_not_printed status (inr seven) is = grind arith

pub tells-line : (Ended : Outcome → Type 0) (outcome : Outcome) (err err' : SinkState) (status : ℕ) → Ended outcome → (status ≡ 7 → ⊥) →
    Tells outcome err err' status → TellsLine Ended err err' status
tells-line Ended outcome err err' status ended not_7 (told is gains) = (outcome, ended, is, inl gains)
tells-line Ended outcome err err' status ended not_7 (broke is rose front) = (outcome, ended, is, inr (rose, front))
tells-line Ended outcome err err' status ended not_7 (no_memory is front) = absurd (not_7 is)

-- ---- the status that the files lead to

pub at_any : (files : Option Files) (P : Files → Type 0) → ((f : Files) → P f) → IfSome files P
at_any None P p = tt
at_any (Some f) P p = p f

pub from_files : (files : Option Files) (P Q : Files → Type 0) → ((f : Files) → P f → Q f) → IfSome files P → IfSome files Q
from_files None P Q p h = tt
from_files (Some f) P Q p h = p f h

pub both_at : (files : Option Files) (P Q R : Files → Type 0) → ((f : Files) → P f → Q f → R f) → IfSome files P → IfSome files Q → IfSome files R
both_at None P Q R p h k = tt
both_at (Some f) P Q R p h k = p f h k

-- what ended a run that prints no report may have ended it
pub may_end : (asked : Option Request) (old new : StoreState) (out out' : SinkState) (outcome : Outcome) →
    ((text : List ℕ) (has_box : Bool) → outcome ≡ Printed text has_box → ⊥) → Works asked old new outcome → MayEnd asked old new out out' outcome
may_end None old new out out' (WordsRefused text) plain works = refl
may_end None old new out out' OutOfMemory plain works = tt
may_end None old new out out' (Refused cause) plain works = absurd works.0
may_end None old new out out' (Printed text has_box) plain works = absurd works.0
may_end None old new out out' (ReadFault name) plain works = absurd works.0
may_end None old new out out' WriteFault plain works = absurd works.0
may_end (Some request) old new out out' (WordsRefused text) plain works = absurd works.cause
may_end (Some request) old new out out' (Refused cause) plain works =
    from_files old.files _ _ (λ f comes. (RefusedBy cause, comes, refl)) works.cause
may_end (Some request) old new out out' (Printed text has_box) plain works = absurd (plain text has_box refl)
may_end (Some request) old new out out' (ReadFault name) plain works =
    (works.cause.1, (subst (ComesToRead request old.files) (sym works.cause.1) works.cause.0, works.cause.2))
may_end (Some request) old new out out' WriteFault plain works = inl works.cause
may_end (Some request) old new out out' OutOfMemory plain works = tt

module _ (one : HasOneText) (old new : StoreState) (out out' : SinkState) where
  kept : (asked : Option Request) (status : ℕ) → KeptFrom asked old new out out' status → EndsSo asked old new out out' status
  kept None status k = at_any old.files _ (λ f. tt)
  kept (Some request) status k = at_any old.files _ (λ f e comes. inr k)

  led : (request : Request) (status : ℕ) (d : Expectation) → LeadsTo d status → IfSome old.files (λ f. ComesTo f request d) →
      EndsSo (Some request) old new out out' status
  led request status d leads comes =
      from_files old.files _ _ (λ f c e other. inl (subst (λ x. LeadsTo x status) (comes_once one f request d e c other) leads)) comes

  -- the outcome that was told
  outcome_leads : (asked : Option Request) (outcome : Outcome) (status : ℕ) → Works asked old new outcome → status ≡ status_of outcome →
      ((text : List ℕ) (has_box : Bool) → outcome ≡ Printed text has_box → ⊥) → EndsSo asked old new out out' status
  outcome_leads None outcome status works is plain = at_any old.files _ (λ f. tt)
  outcome_leads (Some request) (WordsRefused text) status works is plain = absurd works.cause
  outcome_leads (Some request) (Refused cause) status works is plain = led request status (RefusedBy cause) is works.cause
  outcome_leads (Some request) (Printed text has_box) status works is plain = absurd (plain text has_box refl)
  outcome_leads (Some request) (ReadFault name) status works is plain =
      kept (Some request) status (inr (inl (is, (subst (ComesToRead request old.files) (sym works.cause.1) works.cause.0, works.cause.2))))
  outcome_leads (Some request) WriteFault status works is plain = kept (Some request) status (inr (inr (is, inl works.cause)))
  outcome_leads (Some request) OutOfMemory status works is plain = kept (Some request) status (inl is)

  pub always-told : (asked : Option Request) (err err' : SinkState) (outcome : Outcome) (status : ℕ) →
      ((text : List ℕ) (has_box : Bool) → outcome ≡ Printed text has_box → ⊥) → Works asked old new outcome →
      Tells outcome err err' status → EndsSo asked old new out out' status
  always-told asked err err' outcome status plain works tells =
      elim (tells-status outcome err err' status tells) [
        | inl is ↦ outcome_leads asked outcome status works is plain
        | inr seven ↦ kept asked status (inl seven)
      ]

  accepted_files : (request : Request) (text : List ℕ) (has_box : Bool) → WorkCause request old new (Printed text has_box) →
      IfSome old.files (λ f. ComesTo f request Accepted)
  accepted_files request text has_box cause = from_files old.files _ _ (λ f both. both.0) cause

  broke_off : (asked : Option Request) (status : ℕ) → Rose out.faults out'.faults → (status ≡ 6) ⊎ (status ≡ 7) → EndsSo asked old new out out' status
  broke_off asked status rose (inl six) = kept asked status (inr (inr (six, inr rose)))
  broke_off asked status rose (inr seven) = kept asked status (inl seven)

  pub always-printed : (asked : Option Request) (err err' : SinkState) (text : List ℕ) (has_box : Bool) (status : ℕ) →
      Works asked old new (Printed text has_box) → Prints text has_box out out' err err' status → EndsSo asked old new out out' status
  always-printed None err err' text has_box status works prints = absurd works.0
  always-printed (Some request) err err' text has_box status works (printed is gains same) =
      led request status Accepted (report_is_printed has_box status is) (accepted_files request text has_box works.cause)
  always-printed (Some request) err err' text has_box status works (ran.print_broke rose front tells) =
      broke_off (Some request) status rose (tells-status WriteFault err err' status tells)
  always-printed (Some request) err err' text has_box status works (ran.print_no_memory same tells) =
      kept (Some request) status (inl (elim (tells-status OutOfMemory err err' status tells) [ inl is ↦ is | inr is ↦ is ]))

-- ---- the answers

headline_at : (request : Request) (before after : Files) (text : List ℕ) (has_box : Bool) (out out' : SinkState) (status : ℕ) →
    Answers request before after text has_box → Gains text out.bytes out'.bytes → status ≡ report_status has_box →
    HeadlineOf request before out out' status
headline_at (Check r) before after text has_box out out' status answers gains is = record {
  problem = answers.problem;
  instance_is = answers.instance_is;
  text = text;
  has_box = has_box;
  printed = gains;
  report = answers.certified;
  boxes = is;
}
headline_at (Solve r) before after text has_box out out' status answers gains is = record {
  problem = answers.problem;
  instance_is = answers.instance_is;
  text = text;
  has_box = has_box;
  printed = gains;
  report = answers.certified;
  boxes = is;
}
headline_at (Resume r) before after text has_box out out' status answers gains is = record {
  problem = answers.problem;
  instance_is = answers.instance_is;
  text = text;
  has_box = has_box;
  printed = gains;
  report = answers.certified;
  boxes = is;
}
headline_at (Generate r) before after text has_box out out' status answers gains is = tt
headline_at (Demo r) before after text has_box out out' status answers gains is = tt

pub some_after : (after : Option Files) (P : Files → Type 0) (X : Type 0) → ((g : Files) → P g → X) → IsSomeAnd after P → X
some_after None P X p h = absurd h
some_after (Some g) P X p h = p g h

both_after : (after : Option Files) (P Q : Files → Type 0) → ((g : Files) → P g → Q g) → IsSomeAnd after P → IsSomeAnd after Q
both_after None P Q p h = absurd h
both_after (Some g) P Q p h = p g h

module _ (old new : StoreState) (out out' err err' : SinkState) (text : List ℕ) (has_box : Bool) (status : ℕ) where
  pub headline : (asked : Option Request) → Works asked old new (Printed text has_box) → Prints text has_box out out' err err' status →
      IsPrinted status → IfSome old.files (λ before. IsSomeAnd asked (λ request. HeadlineOf request before out out' status))
  headline None works prints is = absurd works.0
  headline (Some request) works (printed same gains silent) is =
      from_files old.files _ _ (λ f both. some_after new.files _ _ (λ g answers. headline_at request f g text has_box out out' status answers gains same) both.1) works.cause
  headline (Some request) works (ran.print_broke rose front tells) is =
      absurd (write_is_not_printed status (tells-status WriteFault err err' status tells) is)
  headline (Some request) works (ran.print_no_memory same tells) is =
      absurd (write_is_not_printed status (inr (elim (tells-status OutOfMemory err err' status tells) [ inl e ↦ e | inr e ↦ e ])) is)

  pub certified : (asked : Option Request) → Works asked old new (Printed text has_box) → Prints text has_box out out' err err' status →
      IsPrinted status → IfSome old.files (λ before. IsSomeAnd new.files (λ after. Certified asked before after out out' status))
  certified None works prints is = absurd works.0
  certified (Some request) works (printed same gains silent) is =
      from_files old.files _ _ (λ f both. both_after new.files _ _ (λ g answers. record {
        asked = request;
        asked_is = refl;
        text = text;
        has_box = has_box;
        answers = answers;
        printed = gains;
        boxes = same;
      }) both.1) works.cause
  certified (Some request) works (ran.print_broke rose front tells) is =
      absurd (write_is_not_printed status (tells-status WriteFault err err' status tells) is)
  certified (Some request) works (ran.print_no_memory same tells) is =
      absurd (write_is_not_printed status (inr (elim (tells-status OutOfMemory err err' status tells) [ inl e ↦ e | inr e ↦ e ])) is)

pub printed_only : (old new : StoreState) (text : List ℕ) (has_box : Bool) (asked : Option Request) → Works asked old new (Printed text has_box) →
    Comes asked old.files (λ e. e ≡ Accepted)
printed_only old new text has_box None works = absurd works.0
printed_only old new text has_box (Some request) works = from_files old.files _ _ (λ f both. (Accepted, both.0, refl)) works.cause

-- the front of an answer
front_of_answer : (asked : Option Request) (old new : StoreState) (text : List ℕ) (has_box : Bool) (out out' : SinkState) →
    Works asked old new (Printed text has_box) → GainsFront text out.bytes out'.bytes → PrintsFrontOfAnswer asked old.files new.files out out'
front_of_answer None old new text has_box out out' works front = absurd works.0
front_of_answer (Some request) old new text has_box out out' works front =
    from_files old.files _ _ (λ f both. both_after new.files _ _ (λ g answers. (text, has_box, answers, front)) both.1) works.cause

-- ---- how a text that is printed ends

prints_status : (text : List ℕ) (has_box : Bool) (out out' err err' : SinkState) (status : ℕ) →
    Prints text has_box out out' err err' status → IsPrinted status ⊎ ((status ≡ 6) ⊎ (status ≡ 7))
prints_status text has_box out out' err err' status (printed is gains same) = inl (report_is_printed has_box status is)
prints_status text has_box out out' err err' status (ran.print_broke rose front tells) = inr (tells-status WriteFault err err' status tells)
prints_status text has_box out out' err err' status (ran.print_no_memory same tells) =
    inr (inr (elim (tells-status OutOfMemory err err' status tells) [ inl is ↦ is | inr is ↦ is ]))

no_cause : (status : ℕ) → IsPrinted status ⊎ ((status ≡ 6) ⊎ (status ≡ 7)) → IsOfCause status → ⊥
no_cause status print is = grind arith

no_words : (status : ℕ) → IsPrinted status ⊎ ((status ≡ 6) ⊎ (status ≡ 7)) → (status ≡ 2) ⊎ (status ≡ 5) → ⊥
no_words status print is = grind arith

module _ (text : List ℕ) (has_box : Bool) (out out' err err' : SinkState) (status : ℕ) (prints : Prints text has_box out out' err err' status) where
  pub print_of_cause : IsOfCause status → ⊥
  print_of_cause is = no_cause status (prints_status text has_box out out' err err' status prints) is

  pub print_of_words : (status ≡ 2) ⊎ (status ≡ 5) → ⊥
  print_of_words is = no_words status (prints_status text has_box out out' err err' status prints) is

  pub print_write_fault : (asked : Option Request) (old new : StoreState) → status ≡ 6 → WriteFailed asked old new out out'
  print_write_fault asked old new six = go prints where
    go : Prints text has_box out out' err err' status → WriteFailed asked old new out out'
    go (printed is gains same) = absurd (write_is_not_printed status (inl six) (report_is_printed has_box status is))
    go (ran.print_broke rose front tells) = inr rose
    go (ran.print_no_memory same tells) =
        absurd (six_is_not_7 status six (elim (tells-status OutOfMemory err err' status tells) [ inl is ↦ is | inr is ↦ is ]))

  pub print_not_printed : (asked : Option Request) (old new : StoreState) → Works asked old new (Printed text has_box) →
      (IsPrinted status → ⊥) → PrintedFront asked old new out out'
  print_not_printed asked old new works unprinted = go prints where
    go : Prints text has_box out out' err err' status → PrintedFront asked old new out out'
    go (printed is gains same) = absurd (unprinted (report_is_printed has_box status is))
    go (ran.print_broke rose front tells) = inr (rose, front_of_answer asked old new text has_box out out' works front)
    go (ran.print_no_memory same tells) = inl same

  -- a text that is printed has the status of its boxes
  pub print_status : IsPrinted status → status ≡ report_status has_box
  print_status is = go prints where
    go : Prints text has_box out out' err err' status → status ≡ report_status has_box
    go (printed same gains silent) = same
    go (ran.print_broke rose front tells) = absurd (write_is_not_printed status (tells-status WriteFault err err' status tells) is)
    go (ran.print_no_memory same tells) =
        absurd (write_is_not_printed status (inr (elim (tells-status OutOfMemory err err' status tells) [ inl e ↦ e | inr e ↦ e ])) is)

  pub print_silent : IsPrinted status → err' ≡ err
  print_silent is = go prints where
    go : Prints text has_box out out' err err' status → err' ≡ err
    go (printed same gains silent) = silent
    go (ran.print_broke rose front tells) = absurd (write_is_not_printed status (tells-status WriteFault err err' status tells) is)
    go (ran.print_no_memory same tells) =
        absurd (write_is_not_printed status (inr (elim (tells-status OutOfMemory err err' status tells) [ inl e ↦ e | inr e ↦ e ])) is)

  pub print_told : (asked : Option Request) (old new : StoreState) → (IsPrinted status → ⊥) → (status ≡ 7 → ⊥) →
      TellsLine (MayEnd asked old new out out') err err' status
  print_told asked old new unprinted not_7 = go prints where
    go : Prints text has_box out out' err err' status → TellsLine (MayEnd asked old new out out') err err' status
    go (printed same gains silent) = absurd (unprinted (report_is_printed has_box status same))
    go (ran.print_broke rose front tells) = tells-line (MayEnd asked old new out out') WriteFault err err' status (inr rose) not_7 tells
    go (ran.print_no_memory same tells) = tells-line (MayEnd asked old new out out') OutOfMemory err err' status tt not_7 tells

pub no_asked_prints : (asked : Option Request) (old new : StoreState) (text : List ℕ) (has_box : Bool) → Works asked old new (Printed text has_box) →
    asked ≡ None → ⊥
no_asked_prints None old new text has_box works none = works.0
no_asked_prints (Some request) old new text has_box works none = absurd (cc)

-- ---- how a refusal ends

-- a refusal prints nothing
pub refusal_is_plain : (r : Refusal) (text : List ℕ) (has_box : Bool) → refused r ≡ Printed text has_box → ⊥
refusal_is_plain (refusals.Words opening subject ending) text has_box is = absurd (cc)
refusal_is_plain (refusals.Reader words) text has_box is = absurd (cc)
refusal_is_plain refusals.InstanceTooLong text has_box is = absurd (cc)
refusal_is_plain (refusals.Instance line cause) text has_box is = absurd (cc)
refusal_is_plain (refusals.CertText at cause) text has_box is = absurd (cc)
refusal_is_plain (refusals.Cert fail) text has_box is = absurd (cc)
refusal_is_plain (refusals.Read name) text has_box is = absurd (cc)
refusal_is_plain refusals.Write text has_box is = absurd (cc)
refusal_is_plain refusals.Memory text has_box is = absurd (cc)

cause_is_no_other : (cause : Cause) (status : ℕ) → status ≡ cause_status cause → (status ≡ 2) ⊎ ((status ≡ 5) ⊎ ((status ≡ 6) ⊎ IsPrinted status)) → ⊥
cause_is_no_other cause status is other = let plain = subst IsOfCause (sym is) (cause_is_plain cause) in apart status plain other
  where
    apart : (status : ℕ) → IsOfCause status → (status ≡ 2) ⊎ ((status ≡ 5) ⊎ ((status ≡ 6) ⊎ IsPrinted status)) → ⊥
    apart status plain other = grind arith

other_numbers : (a b : ℕ) (status : ℕ) → (a ≡ b → ⊥) → status ≡ a → status ≡ b → ⊥
other_numbers a b status apart is other = apart (sym is ∙ other)

-- what is told is not printed
pub told_not_printed : (o : Outcome) → ((text : List ℕ) (has_box : Bool) → o ≡ Printed text has_box → ⊥) → (status : ℕ) →
    (status ≡ status_of o) ⊎ (status ≡ 7) → IsPrinted status → ⊥
told_not_printed o p status (inr seven) is = printed_is_not_7 status is seven
told_not_printed (WordsRefused text) p status (inl e) is = grind arith
told_not_printed (Refused cause) p status (inl e) is = cause_is_no_other cause status e (inr (inr (inr is)))
told_not_printed (Printed text has_box) p status (inl e) is = p text has_box refl
told_not_printed (ReadFault name) p status (inl e) is = grind arith
told_not_printed WriteFault p status (inl e) is = grind arith
told_not_printed OutOfMemory p status (inl e) is = grind arith

-- the end of a run that tells a refusal
pub ends_told : (r : Refusal) (out err err' : SinkState) (status : ℕ) → Tells (refused r) err err' status → Ends (refused r) out out err err' status
ends_told (refusals.Words opening subject ending) out err err' status tells = (refl, tells)
ends_told (refusals.Reader words) out err err' status tells = (refl, tells)
ends_told refusals.InstanceTooLong out err err' status tells = (refl, tells)
ends_told (refusals.Instance line cause) out err err' status tells = (refl, tells)
ends_told (refusals.CertText at cause) out err err' status tells = (refl, tells)
ends_told (refusals.Cert fail) out err err' status tells = (refl, tells)
ends_told (refusals.Read name) out err err' status tells = (refl, tells)
ends_told refusals.Write out err err' status tells = (refl, tells)
ends_told refusals.Memory out err err' status tells = (refl, tells)

pub ran_told : (asked : Option Request) (old new : StoreState) (r : Refusal) (out err err' : SinkState) (status : ℕ) →
    Works asked old new (refused r) → Tells (refused r) err err' status → Ran asked old new out out err err' status
ran_told asked old new r out err err' status works tells =
    record { outcome = refused r; works = works; ends = ends_told r out err err' status tells }

module _ (old new : StoreState) (outcome : Outcome) (plain : (text : List ℕ) (has_box : Bool) → outcome ≡ Printed text has_box → ⊥) (status : ℕ)
    (ends : (status ≡ status_of outcome) ⊎ (status ≡ 7)) where
  pub told_cause : (asked : Option Request) → Works asked old new outcome → IsOfCause status → Comes asked old.files (IsRefusedWith status)
  told_cause asked works is = go asked outcome works plain ends where
    go : (asked : Option Request) (o : Outcome) → Works asked old new o → ((text : List ℕ) (has_box : Bool) → o ≡ Printed text has_box → ⊥) →
        (status ≡ status_of o) ⊎ (status ≡ 7) → Comes asked old.files (IsRefusedWith status)
    go asked o works p (inr seven) = absurd (grind arith)
    go (Some request) (Refused cause) works p (inl e) = from_files old.files _ _ (λ f comes. (RefusedBy cause, comes, e)) works.cause
    go (Some request) (WordsRefused text) works p (inl e) = absurd works.cause
    go (Some request) (Printed text has_box) works p (inl e) = absurd (p text has_box refl)
    go (Some request) (ReadFault name) works p (inl e) = absurd (grind arith)
    go (Some request) WriteFault works p (inl e) = absurd (grind arith)
    go (Some request) OutOfMemory works p (inl e) = absurd (grind arith)
    go None (WordsRefused text) works p (inl e) = absurd (grind arith)
    go None OutOfMemory works p (inl e) = absurd (grind arith)
    go None (Refused cause) works p (inl e) = absurd works.0
    go None (Printed text has_box) works p (inl e) = absurd works.0
    go None (ReadFault name) works p (inl e) = absurd works.0
    go None WriteFault works p (inl e) = absurd works.0

  pub told_words : (asked : Option Request) → Works asked old new outcome → status ≡ 2 → asked ≡ None
  told_words asked works two = go asked outcome works plain ends where
    go : (asked : Option Request) (o : Outcome) → Works asked old new o → ((text : List ℕ) (has_box : Bool) → o ≡ Printed text has_box → ⊥) →
        (status ≡ status_of o) ⊎ (status ≡ 7) → asked ≡ None
    go None o works p e = refl
    go (Some request) o works p (inr seven) = absurd (grind arith)
    go (Some request) (Refused cause) works p (inl e) = absurd (cause_is_no_other cause status e (inl two))
    go (Some request) (WordsRefused text) works p (inl e) = absurd works.cause
    go (Some request) (Printed text has_box) works p (inl e) = absurd (p text has_box refl)
    go (Some request) (ReadFault name) works p (inl e) = absurd (grind arith)
    go (Some request) WriteFault works p (inl e) = absurd (grind arith)
    go (Some request) OutOfMemory works p (inl e) = absurd (grind arith)

  pub told_words_refused : (asked : Option Request) → Works asked old new outcome → asked ≡ None → (status ≡ 2) ⊎ (status ≡ 7)
  told_words_refused asked works none = go asked outcome works none ends where
    go : (asked : Option Request) (o : Outcome) → Works asked old new o → asked ≡ None → (status ≡ status_of o) ⊎ (status ≡ 7) →
        (status ≡ 2) ⊎ (status ≡ 7)
    go asked o works none (inr seven) = inr seven
    go (Some request) o works none (inl e) = absurd (cc)
    go None (WordsRefused text) works none (inl e) = inl e
    go None OutOfMemory works none (inl e) = inr e
    go None (Refused cause) works none (inl e) = absurd works.0
    go None (Printed text has_box) works none (inl e) = absurd works.0
    go None (ReadFault name) works none (inl e) = absurd works.0
    go None WriteFault works none (inl e) = absurd works.0

  pub told_read_fault : (asked : Option Request) → Works asked old new outcome → status ≡ 5 → ReadFailed asked old new
  told_read_fault asked works five = go asked outcome works plain ends where
    go : (asked : Option Request) (o : Outcome) → Works asked old new o → ((text : List ℕ) (has_box : Bool) → o ≡ Printed text has_box → ⊥) →
        (status ≡ status_of o) ⊎ (status ≡ 7) → ReadFailed asked old new
    go asked o works p (inr seven) = absurd (grind arith)
    go (Some request) (ReadFault name) works p (inl e) = (subst (ComesToRead request old.files) (sym works.cause.1) works.cause.0, works.cause.2)
    go (Some request) (Refused cause) works p (inl e) = absurd (cause_is_no_other cause status e (inr (inl five)))
    go (Some request) (WordsRefused text) works p (inl e) = absurd works.cause
    go (Some request) (Printed text has_box) works p (inl e) = absurd (p text has_box refl)
    go (Some request) WriteFault works p (inl e) = absurd (grind arith)
    go (Some request) OutOfMemory works p (inl e) = absurd (grind arith)
    go None (WordsRefused text) works p (inl e) = absurd (grind arith)
    go None OutOfMemory works p (inl e) = absurd (grind arith)
    go None (Refused cause) works p (inl e) = absurd works.0
    go None (Printed text has_box) works p (inl e) = absurd works.0
    go None (ReadFault name) works p (inl e) = absurd works.0
    go None WriteFault works p (inl e) = absurd works.0

  pub told_write_fault : (asked : Option Request) (out out' : SinkState) → Works asked old new outcome → status ≡ 6 →
      WriteFailed asked old new out out'
  told_write_fault asked out out' works six = go asked outcome works plain ends where
    go : (asked : Option Request) (o : Outcome) → Works asked old new o → ((text : List ℕ) (has_box : Bool) → o ≡ Printed text has_box → ⊥) →
        (status ≡ status_of o) ⊎ (status ≡ 7) → WriteFailed asked old new out out'
    go asked o works p (inr seven) = absurd (grind arith)
    go (Some request) WriteFault works p (inl e) = inl works.cause
    go (Some request) (Refused cause) works p (inl e) = absurd (cause_is_no_other cause status e (inr (inr (inl six))))
    go (Some request) (WordsRefused text) works p (inl e) = absurd works.cause
    go (Some request) (Printed text has_box) works p (inl e) = absurd (p text has_box refl)
    go (Some request) (ReadFault name) works p (inl e) = absurd (grind arith)
    go (Some request) OutOfMemory works p (inl e) = absurd (grind arith)
    go None (WordsRefused text) works p (inl e) = absurd (grind arith)
    go None OutOfMemory works p (inl e) = absurd (grind arith)
    go None (Refused cause) works p (inl e) = absurd works.0
    go None (Printed text has_box) works p (inl e) = absurd works.0
    go None (ReadFault name) works p (inl e) = absurd works.0
    go None WriteFault works p (inl e) = absurd works.0

-- ---- the files

-- which files a request leaves, where it may have put one
put_perhaps : (name : List ℕ) (outcome : Outcome) (status : ℕ) (old new : Option Files) →
    (status ≡ status_of outcome) ⊎ (status ≡ 7) → ((text : List ℕ) (has_box : Bool) → outcome ≡ Printed text has_box → ⊥) →
    LeavesOthers name outcome old new → OthersStayBy name status old new
put_perhaps name (WordsRefused text) status old new ends plain same = record { others = changes_none name old new same; all = λ _. same }
put_perhaps name (Refused cause) status old new ends plain same = record { others = changes_none name old new same; all = λ _. same }
put_perhaps name (ReadFault at) status old new ends plain same = record { others = changes_none name old new same; all = λ _. same }
put_perhaps name (Printed text has_box) status old new ends plain others = absurd (plain text has_box refl)
put_perhaps name WriteFault status old new ends plain others = record { others = others; all = λ none. absurd (none (inr ends)) }
put_perhaps name OutOfMemory status old new ends plain others =
    record { others = others; all = λ none. absurd (none (inr (inr (elim ends [ inl e ↦ e | inr e ↦ e ])))) }

pub files_stay_told : (asked : Option Request) (old new : StoreState) (outcome : Outcome) (status : ℕ) → Works asked old new outcome →
    (status ≡ status_of outcome) ⊎ (status ≡ 7) → ((text : List ℕ) (has_box : Bool) → outcome ≡ Printed text has_box → ⊥) →
    FilesStay asked status old.files new.files
files_stay_told None old new outcome status works ends plain = ap (λ s. s.files) works.1
files_stay_told (Some (Check r)) old new outcome status works ends plain = works.files
files_stay_told (Some (Solve r)) old new outcome status works ends plain =
    put_perhaps r.out outcome status old.files new.files ends plain works.files
files_stay_told (Some (Resume r)) old new outcome status works ends plain =
    put_perhaps r.out outcome status old.files new.files ends plain works.files
files_stay_told (Some (Generate r)) old new outcome status works ends plain = ap (λ s. s.files) works.files
files_stay_told (Some (Demo r)) old new outcome status works ends plain = ap (λ s. s.files) works.files

pub files_stay_printed : (asked : Option Request) (old new : StoreState) (text : List ℕ) (has_box : Bool) (out out' err err' : SinkState) (status : ℕ) →
    Works asked old new (Printed text has_box) → Prints text has_box out out' err err' status → FilesStay asked status old.files new.files
files_stay_printed None old new text has_box out out' err err' status works prints = absurd works.0
files_stay_printed (Some (Check r)) old new text has_box out out' err err' status works prints = works.files
files_stay_printed (Some (Solve r)) old new text has_box out out' err err' status works prints = record {
  others = works.files;
  all = λ none. absurd (none (prints_status text has_box out out' err err' status prints));
}
files_stay_printed (Some (Resume r)) old new text has_box out out' err err' status works prints = record {
  others = works.files;
  all = λ none. absurd (none (prints_status text has_box out out' err err' status prints));
}
files_stay_printed (Some (Generate r)) old new text has_box out out' err err' status works prints = ap (λ s. s.files) works.files
files_stay_printed (Some (Demo r)) old new text has_box out out' err err' status works prints = ap (λ s. s.files) works.files

-- ---- what the store holds where nothing could be printed

pub answered_printed : (asked : Option Request) (old new : StoreState) (text : List ℕ) (has_box : Bool) → Works asked old new (Printed text has_box) →
    PutFailedOrAnswered asked old new
answered_printed None old new text has_box works = absurd works.0
answered_printed (Some request) old new text has_box works =
    inr (from_files old.files _ _ (λ f both. both_after new.files _ _ (λ g answers. (text, has_box, answers)) both.1) works.cause)

-- what was told with status 6 is a failed put
pub answered_told : (asked : Option Request) (old new : StoreState) (outcome : Outcome) (status : ℕ) → Works asked old new outcome →
    (status ≡ status_of outcome) ⊎ (status ≡ 7) → ((text : List ℕ) (has_box : Bool) → outcome ≡ Printed text has_box → ⊥) → status ≡ 6 →
    PutFailedOrAnswered asked old new
answered_told asked old new outcome status works (inr seven) plain six = absurd (six_is_not_7 status six seven)
answered_told (Some request) old new WriteFault status works (inl e) plain six = inl works.cause
answered_told (Some request) old new (Refused cause) status works (inl e) plain six = absurd (cause_is_no_other cause status e (inr (inr (inl six))))
answered_told (Some request) old new (WordsRefused text) status works (inl e) plain six = absurd works.cause
answered_told (Some request) old new (Printed text has_box) status works (inl e) plain six = absurd (plain text has_box refl)
answered_told (Some request) old new (ReadFault name) status works (inl e) plain six = absurd (grind arith)
answered_told (Some request) old new OutOfMemory status works (inl e) plain six = absurd (grind arith)
answered_told None old new (WordsRefused text) status works (inl e) plain six = absurd (grind arith)
answered_told None old new OutOfMemory status works (inl e) plain six = absurd (grind arith)
answered_told None old new (Refused cause) status works (inl e) plain six = absurd works.0
answered_told None old new (Printed text has_box) status works (inl e) plain six = absurd works.0
answered_told None old new (ReadFault name) status works (inl e) plain six = absurd works.0
answered_told None old new WriteFault status works (inl e) plain six = absurd works.0
