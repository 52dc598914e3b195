-- What the steps of a check come to.
use Rattle.std.proofs.Common.{◌≡◌, ℕ, ◌≤◌, Bool, false, List, [], ◌∷◌, Option, Some, None, Result, Ok, Err, IfSome, IsSomeAnd, refl, sym, ap, subst, ◌∙◌, arith, inl, inr}
use Rattle.edge_core.specs.Faults.{Rose}
use Rattle.edge_core.specs.Store.{Files, StoreState, file}
use Rattle.orienteering.specs.Instance.{Problem}
use Rattle.orienteering.specs.Certificate.{Certificate, Acceptance}
use Rattle.orienteering.specs.Decide.{decide, AnswersOrMemory}
use Rattle.orienteering.specs.Frontier.{IsFrontier, IsWholeFrontier}
use Rattle.orienteering.specs.declared.Box2.{Box2}
use Rattle.orienteering.specs.declared.CheckFail.{CheckFail}
use Rattle.orienteering.specs.declared.CheckFail.TheVariants.{OtherInstance, PointRefused, NotRising, NodeRefused, TooManyLabels, Shape, Memory}
use Rattle.command_line.specs.Requests.{CheckRequest}
use Rattle.command_line.specs.declared.settings.Settings.{Settings}
use Rattle.command_line.specs.Requests.{Check}
use Rattle.frontier_cli.specs.Outcome.{Cause, CertRefused, Outcome, WordsRefused, Refused, Printed, ReadFault, WriteFault, OutOfMemory}
use Rattle.frontier_cli.specs.Files.{IsReadAs}
use Rattle.frontier_cli.specs.Expected.{RefusedBy, Accepted, of_verdict, of_certificate, CertificateComesTo, CheckReadComesTo, CheckComesTo, ComesTo}
use Rattle.frontier_cli.specs.Answers.{Answers, has_some, IsCertifiedReport, IsSmall}
use Rattle.frontier_cli.proofs.Instances.{IsInstance, instance_found, reads_instance}
use Rattle.frontier_cli.specs.Ran.{FileReadsAs, Reads, Does, Judges, PrintsVerdict, ReportsAll, refused_by}

-- ---- the verdict

no_box : (boxes : List Box2) → has_some boxes ≡ false → boxes ≡ []
no_box [] h = refl
no_box (b ∷ bs) h = absurd (grind arith)

certified : (s : Settings) (p : Problem) (a : Acceptance) (text : List ℕ) (has_box : Bool) →
    IsFrontier p a.points a.boxes → (a.boxes ≡ [] → IsWholeFrontier p a.points) → ReportsAll s a (Printed text has_box) →
    IsCertifiedReport s p text has_box
certified s p a text has_box frontier whole report = record {
  points = a.points;
  boxes = a.boxes;
  printed = report.0;
  left = report.1;
  frontier = frontier;
  whole = λ none. whole (no_box a.boxes (sym report.1 ∙ none));
}

pub judged : (s : Settings) (p : Problem) (c : Certificate) (a : Acceptance) (outcome : Outcome) → decide p s.labels c ≡ Ok a →
    IsFrontier p a.points a.boxes → (a.boxes ≡ [] → IsWholeFrontier p a.points) → IsSmall p c → ReportsAll s a outcome → Judges s p c outcome
judged s p c a (Printed text has_box) verdict frontier whole small report = record {
  accepted = a;
  verdict = verdict;
  printed = report.0;
  left = report.1;
  small = small;
  certified = certified s p a text has_box frontier whole report;
}
judged s p c a OutOfMemory verdict frontier whole small report = tt
judged s p c a (WordsRefused text) verdict frontier whole small report = absurd report
judged s p c a (Refused cause) verdict frontier whole small report = absurd report
judged s p c a (ReadFault name) verdict frontier whole small report = absurd report
judged s p c a WriteFault verdict frontier whole small report = absurd report

refused_verdict : (s : Settings) (p : Problem) (c : Certificate) (fail : CheckFail) → decide p s.labels c ≡ Err fail →
    of_verdict (decide p s.labels c) ≡ RefusedBy (CertRefused fail)
refused_verdict s p c fail verdict = ap of_verdict verdict

pub judged_refusal : (s : Settings) (p : Problem) (c : Certificate) (fail : CheckFail) →
    AnswersOrMemory {X = Acceptance} (λ a. a) (Err fail) (decide p s.labels c) → Judges s p c (refused_by fail)
judged_refusal s p c OtherInstance is = refused_verdict s p c OtherInstance is
judged_refusal s p c (PointRefused k why) is = refused_verdict s p c (PointRefused k why) is
judged_refusal s p c (NotRising k) is = refused_verdict s p c (NotRising k) is
judged_refusal s p c (NodeRefused index cause) is = refused_verdict s p c (NodeRefused index cause) is
judged_refusal s p c (TooManyLabels index) is = refused_verdict s p c (TooManyLabels index) is
judged_refusal s p c (Shape index) is = refused_verdict s p c (Shape index) is
judged_refusal s p c Memory is = tt

-- ---- the files

module _ (r : CheckRequest) where
  instance_refused : (found certificate : Option (List ℕ)) (cause : Cause) → IsSomeAnd found (λ b. IsInstance r.settings b (Err cause)) →
      CheckComesTo r.settings found certificate (RefusedBy cause)
  instance_refused None certificate cause is = absurd is
  instance_refused (Some bytes) certificate cause is =
      subst (λ read. CheckReadComesTo r.settings read certificate (RefusedBy cause)) is refl

  certificate_read : (p : Problem) (found : Option (List ℕ)) (read : Result Certificate Cause) → IsSomeAnd found (λ b. IsReadAs b read) →
      CertificateComesTo r.settings p found (of_certificate r.settings p read)
  certificate_read p None read is = absurd is
  certificate_read p (Some bytes) read is = (read, is, refl)

  both_read : (p : Problem) (found certificate : Option (List ℕ)) (read : Result Certificate Cause) →
      IsSomeAnd found (λ b. IsInstance r.settings b (Ok p)) → IsSomeAnd certificate (λ b. IsReadAs b read) →
      CheckComesTo r.settings found certificate (of_certificate r.settings p read)
  both_read p None certificate read is cert = absurd is
  both_read p (Some bytes) certificate read is cert =
      subst (λ got. CheckReadComesTo r.settings got certificate (of_certificate r.settings p read)) is
      (certificate_read p certificate read cert)

  comes_refused : (files : Option Files) (cause : Cause) → FileReadsAs (IsInstance r.settings) r.instance files (Err cause) →
      IfSome files (λ f. ComesTo f (Check r) (RefusedBy cause))
  comes_refused None cause is = tt
  comes_refused (Some f) cause is = instance_refused (file f r.instance) (file f r.certificate) cause is

  pub comes_on : (files : Option Files) (p : Problem) (read : Result Certificate Cause) → FileReadsAs (IsInstance r.settings) r.instance files (Ok p) →
      FileReadsAs IsReadAs r.certificate files read → IfSome files (λ f. ComesTo f (Check r) (of_certificate r.settings p read))
  comes_on None p read is cert = tt
  comes_on (Some f) p read is cert = both_read p (file f r.instance) (file f r.certificate) read is cert

  -- ---- the report

  pub bytes_found : (found : Option (List ℕ)) (c : Certificate) → IsSomeAnd found (λ b. IsReadAs b (Ok c)) →
      (bytes : List ℕ) × (found ≡ Some bytes) × IsReadAs bytes (Ok c)
  bytes_found None c is = absurd is
  bytes_found (Some bytes) c is = (bytes, refl, is)

  answers : (f after : Files) (p : Problem) (c : Certificate) (text : List ℕ) (has_box : Bool) →
      IsSomeAnd (file f r.instance) (λ b. IsInstance r.settings b (Ok p)) → IsSomeAnd (file f r.certificate) (λ b. IsReadAs b (Ok c)) →
      PrintsVerdict r.settings p c text has_box → Answers (Check r) f after text has_box
  answers f after p c text has_box is cert v =
      let found = bytes_found (file f r.certificate) c cert in
      record {
        problem = p;
        instance_is = instance_found r.settings (file f r.instance) p is;
        bytes = found.0;
        certificate_is = found.1;
        report = record {
          certificate = c;
          is_cert = found.2.0;
          bytes_are = found.2.1;
          accepted = v.accepted;
          verdict = v.verdict;
          printed = v.printed;
          left = v.left;
          small = v.small;
        };
        certified = v.certified;
      }

  comes_printed : (files after : Option Files) (p : Problem) (c : Certificate) (text : List ℕ) (has_box : Bool) → after ≡ files →
      FileReadsAs (IsInstance r.settings) r.instance files (Ok p) → FileReadsAs IsReadAs r.certificate files (Ok c) →
      PrintsVerdict r.settings p c text has_box →
      IfSome files (λ f. ComesTo f (Check r) Accepted × IsSomeAnd after (λ g. Answers (Check r) f g text has_box))
  comes_printed None after p c text has_box same is cert v = tt
  comes_printed (Some f) after p c text has_box same is cert v = (
    subst (λ e. ComesTo f (Check r) e) (ap of_verdict v.verdict) (both_read p (file f r.instance) (file f r.certificate) (Ok c) is cert),
    subst (λ o. IsSomeAnd o (λ g. Answers (Check r) f g text has_box)) (sym same) (answers f f p c text has_box is cert v),
  )

  -- ---- the outcome

  pub ended_by_instance : (old new : StoreState) (outcome : Outcome) → Reads (IsInstance r.settings) r.instance old new (Err outcome) →
      Does (Check r) old new outcome
  ended_by_instance old new (WordsRefused text) reads = absurd reads.cause
  ended_by_instance old new (Refused cause) reads = record { files = reads.files; cause = comes_refused old.files cause reads.cause; made = tt }
  ended_by_instance old new (Printed text has_box) reads = absurd reads.cause
  ended_by_instance old new (ReadFault name) reads =
      record { files = reads.files; cause = (inl reads.cause.0, subst (λ n. new.failed ≡ n) (sym reads.cause.0) reads.cause.1, reads.cause.2); made = tt }
  ended_by_instance old new WriteFault reads = absurd reads.cause
  ended_by_instance old new OutOfMemory reads = record { files = reads.files; cause = tt; made = tt }

  module _ (old middle new : StoreState) (p : Problem) (first : Reads (IsInstance r.settings) r.instance old middle (Ok p)) where
    then_refused : (cause : Cause) → FileReadsAs IsReadAs r.certificate middle.files (Err cause) →
        IfSome old.files (λ f. ComesTo f (Check r) (RefusedBy cause))
    then_refused cause cert =
        comes_on old.files p (Err cause) first.cause
        (subst (λ files. FileReadsAs IsReadAs r.certificate files (Err cause)) first.files cert)

    pub ended_by_cert : (outcome : Outcome) → Reads IsReadAs r.certificate middle new (Err outcome) → Does (Check r) old new outcome
    ended_by_cert (WordsRefused text) reads = absurd reads.cause
    ended_by_cert (Refused cause) reads = record { files = reads.files ∙ first.files; cause = then_refused cause reads.cause; made = tt }
    ended_by_cert (Printed text has_box) reads = absurd reads.cause
    ended_by_cert (ReadFault name) reads =
        let later : old.get_faults ≤ middle.get_faults = first.later in
        let rose : Rose middle.get_faults new.get_faults = reads.cause.2 in
        record {
          files = reads.files ∙ first.files;
          cause = (
            inr (reads.cause.0, reads_instance r.settings r.instance old.files p first.cause),
            subst (λ n. new.failed ≡ n) (sym reads.cause.0) reads.cause.1,
            rose_earlier old.get_faults middle.get_faults new.get_faults later rose,
          );
          made = tt;
        }
      where
        rose_earlier : (a b d : ℕ) → a ≤ b → Rose b d → Rose a d
        rose_earlier a b d e h = omega (arith, e, h)
    ended_by_cert WriteFault reads = absurd reads.cause
    ended_by_cert OutOfMemory reads = record { files = reads.files ∙ first.files; cause = tt; made = tt }

    module _ (c : Certificate) (second : Reads IsReadAs r.certificate middle new (Ok c)) where
      cert_of_old : FileReadsAs IsReadAs r.certificate old.files (Ok c)
      cert_of_old = subst (λ files. FileReadsAs IsReadAs r.certificate files (Ok c)) first.files second.cause

      comes_judged : (cause : Cause) → Judges r.settings p c (Refused cause) → IfSome old.files (λ f. ComesTo f (Check r) (RefusedBy cause))
      comes_judged cause j =
          subst (λ e. IfSome old.files (λ f. ComesTo f (Check r) e)) j (comes_on old.files p (Ok c) first.cause cert_of_old)

      pub ended_by_verdict : (outcome : Outcome) → Judges r.settings p c outcome → Does (Check r) old new outcome
      ended_by_verdict (Refused cause) j = record { files = second.files ∙ first.files; cause = comes_judged cause j; made = tt }
      ended_by_verdict (Printed text has_box) j = record {
        files = second.files ∙ first.files;
        cause = comes_printed old.files new.files p c text has_box (second.files ∙ first.files) first.cause cert_of_old j;
        made = tt;
      }
      ended_by_verdict OutOfMemory j = record { files = second.files ∙ first.files; cause = tt; made = tt }
      ended_by_verdict (WordsRefused text) j = absurd j
      ended_by_verdict (ReadFault name) j = absurd j
      ended_by_verdict WriteFault j = absurd j
