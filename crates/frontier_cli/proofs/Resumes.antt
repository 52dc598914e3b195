-- What the steps of a resume come to.
use Rattle.std.proofs.Common.{◌≡◌, ℕ, Bool, List, Option, Some, None, Ok, Err, IfSome, IsSomeAnd, refl, sym, ap, subst, ◌∙◌}
use Rattle.edge_core.specs.Faults.{Rose}
use Rattle.edge_core.specs.Store.{Files, StoreState, file, ChangesOnly, Holds}
use Rattle.orienteering.specs.Instance.{Problem}
use Rattle.orienteering.specs.Certificate.{Certificate}
use Rattle.cert_text.specs.Text.{cert_text}
use Rattle.command_line.specs.Requests.{CheckRequest, ResumeRequest}
use Rattle.command_line.specs.Requests.{Check, Resume}
use Rattle.frontier_cli.specs.Outcome.{Outcome, WordsRefused, Refused, Printed, ReadFault, WriteFault, OutOfMemory}
use Rattle.frontier_cli.specs.Refusal.{refused}
use Rattle.frontier_cli.specs.declared.refusal.Refusal.{Refusal}
use Rattle.frontier_cli.specs.Files.{IsReadAs}
use Rattle.frontier_cli.specs.Expected.{Accepted, ComesTo, of_verdict}
use Rattle.frontier_cli.specs.Answers.{Answers}
use Rattle.frontier_cli.specs.Ran.{FileReadsAs, Reads, Puts, Does, IsContinuation}
use Rattle.frontier_cli.proofs.Instances.{IsInstance, instance_found}
use Rattle.frontier_cli.proofs.Checks.{bytes_found, comes_on}
use Rattle.frontier_cli.proofs.Solves.{changes_none}
use Rattle.frontier_cli.proofs.Told.{refusal_is_plain}

-- the check that a resume begins with
abbrev pub check_of : ResumeRequest → CheckRequest
check_of r = record { instance = r.instance; certificate = r.certificate; settings = r.settings }

module _ (r : ResumeRequest) where
  plain_as_check : (old new : StoreState) (o : Outcome) → ((text : List ℕ) (has_box : Bool) → o ≡ Printed text has_box → ⊥) →
      Does (Check (check_of r)) old new o → Does (Resume r) old new o
  plain_as_check old new (WordsRefused text) plain does = absurd does.cause
  plain_as_check old new (Refused cause) plain does = record { files = does.files; cause = does.cause; made = tt }
  plain_as_check old new (Printed text has_box) plain does = absurd (plain text has_box refl)
  plain_as_check old new (ReadFault name) plain does = record { files = does.files; cause = does.cause; made = tt }
  plain_as_check old new WriteFault plain does = absurd does.cause.puts
  plain_as_check old new OutOfMemory plain does = record { files = changes_none r.out old.files new.files does.files; cause = tt; made = tt }

  -- a refusal of the check that it begins with ends a resume
  pub ended_as_check : (old new : StoreState) (why : Refusal) → Does (Check (check_of r)) old new (refused why) →
      Does (Resume r) old new (refused why)
  ended_as_check old new why does = plain_as_check old new (refused why) (refusal_is_plain why) does

  module _ (old middle third : StoreState) (p : Problem) (first : Reads (IsInstance r.settings) r.instance old middle (Ok p))
      (c : Certificate) (second : Reads IsReadAs r.certificate middle third (Ok c)) (new : StoreState) (bytes : List ℕ) where
    changes_out : ChangesOnly r.out third.files new.files → ChangesOnly r.out old.files new.files
    changes_out = subst (λ files. ChangesOnly r.out files new.files) (second.files ∙ first.files)

    cert_of_old : FileReadsAs IsReadAs r.certificate old.files (Ok c)
    cert_of_old = subst (λ files. FileReadsAs IsReadAs r.certificate files (Ok c)) first.files second.cause

    module _ (text : List ℕ) (has_box : Bool) (s : IsContinuation r p c bytes text has_box) where
      answers : (f g : Files) → IsSomeAnd (file f r.instance) (λ b. IsInstance r.settings b (Ok p)) →
          IsSomeAnd (file f r.certificate) (λ b. IsReadAs b (Ok c)) → file g r.out ≡ Some bytes → Answers (Resume r) f g text has_box
      answers f g is cert holds =
          let found = bytes_found (check_of r) (file f r.certificate) c cert in
          let old_is : file f r.certificate ≡ Some (cert_text c) = found.1 ∙ ap Some found.2.1 in
          record {
            problem = p;
            instance_is = instance_found r.settings (file f r.instance) p is;
            old = c;
            is_cert = found.2.0;
            certificate_is = old_is;
            accepted = s.accepted;
            bytes = bytes;
            put = holds;
            report = record {
              certificate = s.certificate;
              is_cert = s.is_cert;
              bytes_are = s.bytes_are;
              accepted = s.verdict.accepted;
              verdict = s.verdict.verdict;
              printed = s.verdict.printed;
              left = s.verdict.left;
              small = s.verdict.small;
            };
            resumed = s.resumed;
            same = λ none. holds ∙ ap Some (s.bytes_are ∙ ap cert_text (s.resumed.same none)) ∙ sym old_is;
            boxes = s.boxes;
            certified = s.verdict.certified;
          }

      comes : (files : Option Files) → FileReadsAs (IsInstance r.settings) r.instance files (Ok p) →
          FileReadsAs IsReadAs r.certificate files (Ok c) → IfSome files (λ f. ComesTo f (Resume r) Accepted)
      comes files is cert =
          subst (λ e. IfSome files (λ f. ComesTo f (Resume r) e)) (ap of_verdict s.accepted.1) (comes_on (check_of r) files p (Ok c) is cert)

      printed : (files after : Option Files) → FileReadsAs (IsInstance r.settings) r.instance files (Ok p) →
          FileReadsAs IsReadAs r.certificate files (Ok c) → IfSome files (λ f. ComesTo f (Resume r) Accepted) →
          ChangesOnly r.out files after → Holds r.out bytes after →
          IfSome files (λ f. ComesTo f (Resume r) Accepted × IsSomeAnd after (λ g. Answers (Resume r) f g text has_box))
      printed None after is cert to only holds = tt
      printed (Some f) None is cert to only holds = absurd only
      printed (Some f) (Some g) is cert to only holds = (to, answers f g is cert holds)

      pub ended_by_report : Puts r.out bytes third new (Ok tt) → Does (Resume r) old new (Printed text has_box)
      ended_by_report puts = record {
        files = changes_out puts.only;
        cause = printed old.files new.files first.cause cert_of_old (comes old.files first.cause cert_of_old) (changes_out puts.only) puts.cause;
        made = tt;
      }

      -- a put that failed or wanted memory ends a resume
      pub ended_by_put : (outcome : Outcome) → Puts r.out bytes third new (Err outcome) → Does (Resume r) old new outcome
      ended_by_put WriteFault puts = record {
        files = changes_out puts.only;
        cause = record {
          puts = tt;
          accepted = comes old.files first.cause cert_of_old;
          rose = subst (λ n. Rose n new.put_faults) (second.put_faults ∙ first.put_faults) puts.cause;
        };
        made = tt;
      }
      ended_by_put OutOfMemory puts = record { files = changes_out puts.only; cause = tt; made = tt }
      ended_by_put (WordsRefused other) puts = absurd puts.cause
      ended_by_put (Refused cause) puts = absurd puts.cause
      ended_by_put (Printed other any) puts = absurd puts.cause
      ended_by_put (ReadFault name) puts = absurd puts.cause
