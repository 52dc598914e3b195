-- What the steps of a solve come to.
use Rattle.std.proofs.Common.{◌≡◌, ℕ, Bool, List, Option, Some, None, Result, Ok, Err, IfSome, IsSomeAnd, refl, sym, ap, subst}
use Rattle.edge_core.specs.Faults.{Rose}
use Rattle.edge_core.specs.Store.{Files, StoreState, file, ChangesOnly, Holds}
use Rattle.orienteering.specs.Instance.{Problem}
use Rattle.command_line.specs.Requests.{SolveRequest}
use Rattle.command_line.specs.Requests.{Solve}
use Rattle.frontier_cli.specs.Outcome.{Cause, Outcome, WordsRefused, Refused, Printed, ReadFault, WriteFault, OutOfMemory}
use Rattle.frontier_cli.specs.Expected.{Accepted, ComesTo, SolveComesTo, of_instance}
use Rattle.frontier_cli.specs.Answers.{Answers}
use Rattle.frontier_cli.specs.Ran.{FileReadsAs, Reads, Puts, Does, IsSolution, LeavesOthers}
use Rattle.frontier_cli.proofs.Instances.{IsInstance, instance_found}

pub changes_none : (name : List ℕ) (old new : Option Files) → new ≡ old → ChangesOnly name old new
changes_none name old new same = subst (ChangesOnly name old) (sym same) (to_itself old) where
  to_itself : (files : Option Files) → ChangesOnly name files files
  to_itself None = tt
  to_itself (Some f) = λ other apart. refl

pub leaves_none : (name : List ℕ) (outcome : Outcome) (files : Option Files) → LeavesOthers name outcome files files
leaves_none name (WordsRefused text) files = refl
leaves_none name (Refused cause) files = refl
leaves_none name (ReadFault at) files = refl
leaves_none name (Printed text has_box) files = changes_none name files files refl
leaves_none name WriteFault files = changes_none name files files refl
leaves_none name OutOfMemory files = changes_none name files files refl

module _ (r : SolveRequest) where
  comes_of : (found : Option (List ℕ)) (read : Result Problem Cause) → IsSomeAnd found (λ b. IsInstance r.settings b read) →
      SolveComesTo r.settings found (of_instance read)
  comes_of None read is = absurd is
  comes_of (Some bytes) read is = ap of_instance is

  comes : (files : Option Files) (read : Result Problem Cause) → FileReadsAs (IsInstance r.settings) r.instance files read →
      IfSome files (λ f. ComesTo f (Solve r) (of_instance read))
  comes None read is = tt
  comes (Some f) read is = comes_of (file f r.instance) read is

  pub ended_by_instance : (old new : StoreState) (outcome : Outcome) → Reads (IsInstance r.settings) r.instance old new (Err outcome) →
      Does (Solve r) old new outcome
  ended_by_instance old new (WordsRefused text) reads = absurd reads.cause
  ended_by_instance old new (Refused cause) reads = record { files = reads.files; cause = comes old.files (Err cause) reads.cause; made = tt }
  ended_by_instance old new (Printed text has_box) reads = absurd reads.cause
  ended_by_instance old new (ReadFault name) reads =
      record { files = reads.files; cause = (reads.cause.0, subst (λ n. new.failed ≡ n) (sym reads.cause.0) reads.cause.1, reads.cause.2); made = tt }
  ended_by_instance old new WriteFault reads = absurd reads.cause
  ended_by_instance old new OutOfMemory reads = record { files = changes_none r.out old.files new.files reads.files; cause = tt; made = tt }

  module _ (old middle : StoreState) (p : Problem) (first : Reads (IsInstance r.settings) r.instance old middle (Ok p)) where
    module _ (new : StoreState) (bytes : List ℕ) where
      changes_out : ChangesOnly r.out middle.files new.files → ChangesOnly r.out old.files new.files
      changes_out = subst (λ files. ChangesOnly r.out files new.files) first.files

      -- a put that failed or wanted memory ends a solve
      pub ended_by_put : (outcome : Outcome) → Puts r.out bytes middle new (Err outcome) → Does (Solve r) old new outcome
      ended_by_put WriteFault puts = record {
        files = changes_out puts.only;
        cause = record {
          puts = tt;
          accepted = comes old.files (Ok p) first.cause;
          rose = subst (λ n. Rose n new.put_faults) first.put_faults puts.cause;
        };
        made = tt;
      }
      ended_by_put OutOfMemory puts = record { files = changes_out puts.only; cause = tt; made = tt }
      ended_by_put (WordsRefused text) puts = absurd puts.cause
      ended_by_put (Refused cause) puts = absurd puts.cause
      ended_by_put (Printed text has_box) puts = absurd puts.cause
      ended_by_put (ReadFault name) puts = absurd puts.cause

      module _ (text : List ℕ) (has_box : Bool) (s : IsSolution r p bytes text has_box) where
        answers : (f g : Files) → IsSomeAnd (file f r.instance) (λ b. IsInstance r.settings b (Ok p)) → file g r.out ≡ Some bytes →
            Answers (Solve r) f g text has_box
        answers f g is holds = record {
          problem = p;
          instance_is = instance_found r.settings (file f r.instance) p is;
          bytes = bytes;
          put = holds;
          report = record {
            certificate = s.certificate;
            is_cert = s.is_cert;
            bytes_are = s.bytes_are;
            accepted = s.verdict.accepted;
            verdict = s.verdict.verdict;
            printed = s.verdict.printed;
            left = s.verdict.left;
            small = s.verdict.small;
          };
          solved = s.solved;
          boxes = s.boxes;
          certified = s.verdict.certified;
        }

        printed : (files after : Option Files) → FileReadsAs (IsInstance r.settings) r.instance files (Ok p) → ChangesOnly r.out files after →
            Holds r.out bytes after →
            IfSome files (λ f. ComesTo f (Solve r) Accepted × IsSomeAnd after (λ g. Answers (Solve r) f g text has_box))
        printed None after is only holds = tt
        printed (Some f) None is only holds = absurd only
        printed (Some f) (Some g) is only holds = (comes_of (file f r.instance) (Ok p) is, answers f g is holds)

        pub ended_by_report : Puts r.out bytes middle new (Ok tt) → Does (Solve r) old new (Printed text has_box)
        ended_by_report puts = record {
          files = changes_out puts.only;
          cause = printed old.files new.files first.cause (changes_out puts.only) puts.cause;
          made = tt;
        }
