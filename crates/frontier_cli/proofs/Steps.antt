-- Steps over the bytes of a file, after they were got.
use Rattle.std.proofs.Common.{◌≡◌, ℕ, ◌+◌, ◌<◌, ◌≤◌, Bool, true, false, List, length, take, min, Option, Some, None, Result, Ok, Err, IsSomeAnd, refl, sym, ap, ◌∙◌, arith}
use Rattle.std.specs.Prelude.{nat_lt}
use Rattle.std.proofs.lemmas.List.{take_all, length-take}
use Rattle.std.proofs.lemmas.Bool.Decides.{nat_tests}
use Rattle.edge_core.specs.Store.{Files, StoreState, file}
use Rattle.frontier_cli.specs.Files.{measured}
use Rattle.frontier_cli.specs.Outcome.{Cause, Outcome, WordsRefused, Refused, Printed, ReadFault, WriteFault, OutOfMemory, Step}
use Rattle.frontier_cli.specs.Ran.{FileReadsAs, LooksAt, Reads, StepCause}

module _ {V : Type 0} (name : List ℕ) (first : List ℕ → List ℕ) (Is : List ℕ → Result V Cause → Type 0) (bytes : List ℕ)
    (same : (whole : List ℕ) (read : Result V Cause) → first whole ≡ bytes → Is bytes read → Is whole read) where
  read_of_whole : (found : Option (List ℕ)) (read : Result V Cause) → Is bytes read →
      IsSomeAnd found (λ whole. ◌≡◌ {A = Result (List ℕ) Cause} (Ok bytes) (Ok (first whole))) → IsSomeAnd found (λ whole. Is whole read)
  read_of_whole None read is got = got
  read_of_whole (Some whole) read is got = let e : first whole ≡ bytes = cc in same whole read e is

  read_of_file : (files : Option Files) (read : Result V Cause) → Is bytes read →
      FileReadsAs (λ whole got. got ≡ Ok (first whole)) name files (Ok bytes) → FileReadsAs Is name files read
  read_of_file None read is got = tt
  read_of_file (Some files) read is got = read_of_whole (file files name) read is got

  cause_of_look : (old new : StoreState) (step : Step V) → LooksAt (Is bytes) step →
      FileReadsAs (λ whole got. got ≡ Ok (first whole)) name old.files (Ok bytes) → StepCause Is name old new step
  cause_of_look old new (Ok value) look got = read_of_file old.files (Ok value) look got
  cause_of_look old new (Err (Refused cause)) look got = read_of_file old.files (Err cause) look got
  cause_of_look old new (Err OutOfMemory) look got = tt
  cause_of_look old new (Err (WordsRefused text)) look got = absurd look
  cause_of_look old new (Err (Printed text has_box)) look got = absurd look
  cause_of_look old new (Err (ReadFault at)) look got = absurd look
  cause_of_look old new (Err WriteFault) look got = absurd look

  -- what is read of the bytes that were got is read of the file, where the rest of it doesn't matter
  pub reads-got : (old new : StoreState) (step : Step V) → LooksAt (Is bytes) step →
      Reads (λ whole got. got ≡ Ok (first whole)) name old new (Ok bytes) → Reads Is name old new step
  reads-got old new step look got = record {
    files = got.files;
    later = got.later;
    put_faults = got.put_faults;
    cause = cause_of_look old new step look got.cause;
  }

-- a step that failed before anything was read
pub reads-failed : {V W : Type 0} (name : List ℕ) (Is : List ℕ → Result V Cause → Type 0) (Also : List ℕ → Result W Cause → Type 0)
    (old new : StoreState) (outcome : Outcome) → ((cause : Cause) → outcome ≡ Refused cause → ⊥) →
    Reads Is name old new (Err outcome) → Reads Also name old new (Err outcome)
reads-failed {V} {W} name Is Also old new outcome plain r = record {
  files = r.files;
  later = r.later;
  put_faults = r.put_faults;
  cause = same outcome plain r.cause;
}
  where
    same : (outcome : Outcome) → ((cause : Cause) → outcome ≡ Refused cause → ⊥) →
        StepCause Is name old new (Err outcome) → StepCause Also name old new (Err outcome)
    same (WordsRefused text) plain is = is
    same (Refused cause) plain is = absurd (plain cause refl)
    same (Printed text has_box) plain is = is
    same (ReadFault at) plain is = is
    same WriteFault plain is = is
    same OutOfMemory plain is = is

measured-at : {V : Type 0} (limit : ℕ) (read : List ℕ → Result V Cause) (whole : List ℕ) (long : Bool) → nat_lt limit (length whole) ≡ long →
    measured limit read (take (limit + 1) whole) ≡ measured limit read whole
measured-at limit read whole true long =
    let n : length (take (limit + 1) whole) ≡ min (limit + 1) (length whole) = length-take (limit + 1) whole in
    let same : nat_lt limit (length (take (limit + 1) whole)) ≡ true = grind (arith, nat_tests) in
    rw (same, long) refl
measured-at limit read whole false short =
    let fits : length whole ≤ limit + 1 = grind (arith, nat_tests) in
    ap (measured limit read) (take_all (limit + 1) whole fits)

-- one byte past the limit tells that a file is too long, and the rest doesn't matter
pub measured-take : {V : Type 0} (limit : ℕ) (read : List ℕ → Result V Cause) (whole bytes : List ℕ) → take (limit + 1) whole ≡ bytes →
    measured limit read bytes ≡ measured limit read whole
measured-take limit read whole bytes is = ap (measured limit read) (sym is) ∙ measured-at limit read whole _ refl

-- a file of which fewer bytes came than were asked for came whole
pub take-whole : (limit : ℕ) (whole bytes : List ℕ) → take limit whole ≡ bytes → length bytes < limit → bytes ≡ whole
take-whole limit whole bytes is short =
    let n : length (take limit whole) ≡ min limit (length whole) = length-take limit whole in
    let m : length (take limit whole) ≡ length bytes = ap length is in
    let fits : length whole ≤ limit = omega arith in
    sym is ∙ take_all limit whole fits
