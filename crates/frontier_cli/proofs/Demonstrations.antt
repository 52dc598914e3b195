-- The instance of a demonstration is read.
use Rattle.std.proofs.Common.{◌≡◌, ℕ, ◌≤◌, Bool, true, false, List, length, Result, Ok, Err, refl, sym, ap, ◌∙◌, subst, arith}
use Rattle.std.specs.Prelude.{nat_lt, IfOk, IfErr}
use Rattle.std.proofs.lemmas.Bool.Decides.{nat_tests}
use Rattle.orienteering.specs.Instance.{Problem}
use Rattle.fixed_num.specs.Length.{scale_number}
use Rattle.instance_files.specs.File.{file_problem}
use Rattle.instance_files.specs.declared.file.Format.TheVariants.{Op}
use Rattle.instance_gen.specs.Generated.{generated}
use Rattle.instance_gen.specs.Laws.{FilesAreShort, GeneratedFilesAreRead}
use Rattle.command_line.specs.Requests.{DemoRequest}
use Rattle.command_line.specs.declared.settings.Settings.{Settings}
use Rattle.frontier_cli.specs.Files.{demo_instance, demo_settings, instance_in, instance_limit, measured, or_refused}
use Rattle.frontier_cli.specs.Outcome.{Cause, Outcome, WordsRefused, Refused, Printed, ReadFault, WriteFault, OutOfMemory}
use Rattle.frontier_cli.specs.Ran.{LooksAt}
use Rattle.frontier_cli.specs.Refusal.{refused, step_of}
use Rattle.frontier_cli.specs.declared.refusal.Refusal.{Refusal}

-- a file within the limit is read
measured-short : {V : Type 0} (limit : ℕ) (read : List ℕ → Result V Cause) (bytes : List ℕ) → length bytes ≤ limit →
    measured limit read bytes ≡ read bytes
measured-short limit read bytes short =
    let within : nat_lt limit (length bytes) ≡ false = grind (arith, nat_tests) in
    rw within refl

pub demo_read : (r : DemoRequest) → r.calls ≤ 300 → GeneratedFilesAreRead → FilesAreShort → (p : Problem) × (demo_instance r ≡ Ok p)
demo_read r few read short =
    let found = read Op 100 r.seed r.calls (omega arith) few in
    let bytes = generated r.seed r.calls Op in
    let size : length bytes ≤ 20000 = short Op r.seed r.calls few in
    let fits : length bytes ≤ instance_limit = omega arith in
    let as_read = λ (b : List ℕ). or_refused (file_problem (demo_settings r).format (scale_number (demo_settings r).scale) (demo_settings r).team b) in
    (found.0, measured-short instance_limit as_read bytes fits ∙ ap or_refused found.1)

module _ (r : DemoRequest) (s : Settings) (bytes : List ℕ) (same : instance_in s bytes ≡ demo_instance r) where
  pub demo_found : (result : Result Problem Refusal) → LooksAt (λ read. read ≡ instance_in s bytes) (step_of result) →
      IfOk result (λ p. demo_instance r ≡ Ok p)
  demo_found (Ok p) look = sym (look ∙ same)
  demo_found (Err refusal) look = tt

  module _ (p : Problem) (is : demo_instance r ≡ Ok p) where
    wanting : (o : Outcome) → LooksAt {V = Problem} (λ read. read ≡ instance_in s bytes) (Err o) → o ≡ OutOfMemory
    wanting OutOfMemory look = refl
    wanting (Refused cause) look = let clash : ◌≡◌ {A = Result Problem Cause} (Err cause) (Ok p) = look ∙ same ∙ is in absurd (cc)
    wanting (WordsRefused text) look = absurd look
    wanting (Printed text has_box) look = absurd look
    wanting (ReadFault at) look = absurd look
    wanting WriteFault look = absurd look

    pub demo_wanting : (result : Result Problem Refusal) → LooksAt (λ read. read ≡ instance_in s bytes) (step_of result) →
        IfErr result (λ refusal. refused refusal ≡ OutOfMemory)
    demo_wanting (Ok q) look = tt
    demo_wanting (Err refusal) look = wanting (refused refusal) look
