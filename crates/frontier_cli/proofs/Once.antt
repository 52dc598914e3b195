-- Files come to one thing only.
use Rattle.std.proofs.Common.{◌≡◌, ℕ, List, Option, Some, None, Result, Ok, Err, refl, sym, ap, ◌∙◌, arith}
use Rattle.text_parts.specs.Stops.{IsLongestFront}
use Rattle.text_parts.specs.declared.stop.TextCause.{TextCause}
use Rattle.text_parts.specs.declared.stop.TextCause.TheVariants.{End, Syntax}
use Rattle.edge_core.specs.Store.{Files, file}
use Rattle.cert_text.specs.Refusal.{HasOneText, IsCertText, IsRefusal}
use Rattle.orienteering.specs.Instance.{Problem}
use Rattle.orienteering.specs.Certificate.{Certificate}
use Rattle.command_line.specs.declared.settings.Settings.{Settings}
use Rattle.command_line.specs.Requests.{Request, Check, Solve, Resume, Generate, Demo}
use Rattle.frontier_cli.specs.Outcome.{Cause, InstanceTooLong, InstanceRefused, CertUnread, CertRefused}
use Rattle.frontier_cli.specs.Files.{instance_in, IsReadAs}
use Rattle.frontier_cli.specs.Expected.{Expectation, of_certificate, CertificateComesTo, CheckReadComesTo, CheckComesTo, SolveComesTo, ComesTo}

same_cause : (a b : TextCause) → (a ≡ End → b ≡ End) → (b ≡ End → a ≡ End) → a ≡ b
same_cause End b there back = sym (there refl)
same_cause Syntax End there back = back refl
same_cause Syntax Syntax there back = refl

one_front : (bytes : List ℕ) (a b : ℕ) → IsLongestFront IsCertText bytes a → IsLongestFront IsCertText bytes b → a ≡ b
one_front bytes a b p q = omega (arith, p.longest b q.within q.begins, q.longest a p.within p.begins)

same_unread : (at by : ℕ) (why cause : TextCause) → at ≡ by → why ≡ cause →
    ◌≡◌ {A = Result Certificate Cause} (Err (CertUnread at why)) (Err (CertUnread by cause))
same_unread at by why cause e f = ap (λ (n : ℕ). Err (CertUnread n why)) e ∙ ap (λ w. Err (CertUnread by w)) f

one_refusal : (bytes : List ℕ) (at by : ℕ) (why cause : TextCause) → IsRefusal bytes at why → IsRefusal bytes by cause →
    ◌≡◌ {A = Result Certificate Cause} (Err (CertUnread at why)) (Err (CertUnread by cause))
one_refusal bytes at by why cause p q =
    let place : at ≡ by = one_front bytes at by p.stops.front q.stops.front in
    same_unread at by why cause place
    (same_cause why cause (λ e. q.at_end.1 (sym place ∙ p.at_end.0 e)) (λ e. p.at_end.1 (place ∙ q.at_end.0 e)))

module _ (one : HasOneText) where
  read_once : (bytes : List ℕ) (a b : Result Certificate Cause) → IsReadAs bytes a → IsReadAs bytes b → a ≡ b
  read_once bytes (Ok c) (Ok d) p q = ap (λ (x : Certificate). Ok x) (one c d p.0 q.0 (sym p.1 ∙ q.1))
  read_once bytes (Ok c) (Err (CertUnread at why)) p q = absurd (q.stops.none (c, p))
  read_once bytes (Ok c) (Err InstanceTooLong) p q = absurd q
  read_once bytes (Ok c) (Err (InstanceRefused line why)) p q = absurd q
  read_once bytes (Ok c) (Err (CertRefused fail)) p q = absurd q
  read_once bytes (Err (CertUnread at why)) (Ok d) p q = absurd (p.stops.none (d, q))
  read_once bytes (Err (CertUnread at why)) (Err (CertUnread by cause)) p q = one_refusal bytes at by why cause p q
  read_once bytes (Err (CertUnread at why)) (Err InstanceTooLong) p q = absurd q
  read_once bytes (Err (CertUnread at why)) (Err (InstanceRefused line cause)) p q = absurd q
  read_once bytes (Err (CertUnread at why)) (Err (CertRefused fail)) p q = absurd q
  read_once bytes (Err InstanceTooLong) b p q = absurd p
  read_once bytes (Err (InstanceRefused line why)) b p q = absurd p
  read_once bytes (Err (CertRefused fail)) b p q = absurd p

  certificate_once : (s : Settings) (p : Problem) (found : Option (List ℕ)) (d e : Expectation) →
      CertificateComesTo s p found d → CertificateComesTo s p found e → d ≡ e
  certificate_once s p None d e h k = h ∙ sym k
  certificate_once s p (Some bytes) d e h k = h.2 ∙ ap (of_certificate s p) (read_once bytes h.0 k.0 h.1 k.1) ∙ sym k.2

  instance_once : (s : Settings) (read : Result Problem Cause) (certificate : Option (List ℕ)) (d e : Expectation) →
      CheckReadComesTo s read certificate d → CheckReadComesTo s read certificate e → d ≡ e
  instance_once s (Ok p) certificate d e h k = certificate_once s p certificate d e h k
  instance_once s (Err cause) certificate d e h k = h ∙ sym k

  check_once : (s : Settings) (found certificate : Option (List ℕ)) (d e : Expectation) →
      CheckComesTo s found certificate d → CheckComesTo s found certificate e → d ≡ e
  check_once s None certificate d e h k = h ∙ sym k
  check_once s (Some bytes) certificate d e h k = instance_once s (instance_in s bytes) certificate d e h k

  solve_once : (s : Settings) (found : Option (List ℕ)) (d e : Expectation) → SolveComesTo s found d → SolveComesTo s found e → d ≡ e
  solve_once s None d e h k = h ∙ sym k
  solve_once s (Some bytes) d e h k = h ∙ sym k

  pub comes_once : (files : Files) (asked : Request) (d e : Expectation) → ComesTo files asked d → ComesTo files asked e → d ≡ e
  comes_once files (Check r) d e h k = check_once r.settings (file files r.instance) (file files r.certificate) d e h k
  comes_once files (Resume r) d e h k = check_once r.settings (file files r.instance) (file files r.certificate) d e h k
  comes_once files (Solve r) d e h k = solve_once r.settings (file files r.instance) d e h k
  comes_once files (Generate r) d e h k = h ∙ sym k
  comes_once files (Demo r) d e h k = h ∙ sym k
