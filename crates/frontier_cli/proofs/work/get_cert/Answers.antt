use Rattle.std.proofs.Common.{◌<◌, length, subst, take, arith}
use Rattle.frontier_cli.specs.Files.{IsReadAs}
use Rattle.frontier_cli.specs.Ran.{LooksAt}
use Rattle.frontier_cli.specs.Refusal.{step_of}
use Rattle.frontier_cli.proofs.Steps.{reads-got, take-whole}
use Rattle.frontier_cli.proofs.work.get_cert.Goals as goal

pub returns : goal.returns
returns g c =
    let bytes = c.in_ok-bytes.bytes.items in
    let short : length bytes < 18446744073709551615 = omega arith in
    let look : LooksAt (IsReadAs bytes) (step_of c.cert_of.result) = rw (← c.deref.ensures.value) c.cert_of.ensures in
    reads-got c.args.name.now (take 18446744073709551615) IsReadAs bytes
    (λ whole read is got. subst (λ b. IsReadAs b read) (take-whole 18446744073709551615 whole bytes is short) got)
    _ _ (step_of c.cert_of.result) look c.in_ok-bytes.ensures
