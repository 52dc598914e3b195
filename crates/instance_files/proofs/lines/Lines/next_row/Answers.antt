use Rattle.std.proofs.Common.{◌≡◌, ℕ, ◌<◌, ◌≤◌, eqb, false, length, drop, sym, ap, ◌∙◌, arith}
use Rattle.std.proofs.lemmas.Bool.{eqb-true}
use Rattle.std.proofs.lemmas.Bool.Decides.{nat_tests}
use Rattle.std.proofs.lemmas.List.{length-drop, drop_all}
use Rattle.instance_files.specs.NextField.{fields_ahead}
use Rattle.instance_files.specs.Kept.{kept}
use Rattle.instance_files.specs.Ahead.{Ahead}
use Rattle.instance_files.proofs.Ahead.{ahead-none, ahead-blank, ahead-row}
use Rattle.instance_files.proofs.lines.Lines.next_row.Goals as goal

some_length : (n : ℕ) → eqb n 0 ≡ false → 0 < n
some_length n h = grind (arith, nat_tests)

pub loop-self-preserved : goal.loop-self-preserved
loop-self-preserved c =
    let line = c.read_line-line.ensures in
    let at = c.loop-self.self-inside.at in
    let bytes = c.loop-self.self-inside.bytes.now in
    let past = line.past c.loop-self-test.true in
    let some : 0 < length (drop at bytes) = omega (arith, length-drop at bytes, c.loop-self-test.true) in
    let empty : length c.read_line-line.result.fields ≡ 0 = eqb-true (length c.read_line-line.result.fields) 0 (sym c.is_empty-is_blank.ensures ∙ c.if-not-is_blank.false) in
    let none : length (kept (fields_ahead (drop at bytes))) ≡ 0 = ap length (sym line.fields) ∙ empty in
    record {
      within = line.within;
      few = omega (arith, past, c.loop-self.invariant.few);
      same = sym (ahead-blank c.loop-self.self-inside.number (drop at bytes) (drop c.read_line-line.result.next bytes) some line.rest none) ∙ c.loop-self.invariant.same;
    }

pub returns-then-not-is_blank : goal.returns-then-not-is_blank
returns-then-not-is_blank c =
    let line = c.read_line-line.ensures in
    let at = c.loop-self.self-inside.at in
    let bytes = c.loop-self.self-inside.bytes.now in
    let some : 0 < length (drop at bytes) = omega (arith, length-drop at bytes, c.loop-self-test.true) in
    let filled = some_length (length c.read_line-line.result.fields) (sym c.is_empty-is_blank.ensures ∙ c.if-not-is_blank.true) in
    let row = ahead-row c.loop-self.self-inside.number (drop at bytes) (drop c.read_line-line.result.next bytes) c.read_line-line.result.fields some line.rest line.fields filled in
    (ap (λ (a : Ahead). a.rows) (sym c.loop-self.invariant.same) ∙ row.0, ap (λ (a : Ahead). a.end) (sym c.loop-self.invariant.same) ∙ row.1)

pub returns : goal.returns
returns c =
    let at = c.loop-self.self-inside.at in
    let bytes = c.loop-self.self-inside.bytes.now in
    let none = ahead-none c.loop-self.self-inside.number (drop at bytes) (drop_all at bytes c.loop-self-test.false) in
    (ap (λ (a : Ahead). a.rows) (sym c.loop-self.invariant.same) ∙ none.0, ap (λ (a : Ahead). a.end) (sym c.loop-self.invariant.same) ∙ none.1)
