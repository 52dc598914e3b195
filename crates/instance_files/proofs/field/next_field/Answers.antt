use Rattle.std.proofs.Common.{◌≡◌, ℕ, ◌≤◌, List, drop, Some, None, Option, ap, sym, ◌∙◌, arith}
use Rattle.instance_files.specs.Scan.{blanks_len, field_len, line_end_len}
use Rattle.instance_files.proofs.Cutting.{SkipsBlanks, TakesField, blanks-skipped, field-taken, next-found, next-line, next-none}
use Rattle.instance_files.proofs.field.next_field.Goals as goal

skips-at : (bytes rest : List ℕ) (from blanks : ℕ) → rest ≡ drop from bytes → blanks ≡ blanks_len rest → SkipsBlanks (drop from bytes) blanks
skips-at bytes rest from blanks at is = rw (is, at) (blanks-skipped (drop from bytes))

takes-at : (bytes rest line : List ℕ) (from blanks len : ℕ) → rest ≡ drop from bytes → line ≡ drop blanks rest → len ≡ field_len line → TakesField (drop blanks (drop from bytes)) len
takes-at bytes rest line from blanks len at on is = rw (is, on, at) (field-taken (drop blanks (drop from bytes)))

pub returns-then-len-gt0 : goal.returns-then-len-gt0
returns-then-len-gt0 c =
    next-found _ _ _ _ c.requires
    (skips-at c.args.bytes.now c.split_at.result.1.now c.args.from c.blanks_len-blanks.result c.split_at.ensures.back c.blanks_len-blanks.ensures.value)
    (takes-at c.args.bytes.now c.split_at.result.1.now c.split_at-2.result.1.now c.args.from c.blanks_len-blanks.result c.field_len-len.result c.split_at.ensures.back c.split_at-2.ensures.back c.field_len-len.ensures.value)
    c.if-len-gt0.true

pub returns-in-Some : goal.returns-in-Some
returns-in-Some c =
    let on = sym (c.split_at-2.ensures.back ∙ ap (drop c.blanks_len-blanks.result) c.split_at.ensures.back) in
    let none : c.field_len-len.result ≡ 0 = omega (arith, c.if-len-gt0.false) in
    next-line _ _ _ _ c.requires
    (skips-at c.args.bytes.now c.split_at.result.1.now c.args.from c.blanks_len-blanks.result c.split_at.ensures.back c.blanks_len-blanks.ensures.value)
    (ap field_len on ∙ sym c.field_len-len.ensures.value ∙ none)
    (ap line_end_len on ∙ sym c.line_end_len.ensures.value ∙ c.in-Some.is)

pub returns-in-None : goal.returns-in-None
returns-in-None c =
    let on = sym (c.split_at-2.ensures.back ∙ ap (drop c.blanks_len-blanks.result) c.split_at.ensures.back) in
    let none : c.field_len-len.result ≡ 0 = omega (arith, c.if-len-gt0.false) in
    next-none _ _ _
    (skips-at c.args.bytes.now c.split_at.result.1.now c.args.from c.blanks_len-blanks.result c.split_at.ensures.back c.blanks_len-blanks.ensures.value)
    (ap field_len on ∙ sym c.field_len-len.ensures.value ∙ none)
    (ap line_end_len on ∙ sym c.line_end_len.ensures.value ∙ c.in-None.is)
