-- The calls that are drawn behind a draw.
use Rattle.std.proofs.Common.{◌≡◌, ℕ, suc, ◌+◌, ◌*◌, ◌-◌, ◌<◌, List, [], ◌++◌, ap, sym, ◌∙◌, append_assoc, arith}
use Rattle.draws.specs.Draws.{next_draw, draws_behind}
use Rattle.instance_gen.specs.Generated.{numbers_line, lines_text, plain_call, plain_calls, windowed_call, windowed_calls}

-- the draws of a call
abbrev pub second : ℕ → ℕ
second draw = next_draw (next_draw draw)

abbrev pub third : ℕ → ℕ
third draw = next_draw (second draw)

abbrev pub fourth : ℕ → ℕ
fourth draw = next_draw (third draw)

-- the lines of so many calls behind a draw
abbrev pub plain_text : ℕ → ℕ → List ℕ
plain_text draw n = lines_text (plain_calls (draws_behind draw (3 * n)))

abbrev pub windowed_text : ℕ → ℕ → ℕ → List ℕ
windowed_text number draw n = lines_text (windowed_calls number (draws_behind draw (4 * n)))

-- a call takes three draws
plain_text-more : (draw n m : ℕ) → n ≡ suc m → plain_text draw n ≡ numbers_line (plain_call (next_draw draw) (second draw) (third draw)) ++ plain_text (third draw) m
plain_text-more draw n m is_more =
    let draws : 3 * n ≡ suc (suc (suc (3 * m))) = omega arith in
    ap (λ k. lines_text (plain_calls (draws_behind draw k))) draws

-- a call with a window takes four draws
windowed_text-more : (number draw n m : ℕ) → n ≡ suc m → windowed_text number draw n ≡ numbers_line (windowed_call number (next_draw draw) (second draw) (third draw) (fourth draw)) ++ windowed_text (number + 1) (fourth draw) m
windowed_text-more number draw n m is_more =
    let draws : 4 * n ≡ suc (suc (suc (suc (4 * m)))) = omega arith in
    ap (λ k. lines_text (windowed_calls number (draws_behind draw k))) draws

-- a line that is put, and then the rest, or the whole at once
put_first : (out new line rest whole : List ℕ) → new ≡ out ++ line → whole ≡ line ++ rest → new ++ rest ≡ out ++ whole
put_first out new line rest whole put splits =
    ap (λ x. x ++ rest) put ∙ append_assoc out line rest ∙ ap (λ x. out ++ x) (sym splits)

pub plain_put : (out new : List ℕ) (draw done calls : ℕ) → done < calls → new ≡ out ++ numbers_line (plain_call (next_draw draw) (second draw) (third draw)) → new ++ plain_text (third draw) (calls - (done + 1)) ≡ out ++ plain_text draw (calls - done)
plain_put out new draw done calls more put =
    let one : calls - done ≡ suc (calls - (done + 1)) = omega arith in
    put_first out new _ (plain_text (third draw) (calls - (done + 1))) (plain_text draw (calls - done)) put (plain_text-more draw (calls - done) (calls - (done + 1)) one)

pub windowed_put : (out new : List ℕ) (number draw done calls : ℕ) → done < calls → new ≡ out ++ numbers_line (windowed_call number (next_draw draw) (second draw) (third draw) (fourth draw)) → new ++ windowed_text (number + 1) (fourth draw) (calls - (done + 1)) ≡ out ++ windowed_text number draw (calls - done)
windowed_put out new number draw done calls more put =
    let one : calls - done ≡ suc (calls - (done + 1)) = omega arith in
    put_first out new _ (windowed_text (number + 1) (fourth draw) (calls - (done + 1))) (windowed_text number draw (calls - done)) put (windowed_text-more number draw (calls - done) (calls - (done + 1)) one)

-- no call is left
pub plain_text-none : (draw n : ℕ) → n ≡ 0 → plain_text draw n ≡ []
plain_text-none draw n none = ap (λ k. lines_text (plain_calls (draws_behind draw (3 * k)))) none

pub windowed_text-none : (number draw n : ℕ) → n ≡ 0 → windowed_text number draw n ≡ []
windowed_text-none number draw n none = ap (λ k. lines_text (windowed_calls number (draws_behind draw (4 * k)))) none
