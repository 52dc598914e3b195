-- A command line that grows by one argument.
use Rattle.std.proofs.Common.{◌≡◌, ℕ, ◌+◌, ◌<◌, List, [], ◌∷◌, ◌++◌, map, take, length, get_or, ap, append_assoc, ◌∙◌, refl}
use Rattle.std.proofs.lemmas.List.{take_more}
use Rattle.clap.specs.Words.{App, Rule, with_rule}
use Rattle.command_line.specs.Lines.{argument_rule, with_rules}
use Rattle.command_line.specs.declared.argument.Argument.{Argument}

pub with_rules-push : (a : App) (rules : List Rule) (r : Rule) → with_rule (with_rules a rules) r ≡ with_rules a (rules ++ r ∷ [])
with_rules-push a rules r = ap (λ rs. record a { top = record a.top { rules = rs } }) (append_assoc a.top.rules rules (r ∷ []))

map-push : {X Y : Type 0} (f : X → Y) (xs : List X) (x : X) → map f (xs ++ x ∷ []) ≡ map f xs ++ f x ∷ []
map-push f [] x = refl
map-push f (y ∷ ys) x = ap (λ rest. f y ∷ rest) (map-push f ys x)

-- the rules of the first arguments
abbrev pub rules_of : List Argument → ℕ → List Rule
rules_of arguments i = map argument_rule (take i arguments)

pub rules_of-more : (arguments : List Argument) (i : ℕ) (d : Argument) → i < length arguments
    → rules_of arguments (i + 1) ≡ rules_of arguments i ++ argument_rule (get_or arguments i d) ∷ []
rules_of-more arguments i d lt =
    ap (map argument_rule) (take_more arguments i d lt) ∙ map-push argument_rule (take i arguments) (get_or arguments i d)
