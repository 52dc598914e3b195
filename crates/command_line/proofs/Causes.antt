-- Values that ask for nothing have a cause.
use Rattle.std.proofs.Common.{◌≡◌, Bool, true, false, cond, not, List, [], ◌∷◌, ◌++◌, Option, Some, None, ap, codes, refl, subst}
use Rattle.std.specs.Prelude.{is_none, is_some, option_and_then, option_map}
use Rattle.std.specs.List.{find}
use Rattle.std.specs.Option.{option_map_or}
use Rattle.clap.specs.Words.{Row, Text, first_of}
use Rattle.instance_files.specs.File.{default_scale}
use Rattle.report_text.specs.declared.style.Style.TheVariants as style
use Rattle.command_line.specs.Lines.{arguments_of, settings_options}
use Rattle.command_line.specs.Requests.{request_given}
use Rattle.command_line.specs.Told.{is_misformed, is_missing}
use Rattle.command_line.specs.Values.{format_of, given_or, number_between, number_if, number_or, scale_of, settings_in, style_of}
use Rattle.command_line.specs.declared.argument.Argument.{Argument}
use Rattle.command_line.specs.declared.argument.Argument.TheVariants as argument
use Rattle.command_line.specs.declared.line.CommandName.{CommandName}
use Rattle.command_line.specs.declared.line.CommandName.TheVariants.{Check, Solve, Resume, Generate, Demo}

-- ---- one value

-- a value that is there has not its form
abbrev IsIll : {X : Type 0} → (Text → Option X) → Option Text → Bool
IsIll value_of given = option_map_or (λ text. not (is_some (value_of text))) given false

fits : {X : Type 0} (o : Option X) → not (is_some o) ≡ false → is_some o ≡ true
fits None h = cc
fits (Some x) h = refl

there : {X : Type 0} (o : Option X) → is_none o ≡ false → is_some o ≡ true
there None h = cc
there (Some x) h = refl

required : {X : Type 0} (value_of : Text → Option X) (given : Option Text) → is_none given ≡ false → IsIll value_of given ≡ false
    → is_some (option_and_then value_of given) ≡ true
required value_of None h fit = cc
required value_of (Some text) h fit = fits (value_of text) fit

by_default : {X : Type 0} (default : X) (value_of : Text → Option X) (given : Option Text) → IsIll value_of given ≡ false
    → is_some (given_or default value_of given) ≡ true
by_default default value_of None fit = refl
by_default default value_of (Some text) fit = fits (value_of text) fit

map-some : {X Y : Type 0} (f : X → Y) (o : Option X) → is_some o ≡ true → is_some (option_map f o) ≡ true
map-some f None h = cc
map-some f (Some x) h = refl

and_then-some : {X Y : Type 0} (f : X → Option Y) (o : Option X) → is_some o ≡ true → ((x : X) → is_some (f x) ≡ true)
    → is_some (option_and_then f o) ≡ true
and_then-some f None h each = cc
and_then-some f (Some x) h each = each x

left_out : {X : Type 0} (value_of : Text → Option X) (given : Option Text) → IsIll value_of given ≡ false
    → is_some (given_or None (λ text. option_map (λ n. Some n) (value_of text)) given) ≡ true
left_out value_of None fit = refl
left_out value_of (Some text) fit = map-some (λ n. Some n) (value_of text) (fits (value_of text) fit)

-- ---- all values of a line

-- the test fails at each element
abbrev pub NoneOf : {X : Type 0} → (X → Bool) → List X → Type 0
NoneOf test [] = Unit {0}
NoneOf test (x ∷ xs) = (test x ≡ false) × NoneOf test xs

not_here : {X : Type 0} (test : X → Bool) (x : X) (xs : List X) (b : Bool) → test x ≡ b → find test (x ∷ xs) ≡ None → test x ≡ false
not_here test x xs true e h = let found : find test (x ∷ xs) ≡ Some x = rw e refl in cc
not_here test x xs false e h = e

none_found : {X : Type 0} (test : X → Bool) (xs : List X) → find test xs ≡ None → NoneOf test xs
none_found test [] h = tt
none_found test (x ∷ xs) h =
    let here = not_here test x xs (test x) refl h in
    (here, none_found test xs (subst (λ (b : Bool). cond b (Some x) (find test xs) ≡ None) here h))

-- the settings, where the format is given and each option has its form
settings_some : (rows : List Row) (rest : List Argument) → is_missing rows argument.Format ≡ false
    → NoneOf (is_misformed rows) (settings_options ++ rest) → is_some (settings_in rows) ≡ true
settings_some rows rest is fit =
    and_then-some _ _ (required format_of (first_of (codes "format") rows) is fit.0)
    (λ format. and_then-some _ _ (by_default (default_scale format) scale_of (first_of (codes "scale") rows) fit.1.0)
    (λ scale. and_then-some _ _ (left_out (number_between 1 32) (first_of (codes "team") rows) fit.1.1.0)
    (λ team. and_then-some _ _ (by_default 1000000 (number_between 1 2000000) (first_of (codes "labels") rows) fit.1.1.1.0)
    (λ labels. and_then-some _ _ (by_default 1 (number_between 1 16) (first_of (codes "workers") rows) fit.1.1.1.1.0)
    (λ workers. map-some _ _ (by_default style.Plain style_of (first_of (codes "style") rows) fit.1.1.1.1.1.0))))))

nodes_some : (rows : List Row) → is_misformed rows argument.Nodes ≡ false
    → is_some (number_if (codes "nodes") 1 18446744073709551615 rows) ≡ true
nodes_some rows fit = left_out (number_between 1 18446744073709551615) (first_of (codes "nodes") rows) fit

seed_some : (rows : List Row) → is_misformed rows argument.SearchSeed ≡ false
    → is_some (number_or (codes "seed") 0 18446744073709551615 0 rows) ≡ true
seed_some rows fit = by_default 0 (number_between 0 18446744073709551615) (first_of (codes "seed") rows) fit

-- the options of a search beside its settings
abbrev searching : List Argument
searching = argument.Out ∷ argument.Nodes ∷ argument.SearchSeed ∷ []

-- a line's values ask for something where nothing is missing and nothing misformed
values_some : (name : CommandName) (rows : List Row) → NoneOf (is_missing rows) (arguments_of name)
    → NoneOf (is_misformed rows) (arguments_of name) → is_some (request_given name rows) ≡ true
values_some Check rows m f =
    and_then-some _ _ (there (first_of (codes "INSTANCE") rows) m.0)
    (λ instance. and_then-some _ _ (there (first_of (codes "CERT") rows) m.1.0)
    (λ certificate. map-some _ _ (settings_some rows [] m.1.1.0 f.1.1)))
values_some Solve rows m f =
    and_then-some _ _ (there (first_of (codes "INSTANCE") rows) m.0)
    (λ instance. and_then-some _ _ (there (first_of (codes "cert") rows) m.1.1.1.1.1.1.1.0)
    (λ out. and_then-some _ _ (settings_some rows searching m.1.0 f.1)
    (λ settings. and_then-some _ _ (nodes_some rows f.1.1.1.1.1.1.1.1.0)
    (λ nodes. map-some _ _ (seed_some rows f.1.1.1.1.1.1.1.1.1.0)))))
values_some Resume rows m f =
    and_then-some _ _ (there (first_of (codes "INSTANCE") rows) m.0)
    (λ instance. and_then-some _ _ (there (first_of (codes "CERT") rows) m.1.0)
    (λ certificate. and_then-some _ _ (there (first_of (codes "cert") rows) m.1.1.1.1.1.1.1.1.0)
    (λ out. and_then-some _ _ (settings_some rows searching m.1.1.0 f.1.1)
    (λ settings. and_then-some _ _ (nodes_some rows f.1.1.1.1.1.1.1.1.1.0)
    (λ nodes. map-some _ _ (seed_some rows f.1.1.1.1.1.1.1.1.1.1.0))))))
values_some Generate rows m f =
    and_then-some _ _ (required (number_between 0 18446744073709551615) (first_of (codes "SEED") rows) m.0 f.0)
    (λ seed. and_then-some _ _ (required (number_between 0 300) (first_of (codes "CALLS") rows) m.1.0 f.1.0)
    (λ calls. map-some _ _ (required format_of (first_of (codes "format") rows) m.1.1.0 f.1.1.0)))
values_some Demo rows m f =
    and_then-some _ _ (required (number_between 0 18446744073709551615) (first_of (codes "SEED") rows) m.0 f.0)
    (λ seed. and_then-some _ _ (required (number_between 0 300) (first_of (codes "CALLS") rows) m.1.0 f.1.0)
    (λ calls. map-some _ _ (by_default 1 (number_between 1 16) (first_of (codes "workers") rows) f.1.1.0)))

-- values that ask for nothing, of which nothing is missing, have a misformed one
pub misformed_found : (name : CommandName) (rows : List Row) → request_given name rows ≡ None
    → find (is_missing rows) (arguments_of name) ≡ None → is_some (find (is_misformed rows) (arguments_of name)) ≡ true
misformed_found name rows refused there = go (find (is_misformed rows) (arguments_of name)) refl
  where
    go : (o : Option Argument) → find (is_misformed rows) (arguments_of name) ≡ o → is_some o ≡ true
    go None e =
        let some = values_some name rows (none_found (is_missing rows) (arguments_of name) there) (none_found (is_misformed rows) (arguments_of name) e) in
        let none : is_some (request_given name rows) ≡ false = ap is_some refused in
        cc
    go (Some a) e = refl
