-- The form of each value, and its default.
use Rattle.std.specs.Prelude.{ℕ, Bool, List, Option, Some, None, length, ◌&&◌, nat_lt, nat_le, codes, if◌then◌else◌, option_and_then, option_map}
use Rattle.std.specs.List.{list_all}
use Rattle.std.specs.Char.{digit_value}
use Rattle.std.specs.Option.{option_map_or}
use Rattle.std.specs.Str.{bytes_eq}
use Rattle.std.specs.Str.Parse.{digits_value, without_leading_plus}
use Rattle.clap.specs.Words.{Row, Text, first_of}
use Rattle.fixed_num.specs.declared.length.Scale.{Scale}
use Rattle.fixed_num.specs.declared.length.Scale.TheVariants as scale
use Rattle.command_line.specs.declared.settings.Settings.{Settings}
use Rattle.instance_files.specs.File.{default_scale}
use Rattle.instance_files.specs.declared.file.Format.{Format}
use Rattle.instance_files.specs.declared.file.Format.TheVariants as format
use Rattle.report_text.specs.declared.style.Style.{Style}
use Rattle.report_text.specs.declared.style.Style.TheVariants as style

-- ---- forms

abbrev pub format_of : Text → Option Format
format_of text = if bytes_eq text (codes "op") then Some format.Op
    else (if bytes_eq text (codes "top") then Some format.Top
    else (if bytes_eq text (codes "toptw") then Some format.Toptw else None))

abbrev pub scale_of : Text → Option Scale
scale_of text = if bytes_eq text (codes "1") then Some scale.One
    else (if bytes_eq text (codes "10") then Some scale.Ten
    else (if bytes_eq text (codes "100") then Some scale.Hundred
    else (if bytes_eq text (codes "1000") then Some scale.Thousand else None)))

abbrev pub style_of : Text → Option Style
style_of text = if bytes_eq text (codes "plain") then Some style.Plain
    else (if bytes_eq text (codes "table") then Some style.Table else None)

-- one decimal digit or more
abbrev pub is_numeral : Text → Bool
is_numeral digits = nat_lt 0 (length digits) && list_all (λ d. nat_lt (digit_value d) 10) digits

-- the number that the text spells in decimal digits, behind one plus at most, where it lies between both ends
abbrev pub number_between : ℕ → ℕ → Text → Option ℕ
number_between low high text =
    let digits = without_leading_plus text in let n = digits_value 10 digits in
    if is_numeral digits && (nat_le low n && nat_le n high) then Some n else None

-- ---- what the values of a command's line give

-- the value of an option, or its default where the option isn't given
abbrev pub given_or : {X : Type 0} → X → (Text → Option X) → Option Text → Option X
given_or default value_of given = option_map_or value_of given (Some default)

abbrev pub format_in : List Row → Option Format
format_in rows = option_and_then format_of (first_of (codes "format") rows)

abbrev pub scale_in : Format → List Row → Option Scale
scale_in f rows = given_or (default_scale f) scale_of (first_of (codes "scale") rows)

abbrev pub style_in : List Row → Option Style
style_in rows = given_or style.Plain style_of (first_of (codes "style") rows)

-- a required number
abbrev pub number_in : Text → ℕ → ℕ → List Row → Option ℕ
number_in id low high rows = option_and_then (number_between low high) (first_of id rows)

-- a number with a default
abbrev pub number_or : Text → ℕ → ℕ → ℕ → List Row → Option ℕ
number_or id low high default rows = given_or default (number_between low high) (first_of id rows)

-- a number that may be left out
abbrev pub number_if : Text → ℕ → ℕ → List Row → Option (Option ℕ)
number_if id low high rows =
    given_or None (λ text. option_map (λ n. Some n) (number_between low high text)) (first_of id rows)

-- how an instance is read, checked and reported
abbrev pub settings_in : List Row → Option Settings
settings_in rows = option_and_then (λ format. option_and_then (λ scale.
    option_and_then (λ team. option_and_then (λ labels. option_and_then (λ workers.
    option_map (λ style. record {
      format = format;
      scale = scale;
      team = team;
      labels = labels;
      workers = workers;
      style = style;
    }) (style_in rows))
    (number_or (codes "workers") 1 16 1 rows))
    (number_or (codes "labels") 1 2000000 1000000 rows))
    (number_if (codes "team") 1 32 rows))
    (scale_in format rows))
    (format_in rows)
