-- Each command line is one of which clap promises what it makes of the words.
use Rattle.std.proofs.Common.{◌≡◌, codes, refl}
use Rattle.clap.proofs.OnLiterals.{clap_on_literals}
use Rattle.command_line.specs.Lines.{IsPlainApp, app_by, arguments_of, check_app, demo_app, generate_app, resume_app, simple_app, solve_app}
use Rattle.command_line.specs.declared.line.CommandName.{CommandName}
use Rattle.command_line.specs.declared.line.CommandName.TheVariants.{Check, Solve, Resume, Generate, Demo}

-- ---- the arguments of each line

pub check_app-is : simple_app (codes "check") (arguments_of Check) ≡ check_app
unfolding check_app
check_app-is = refl

pub solve_app-is : simple_app (codes "solve") (arguments_of Solve) ≡ solve_app
unfolding solve_app
solve_app-is = refl

pub resume_app-is : simple_app (codes "resume") (arguments_of Resume) ≡ resume_app
unfolding resume_app
resume_app-is = refl

pub generate_app-is : simple_app (codes "generate") (arguments_of Generate) ≡ generate_app
unfolding generate_app
generate_app-is = refl

pub demo_app-is : simple_app (codes "demo") (arguments_of Demo) ≡ demo_app
unfolding demo_app
demo_app-is = refl

-- ---- each line is plain

check_is_plain : IsPlainApp check_app
unfolding clap_on_literals check_app
check_is_plain = (refl, refl)

solve_is_plain : IsPlainApp solve_app
unfolding clap_on_literals solve_app
solve_is_plain = (refl, refl)

resume_is_plain : IsPlainApp resume_app
unfolding clap_on_literals resume_app
resume_is_plain = (refl, refl)

generate_is_plain : IsPlainApp generate_app
unfolding clap_on_literals generate_app
generate_is_plain = (refl, refl)

demo_is_plain : IsPlainApp demo_app
unfolding clap_on_literals demo_app
demo_is_plain = (refl, refl)

pub line_is_plain : (name : CommandName) → IsPlainApp (app_by name)
line_is_plain Check = check_is_plain
line_is_plain Solve = solve_is_plain
line_is_plain Resume = resume_is_plain
line_is_plain Generate = generate_is_plain
line_is_plain Demo = demo_is_plain
