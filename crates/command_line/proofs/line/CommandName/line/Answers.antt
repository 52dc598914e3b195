use Rattle.std.proofs.Common.{rules, ◌≡◌, ◌∙◌, ap, codes, sym}
use Rattle.command_line.specs.Lines.{app_by, arguments_of, simple_app}
use Rattle.command_line.specs.declared.line.CommandName.TheVariants.{Check, Solve, Resume, Generate, Demo}
use Rattle.command_line.proofs.PlainLines.{check_app-is, demo_app-is, generate_app-is, line_is_plain, resume_app-is, solve_app-is}
use Rattle.command_line.proofs.line.CommandName.line.Goals as goal

pub returns-in-Check-clause-app : goal.returns-in-Check-clause-app
returns-in-Check-clause-app c =
    let arguments : c.as_slice.result.now ≡ arguments_of Check = search rules in
    ap (simple_app (codes "check")) arguments ∙ (check_app-is ∙ ap app_by (sym c.in-Check.is))

pub returns-in-Solve-clause-app : goal.returns-in-Solve-clause-app
returns-in-Solve-clause-app c =
    let arguments : c.as_slice-in-Solve.result.now ≡ arguments_of Solve = search rules in
    ap (simple_app (codes "solve")) arguments ∙ (solve_app-is ∙ ap app_by (sym c.in-Solve.is))

pub returns-in-Resume-clause-app : goal.returns-in-Resume-clause-app
returns-in-Resume-clause-app c =
    let arguments : c.as_slice-in-Resume.result.now ≡ arguments_of Resume = search rules in
    ap (simple_app (codes "resume")) arguments ∙ (resume_app-is ∙ ap app_by (sym c.in-Resume.is))

pub returns-in-Generate-clause-app : goal.returns-in-Generate-clause-app
returns-in-Generate-clause-app c =
    let arguments : c.as_slice-in-Generate.result.now ≡ arguments_of Generate = search rules in
    ap (simple_app (codes "generate")) arguments ∙ (generate_app-is ∙ ap app_by (sym c.in-Generate.is))

pub returns-in-Demo-clause-app : goal.returns-in-Demo-clause-app
returns-in-Demo-clause-app c =
    let arguments : c.as_slice-in-Demo.result.now ≡ arguments_of Demo = search rules in
    ap (simple_app (codes "demo")) arguments ∙ (demo_app-is ∙ ap app_by (sym c.in-Demo.is))

pub returns-in-Check-clause-plain : goal.returns-in-Check-clause-plain
returns-in-Check-clause-plain c = line_is_plain c.args.self

pub returns-in-Solve-clause-plain : goal.returns-in-Solve-clause-plain
returns-in-Solve-clause-plain c = line_is_plain c.args.self

pub returns-in-Resume-clause-plain : goal.returns-in-Resume-clause-plain
returns-in-Resume-clause-plain c = line_is_plain c.args.self

pub returns-in-Generate-clause-plain : goal.returns-in-Generate-clause-plain
returns-in-Generate-clause-plain c = line_is_plain c.args.self

pub returns-in-Demo-clause-plain : goal.returns-in-Demo-clause-plain
returns-in-Demo-clause-plain c = line_is_plain c.args.self
