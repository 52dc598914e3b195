use Rattle.std.proofs.Common.{◌≡◌, ℕ, ◌+◌, ◌*◌, ◌<◌, List, length, get_or, sym, ap, ◌∙◌, arith}
use Rattle.orienteering.specs.Instance.{Problem, travel}
use Rattle.orienteering.proofs.ShortLengths.{lengths_are_short}
use Rattle.site_model.specs.Parts.{problem_at}
use Rattle.site_model.proofs.Tables.{length-table, at-table, within-table}
use Rattle.site_model.proofs.instance.Instance.length.Goals as goal

pub index-requires : goal.index-requires
index-requires c =
    let places = c.self.inside.places in
    let count : length (c.args.self.now).sites ≡ length places = ap (λ (p : Problem). length p.sites) (sym c.self.view_is) in
    let lt : c.args.i < length places = omega (arith, count, c.requires.from, c.self.invariant.within.both_ends) in
    let within : c.args.j < length places = omega (arith, count, c.requires.to, c.self.invariant.within.both_ends) in
    let size = c.self.inside.lengths.ok.0 ∙ ap length c.self.invariant.table ∙ length-table _ places in
    rw (ap length c.list-count.ensures, size) (within-table (length places) c.args.i c.args.j lt within)

pub returns-clause-value : goal.returns-clause-value
returns-clause-value c =
    let places = c.self.inside.places in
    let p = problem_at c.self.inside.scale c.self.inside.team places in
    let count : length (c.args.self.now).sites ≡ length places = ap (λ (p : Problem). length p.sites) (sym c.self.view_is) in
    let lt : c.args.i < length places = omega (arith, count, c.requires.from, c.self.invariant.within.both_ends) in
    let within : c.args.j < length places = omega (arith, count, c.requires.to, c.self.invariant.within.both_ends) in
    c.from.ensures
    ∙ c.index.ensures
    ∙ ap (λ (s : List _). get_or c.self.inside.lengths.items (c.args.i * length s + c.args.j) c.index.result.now) c.list-count.ensures
    ∙ ap (λ (t : List ℕ). get_or t (c.args.i * length places + c.args.j) c.index.result.now) c.self.invariant.table
    ∙ at-table p c.args.i c.args.j c.index.result.now lt within
    ∙ ap (λ (p : Problem). travel p c.args.i c.args.j) c.self.view_is

pub returns-clause-within : goal.returns-clause-within
returns-clause-within c =
    let p = problem_at c.self.inside.scale c.self.inside.team c.self.inside.places in
    let same : travel p c.args.i c.args.j ≡ travel c.args.self.now c.args.i c.args.j = ap (λ (p : Problem). travel p c.args.i c.args.j) c.self.view_is in
    omega (arith, returns-clause-value c, same, lengths_are_short p c.args.i c.args.j c.self.invariant.within)
