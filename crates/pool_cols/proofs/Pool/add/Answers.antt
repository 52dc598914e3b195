use Rattle.std.proofs.Common.{◌≡◌, [], ◌∷◌, ◌++◌, sym, ap, ◌∙◌, subst}
use Rattle.std.proofs.lemmas.Map.Made.{is_some-lookup}
use Rattle.indexmap.proofs.CallerLemmas.{insert_entry-new}
use Rattle.pool_cols.specs.Pool.{IsPoolOf, same_calls, with_tour}
use Rattle.pool_cols.proofs.Places.{with_known, with_new, none_from, kept_with}
use Rattle.pool_cols.proofs.Pool.add.Goals as goal

pub returns-in-Some-clause-pool : goal.returns-in-Some-clause-pool
returns-in-Some-clause-pool c =
    subst (λ pool. pool ≡ with_tour c.args.inst.now pool c.args.tour) c.self.view_is
    (with_known c.args.inst.now c.self.inside.columns.entries c.args.tour
    (sym (is_some-lookup (same_calls c.args.tour) c.self.inside.columns.entries) ∙ sym c.in-Some.ensures.found))

pub returns-in_ok-place-in-None-clause-pool : goal.returns-in_ok-place-in-None-clause-pool
returns-in_ok-place-in-None-clause-pool c =
    let absent = sym c.in-None.ensures.found in
    subst (λ pool. c.insert_full.new.self.entries ≡ with_tour c.args.inst.now pool c.args.tour) c.self.view_is
    (c.in_ok-place-in-None.ensures.entries
    ∙ insert_entry-new same_calls c.self.inside.columns c.args.tour c.tour_point-point.result (none_from _ absent)
    ∙ ap (λ v. c.self.inside.columns.entries ++ (c.args.tour, v) ∷ []) c.tour_point-point.ensures
    ∙ with_new c.args.inst.now c.self.inside.columns.entries c.args.tour
    (sym (is_some-lookup (same_calls c.args.tour) c.self.inside.columns.entries) ∙ absent))

pub returns-in_ok-place-in-None-clause-kept : goal.returns-in_ok-place-in-None-clause-kept
returns-in_ok-place-in-None-clause-kept c =
    let absent = sym c.in-None.ensures.found in
    let p = c.args.inst.now in
    let now = c.in_ok-place-in-None.ensures.entries
    ∙ insert_entry-new same_calls c.self.inside.columns c.args.tour c.tour_point-point.result (none_from _ absent)
    ∙ ap (λ v. c.self.inside.columns.entries ++ (c.args.tour, v) ∷ []) c.tour_point-point.ensures
    ∙ with_new p c.self.inside.columns.entries c.args.tour
    (sym (is_some-lookup (same_calls c.args.tour) c.self.inside.columns.entries) ∙ absent) in
    λ is. subst (IsPoolOf p) (sym now)
    (kept_with p c.self.inside.columns.entries c.args.tour c.requires (subst (IsPoolOf p) (sym c.self.view_is) is))
