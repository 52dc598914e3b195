-- How the state of a store is stored.
use Rattle.std.specs.Prelude.{ℕ, List, Option, refl}
use Rattle.std.specs.FinMap as finite
use Rattle.std.specs.Coded.{Coded, code_by, coded×, coded_ℕ, coded_list, coded_option}
use Rattle.edge_core.specs.Store.{Files, StoreState}

-- it is stored as its fields, one after another
abbrev pub store_code : Coded StoreState
store_code =
    code_by (Option Files × (ℕ × (ℕ × List ℕ))) (coded× (coded_option (finite.code (coded_list coded_ℕ) (coded_list coded_ℕ))) (coded× coded_ℕ (coded× coded_ℕ (coded_list coded_ℕ)))) (λ s. (s.files, (s.get_faults, (s.put_faults, s.failed)))) (λ p. record {
      files = p.0;
      get_faults = p.1.0;
      put_faults = p.1.1.0;
      failed = p.1.1.1;
    }) (λ _. refl)
