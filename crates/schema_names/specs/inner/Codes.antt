-- That schemas can be told apart: each is stored as its fields.
use Rattle.std.specs.Prelude.{ℕ, List, refl}
use Rattle.std.specs.Coded.{Coded, code_by, coded×, coded_ℕ, coded_list}
use Rattle.type_layout.specs.declared.home.HomeNo.{HomeNo}
use Rattle.type_layout.specs.declared.key.Key.{Key}
use Rattle.type_layout.specs.declared.schema.Home.{Home}
use Rattle.type_layout.specs.Scopes.{Provided}
use Rattle.type_layout.specs.declared.schema.Schema.{Schema}
use Rattle.type_layout.specs.HomeCodes.{homes_code}

abbrev home_no_code : Coded HomeNo
home_no_code = code_by ℕ coded_ℕ (λ h. h.0) (λ n. record { 0 = n }) (λ _. refl)

abbrev key_code : Coded Key
key_code = code_by (List ℕ × (HomeNo × List ℕ)) (coded× (coded_list coded_ℕ) (coded× home_no_code (coded_list coded_ℕ))) (λ k. (k.name, (k.home, k.members)))
    (λ p. record { name = p.0; home = p.1.0; members = p.1.1 }) (λ _. refl)

abbrev provided_code : Coded Provided
provided_code = code_by (List ℕ × (List ℕ × HomeNo)) (coded× (coded_list coded_ℕ) (coded× (coded_list coded_ℕ) home_no_code)) (λ p. (p.catalog, (p.name, p.home)))
    (λ p. record { catalog = p.0; name = p.1.0; home = p.1.1 }) (λ _. refl)

abbrev pub schema_code : Coded Schema
schema_code = code_by (List Home × (List Key × List Provided)) (coded× homes_code (coded× (coded_list key_code) (coded_list provided_code))) (λ S. (S.homes, (S.keys, S.provided)))
    (λ p. record { homes = p.0; keys = p.1.0; provided = p.1.1 }) (λ _. refl)
