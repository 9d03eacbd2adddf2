-- That objects and catalogs can be told apart, so that they may stand in a model.
use Rattle.std.specs.Prelude.{ℕ, List, refl}
use Rattle.std.specs.Coded.{Coded, code_by, coded×, coded_ℕ}
use Rattle.type_layout.specs.Types.{PlainValue}
use Rattle.type_layout.specs.Codes.{record_code}
use Rattle.pss_catalog.specs.Catalog.{Object}

abbrev pub object_code : Coded Object
object_code = code_by (ℕ × List PlainValue) (coded× coded_ℕ record_code) (λ o. (o.home.0, o.values)) (λ p. record { home = record { 0 = p.0 }; values = p.1 }) (λ _. refl)
