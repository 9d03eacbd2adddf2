-- What an index stands for.
use Rattle.std.specs.Prelude.{ℕ, refl}
use Rattle.std.specs.Ordering.{nat_cmp}
use Rattle.std.specs.Cmp.Lexicographic.{slice_cmp}
use Rattle.std.specs.Coded.{Coded, code_by, coded×, coded_ℕ, coded_list}
use Rattle.std.specs.FinMap as map
use Rattle.std.specs.FinSet as set

-- which keys are held, each with its serial, and which keys are reserved
pub record Index : Type 0 where
  pub held : map.FinMap (slice_cmp nat_cmp) ℕ
  pub reserved : set.FinSet (slice_cmp nat_cmp)

-- an index is stored as the pair of its map and its set
abbrev pub index_code : Coded Index
index_code =
    code_by
    (map.FinMap (slice_cmp nat_cmp) ℕ × set.FinSet (slice_cmp nat_cmp))
    (coded× (map.code (coded_list coded_ℕ) coded_ℕ) (set.code (coded_list coded_ℕ)))
    (λ k. (k.held, k.reserved))
    (λ p. record { held = p.0; reserved = p.1 })
    (λ _. refl)
