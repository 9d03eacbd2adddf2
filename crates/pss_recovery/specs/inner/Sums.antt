-- What changes take from the sum over the objects, and what they add to it.
use Rattle.std.specs.Prelude.{ℕ, ◌+◌, List, [], ◌∷◌, length}
use Rattle.type_layout.specs.declared.schema.Schema.{Schema}
use Rattle.type_layout.specs.Schemas.{given}
use Rattle.pss_base.specs.declared.put.Put.{Put}
use Rattle.pss_catalog.specs.Catalog.{Catalog, weight_at}
use Rattle.storage_home.specs.declared.change.Change.{Change}

-- the weights of the objects that change
abbrev pub old_weights : Schema → Catalog → List Change → ℕ
old_weights S M [] = 0
old_weights S M (change ∷ changes) = weight_at S M change.put.serial + old_weights S M changes

-- 16 and the length of a record, 0 where there is none
abbrev pub put_weight : Put → ℕ
put_weight put = given put.bytes 0 (λ octets. 16 + length octets)

-- the weights of the objects that they make
abbrev pub new_weights : List Change → ℕ
new_weights [] = 0
new_weights (change ∷ changes) = put_weight change.put + new_weights changes
