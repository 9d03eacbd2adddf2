-- Schemas whose names are identifiers.
use Rattle.std.specs.Prelude.{ℕ, ◌≡◌, List, ◌∷◌, ◌++◌, Some, codes, IsTrue}
use Rattle.std.specs.List.{slice_get, flat_map, list_all}
use Rattle.type_layout.specs.declared.schema.Factory.{Factory}
use Rattle.type_layout.specs.Scopes.{Provided}
use Rattle.type_layout.specs.declared.schema.Schema.{Schema}
use Rattle.type_layout.specs.Types.{PlainType, Seq, Arr, Struct, Enum, PlainFields, no_fields, field_and}
use Rattle.type_layout.specs.Sound.{is_name, EachMember, EachHome, EachKey}

-- a name behind the names of the scopes that it stands in
abbrev pub scoped : List ℕ → List (List ℕ) → List ℕ
scoped first others = first ++ flat_map (λ name. codes "::" ++ name) others

-- identifiers, one or several, with `::` between them
abbrev pub IsScopedName : List ℕ → Type 0
IsScopedName name = (first : List ℕ) × (others : List (List ℕ)) × (name ≡ scoped first others) × IsTrue (list_all is_name (first ∷ others))

abbrev mutual
  -- the names of fields and enumerators in the type are identifiers
  pub IsNamed : PlainType → Type 0
  IsNamed (Seq item bound) = IsNamed item
  IsNamed (Arr item n) = IsNamed item
  IsNamed (Struct fields) = AreNamed fields
  IsNamed (Enum names) = IsTrue (list_all is_name names)
  IsNamed _ = Unit {0}

  pub AreNamed : PlainFields → Type 0
  AreNamed no_fields = Unit {0}
  AreNamed (field_and name type fields) = IsTrue (is_name name) × IsNamed type × AreNamed fields

-- homes and catalogs have scoped names, all else has identifiers
pub record IsNamedSchema (S : Schema) : Type 0 where
  pub homes : EachHome S (λ h home. IsScopedName home.name)
  pub members : EachHome S (λ h home. EachMember home.layout.members (λ m. IsTrue (is_name m.name) × IsNamed m.type))
  pub factories : EachHome S (λ h home. (j : ℕ) (f : Factory) → slice_get home.factories j ≡ Some f → IsTrue (is_name f.name))
  pub keys : EachKey S (λ k key. IsTrue (is_name key.name))
  pub provided : (j : ℕ) (p : Provided) → slice_get S.provided j ≡ Some p → IsScopedName p.catalog × IsTrue (is_name p.name)
