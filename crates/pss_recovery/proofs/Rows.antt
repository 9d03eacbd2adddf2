-- What a row has.
use Rattle.std.proofs.Common.{ℕ, ◌≡◌, inl, inr, List, [], append-nil, Option, None, Some, IsSome, refl, sym, ap, ◌∙◌, subst}
use Rattle.std.proofs.lemmas.Bool.{false≢true}
use Rattle.pss_base.specs.declared.damage.DamageKind.{DamageKind}
use Rattle.pss_base.specs.declared.put.Put.{Put}
use Rattle.type_layout.specs.declared.schema.Home.{Home}
use Rattle.type_layout.specs.declared.schema.Schema.{Schema}
use Rattle.type_layout.specs.Schemas.{given, home_at, members_at}
use Rattle.type_layout.specs.Spelling.{record_spelling}
use Rattle.type_layout.specs.Types.{PlainMember, PlainValue}
use Rattle.type_layout.specs.Values.{IsRecord}
use Rattle.type_layout.specs.declared.home.HomeNo.{HomeNo}
use Rattle.type_layout.proofs.Records.{records_apart}
use Rattle.pss_catalog.specs.Catalog.{Object}
use Rattle.storage_home.specs.Applied.{IsState}
use Rattle.pss_recovery.specs.Loading.{IsStored, RefersBelow}
use Rattle.pss_recovery.specs.inner.Checks.{IsWrongAlone, object_of}
use Rattle.pss_recovery.specs.inner.Altering.{HasState}
use Rattle.pss_recovery.proofs.Additions.{home_there}

-- the octets of a row spell the record of its object
pub stored_of : (S : Schema) (row : Put) (home : Home) (octets : List ℕ) (values : List PlainValue) → home_at S (record { 0 = row.home }) ≡ Some home → row.bytes ≡ Some octets → IsRecord home.layout.members values → octets ≡ record_spelling home.layout.members values → IsStored S row (object_of row values)
stored_of S row home octets values there is of spelled =
    let same : members_at S (record { 0 = row.home }) ≡ home.layout.members = ap (λ o. given o [] (λ h. h.layout.members)) there in
    subst (λ (o : Option (List ℕ)). IsState S row.home o (Some (object_of row values))) (sym is)
    (refl, (subst IsSome (sym there) refl, subst (λ (m : List PlainMember). IsRecord m values) (sym same) of), spelled ∙ ap (λ m. record_spelling m values) (sym same))

-- a row is that of one object
pub one_object : (S : Schema) (row : Put) (x y : Object) → IsStored S row x → IsStored S row y → x ≡ y
one_object S row x y a b = by row.bytes a b
  where
    by : (bytes : Option (List ℕ)) → IsState S row.home bytes (Some x) → IsState S row.home bytes (Some y) → x ≡ y
    by None a b = absurd a
    by (Some octets) a b =
        let home : x.home ≡ y.home = λ i. record { 0 = (a.0 ∙ sym b.0) i } in
        let of : IsRecord (members_at S x.home) y.values = subst (λ (h : HomeNo). IsRecord (members_at S h) y.values) (sym home) b.1.1 in
        let spelled : record_spelling (members_at S x.home) x.values ≡ record_spelling (members_at S x.home) y.values = sym a.2 ∙ b.2 ∙ ap (λ (h : HomeNo). record_spelling (members_at S h) y.values) (sym home) in
        let values = (records_apart (members_at S x.home) x.values y.values a.1.1 of [] [] (append-nil (record_spelling (members_at S x.home) x.values) ∙ spelled ∙ sym (append-nil (record_spelling (members_at S x.home) y.values)))).0 in
        ap (λ (v : List PlainValue). record { home = x.home; values = v }) values ∙ ap (λ (h : HomeNo). record { home = h; values = y.values }) home

-- a row that is wrong by itself has no state with which it could be right
pub no_state : (S : Schema) (next : ℕ) (row : Put) (k : DamageKind) (state : Option Object) → IsSome row.bytes → IsWrongAlone S next row k → HasState S next row state → ⊥
no_state S next row k None some wrong has = none row.bytes some has.stored
  where
    none : (bytes : Option (List ℕ)) → IsSome bytes → IsState S row.home bytes None → ⊥
    none None some state = false≢true some
    none (Some octets) some state = state
no_state S next row k (Some object) some (inl home) has = false≢true (subst IsSome home.1 (home_there S row object has.stored))
no_state S next row k (Some object) some (inr (inl record_)) has = record_.2 object has.stored
no_state S next row k (Some object) some (inr (inr refers)) has = refers.1.2 (subst (RefersBelow next) (one_object S row object refers.1.0 has.stored refers.1.1) has.refers)
