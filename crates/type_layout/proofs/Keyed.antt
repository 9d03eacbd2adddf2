-- A record of a home that has a key has for each of the key's members a value of its type.
use Rattle.std.proofs.Common.{ℕ, zero, suc, ◌≡◌, List, [], ◌∷◌, Some, refl, sym, ap, ◌∙◌, subst}
use Rattle.std.specs.List.{slice_get}
use Rattle.type_layout.specs.declared.key.KeyNo.{KeyNo}
use Rattle.type_layout.specs.declared.key.Key.{Key}
use Rattle.type_layout.specs.declared.schema.Schema.{Schema}
use Rattle.type_layout.specs.Types.{PlainType, PlainValue, PlainMember}
use Rattle.type_layout.specs.Values.{Of, IsRecord}
use Rattle.type_layout.specs.Schemas.{key_at, members_at}
use Rattle.type_layout.specs.Keys.{FitsAt, AreFit, IsRecordWith}
use Rattle.type_layout.specs.Sound.{IsSoundSchema, IsKeyMember}

-- the value of a record's member is of the member's type
pub member_of : (ms : List PlainMember) (vs : List PlainValue) → IsRecord ms vs → (i : ℕ) (m : PlainMember) (v : PlainValue) → slice_get ms i ≡ Some m → slice_get vs i ≡ Some v → Of m.type v
member_of [] vs of i m v h k = absurd cc
member_of (x ∷ ms) [] of i m v h k = absurd of
member_of (x ∷ ms) (y ∷ vs) of zero m v h k =
    let same_m : x ≡ m = cc in
    let same_v : y ≡ v = cc in
    subst (λ (n : PlainMember). Of n.type v) same_m (subst (Of x.type) same_v of.0)
member_of (x ∷ ms) (y ∷ vs) of (suc i) m v h k = member_of ms vs of.1 i m v h k

fits_at : (own other : List PlainMember) (vs : List PlainValue) (i : ℕ) → IsRecord other vs → IsKeyMember own other i → FitsAt own vs i
fits_at own other vs i of is m v h k =
    let same : is.0 ≡ m = (let e = is.2 in cc) in
    subst (λ (t : PlainType). Of t v) (sym is.4 ∙ ap (λ (n : PlainMember). n.type) same) (member_of other vs of i is.1 v is.3 k)

fit : (own other : List PlainMember) (vs : List PlainValue) → IsRecord other vs → (is : List ℕ) → ((j i : ℕ) → slice_get is j ≡ Some i → IsKeyMember own other i) → AreFit own vs is
fit own other vs of [] each = tt
fit own other vs of (i ∷ is) each = (fits_at own other vs i of (each 0 i refl), fit own other vs of is (λ j k h. each (suc j) k h))

pub key_fits : (S : Schema) → IsSoundSchema S → (k : KeyNo) (vs : List PlainValue) → IsRecordWith S k vs → (key : Key) → key_at S k ≡ Some key → AreFit (members_at S key.home) vs key.members
key_fits S sound k vs of key at = fit (members_at S key.home) of.home.layout.members vs of.of_home key.members (sound.key_types k key at of.number of.home of.there of.keyed)

-- the same of lists that are equal to these
pub ready : (S : Schema) → IsSoundSchema S → (k : KeyNo) (vs : List PlainValue) → IsRecordWith S k vs → (key : Key) → key_at S k ≡ Some key → (M : List PlainMember) (V : List PlainValue) (I : List ℕ) → M ≡ members_at S key.home → V ≡ vs → I ≡ key.members → AreFit M V I
ready S sound k vs of key at M V I m v i =
    subst (λ (l : List PlainMember). AreFit l V I) (sym m) (subst (λ (l : List PlainValue). AreFit (members_at S key.home) l I) (sym v) (subst (λ (l : List ℕ). AreFit (members_at S key.home) vs l) (sym i) (key_fits S sound k vs of key at)))
