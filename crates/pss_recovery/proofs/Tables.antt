-- Keys in a table, each behind its number.
use Rattle.std.proofs.Common.{ℕ, ◌≡◌, ◌↔◌, Bool, true, false, List, Option, Some, cond, refl, sym, ap, ◌∙◌}
use Rattle.std.specs.Prelude.{◌||◌, is_some}
use Rattle.std.specs.FinMap as map
use Rattle.std.specs.FinSet as set_of
use Rattle.std.specs.Ordering.{nat_cmp}
use Rattle.std.specs.Cmp.Lexicographic.{slice_cmp}
use Rattle.std.specs.Str.{bytes_eq}
use Rattle.std.proofs.lemmas.Slice.Eq.{bytes_eq-Decides}
use Rattle.type_layout.specs.declared.key.KeyNo.{KeyNo}
use Rattle.type_layout.specs.declared.schema.Schema.{Schema}
use Rattle.pss_catalog.specs.Catalog.{Catalog}
use Rattle.key_index.specs.Index.{Index}
use Rattle.storage_home.proofs.Holding.{held_with, reserved_with}
use Rattle.pss_recovery.specs.inner.Claims.{IsOpen, Keys, is_in, tagged}

pub bytes_are : (a b : List ℕ) → a ≡ b → bytes_eq a b ≡ true
bytes_are a b e = (bytes_eq-Decides a b).1 e

some_with : (b : Bool) (o : Option ℕ) (n : ℕ) → is_some (cond b (Some n) o) ≡ (b || is_some o)
some_with true o n = refl
some_with false o n = refl

-- a tag was put, or was there
pub put_is : (old new : Index) (octets : List ℕ) (n : ℕ) → new.held ≡ map.insert old.held octets n → (key : ℕ) (bytes : List ℕ) → is_in new key bytes ≡ (bytes_eq (tagged key bytes) octets || is_in old key bytes)
put_is old new octets n is key bytes = ap (λ m. is_some (map.get m (tagged key bytes))) is ∙ ap is_some (held_with old.held octets n (tagged key bytes)) ∙ some_with (bytes_eq (tagged key bytes) octets) (map.get old.held (tagged key bytes)) n

-- an empty table has no key
pub none_in : (table : Index) → table.held ≡ map.empty → (key : ℕ) (bytes : List ℕ) → is_in table key bytes ≡ false
none_in table is key bytes = ap (λ m. is_some (map.get m (tagged key bytes))) is ∙ ap is_some (map.get-empty (slice_cmp nat_cmp) (tagged key bytes))

pub or_none : (a b : Bool) → b ≡ false → (a || b) ≡ a
or_none true b e = refl
or_none false b e = e

pub reserved_now : (m : set_of.FinSet (slice_cmp nat_cmp)) (octets : List ℕ) → set_of.contains (set_of.insert m octets) octets ≡ true
reserved_now m octets = reserved_with m octets octets ∙ ap (λ b. cond b true (set_of.contains m octets)) (bytes_are octets octets refl)

-- the same sets at one key
pub open_same : (S : Schema) (M : Catalog) (gone other taken others : Keys) (key : KeyNo) (bytes : List ℕ) → gone key.0 bytes ≡ other key.0 bytes → taken key.0 bytes ≡ others key.0 bytes → IsOpen S M gone taken key bytes ↔ IsOpen S M other others key bytes
open_same S M gone other taken others key bytes a b = (
  λ o. record { free = sym b ∙ o.free; held = λ h. sym a ∙ o.held h },
  λ o. record { free = b ∙ o.free; held = λ h. a ∙ o.held h },
)
