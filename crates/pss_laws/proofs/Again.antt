-- Runs one after the other.
use Rattle.std.proofs.Common.{ℕ, zero, suc, List, [], ◌∷◌, ◌++◌}
use Rattle.std.specs.Prelude.{take}
use Rattle.type_layout.specs.declared.schema.Schema.{Schema}
use Rattle.pss_catalog.specs.Catalog.{Catalog, IsUnique}
use Rattle.pss_catalog.specs.Changes.{over}
use Rattle.pss_machine.specs.Beside.{Member}
use Rattle.pss_machine.specs.Run.{first, run}
use Rattle.pss_machine.specs.Serial.{Serial, catalog_after, AllUnique}
use Rattle.pss_laws.specs.Runs.{NextRunsAreSerial}
use Rattle.pss_laws.proofs.History.{each_run}

module _ (S : Schema) where
  serial_both : (M : Catalog) (xs ys : List Member) → Serial S M xs → Serial S (catalog_after M xs) ys → Serial S M (xs ++ ys)
  serial_both M [] ys h g = g
  serial_both M (x ∷ xs) ys h g = (h.0, serial_both (over M x.changes) xs ys h.1 g)

  serial_front : (n : ℕ) (M : Catalog) (xs : List Member) → Serial S M xs → Serial S M (take n xs)
  serial_front zero M xs h = tt
  serial_front (suc n) M [] h = tt
  serial_front (suc n) M (x ∷ xs) h = (h.0, serial_front n (over M x.changes) xs h.1)

  first_unique : (M : Catalog) (xs : List Member) → AllUnique S M xs → IsUnique S M
  first_unique M [] h = h
  first_unique M (x ∷ xs) h = h.0

  unique_front : (n : ℕ) (M : Catalog) (xs : List Member) → AllUnique S M xs → IsUnique S (catalog_after M (take n xs))
  unique_front zero M xs h = first_unique M xs h
  unique_front (suc n) M [] h = h
  unique_front (suc n) M (x ∷ xs) h = unique_front n (over M x.changes) xs h.1

pub next_serial : NextRunsAreSerial
next_serial S limits M next lines sound unique none =
    (λ next_limits n later next_lines none_later.
    (let listed = (each_run S sound limits M next lines unique none).listed in
    let history : List Member = (run S limits (first M next) lines).lists.history in
    let further = (each_run S sound next_limits (catalog_after M (take n history)) later next_lines (unique_front S n M history listed.all_unique) none_later).listed in
    serial_both S M (take n history) (run S next_limits (first (catalog_after M (take n history)) later) next_lines).lists.history (serial_front S n M history listed.serial) further.serial))
