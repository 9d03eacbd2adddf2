-- The objects in pages that were read.
use Rattle.std.proofs.Common.{ℕ, ◌≡◌, ◌⊎◌, inl, inr, ◌+◌, ◌<◌, ◌≤◌, List, [], length, Option, None, Some, IfSome, Result, Err, slice_index, refl, sym, ap, ◌∙◌, subst, arith}
use Rattle.std.proofs.lemmas.Option.{slice_get_within}
use Rattle.std.specs.FinMap.{empty}
use Rattle.pss_base.specs.declared.damage.DamageKind.{DamageKind}
use Rattle.pss_base.specs.declared.damage.DamageKind.TheVariants as kind
use Rattle.pss_base.specs.declared.put.Put.{Put}
use Rattle.type_layout.specs.declared.schema.Schema.{Schema}
use Rattle.pss_catalog.specs.Catalog.{Catalog}
use Rattle.storage_home.specs.Kept.{most}
use Rattle.storage_home.specs.declared.homes.Homes.{Homes}
use Rattle.page_store.specs.Kept.{IsKept as ArePagesKept, rows_in}
use Rattle.page_format.specs.Pages.{ArePages}
use Rattle.page_format.specs.Roots.{IsWithinLimits}
use Rattle.page_format.specs.Rows.{AreRows, weights}
use Rattle.page_store.specs.declared.pages.Fetched.{Fetched}
use Rattle.page_format.specs.declared.root.Root.{Root}
use Rattle.pss_recovery.specs.Loading.{AreLoaded, IsRowDamage, IsWrongRow, entry_places}
use Rattle.pss_recovery.specs.Stands.{IsPaged, IsRefusal, IsRooted}
use Rattle.pss_recovery.specs.declared.fault.MountFault.TheVariants as fault
use Rattle.pss_recovery.specs.declared.loading.LoadStop.{LoadStop}
use Rattle.pss_recovery.specs.declared.loading.LoadStop.TheVariants as load
use Rattle.pss_recovery.specs.inner.Adding.{HasHeld}
use Rattle.pss_recovery.specs.inner.Checks.{IsWrongAlone}
use Rattle.pss_recovery.specs.inner.Mounting.{HasLoaded, IsFetched, IsLoadStop, IsLoadedFrom, offset_of}
use Rattle.pss_recovery.specs.inner.Rowwise.{AreOver, AreWithin, IsWrongAt}
use Rattle.pss_recovery.proofs.EntryPlaces.{length-entry_places}
use Rattle.pss_recovery.proofs.Goods.{pages_good}

-- ---- what loading asks of rows

pub few_octets : (root : Root) (rows : List Put) → IsWithinLimits root → AreRows root.next (length root.slots) rows → weights rows ≤ most
few_octets root rows limits are = omega (arith, are.sum, limits.slots_)

-- ---- a row that is wrong

row_wrong : (S : Schema) (next : ℕ) (before : Catalog) (row : Put) (place : ℕ) (k : DamageKind) → IsWrongAlone S next row k ⊎ HasHeld S next before row k → IsWrongRow S next before row place (place + offset_of k) k
row_wrong S next before row place k (inl (inl (is, none))) = inl (record { kind_ = is; place_ = ap (λ j. place + offset_of j) is ∙ omega arith; none = none })
row_wrong S next before row place k (inl (inr (inl (is, home, none)))) = inr (inl (record { kind_ = is; place_ = ap (λ j. place + offset_of j) is; home = home; none = none }))
row_wrong S next before row place k (inl (inr (inr (is, (object, stored, above))))) = inr (inr (inl (record { kind_ = is; place_ = ap (λ j. place + offset_of j) is ∙ omega arith; object = object; stored = stored; above = above })))
row_wrong S next before row place k (inr held) =
    inr (inr (inr (record { kind_ = held.kind_; place_ = ap (λ j. place + offset_of j) held.kind_ ∙ omega arith; object = held.object; stored = held.stored; refers = held.refers; held = held.held })))

pub wrong_refused : (S : Schema) (root : Root) (image : List ℕ) (index place : ℕ) (k : DamageKind) → IsPaged S root image → IsWrongAt S root.next (rows_in image root.slots) index k
    → ((next : ℕ) → ArePages next root.slots image → index < length (entry_places image root.slots) → place ≡ slice_index (entry_places image root.slots) index) → IsRefusal S (fault.Damaged (place + offset_of k) k) image
wrong_refused S root image index place k paged wrong found =
    let within : index < length (entry_places image root.slots) = omega (arith, length-entry_places image root.slots, slice_get_within (rows_in image root.slots) index wrong.row wrong.there) in
    let there = found root.next paged.pages within in
    let damage : IsRowDamage S root.next (rows_in image root.slots) (entry_places image root.slots) (place + offset_of k) k =
    record {
      index = index;
      row = wrong.row;
      there = wrong.there;
      before = wrong.before;
      loaded = wrong.loaded;
      wrong = subst (λ (n : ℕ). IsWrongRow S root.next wrong.before wrong.row n (place + offset_of k) k) there (row_wrong S root.next wrong.before wrong.row place k wrong.wrong);
    }
    in
    inr (inr (inl (record { root = root; paged = paged; wrong = inl damage })))

pub total_refused : (S : Schema) (root : Root) (image : List ℕ) → IsPaged S root image → AreOver S root.next (rows_in image root.slots) → IsRefusal S (fault.Damaged 4456448 kind.Total) image
total_refused S root image paged over = inr (inr (inl (record { root = root; paged = paged; wrong = inr (record { kind_ = refl; place_ = refl; all = over.catalog; loaded = over.loaded; over = over.over }) })))

-- a stop of loading
pub stop_told : {T : Type 0} (S : Schema) (next : ℕ) (rows : List Put) (r : Result T LoadStop) (stop : LoadStop) → r ≡ Err stop → ((index : ℕ) (k : DamageKind) → r ≡ Err (load.Wrong index k) → IsWrongAt S next rows index k) → (r ≡ Err load.Total → AreOver S next rows) → IsLoadStop S next rows stop
stop_told S next rows r (load.Wrong index k) e wrong total = wrong index k e
stop_told S next rows r load.Total e wrong total = total e
stop_told S next rows r load.NoMemory e wrong total = tt

pub stop_refused : (S : Schema) (root : Root) (fetched : Fetched) (stop : LoadStop) (result : _) (content : Option (List ℕ)) → IfSome content (IsRooted S root) → IfSome content (IsFetched root fetched) → IsLoadStop S root.next fetched.rows stop
    → IfSome content (λ c. IsPaged S root c → IsLoadStop S root.next (rows_in c root.slots) stop → IsRefusal S result c) → IfSome content (IsRefusal S result)
stop_refused S root fetched stop result None rooted fetch told refused = tt
stop_refused S root fetched stop result (Some c) rooted fetch told refused = refused (record { rooted = rooted; pages = fetch.pages_ }) (subst (λ (rows : List Put). IsLoadStop S root.next rows stop) fetch.rows_ told)

-- ---- rows that were loaded

pub has_loaded : (S : Schema) (root : Root) (fetched : Fetched) (homes : Homes) (content : Option (List ℕ)) → IsWithinLimits root → IfSome content (IsRooted S root) → IfSome content (IsFetched root fetched) → AreRows root.next (length root.slots) fetched.rows → fetched.pages.noted ≡ []
    → AreWithin S root.next fetched.rows homes → HasLoaded S root (record { pages = fetched.pages; homes = homes }) content
has_loaded S root fetched homes content limits rooted fetch rows noted within = record {
  base = within.catalog;
  good = pages_good S root.next fetched.rows within.catalog limits.next_ rows.given rows.right within.loaded within.bounded;
  kept = within.kept;
  told = by content rooted fetch;
  noted = noted;
}
  where
    by : (o : Option (List ℕ)) → IfSome o (IsRooted S root) → IfSome o (IsFetched root fetched) → IfSome o (IsLoadedFrom S root within.catalog (record { pages = fetched.pages; homes = homes }))
    by None rooted fetch = tt
    by (Some c) rooted fetch = record {
      loaded_ = record { paged = record { rooted = rooted; pages = fetch.pages_ }; loaded = subst (λ (l : List Put). AreLoaded S root.next empty l within.catalog) fetch.rows_ within.loaded; bounded = within.bounded };
      pages_ = fetch.kept;
    }

pub is_fetched : (root : Root) (fetched : Fetched) (content now : Option (List ℕ)) → now ≡ content → IfSome content (ArePages root.next root.slots) → IfSome content (λ c. fetched.rows ≡ rows_in c root.slots) → IfSome content (ArePagesKept root fetched.pages) → IfSome now (IsFetched root fetched)
is_fetched root fetched content now same pages rows kept = subst (λ o. IfSome o (IsFetched root fetched)) (sym same) (by content pages rows kept)
  where
    by : (o : Option (List ℕ)) → IfSome o (ArePages root.next root.slots) → IfSome o (λ c. fetched.rows ≡ rows_in c root.slots) → IfSome o (ArePagesKept root fetched.pages) → IfSome o (IsFetched root fetched)
    by None pages rows kept = tt
    by (Some c) pages rows kept = record { pages_ = pages; kept = kept; rows_ = rows }
