-- An image of octets stands for something, or is refused.
use Rattle.std.proofs.Common.{ℕ, ◌⊎◌, inl, inr, ⊎_elim, List, [], ◌∷◌, length, refl, sym, subst}
use Rattle.std.specs.List.{AllByRecursion}
use Rattle.pss_base.specs.declared.damage.DamageKind.TheVariants as kind
use Rattle.type_layout.specs.declared.schema.Schema.{Schema}
use Rattle.type_layout.specs.ShapeText.{shape_text}
use Rattle.type_layout.specs.Sound.{IsSoundSchema}
use Rattle.pss_catalog.specs.Catalog.{Catalog}
use Rattle.pss_disk.specs.Octets.{range_of}
use Rattle.redo_journal.specs.Journal.{Chain, behind, header, journal_start, spelled}
use Rattle.redo_journal.specs.Laws.{AreOctets}
use Rattle.redo_journal.proofs.Found.{either}
use Rattle.page_format.specs.declared.root.Root.{Root}
use Rattle.page_format.specs.Roots.{HasRoot, IsNoStore, IsRootDamage}
use Rattle.page_store.specs.Kept.{rows_in}
use Rattle.pss_recovery.specs.declared.fault.MountFault.{MountFault}
use Rattle.pss_recovery.specs.declared.fault.MountFault.TheVariants.{NotAStore, ShapeDiffers, Damaged}
use Rattle.pss_recovery.specs.Laws.{IsOfImage}
use Rattle.pss_recovery.specs.Loading.{entry_places}
use Rattle.pss_recovery.specs.Stands.{IsLoaded, IsPaged, IsRead, IsRefusal, IsRooted, Stands}
use Rattle.pss_recovery.proofs.FoundBodies.{bodies_found}
use Rattle.pss_recovery.proofs.FoundKeys.{same_decided}
use Rattle.page_format.proofs.FoundPages.{pages_found}
use Rattle.page_format.proofs.FoundRoots.{root_found}
use Rattle.pss_recovery.proofs.FoundRows.{rows_found, rows_octets}
use Rattle.pss_recovery.proofs.FoundShapes.{differ_found}
use Rattle.pss_recovery.proofs.SmallOctets.{small_part, small_right}

-- bodies of a journal are octets of the image
small_bodies : (image : List ℕ) → AreOctets image → (epoch gate : ℕ) (bodies : List (List ℕ)) (last : ℕ) → Chain epoch image gate bodies last → AllByRecursion AreOctets bodies
small_bodies image small epoch gate [] last chain = tt
small_bodies image small epoch gate (body ∷ bodies) last chain =
    let all = subst AreOctets chain.1 (small_part image (range_of gate (spelled epoch body)) small) in
    (small_right (165 ∷ header epoch (length body)) body all, small_bodies image small epoch (behind gate (length body)) bodies last chain.2)

module _ (S : Schema) (sound : IsSoundSchema S) (image : List ℕ) (small : AreOctets image) where
  abbrev IsFound : Type 0
  IsFound = ((M : Catalog) × (next : ℕ) × Stands S M next image) ⊎ ((fault : MountFault) × IsOfImage fault × IsRefusal S fault image)

  read_found : (root : Root) (base : Catalog) (end : ℕ) (bodies : List (List ℕ)) → IsRead S root base end bodies image → IsFound
  read_found root base end bodies read =
      ⊎_elim (λ done. inl (done.0, done.1, record { root = root; base = base; end = end; bodies = bodies; read = read; replayed = done.2 }))
      (λ wrong. inr (Damaged wrong.0 kind.Change, tt, inr (inr (inr (inr (record { kind_ = refl; root = root; base = base; end = end; bodies = bodies; read = read; wrong = wrong.1 }))))))
      (bodies_found S sound base root.next bodies (small_bodies image small root.epoch journal_start bodies end read.journal.chain))

  loaded_found : (root : Root) (base : Catalog) → IsLoaded S root base image → IsFound
  loaded_found root base loaded =
      ⊎_elim (λ held. read_found root base held.end held.bodies (record { loaded = loaded; journal = held.holds }))
      (λ broken. inr (Damaged broken.at kind.Journal, tt, inr (inr (inr (inl (record { kind_ = refl; root = root; base = base; loaded = loaded; wrong = broken.damaged })))))) (either root.epoch image small)

  paged_found : (root : Root) → IsPaged S root image → IsFound
  paged_found root paged =
      ⊎_elim (λ loaded. loaded_found root loaded.0 (record { paged = paged; loaded = loaded.1; bounded = loaded.2 })) (λ wrong. inr (Damaged wrong.0 wrong.1, tt, inr (inr (inl (record { root = root; paged = paged; wrong = wrong.2 })))))
      (rows_found S sound root.next (rows_in image root.slots) (entry_places image root.slots) (rows_octets image small root.slots))

  rooted_found : (root : Root) → IsRooted S root image → IsFound
  rooted_found root rooted =
      ⊎_elim (λ pages. paged_found root (record { rooted = rooted; pages = pages })) (λ wrong. inr (Damaged wrong.0 wrong.1, tt, inr (inl (record { root = root; rooted = rooted; wrong = wrong.2 })))) (pages_found root.next root.slots image)

  root_given : (root : Root) → HasRoot root image → IsFound
  root_given root has =
      ⊎_elim (λ same. rooted_found root (record { root_ = has; shape = sym same }))
      (λ differ. let home = differ_found (shape_text S) root.shape differ in inr (ShapeDiffers (record { 0 = home.0 }), tt, record { root = root; root_ = has; differ = home.1 })) (same_decided (shape_text S) root.shape)

  pub image_found : IsFound
  image_found = by (root_found image)
    where
      by : (((root : Root) × HasRoot root image) ⊎ IsNoStore image ⊎ ((at : ℕ) × IsRootDamage image at)) → IsFound
      by (inl found) = root_given found.0 found.1
      by (inr (inl none)) = inr (NotAStore, tt, none)
      by (inr (inr damaged)) = inr (Damaged damaged.0 kind.Root, tt, inl (refl, damaged.1))
