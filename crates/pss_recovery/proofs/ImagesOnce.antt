-- An image stands for one thing, or is refused with one fault.
use Rattle.std.proofs.Common.{ℕ, ◌≡◌, ◌⊎◌, inl, inr, List, refl, sym, ap, ◌∙◌, subst}
use Rattle.std.specs.FinMap.{empty}
use Rattle.pss_base.specs.declared.damage.DamageKind.{DamageKind}
use Rattle.pss_base.specs.declared.damage.DamageKind.TheVariants as kind
use Rattle.type_layout.specs.declared.home.HomeNo.{HomeNo}
use Rattle.type_layout.specs.declared.schema.Schema.{Schema}
use Rattle.type_layout.specs.ShapeText.{shape_text}
use Rattle.pss_catalog.specs.Catalog.{Catalog}
use Rattle.pss_catalog.proofs.Forest.{Compared, compared}
use Rattle.redo_journal.specs.Journal.{IsDamaged}
use Rattle.redo_journal.proofs.Exact.{damaged_once, holds_one_list, never_both}
use Rattle.page_format.specs.declared.root.Root.{Root}
use Rattle.page_store.specs.Kept.{rows_in}
use Rattle.page_format.specs.PageDamage.{IsPageDamage}
use Rattle.page_format.specs.Roots.{HasRoot, IsNoStore, IsRootDamage}
use Rattle.page_format.proofs.ExactPages.{pages_one_thing}
use Rattle.page_format.proofs.ExactRoots.{roots_one_thing}
use Rattle.pss_recovery.specs.declared.fault.MountFault.{MountFault}
use Rattle.pss_recovery.specs.declared.fault.MountFault.TheVariants.{NotAStore, ShapeDiffers, Damaged, DiskFault, NoMemory}
use Rattle.pss_recovery.specs.Laws.{IsImageOneThing, IsOfImage}
use Rattle.pss_recovery.specs.Loading.{entry_places}
use Rattle.pss_recovery.specs.Replaying.{AreReplayed, IsChangeDamage}
use Rattle.pss_recovery.specs.Shapes.{DifferAt, lines_of}
use Rattle.pss_recovery.specs.Stands.{AreBodiesWrong, ArePagesWrong, AreRowsWrong, IsJournalWrong, IsLoaded, IsOtherShape, IsPaged, IsRead, IsRefusal, IsRooted, Stands}
use Rattle.pss_recovery.proofs.FoundImages.{image_found}
use Rattle.pss_recovery.proofs.BodiesOnce.{damage_once, not_replayed, replayed_once}
use Rattle.pss_recovery.proofs.RowsOnce.{AreWrong, loaded_once, not_within, rows_once}

-- ---- shapes

-- two shapes differ first at one home
differ_once : (shape other : List ℕ) (h g : ℕ) → DifferAt shape other h → DifferAt shape other g → h ≡ g
differ_once shape other h g a b = by (compared h g)
  where
    by : Compared h g → h ≡ g
    by (inl less) = absurd (a.differ (b.first h less))
    by (inr (inl same)) = same
    by (inr (inr less)) = absurd (b.differ (a.first g less))

-- ---- what is right after each round is one thing

module _ (S : Schema) (image : List ℕ) where
  root_once : (root other : Root) → HasRoot root image → HasRoot other image → root ≡ other
  root_once root other a b =
      let same = roots_one_thing.one_root root other image a b in
      λ i. record { area = same.area_ i; epoch = same.epoch_ i; next = same.next_ i; shape = same.shape_ i; slots = same.slots_ i }

  base_once : (root : Root) (base other : Catalog) → IsLoaded S root base image → IsLoaded S root other image → base ≡ other
  base_once root base other a b = loaded_once S root.next (rows_in image root.slots) empty base other a.loaded b.loaded

  module _ (root : Root) (base other : Catalog) (end last : ℕ) (bodies others : List (List ℕ)) (a : IsRead S root base end bodies image) (b : IsRead S root other last others image) where
    bodies_once : others ≡ bodies
    bodies_once = (holds_one_list root.epoch last end others bodies image b.journal a.journal).0

    bases_once : other ≡ base
    bases_once = base_once root other base b.loaded a.loaded

  store_once : (M N : Catalog) (next last : ℕ) → Stands S M next image → Stands S N last image → (M ≡ N) × (next ≡ last)
  store_once M N next last a b =
      let root : b.root ≡ a.root = root_once b.root a.root b.read.loaded.paged.rooted.root_ a.read.loaded.paged.rooted.root_ in
      let read = subst (λ (r : Root). IsRead S r b.base b.end b.bodies image) root b.read in
      let base = bases_once a.root a.base b.base a.end b.end a.bodies b.bodies a.read read in
      let bodies = bodies_once a.root a.base b.base a.end b.end a.bodies b.bodies a.read read in
      let under : AreReplayed S b.base a.root.next b.bodies N last = subst (λ (r : Root). AreReplayed S b.base r.next b.bodies N last) root b.replayed in
      let over_ : AreReplayed S a.base a.root.next b.bodies N last = subst (λ (K : Catalog). AreReplayed S K a.root.next b.bodies N last) base under in
      let same : AreReplayed S a.base a.root.next a.bodies N last = subst (λ (l : List (List ℕ)). AreReplayed S a.base a.root.next l N last) bodies over_ in
      replayed_once S a.bodies a.base a.root.next M N next last a.replayed same

  -- ---- a round that is wrong is not right

  shape_not_rooted : (home : ℕ) (root : Root) → IsOtherShape S home image → IsRooted S root image → ⊥
  shape_not_rooted home root wrong is =
      let same : wrong.root ≡ root = root_once wrong.root root wrong.root_ is.root_ in
      wrong.differ.differ (ap (λ (s : List ℕ). lines_of s home) (sym is.shape ∙ ap (λ (r : Root). r.shape) (sym same)))

  pages_not_paged : (at : ℕ) (k : DamageKind) (root : Root) → ArePagesWrong S at k image → IsPaged S root image → ⊥
  pages_not_paged at k root wrong is =
      let same : wrong.root ≡ root = root_once wrong.root root wrong.rooted.root_ is.rooted.root_ in
      pages_one_thing.not_damaged root.next root.slots at k image is.pages (subst (λ (r : Root). IsPageDamage r.next r.slots at k image) same wrong.wrong)

  rows_under : (at : ℕ) (k : DamageKind) (root : Root) (wrong : AreRowsWrong S at k image) → HasRoot root image → AreWrong S root.next (rows_in image root.slots) (entry_places image root.slots) at k
  rows_under at k root wrong is =
      subst (λ (r : Root). AreWrong S r.next (rows_in image r.slots) (entry_places image r.slots) at k) (root_once wrong.root root wrong.paged.rooted.root_ is) wrong.wrong

  rows_not_loaded : (at : ℕ) (k : DamageKind) (root : Root) (base : Catalog) → AreRowsWrong S at k image → IsLoaded S root base image → ⊥
  rows_not_loaded at k root base wrong is =
      not_within S root.next (rows_in image root.slots) (entry_places image root.slots) at k (rows_under at k root wrong is.paged.rooted.root_) base is.loaded is.bounded

  journal_under : (at : ℕ) (k : DamageKind) (root : Root) (wrong : IsJournalWrong S at k image) → HasRoot root image → IsDamaged root.epoch at image
  journal_under at k root wrong is = subst (λ (r : Root). IsDamaged r.epoch at image) (root_once wrong.root root wrong.loaded.paged.rooted.root_ is) wrong.wrong

  journal_not_read : (at : ℕ) (k : DamageKind) (root : Root) (base : Catalog) (end : ℕ) (bodies : List (List ℕ)) → IsJournalWrong S at k image → IsRead S root base end bodies image → ⊥
  journal_not_read at k root base end bodies wrong is = never_both root.epoch end at bodies image is.journal (journal_under at k root wrong is.loaded.paged.rooted.root_)

  bodies_under : (at : ℕ) (k : DamageKind) (root : Root) (base : Catalog) (end : ℕ) (bodies : List (List ℕ)) → AreBodiesWrong S at k image → IsRead S root base end bodies image → IsChangeDamage S base root.next bodies at
  bodies_under at k root base end bodies wrong is =
      let same : wrong.root ≡ root = root_once wrong.root root wrong.read.loaded.paged.rooted.root_ is.loaded.paged.rooted.root_ in
      let read = subst (λ (r : Root). IsRead S r wrong.base wrong.end wrong.bodies image) same wrong.read in
      let damage : IsChangeDamage S wrong.base root.next wrong.bodies at = subst (λ (r : Root). IsChangeDamage S wrong.base r.next wrong.bodies at) same wrong.wrong in
      subst (λ (l : List (List ℕ)). IsChangeDamage S base root.next l at) (bodies_once root base wrong.base end wrong.end bodies wrong.bodies is read)
      (subst (λ (K : Catalog). IsChangeDamage S K root.next wrong.bodies at) (bases_once root base wrong.base end wrong.end bodies wrong.bodies is read) damage)

  -- ---- the rounds, one inside the other

  -- the journal of what was loaded is wrong, or it was read and its bodies are wrong
  abbrev OfLoaded : MountFault → Type 0
  OfLoaded fault = ((at : ℕ) × (fault ≡ Damaged at kind.Journal) × IsJournalWrong S at kind.Journal image) ⊎ ((at : ℕ) × (fault ≡ Damaged at kind.Change) × AreBodiesWrong S at kind.Change image)

  abbrev OfPaged : MountFault → Type 0
  OfPaged fault = ((at : ℕ) × (k : DamageKind) × (fault ≡ Damaged at k) × AreRowsWrong S at k image) ⊎ OfLoaded fault

  abbrev OfRooted : MountFault → Type 0
  OfRooted fault = ((at : ℕ) × (k : DamageKind) × (fault ≡ Damaged at k) × ArePagesWrong S at k image) ⊎ OfPaged fault

  abbrev OfRoot : MountFault → Type 0
  OfRoot fault = ((home : HomeNo) × (fault ≡ ShapeDiffers home) × IsOtherShape S home.0 image) ⊎ OfRooted fault

  abbrev Of : MountFault → Type 0
  Of fault = ((fault ≡ NotAStore) × IsNoStore image) ⊎ ((at : ℕ) × (fault ≡ Damaged at kind.Root) × IsRootDamage image at) ⊎ OfRoot fault

  of_refusal : (fault : MountFault) → IsOfImage fault → IsRefusal S fault image → Of fault
  of_refusal NotAStore is refused = inl (refl, refused)
  of_refusal (ShapeDiffers home) is refused = inr (inr (inl (home, refl, refused)))
  of_refusal (Damaged at k) is (inl w) = inr (inl (at, ap (λ (l : DamageKind). Damaged at l) w.0, w.1))
  of_refusal (Damaged at k) is (inr (inl w)) = inr (inr (inr (inl (at, k, refl, w))))
  of_refusal (Damaged at k) is (inr (inr (inl w))) = inr (inr (inr (inr (inl (at, k, refl, w)))))
  of_refusal (Damaged at k) is (inr (inr (inr (inl w)))) = inr (inr (inr (inr (inr (inl (at, ap (λ (l : DamageKind). Damaged at l) w.kind_, subst (λ (l : DamageKind). IsJournalWrong S at l image) w.kind_ w))))))
  of_refusal (Damaged at k) is (inr (inr (inr (inr w)))) = inr (inr (inr (inr (inr (inr (at, ap (λ (l : DamageKind). Damaged at l) w.kind_, subst (λ (l : DamageKind). AreBodiesWrong S at l image) w.kind_ w))))))
  of_refusal DiskFault is refused = absurd is
  of_refusal NoMemory is refused = absurd is

  -- what came before each round
  abbrev AnyLoaded : Type 0
  AnyLoaded = (root : Root) × (base : Catalog) × IsLoaded S root base image

  loaded_of : (fault : MountFault) → OfLoaded fault → AnyLoaded
  loaded_of fault (inl w) = (w.2.root, w.2.base, w.2.loaded)
  loaded_of fault (inr w) = (w.2.root, w.2.base, w.2.read.loaded)

  paged_of : (fault : MountFault) → OfPaged fault → (root : Root) × IsPaged S root image
  paged_of fault (inl w) = (w.3.root, w.3.paged)
  paged_of fault (inr w) = let l = loaded_of fault w in (l.0, l.2.paged)

  rooted_of : (fault : MountFault) → OfRooted fault → (root : Root) × IsRooted S root image
  rooted_of fault (inl w) = (w.3.root, w.3.rooted)
  rooted_of fault (inr w) = let p = paged_of fault w in (p.0, p.1.rooted)

  root_of : (fault : MountFault) → OfRoot fault → (root : Root) × HasRoot root image
  root_of fault (inl w) = (w.2.root, w.2.root_)
  root_of fault (inr w) = let r = rooted_of fault w in (r.0, r.1.root_)

  -- ---- one fault

  at_same : (fault other : MountFault) (at place : ℕ) (k l : DamageKind) → fault ≡ Damaged at k → other ≡ Damaged place l → at ≡ place → k ≡ l → fault ≡ other
  at_same fault other at place k l e f p q = e ∙ ap (λ (n : ℕ). Damaged n k) p ∙ ap (λ (j : DamageKind). Damaged place j) q ∙ sym f

  loaded_fault : (fault other : MountFault) → OfLoaded fault → OfLoaded other → fault ≡ other
  loaded_fault fault other (inl a) (inl b) =
      at_same fault other a.0 b.0 kind.Journal kind.Journal a.1 b.1 (damaged_once a.2.root.epoch a.0 b.0 image a.2.wrong (journal_under b.0 kind.Journal a.2.root b.2 a.2.loaded.paged.rooted.root_)) refl
  loaded_fault fault other (inl a) (inr b) = absurd (journal_not_read a.0 kind.Journal b.2.root b.2.base b.2.end b.2.bodies a.2 b.2.read)
  loaded_fault fault other (inr a) (inl b) = absurd (journal_not_read b.0 kind.Journal a.2.root a.2.base a.2.end a.2.bodies b.2 a.2.read)
  loaded_fault fault other (inr a) (inr b) =
      at_same fault other a.0 b.0 kind.Change kind.Change a.1 b.1
      (damage_once S a.2.base a.2.root.next a.2.bodies a.0 b.0 a.2.wrong (bodies_under b.0 kind.Change a.2.root a.2.base a.2.end a.2.bodies b.2 a.2.read)) refl

  paged_fault : (fault other : MountFault) → OfPaged fault → OfPaged other → fault ≡ other
  paged_fault fault other (inl a) (inl b) =
      let root = a.3.root in
      let same = rows_once S root.next (rows_in image root.slots) (entry_places image root.slots) a.0 b.0 a.1 b.1 a.3.wrong (rows_under b.0 b.1 root b.3 a.3.paged.rooted.root_) in
      at_same fault other a.0 b.0 a.1 b.1 a.2 b.2 same.0 same.1
  paged_fault fault other (inl a) (inr b) = let l = loaded_of other b in absurd (rows_not_loaded a.0 a.1 l.0 l.1 a.3 l.2)
  paged_fault fault other (inr a) (inl b) = let l = loaded_of fault a in absurd (rows_not_loaded b.0 b.1 l.0 l.1 b.3 l.2)
  paged_fault fault other (inr a) (inr b) = loaded_fault fault other a b

  rooted_fault : (fault other : MountFault) → OfRooted fault → OfRooted other → fault ≡ other
  rooted_fault fault other (inl a) (inl b) =
      let root = a.3.root in
      let there : IsPageDamage root.next root.slots b.0 b.1 image = subst (λ (r : Root). IsPageDamage r.next r.slots b.0 b.1 image) (root_once b.3.root root b.3.rooted.root_ a.3.rooted.root_) b.3.wrong in
      let same = pages_one_thing.one_place root.next root.slots a.0 b.0 a.1 b.1 image a.3.wrong there in
      at_same fault other a.0 b.0 a.1 b.1 a.2 b.2 same.0 same.1
  rooted_fault fault other (inl a) (inr b) = let p = paged_of other b in absurd (pages_not_paged a.0 a.1 p.0 a.3 p.1)
  rooted_fault fault other (inr a) (inl b) = let p = paged_of fault a in absurd (pages_not_paged b.0 b.1 p.0 b.3 p.1)
  rooted_fault fault other (inr a) (inr b) = paged_fault fault other a b

  root_fault : (fault other : MountFault) → OfRoot fault → OfRoot other → fault ≡ other
  root_fault fault other (inl a) (inl b) =
      let root : b.2.root ≡ a.2.root = root_once b.2.root a.2.root b.2.root_ a.2.root_ in
      let there : DifferAt (shape_text S) a.2.root.shape b.0.0 = subst (λ (r : Root). DifferAt (shape_text S) r.shape b.0.0) root b.2.differ in
      let home : a.0.0 ≡ b.0.0 = differ_once (shape_text S) a.2.root.shape a.0.0 b.0.0 a.2.differ there in
      let same : a.0 ≡ b.0 = λ i. record { 0 = home i } in
      a.1 ∙ ap (λ (h : HomeNo). ShapeDiffers h) same ∙ sym b.1
  root_fault fault other (inl a) (inr b) = let r = rooted_of other b in absurd (shape_not_rooted a.0.0 r.0 a.2 r.1)
  root_fault fault other (inr a) (inl b) = let r = rooted_of fault a in absurd (shape_not_rooted b.0.0 r.0 b.2 r.1)
  root_fault fault other (inr a) (inr b) = rooted_fault fault other a b

  fault_once : (fault other : MountFault) → Of fault → Of other → fault ≡ other
  fault_once fault other (inl a) (inl b) = a.0 ∙ sym b.0
  fault_once fault other (inl a) (inr (inl b)) = absurd (roots_one_thing.not_both b.0 image b.2 a.1)
  fault_once fault other (inl a) (inr (inr b)) = let r = root_of other b in absurd (roots_one_thing.not_none r.0 image r.1 a.1)
  fault_once fault other (inr (inl a)) (inl b) = absurd (roots_one_thing.not_both a.0 image a.2 b.1)
  fault_once fault other (inr (inl a)) (inr (inl b)) = at_same fault other a.0 b.0 kind.Root kind.Root a.1 b.1 (roots_one_thing.one_place a.0 b.0 image a.2 b.2) refl
  fault_once fault other (inr (inl a)) (inr (inr b)) = let r = root_of other b in absurd (roots_one_thing.not_damaged r.0 a.0 image r.1 a.2)
  fault_once fault other (inr (inr a)) (inl b) = let r = root_of fault a in absurd (roots_one_thing.not_none r.0 image r.1 b.1)
  fault_once fault other (inr (inr a)) (inr (inl b)) = let r = root_of fault a in absurd (roots_one_thing.not_damaged r.0 b.0 image r.1 b.2)
  fault_once fault other (inr (inr a)) (inr (inr b)) = root_fault fault other a b

  -- ---- never both

  stands_not : (M : Catalog) (next : ℕ) (fault : MountFault) → Stands S M next image → Of fault → ⊥
  stands_not M next fault is (inl w) = roots_one_thing.not_none is.root image is.read.loaded.paged.rooted.root_ w.1
  stands_not M next fault is (inr (inl w)) = roots_one_thing.not_damaged is.root w.0 image is.read.loaded.paged.rooted.root_ w.2
  stands_not M next fault is (inr (inr (inl w))) = shape_not_rooted w.0.0 is.root w.2 is.read.loaded.paged.rooted
  stands_not M next fault is (inr (inr (inr (inl w)))) = pages_not_paged w.0 w.1 is.root w.3 is.read.loaded.paged
  stands_not M next fault is (inr (inr (inr (inr (inl w))))) = rows_not_loaded w.0 w.1 is.root is.base w.3 is.read.loaded
  stands_not M next fault is (inr (inr (inr (inr (inr (inl w)))))) = journal_not_read w.0 kind.Journal is.root is.base is.end is.bodies w.2 is.read
  stands_not M next fault is (inr (inr (inr (inr (inr (inr w)))))) = not_replayed S is.base is.root.next is.bodies w.0 (bodies_under w.0 kind.Change is.root is.base is.end is.bodies w.2 is.read) M next is.replayed

pub image_one_thing : IsImageOneThing
image_one_thing = record {
  either = λ S image sound small. image_found S sound image small;
  one_store = λ S M N next last image a b. store_once S image M N next last a b;
  one_fault = λ S fault other image is_fault is_other a b. fault_once S image fault other (of_refusal S image fault is_fault a) (of_refusal S image other is_other b);
  never_both = λ S M next fault image is_fault stands refused. stands_not S image M next fault stands (of_refusal S image fault is_fault refused);
}
