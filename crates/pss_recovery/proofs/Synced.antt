-- A store is read, and mounted.
use Rattle.std.proofs.Common.{ℕ, ◌≡◌, ◌≢◌, ◌⊎◌, Result, Ok, Err, IfErr, inl, inr, List, ◌++◌, Option, None, Some, IfSome, refl, sym, ap, ◌∙◌, subst}
use Rattle.pss_disk.specs.Moments.{Disk, DuringSync, IsImage, IsOnlyImage, IsSettled, IsStill, Moment, Through, synced}
use Rattle.pss_disk.proofs.Images.{only_content, synced_settled}
use Rattle.pss_disk.proofs.Passing.{none_came, then_come, weaker}
use Rattle.type_layout.specs.declared.schema.Schema.{Schema}
use Rattle.page_store.specs.Stores.{AllHave}
use Rattle.page_format.proofs.Buffers.{some_all}
use Rattle.pss_recovery.specs.Mounts.{FromSync}
use Rattle.pss_recovery.specs.Stands.{IsRefusal}
use Rattle.pss_recovery.specs.declared.fault.MountFault.{MountFault}
use Rattle.pss_recovery.specs.declared.fault.MountFault.TheVariants as fault

-- a settled content is what each image is
pub settled_has : (P : List ℕ → Type 0) (c : List ℕ) (now : Moment) → IsSettled (Some c) now → P c → AllHave P now
settled_has P c now settled_ has = by now.disk settled_
  where
    by : (disk : Option Disk) → IfSome disk (λ d. (x : List ℕ) × (Some c ≡ Some x) × IsOnlyImage d x) → IfSome disk (λ d. (image : List ℕ) → IsImage d image → P image)
    by None h = tt
    by (Some d) h = λ image is. subst P (let e : c ≡ image = ap-some h.1 ∙ sym (h.2.only image is) in e) has
      where
        ap-some : {x y : List ℕ} → Some x ≡ Some y → x ≡ y
        ap-some e = cc

-- the moments of calls that only read
pub still_have : (P : List ℕ → Type 0) (c : List ℕ) (now : Moment) (before after : List Moment) → IsSettled (Some c) now → P c → Through before after (IsStill now) → Through before after (AllHave P)
still_have P c now before after settled_ has time = weaker before after (IsStill now) (AllHave P) (λ m e. subst (AllHave P) (sym e) (settled_has P c now settled_ has)) time

-- what a sync has made sure of
pub synced_has : (P : List ℕ → Type 0) (c : List ℕ) (now : Moment) → P c → AllHave P (synced (Some c) now)
synced_has P c now has = by now.disk
  where
    by : (disk : Option Disk) → AllHave P (synced (Some c) (record { spoken = now.spoken; disk = disk }))
    by None = tt
    by (Some d) = λ image is. subst P (sym (only_content c image is)) has

pub during_sync : (P : List ℕ → Type 0) (c : List ℕ) (now : Moment) (before after : List Moment) → P c → Through before after (DuringSync (Some c) now) → Through before after (λ m. (m ≡ now) ⊎ AllHave P m)
during_sync P c now before after has time = weaker before after (DuringSync (Some c) now) (λ m. (m ≡ now) ⊎ AllHave P m) (λ m h. by m h) time
  where
    by : (m : Moment) → DuringSync (Some c) now m → (m ≡ now) ⊎ AllHave P m
    by m (inl e) = inl e
    by m (inr e) = inr (subst (AllHave P) (sym e) (synced_has P c now has))

-- then nothing came any more, or only moments that have P
pub from_sync : (P : Moment → Type 0) (now : Moment) (a b c : List Moment) → Through a b (λ m. (m ≡ now) ⊎ P m) → Through b c P → FromSync a c now P
from_sync P now a b c s t = record { first = s.came; rest = t.came; grown = t.grown ∙ ap (λ l. l ++ t.came) s.grown; until = s.each; from_ = t.each }

-- a sync, and then calls that only read
pub sync_stays : (content : Option (List ℕ)) (now mid : Moment) (a b c : List Moment) → mid ≡ synced content now → Through a b (DuringSync content now) → Through b c (IsStill mid) → Through a c (λ m. (m ≡ now) ⊎ IsSettled content m)
sync_stays content now mid a b c is time still =
    then_come a b c (λ m. (m ≡ now) ⊎ IsSettled content m) (weaker a b (DuringSync content now) (λ m. (m ≡ now) ⊎ IsSettled content m) (λ m h. by m h) time)
    (weaker b c (IsStill mid) (λ m. (m ≡ now) ⊎ IsSettled content m) (λ m e. inr (sure m (e ∙ is))) still)
  where
    sure : (m : Moment) → m ≡ synced content now → IsSettled content m
    sure m e = synced_settled content content now m e refl

    by : (m : Moment) → DuringSync content now m → (m ≡ now) ⊎ IsSettled content m
    by m (inl e) = inl e
    by m (inr e) = inr (sure m e)

-- ---- for each content that is told

-- reading leaves all as it is, and then comes what has P
pub read_then : (P : List ℕ → Type 0) (old mid : Option (List ℕ)) (now : Moment) (a b c : List Moment) → IsSettled old now → mid ≡ old → Through a b (IsStill now) → IfSome mid (λ x. P x → Through b c (AllHave P)) → IfSome old (λ x. P x → Through a c (AllHave P))
read_then P old mid now a b c settled_ same time rest = by old settled_ (subst (λ (o : Option (List ℕ)). IfSome o (λ x. P x → Through b c (AllHave P))) same rest)
  where
    by : (o : Option (List ℕ)) → IsSettled o now → IfSome o (λ x. P x → Through b c (AllHave P)) → IfSome o (λ x. P x → Through a c (AllHave P))
    by None settled_ rest = tt
    by (Some x) settled_ rest = λ has. then_come a b c (AllHave P) (still_have P x now a b settled_ has time) (rest has)

pub only_read : (P : List ℕ → Type 0) (old : Option (List ℕ)) (now : Moment) (a b : List Moment) → IsSettled old now → Through a b (IsStill now) → IfSome old (λ x. P x → Through a b (AllHave P))
only_read P None now a b settled_ time = tt
only_read P (Some x) now a b settled_ time = λ has. still_have P x now a b settled_ has time

-- a sync, and then what has P
pub sync_then : (P : List ℕ → Type 0) (old mid : Option (List ℕ)) (now : Moment) (a b c : List Moment) → mid ≡ old → Through a b (DuringSync old now) → IfSome mid (λ x. P x → Through b c (AllHave P)) → IfSome old (λ x. P x → FromSync a c now (AllHave P))
sync_then P old mid now a b c same time rest = by old time (subst (λ (o : Option (List ℕ)). IfSome o (λ x. P x → Through b c (AllHave P))) same rest)
  where
    by : (o : Option (List ℕ)) → Through a b (DuringSync o now) → IfSome o (λ x. P x → Through b c (AllHave P)) → IfSome o (λ x. P x → FromSync a c now (AllHave P))
    by None time rest = tt
    by (Some x) time rest = λ has. from_sync (AllHave P) now a b c (during_sync P x now a b has time) (rest has)

pub only_sync : (P : List ℕ → Type 0) (old : Option (List ℕ)) (now : Moment) (a b : List Moment) → Through a b (DuringSync old now) → IfSome old (λ x. P x → FromSync a b now (AllHave P))
only_sync P None now a b time = tt
only_sync P (Some x) now a b time = λ has. from_sync (AllHave P) now a b b (during_sync P x now a b has time) (none_came b (AllHave P))

-- a fault of the disk is told by no image
pub only_disk : {T : Type 0} (S : Schema) (old : Option (List ℕ)) (r : Result T MountFault) → ((k : MountFault) → r ≡ Err k → k ≡ fault.DiskFault) → IfErr r (λ why. IfSome old (IsRefusal S why))
only_disk S old (Ok t) only = tt
only_disk S old (Err why) only = subst (λ (w : MountFault). IfSome old (IsRefusal S w)) (sym (only why refl)) (some_all old _ (λ image. tt))

pub never_other : {T : Type 0} (X : Type 0) (r : Result T MountFault) → ((k : MountFault) → r ≡ Err k → k ≡ fault.DiskFault) → IfErr r (λ why. why ≢ fault.DiskFault → X)
never_other X (Ok t) only = tt
never_other X (Err why) only = λ other. absurd (other (only why refl))

pub other_then : {T : Type 0} (X Y : Type 0) (r : Result T MountFault) → (X → Y) → IfErr r (λ why. why ≢ fault.DiskFault → X) → IfErr r (λ why. why ≢ fault.DiskFault → Y)
other_then X Y (Ok t) f h = tt
other_then X Y (Err why) f h = λ other. f (h other)
