-- What a store stands for, and what its moments do, over two calls.
use Rattle.std.proofs.Common.{ℕ, ◌≡◌, inl, true, false, List, [], ◌∷◌, length, Option, Some, None, IfSome, refl, sym, subst}
use Rattle.std.proofs.lemmas.Bool.{false≢true, true≢false}
use Rattle.std.specs.Prelude.{◌==◌, is_some, Result, Ok, Err, OnOk}
use Rattle.pss_disk.specs.Moments.{IsImage, Moment, Range, Through}
use Rattle.pss_disk.specs.Octets.{StaysOutside}
use Rattle.pss_disk.proofs.Passing.{then_come, weaker}
use Rattle.type_layout.specs.declared.schema.Schema.{Schema}
use Rattle.pss_catalog.specs.Catalog.{Catalog}
use Rattle.page_store.specs.Stores.{AllHave}
use Rattle.storage_home.specs.declared.change.Change.{Change}
use Rattle.pss_recovery.specs.declared.body.Body.{Body}
use Rattle.pss_recovery.specs.declared.parts.Parts.{Parts as Store}
use Rattle.pss_recovery.specs.Mounted.{IsMounted, IsPrepared, StandsEither}
use Rattle.pss_recovery.specs.Replaying.{IsChanged}
use Rattle.pss_recovery.specs.Stands.{Stands}
use Rattle.commit_saving.specs.Saving.{IfTold, Leaves, body_for, saved_next}

-- ---- contents that are told

pub told_there : (P : List ℕ → Type 0) (o : Option (List ℕ)) → is_some o ≡ true → IfSome o P → IfTold o P
told_there P None is p = absurd (false≢true is)
told_there P (Some c) is p = (c, refl, p)

-- what stays outside of a range stays told
pub stays_told : (range : Range) (old new : Option (List ℕ)) → StaysOutside range old new → is_some old ≡ true → is_some new ≡ true
stays_told range None new stays is = absurd (false≢true is)
stays_told range (Some c) None stays is = absurd stays
stays_told range (Some c) (Some d) stays is = refl

-- a premise may be had from what is known of the content
pub some_under : (o : Option (List ℕ)) (A : Type 0) (P Q : List ℕ → Type 0) → ((c : List ℕ) → P c → A) → (A → IfSome o (λ c. P c → Q c)) → IfSome o (λ c. P c → Q c)
some_under None A P Q f g = tt
some_under (Some c) A P Q f g = λ p. g (f c p) p

-- ---- moments

pub all_weaker : (P Q : List ℕ → Type 0) → ((image : List ℕ) → P image → Q image) → (m : Moment) → AllHave P m → AllHave Q m
all_weaker P Q f m = by m.disk
  where
    by : (o : Option _) → IfSome o (λ disk. (image : List ℕ) → IsImage disk image → P image) → IfSome o (λ disk. (image : List ℕ) → IsImage disk image → Q image)
    by None all = tt
    by (Some disk) all = λ image is. f image (all image is)

-- ---- room for a body, and then the body

module _ (S : Schema) (M N : Catalog) (saved last : ℕ) (a b c : List Moment) where
  abbrev Either : Moment → Type 0
  Either = AllHave (StandsEither S M saved N last)

  pub either_of : Through a b (AllHave (Stands S M saved)) → Through a b Either
  either_of = weaker a b (AllHave (Stands S M saved)) Either (all_weaker (Stands S M saved) (StandsEither S M saved N last) (λ image is. inl is))

  pub either_then : Through a b (AllHave (Stands S M saved)) → Through b c Either → Through a c Either
  either_then first second = then_come a b c Either (either_of first) second

module _ (S : Schema) (M N : Catalog) (saved : ℕ) (body : Body) (before between after : Store) (range : Range) (old mid new : Option (List ℕ)) (told : is_some mid ≡ is_some old)
    (kept : IfSome old (λ c. IsMounted S M saved before c → IfSome mid (IsMounted S M saved between))) where
  -- what is mounted after both
  pub saved_then : StaysOutside range mid new → IfSome mid (λ c. IsPrepared S M saved between body N c → IfSome new (IsMounted S N body.next after)) → IfSome old (λ c. IsPrepared S M saved before body N c → IfTold new (IsMounted S N body.next after))
  saved_then = by old mid told kept
    where
      by : (o m : Option (List ℕ)) → is_some m ≡ is_some o → IfSome o (λ c. IsMounted S M saved before c → IfSome m (IsMounted S M saved between)) → StaysOutside range m new → IfSome m (λ c. IsPrepared S M saved between body N c → IfSome new (IsMounted S N body.next after)) → IfSome o (λ c. IsPrepared S M saved before body N c → IfTold new (IsMounted S N body.next after))
      by None m told kept stays made = tt
      by (Some c) None told kept stays made = absurd (false≢true told)
      by (Some c) (Some d) told kept stays made =
          λ prepared. told_there (IsMounted S N body.next after) new (stays_told range (Some d) new stays refl) (made (record { mounted = kept prepared.mounted; changed = prepared.changed }))

  -- what their moments are
  pub images_then : (x y z : List Moment) → IfSome old (λ c. IsMounted S M saved before c → Through x y (AllHave (Stands S M saved)))
      → IfSome mid (λ c. IsPrepared S M saved between body N c → Through y z (AllHave (StandsEither S M saved N body.next))) → IfSome old (λ c. IsPrepared S M saved before body N c → Through x z (AllHave (StandsEither S M saved N body.next)))
  images_then x y z = by old mid told kept
    where
      by : (o m : Option (List ℕ)) → is_some m ≡ is_some o → IfSome o (λ c. IsMounted S M saved before c → IfSome m (IsMounted S M saved between)) → IfSome o (λ c. IsMounted S M saved before c → Through x y (AllHave (Stands S M saved)))
          → IfSome m (λ c. IsPrepared S M saved between body N c → Through y z (AllHave (StandsEither S M saved N body.next))) → IfSome o (λ c. IsPrepared S M saved before body N c → Through x z (AllHave (StandsEither S M saved N body.next)))
      by None m told kept first second = tt
      by (Some c) None told kept first second = absurd (false≢true told)
      by (Some c) (Some d) told kept first second =
          λ prepared. either_then S M N saved body.next x y z (first prepared.mounted) (second (record { mounted = kept prepared.mounted; changed = prepared.changed }))

-- there was no room
pub images_first : (S : Schema) (M N : Catalog) (saved : ℕ) (body : Body) (before : Store) (old : Option (List ℕ)) (x y : List Moment) → IfSome old (λ c. IsMounted S M saved before c → Through x y (AllHave (Stands S M saved)))
    → IfSome old (λ c. IsPrepared S M saved before body N c → Through x y (AllHave (StandsEither S M saved N body.next)))
images_first S M N saved body before None x y first = tt
images_first S M N saved body before (Some c) x y first = λ prepared. either_of S M N saved body.next x y y (first prepared.mounted)

-- ---- changes that are stored, if there are any

pub on_ok : {T E A B : Type 0} → (r : Result T E) → (A → B) → OnOk r A → OnOk r B
on_ok (Ok t) f a = f a
on_ok (Err e) f a = tt

pub some_of : {T : Type 0} (cs : List T) → (length cs == 0) ≡ false → cs ≡ [] → ⊥
some_of [] is none = true≢false is
some_of (c ∷ cs) is none = absurd cc

-- of some changes the body tells what they leave
pub changed_of : (S : Schema) (M N : Catalog) (saved next : ℕ) (cs : List Change) → (cs ≡ [] → ⊥) → Leaves S M saved next cs N → IsChanged S M saved (body_for next cs) N
changed_of S M N saved next [] some leaves = absurd (some refl)
changed_of S M N saved next (c ∷ cs) some leaves = leaves

pub next_of : {T : Type 0} (saved next : ℕ) (cs : List T) → (cs ≡ [] → ⊥) → saved_next saved next cs ≡ next
next_of saved next [] some = absurd (some refl)
next_of saved next (c ∷ cs) some = refl

module _ (S : Schema) (M N : Catalog) (saved next : ℕ) (cs : List Change) (some : cs ≡ [] → ⊥) (leaves : Leaves S M saved next cs N) (before after : Store) (old new : Option (List ℕ)) where
  pub saved_some : IfSome old (λ c. IsPrepared S M saved before (body_for next cs) N c → IfTold new (IsMounted S N next after)) → IfSome old (λ c. IsMounted S M saved before c → IfTold new (IsMounted S N (saved_next saved next cs) after))
  saved_some = by old
    where
      by : (o : Option (List ℕ)) → IfSome o (λ c. IsPrepared S M saved before (body_for next cs) N c → IfTold new (IsMounted S N next after)) → IfSome o (λ c. IsMounted S M saved before c → IfTold new (IsMounted S N (saved_next saved next cs) after))
      by None made = tt
      by (Some c) made = λ mounted. subst (λ (n : ℕ). IfTold new (IsMounted S N n after)) (sym (next_of saved next cs some)) (made (record { mounted = mounted; changed = changed_of S M N saved next cs some leaves }))

  pub images_some : (x y : List Moment) → IfSome old (λ c. IsPrepared S M saved before (body_for next cs) N c → Through x y (AllHave (StandsEither S M saved N next))) → IfSome old (λ c. IsMounted S M saved before c → Through x y (AllHave (StandsEither S M saved N (saved_next saved next cs))))
  images_some x y = by old
    where
      by : (o : Option (List ℕ)) → IfSome o (λ c. IsPrepared S M saved before (body_for next cs) N c → Through x y (AllHave (StandsEither S M saved N next))) → IfSome o (λ c. IsMounted S M saved before c → Through x y (AllHave (StandsEither S M saved N (saved_next saved next cs))))
      by None came = tt
      by (Some c) came = λ mounted. subst (λ (n : ℕ). Through x y (AllHave (StandsEither S M saved N n))) (sym (next_of saved next cs some)) (came (record { mounted = mounted; changed = changed_of S M N saved next cs some leaves }))
