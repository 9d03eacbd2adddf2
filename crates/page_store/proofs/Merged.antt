-- The objects of pages that stay and of pages that were packed anew, put together.
use Rattle.std.proofs.Common.{ℕ, ◌≡◌, ◌≢◌, ◌==◌, ◌||◌, Bool, true, false, cond, not, List, [], ◌∷◌, ◌++◌, map, Some, None, refl, sym, ap, ◌∙◌, subst}
use Rattle.std.proofs.lemmas.Bool.{false≢true, true≢false}
use Rattle.std.proofs.lemmas.Map.Entries.{option_filter}
use Rattle.std.specs.FinMap as finite
use Rattle.std.specs.List.{filter}
use Rattle.std.specs.Option.{option_map, option_or}
use Rattle.std.specs.declared.option.Option.{Option}
use Rattle.pss_base.specs.declared.put.Put.{Put}
use Rattle.page_format.specs.Objects.{by_serial, over, stored_of}
use Rattle.page_format.specs.Pages.{entries_in, places_in, put_of}
use Rattle.page_format.specs.Pages.{Entry}
use Rattle.page_store.specs.Placed.{is_noted, is_object, placed}
use Rattle.page_store.specs.Switch.{objects_of, places_of}
use Rattle.page_format.specs.declared.new_page.NewPage.{NewPage}
use Rattle.page_format.specs.declared.objects.Stored.{Stored}
use Rattle.page_store.specs.inner.Located.{Apart, after, at, located}
use Rattle.page_store.proofs.ByKey.{get_entries}
use Rattle.page_store.proofs.Located.{after_noted, after_other, apart-filter, apart-map, at-append, at-filter, at-map, eqb_turn, get-over, get_rows, located-filter, none_alike, slots_located, stored_located}
use Rattle.page_store.proofs.Turned.{map-append}

not_some : {X : Type 0} (x : X) → Some x ≢ None
not_some x e = cc

or_nothing : {X : Type 0} (o : Option X) → option_or o None ≡ o
or_nothing None = refl
or_nothing (Some x) = refl

-- objects that stand in pages: where new pages have them
object_at : (q : ℕ) (es : List Entry) → is_object q es ≡ false → at q (map stored_of es) ≡ None
object_at q [] none = refl
object_at q (e ∷ es) none = by (q == e.serial) (ap (λ b. b || is_object q es) (eqb_turn q e.serial) ∙ none) (λ more. object_at q es more)
  where
    by : (b : Bool) → (b || is_object q es) ≡ false → (is_object q es ≡ false → at q (map stored_of es) ≡ None) → cond b (Some (stored_of e).1) (at q (map stored_of es)) ≡ None
    by true e ih = absurd (true≢false e)
    by false e ih = ih e

object_there : (q : ℕ) (es : List Entry) → is_object q es ≡ true → (x : Stored) × (at q (map stored_of es) ≡ Some x)
object_there q [] is = absurd (false≢true is)
object_there q (e ∷ es) is = by (q == e.serial) (ap (λ b. b || is_object q es) (eqb_turn q e.serial) ∙ is) (λ more. object_there q es more)
  where
    by : (b : Bool) → (b || is_object q es) ≡ true → (is_object q es ≡ true → (x : Stored) × (at q (map stored_of es) ≡ Some x)) → (x : Stored) × (cond b (Some (stored_of e).1) (at q (map stored_of es)) ≡ Some x)
    by true e' ih = ((stored_of e).1, refl)
    by false e' ih = ih e'

place_at_page : (q slot : ℕ) (es : List Entry) → at q (map (λ e. (e.serial, slot)) es) ≡ cond (is_object q es) (Some slot) None
place_at_page q slot [] = refl
place_at_page q slot (e ∷ es) = ap (cond (q == e.serial) (Some slot)) (place_at_page q slot es) ∙ by (q == e.serial) (is_object q es) ∙ ap (λ b. cond (b || is_object q es) (Some slot) None) (eqb_turn q e.serial)
  where
    by : (b c : Bool) → cond b (Some slot) (cond c (Some slot) None) ≡ cond (b || c) (Some slot) None
    by true c = refl
    by false c = refl

-- what stands in the first of two lists is not in the second
across : {X : Type 0} (q : ℕ) (xs ys : List (ℕ × X)) (x : X) → Apart (xs ++ ys) → at q xs ≡ Some x → at q ys ≡ None
across q [] ys x apart there = absurd (not_some x (sym there))
across {X} q (y ∷ xs) ys x apart there = by (q == y.0) refl there (λ more. across q xs ys x apart.1 more)
  where
    second : (o p : Option X) → option_or o p ≡ None → p ≡ None
    second None p e = e
    second (Some z) p e = absurd (not_some z e)

    by : (b : Bool) → (q == y.0) ≡ b → cond b (Some y.1) (at q xs) ≡ Some x → (at q xs ≡ Some x → at q ys ≡ None) → at q ys ≡ None
    by true same e ih = none_alike q y.0 ys same (second (at y.0 xs) (at y.0 ys) (sym (at-append y.0 xs ys) ∙ apart.0))
    by false other e ih = ih e

-- an object is in the pages exactly where it has a place in them
pub no_place : (q : ℕ) (pages : List NewPage) → at q (map stored_of (objects_of pages)) ≡ None → at q (places_of pages) ≡ None
no_place q [] none = refl
no_place q (page ∷ pages) none =
    let both = sym (at-append q (map stored_of page.entries) (map stored_of (objects_of pages))) ∙ ap (at q) (sym (map-append stored_of page.entries (objects_of pages))) ∙ none in
    at-append q (map (λ e. (e.serial, page.slot)) page.entries) (places_of pages) ∙ ap (λ o. option_or o (at q (places_of pages))) (place_at_page q page.slot page.entries) ∙ by (is_object q page.entries) refl both (λ more. no_place q pages more)
  where
    second : (o p : Option Stored) → option_or o p ≡ None → p ≡ None
    second None p e = e
    second (Some z) p e = absurd (not_some z e)

    first : (o p : Option Stored) → option_or o p ≡ None → o ≡ None
    first None p e = refl
    first (Some z) p e = e

    by : (b : Bool) → is_object q page.entries ≡ b → option_or (at q (map stored_of page.entries)) (at q (map stored_of (objects_of pages))) ≡ None → (at q (map stored_of (objects_of pages)) ≡ None → at q (places_of pages) ≡ None)
        → option_or (cond b (Some page.slot) None) (at q (places_of pages)) ≡ None
    by true is e ih = let there = object_there q page.entries is in absurd (not_some there.0 (sym there.1 ∙ first (at q (map stored_of page.entries)) (at q (map stored_of (objects_of pages))) e))
    by false other e ih = ih (second (at q (map stored_of page.entries)) (at q (map stored_of (objects_of pages))) e)

pub in_pages : (q : ℕ) (pages : List NewPage) → at q (places_of pages) ≡ None → at q (map stored_of (objects_of pages)) ≡ None
in_pages q [] none = refl
in_pages q (page ∷ pages) none =
    let both = ap (λ o. option_or o (at q (places_of pages))) (sym (place_at_page q page.slot page.entries)) ∙ sym (at-append q (map (λ e. (e.serial, page.slot)) page.entries) (places_of pages)) ∙ none in
    ap (at q) (map-append stored_of page.entries (objects_of pages)) ∙ at-append q (map stored_of page.entries) (map stored_of (objects_of pages)) ∙ by (is_object q page.entries) refl both (λ more. in_pages q pages more)
  where
    by : (b : Bool) → is_object q page.entries ≡ b → option_or (cond b (Some page.slot) None) (at q (places_of pages)) ≡ None → (at q (places_of pages) ≡ None → at q (map stored_of (objects_of pages)) ≡ None)
        → option_or (at q (map stored_of page.entries)) (at q (map stored_of (objects_of pages))) ≡ None
    by true is e ih = absurd (not_some page.slot e)
    by false other e ih = ap (λ o. option_or o (at q (map stored_of (objects_of pages)))) (object_at q page.entries other) ∙ ih e

pub placed_is : (q : ℕ) (pages : List NewPage) (s : Option ℕ) → Apart (map stored_of (objects_of pages)) → placed pages q s ≡ option_or (at q (places_of pages)) s
placed_is q [] s apart = refl
placed_is q (page ∷ pages) s apart =
    let split : Apart (map stored_of page.entries ++ map stored_of (objects_of pages)) = subst Apart (map-append stored_of page.entries (objects_of pages)) apart in
    placed_is q pages (cond (is_object q page.entries) (Some page.slot) s) (rest_apart (map stored_of page.entries) (map stored_of (objects_of pages)) split) ∙ by (is_object q page.entries) refl split
    ∙ sym (ap (λ o. option_or o s) (at-append q (map (λ e. (e.serial, page.slot)) page.entries) (places_of pages) ∙ ap (λ o. option_or o (at q (places_of pages))) (place_at_page q page.slot page.entries)))
  where
    rest_apart : (xs ys : List (ℕ × Stored)) → Apart (xs ++ ys) → Apart ys
    rest_apart [] ys a = a
    rest_apart (x ∷ xs) ys a = rest_apart xs ys a.1

    by : (b : Bool) → is_object q page.entries ≡ b → Apart (map stored_of page.entries ++ map stored_of (objects_of pages)) → option_or (at q (places_of pages)) (cond b (Some page.slot) s) ≡ option_or (option_or (cond b (Some page.slot) None) (at q (places_of pages))) s
    by true is a =
        let there = object_there q page.entries is in
        ap (λ o. option_or o (Some page.slot)) (no_place q pages (across q (map stored_of page.entries) (map stored_of (objects_of pages)) there.0 a there.1))
    by false other a = refl

module _ (image slots : List ℕ) (p : ℕ → Bool) (noted : List Put) (apart : Apart (located image slots)) (touches : (q s : ℕ) (x : Stored) → is_noted q noted ≡ true → at q (located image slots) ≡ Some (s, x) → p s ≡ true) where
  pub all_at : (q : ℕ) → at q (map stored_of (entries_in image slots)) ≡ option_map (λ (x : ℕ × Stored). x.1) (at q (located image slots))
  all_at q = ap (at q) (sym (stored_located image slots)) ∙ at-map (λ (x : ℕ × Stored). x.1) q (located image slots)

  pub all_slot : (q : ℕ) → at q (places_in image slots) ≡ option_map (λ (x : ℕ × Stored). x.0) (at q (located image slots))
  all_slot q = ap (at q) (sym (slots_located image slots)) ∙ at-map (λ (x : ℕ × Stored). x.0) q (located image slots)

  filtered : (test : ℕ → Bool) (q : ℕ) → at q (located image (filter test slots)) ≡ option_filter (λ (x : ℕ × Stored). test x.0) (at q (located image slots))
  filtered test q = ap (at q) (located-filter test image slots) ∙ at-filter (λ (x : ℕ × Stored). test x.0) q (located image slots) apart

  pub part_at : (test : ℕ → Bool) (q : ℕ) → at q (map stored_of (entries_in image (filter test slots))) ≡ option_map (λ (x : ℕ × Stored). x.1) (option_filter (λ (x : ℕ × Stored). test x.0) (at q (located image slots)))
  part_at test q = ap (at q) (sym (stored_located image (filter test slots))) ∙ at-map (λ (x : ℕ × Stored). x.1) q (located image (filter test slots)) ∙ ap (option_map (λ (x : ℕ × Stored). x.1)) (filtered test q)

  part_slot : (test : ℕ → Bool) (q : ℕ) → at q (places_in image (filter test slots)) ≡ option_map (λ (x : ℕ × Stored). x.0) (option_filter (λ (x : ℕ × Stored). test x.0) (at q (located image slots)))
  part_slot test q = ap (at q) (sym (slots_located image (filter test slots))) ∙ at-map (λ (x : ℕ × Stored). x.0) q (located image (filter test slots)) ∙ ap (option_map (λ (x : ℕ × Stored). x.0)) (filtered test q)

  pub part_apart : (test : ℕ → Bool) → Apart (map stored_of (entries_in image (filter test slots)))
  part_apart test =
      let l : Apart (located image (filter test slots)) = subst Apart (sym (located-filter test image slots)) (apart-filter (λ (x : ℕ × Stored). test x.0) (located image slots) apart) in
      subst Apart (stored_located image (filter test slots)) (apart-map (λ (x : ℕ × Stored). x.1) (located image (filter test slots)) l)

  -- no object of which a change is noted is in a page that stays
  gone : (q : ℕ) → is_noted q noted ≡ true → option_filter (λ (x : ℕ × Stored). not (p x.0)) (at q (located image slots)) ≡ None
  gone q is = by (at q (located image slots)) refl
    where
      by : (o : Option (ℕ × Stored)) → at q (located image slots) ≡ o → option_filter (λ (x : ℕ × Stored). not (p x.0)) o ≡ None
      by None e = refl
      by (Some x) e = ap (λ b. cond (not b) (Some x) None) (touches q x.0 x.1 is e)

  module _ (xs : List Entry) (same : (q : ℕ) → at q (map stored_of xs) ≡ finite.get (over (over finite.empty (map put_of (entries_in image (filter p slots)))) noted) q) where
    new_at : (q : ℕ) → at q (map stored_of xs) ≡ after noted q (option_map (λ (x : ℕ × Stored). x.1) (option_filter (λ (x : ℕ × Stored). p x.0) (at q (located image slots))))
    new_at q =
        let es = entries_in image (filter p slots) in
        same q ∙ get-over (over finite.empty (map put_of es)) noted q ∙ ap (after noted q) (get_rows es q (part_apart p) ∙ part_at p q)

    pub merged : (q : ℕ) → at q (map stored_of (entries_in image (filter (λ s. not (p s)) slots) ++ xs)) ≡ finite.get (over (by_serial (entries_in image slots)) noted) q
    merged q =
        let stay = entries_in image (filter (λ s. not (p s)) slots) in
        ap (at q) (map-append stored_of stay xs) ∙ at-append q (map stored_of stay) (map stored_of xs) ∙ ap (λ o. option_or o (at q (map stored_of xs))) (part_at (λ s. not (p s)) q)
        ∙ ap (option_or (option_map (λ (x : ℕ × Stored). x.1) (option_filter (λ (x : ℕ × Stored). not (p x.0)) (at q (located image slots))))) (new_at q) ∙ by (is_noted q noted) refl
        ∙ sym (get-over (by_serial (entries_in image slots)) noted q ∙ ap (after noted q) (get_entries (map stored_of (entries_in image slots)) q ∙ all_at q))
      where
        both : (o : Option (ℕ × Stored)) → option_or (option_map (λ (x : ℕ × Stored). x.1) (option_filter (λ (x : ℕ × Stored). not (p x.0)) o)) (option_map (λ (x : ℕ × Stored). x.1) (option_filter (λ (x : ℕ × Stored). p x.0) o)) ≡ option_map (λ (x : ℕ × Stored). x.1) o
        both None = refl
        both (Some x) = one (p x.0)
          where
            one : (b : Bool) → option_or (option_map (λ (x : ℕ × Stored). x.1) (cond (not b) (Some x) None)) (option_map (λ (x : ℕ × Stored). x.1) (cond b (Some x) None)) ≡ Some x.1
            one true = refl
            one false = refl

        by : (n : Bool) → is_noted q noted ≡ n
            → option_or (option_map (λ (x : ℕ × Stored). x.1) (option_filter (λ (x : ℕ × Stored). not (p x.0)) (at q (located image slots)))) (after noted q (option_map (λ (x : ℕ × Stored). x.1) (option_filter (λ (x : ℕ × Stored). p x.0) (at q (located image slots)))))
            ≡ after noted q (option_map (λ (x : ℕ × Stored). x.1) (at q (located image slots)))
        by true is = ap (λ o. option_or (option_map (λ (x : ℕ × Stored). x.1) o) (after noted q (option_map (λ (x : ℕ × Stored). x.1) (option_filter (λ (x : ℕ × Stored). p x.0) (at q (located image slots)))))) (gone q is) ∙ after_noted noted q _ _ is
        by false other =
            ap (option_or (option_map (λ (x : ℕ × Stored). x.1) (option_filter (λ (x : ℕ × Stored). not (p x.0)) (at q (located image slots))))) (after_other noted q _ other) ∙ both (at q (located image slots)) ∙ sym (after_other noted q _ other)

    -- no object is in a page that stays and in a new one
    pub crossing : (q : ℕ) (x : Stored) → at q (map stored_of (entries_in image (filter (λ s. not (p s)) slots))) ≡ Some x → at q (map stored_of xs) ≡ None
    crossing q x there = by (is_noted q noted) refl (sym (part_at (λ s. not (p s)) q) ∙ there)
      where
        parted : (o : Option (ℕ × Stored)) → option_map (λ (x : ℕ × Stored). x.1) (option_filter (λ (x : ℕ × Stored). not (p x.0)) o) ≡ Some x → option_map (λ (x : ℕ × Stored). x.1) (option_filter (λ (x : ℕ × Stored). p x.0) o) ≡ None
        parted None e = refl
        parted (Some y) e = one (p y.0) e
          where
            one : (b : Bool) → option_map (λ (x : ℕ × Stored). x.1) (cond (not b) (Some y) None) ≡ Some x → option_map (λ (x : ℕ × Stored). x.1) (cond b (Some y) None) ≡ None
            one true e = absurd (not_some x (sym e))
            one false e = refl

        by : (n : Bool) → is_noted q noted ≡ n → option_map (λ (x : ℕ × Stored). x.1) (option_filter (λ (x : ℕ × Stored). not (p x.0)) (at q (located image slots))) ≡ Some x → at q (map stored_of xs) ≡ None
        by true is e = absurd (not_some x (sym e ∙ ap (option_map (λ (x : ℕ × Stored). x.1)) (gone q is)))
        by false other e = new_at q ∙ after_other noted q _ other ∙ parted (at q (located image slots)) e

    -- where objects are afterwards
    pub placing : (q : ℕ) (pages : List NewPage) → objects_of pages ≡ xs → Apart (map stored_of xs) → placed pages q (cond (is_noted q noted) None (at q (places_in image slots))) ≡ at q (places_in image (filter (λ s. not (p s)) slots) ++ places_of pages)
    placing q pages are once =
        placed_is q pages (cond (is_noted q noted) None (at q (places_in image slots))) (subst (λ es. Apart (map stored_of es)) (sym are) once) ∙ ap (λ o. option_or (at q (places_of pages)) (cond (is_noted q noted) None o)) (all_slot q)
        ∙ by (at q (map stored_of xs)) refl (is_noted q noted) refl
        ∙ ap (λ o. option_or o (at q (places_of pages))) (sym (part_slot (λ s. not (p s)) q)) ∙ sym (at-append q (places_in image (filter (λ s. not (p s)) slots)) (places_of pages))
      where
        stays_none : (x : Stored) → at q (map stored_of xs) ≡ Some x → option_filter (λ (x : ℕ × Stored). not (p x.0)) (at q (located image slots)) ≡ None
        stays_none x there = one (option_filter (λ (x : ℕ × Stored). not (p x.0)) (at q (located image slots))) refl
          where
            one : (o : Option (ℕ × Stored)) → option_filter (λ (x : ℕ × Stored). not (p x.0)) (at q (located image slots)) ≡ o → o ≡ None
            one None e = refl
            one (Some y) e = absurd (not_some x (sym there ∙ crossing q y.1 (part_at (λ s. not (p s)) q ∙ ap (option_map (λ (x : ℕ × Stored). x.1)) e)))

        has_place : (x : Stored) → at q (map stored_of xs) ≡ Some x → (t : Option ℕ) → option_or (at q (places_of pages)) t ≡ at q (places_of pages)
        has_place x there t = one (at q (places_of pages)) refl
          where
            one : (o : Option ℕ) → at q (places_of pages) ≡ o → option_or o t ≡ o
            one None e = absurd (not_some x (sym there ∙ ap (λ es. at q (map stored_of es)) (sym are) ∙ in_pages q pages e))
            one (Some s) e = refl

        all_stay : (o : Option (ℕ × Stored)) → option_map (λ (x : ℕ × Stored). x.1) (option_filter (λ (x : ℕ × Stored). p x.0) o) ≡ None → option_filter (λ (x : ℕ × Stored). not (p x.0)) o ≡ o
        all_stay None e = refl
        all_stay (Some y) e = one (p y.0) e
          where
            one : (b : Bool) → option_map (λ (x : ℕ × Stored). x.1) (cond b (Some y) None) ≡ None → cond (not b) (Some y) None ≡ Some y
            one true e = absurd (not_some y.1 e)
            one false e = refl

        by : (y : Option Stored) → at q (map stored_of xs) ≡ y → (n : Bool) → is_noted q noted ≡ n
            → option_or (at q (places_of pages)) (cond n None (option_map (λ (x : ℕ × Stored). x.0) (at q (located image slots))))
            ≡ option_or (option_map (λ (x : ℕ × Stored). x.0) (option_filter (λ (x : ℕ × Stored). not (p x.0)) (at q (located image slots)))) (at q (places_of pages))
        by (Some x) there n is =
            has_place x there (cond n None (option_map (λ (x : ℕ × Stored). x.0) (at q (located image slots)))) ∙ sym (ap (λ o. option_or (option_map (λ (x : ℕ × Stored). x.0) o) (at q (places_of pages))) (stays_none x there))
        by None absent true is =
            ap (λ o. option_or o None) (no_place q pages (ap (λ es. at q (map stored_of es)) are ∙ absent))
            ∙ sym (ap (λ o. option_or (option_map (λ (x : ℕ × Stored). x.0) o) (at q (places_of pages))) (gone q is) ∙ no_place q pages (ap (λ es. at q (map stored_of es)) are ∙ absent))
        by None absent false is =
            let none = no_place q pages (ap (λ es. at q (map stored_of es)) are ∙ absent) in
            let o = at q (located image slots) in
            ap (λ x. option_or x (option_map (λ (x : ℕ × Stored). x.0) o)) none
            ∙ sym (ap (option_or (option_map (λ (x : ℕ × Stored). x.0) (option_filter (λ (x : ℕ × Stored). not (p x.0)) o))) none ∙ or_nothing (option_map (λ (x : ℕ × Stored). x.0) (option_filter (λ (x : ℕ × Stored). not (p x.0)) o))
            ∙ ap (option_map (λ (x : ℕ × Stored). x.0)) (all_stay o (sym (after_other noted q _ is) ∙ sym (new_at q) ∙ absent)))
