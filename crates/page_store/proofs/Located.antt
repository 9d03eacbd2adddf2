-- Objects under their serials, in lists in which each stands once.
use Rattle.std.proofs.Common.{ℕ, ◌≡◌, ◌==◌, ◌||◌, Bool, true, false, cond, List, [], ◌∷◌, ◌++◌, map, Some, None, refl, sym, ap, ◌∙◌, arith}
use Rattle.std.proofs.lemmas.Bool.{eqb-true, true≢false, false≢true}
use Rattle.std.proofs.lemmas.Bool.Decides.{nat_tests}
use Rattle.std.proofs.lemmas.Map.Entries.{option_filter}
use Rattle.std.proofs.lemmas.Map.Made.{lookup-map_values}
use Rattle.std.specs.List.{filter}
use Rattle.std.specs.Option.{option_map, option_or}
use Rattle.std.specs.Ordering.{nat_cmp}
use Rattle.std.specs.FinMap as finite
use Rattle.std.specs.declared.option.Option.{Option}
use Rattle.pss_base.specs.declared.put.Put.{Put}
use Rattle.page_format.specs.Objects.{over, stored_of}
use Rattle.page_format.specs.Pages.{entries_in, entries_of, places_in, put_of}
use Rattle.page_format.specs.Pages.{Entry}
use Rattle.page_store.specs.Placed.{is_noted}
use Rattle.page_format.specs.Places.{slot_start}
use Rattle.page_store.specs.Touched.{is_in, is_touched}
use Rattle.page_format.specs.declared.objects.Stored.{Stored}
use Rattle.page_store.specs.inner.Located.{Apart, after, at, left_by, located, located_of}
pub use Rattle.page_format.proofs.Leaving.{get-over}
use Rattle.page_store.proofs.Turned.{map-append}

pub eqb_turn : (a b : ℕ) → (a == b) ≡ (b == a)
eqb_turn a b = grind (arith, nat_tests)

module _ {X : Type 0} where
  pub at-append : (q : ℕ) (xs ys : List (ℕ × X)) → at q (xs ++ ys) ≡ option_or (at q xs) (at q ys)
  at-append q [] ys = refl
  at-append q (x ∷ xs) ys = by (q == x.0) (at-append q xs ys)
    where
      by : (b : Bool) → at q (xs ++ ys) ≡ option_or (at q xs) (at q ys) → cond b (Some x.1) (at q (xs ++ ys)) ≡ option_or (cond b (Some x.1) (at q xs)) (at q ys)
      by true e = refl
      by false e = e

  -- a key that is not there
  pub none_alike : (q k : ℕ) (es : List (ℕ × X)) → (q == k) ≡ true → at k es ≡ None → at q es ≡ None
  none_alike q k es same none = ap (λ (j : ℕ). at j es) (eqb-true q k same) ∙ none

  pub at-filter : (p : X → Bool) (q : ℕ) (es : List (ℕ × X)) → Apart es → at q (filter (λ e. p e.1) es) ≡ option_filter p (at q es)
  at-filter p q [] apart = refl
  at-filter p q (e ∷ es) apart = first (p e.1) ∙ by (p e.1) refl (q == e.0) refl (at-filter p q es apart.1)
    where
      rest : List (ℕ × X)
      rest = filter (λ e. p e.1) es

      first : (b : Bool) → at q (cond b (e ∷ filter (λ e. p e.1) es) (filter (λ e. p e.1) es)) ≡ cond b (cond (q == e.0) (Some e.1) (at q (filter (λ e. p e.1) es))) (at q (filter (λ e. p e.1) es))
      first true = refl
      first false = refl

      by : (b : Bool) → p e.1 ≡ b → (c : Bool) → (q == e.0) ≡ c → at q (filter (λ e. p e.1) es) ≡ option_filter p (at q es)
          → cond b (cond c (Some e.1) (at q (filter (λ e. p e.1) es))) (at q (filter (λ e. p e.1) es)) ≡ option_filter p (cond c (Some e.1) (at q es))
      by true pass true same ih = ap (λ b. cond b (Some e.1) None) (sym pass)
      by true pass false other ih = ih
      by false fail true same ih = ih ∙ ap (option_filter p) (none_alike q e.0 es same apart.0) ∙ ap (λ b. cond b (Some e.1) None) (sym fail)
      by false fail false other ih = ih

  pub apart-filter : (p : X → Bool) (es : List (ℕ × X)) → Apart es → Apart (filter (λ e. p e.1) es)
  apart-filter p [] apart = tt
  apart-filter p (e ∷ es) apart = by (p e.1) (at-filter p e.0 es apart.1 ∙ ap (option_filter p) apart.0) (apart-filter p es apart.1)
    where
      by : (b : Bool) → at e.0 (filter (λ e. p e.1) es) ≡ None → Apart (filter (λ e. p e.1) es) → Apart (cond b (e ∷ filter (λ e. p e.1) es) (filter (λ e. p e.1) es))
      by true none rest = (none, rest)
      by false none rest = rest

module _ {X Y : Type 0} (g : X → Y) where
  pub at-map : (q : ℕ) (es : List (ℕ × X)) → at q (map (λ e. (e.0, g e.1)) es) ≡ option_map g (at q es)
  at-map q es = lookup-map_values g (λ k. q == k) es

  pub apart-map : (es : List (ℕ × X)) → Apart es → Apart (map (λ e. (e.0, g e.1)) es)
  apart-map [] apart = tt
  apart-map (e ∷ es) apart = (at-map e.0 es ∙ ap (option_map g) apart.0, apart-map es apart.1)

  none_of : (o : Option X) → option_map g o ≡ None → o ≡ None
  none_of None e = refl
  none_of (Some x) e = absurd cc

  pub apart-unmap : (es : List (ℕ × X)) → Apart (map (λ e. (e.0, g e.1)) es) → Apart es
  apart-unmap [] apart = tt
  apart-unmap (e ∷ es) apart = (none_of (at e.0 es) (sym (at-map e.0 es) ∙ apart.0), apart-unmap es apart.1)

-- what is located: the objects and the slots of pages
stored_part : (slot : ℕ) (es : List Entry) → map (λ l. (l.0, l.1.1)) (located_of slot es) ≡ map stored_of es
stored_part slot [] = refl
stored_part slot (e ∷ es) = ap (λ l. stored_of e ∷ l) (stored_part slot es)

slot_part : (slot : ℕ) (es : List Entry) → map (λ l. (l.0, l.1.0)) (located_of slot es) ≡ map {B = ℕ × ℕ} (λ e. (e.serial, slot)) es
slot_part slot [] = refl
slot_part slot (e ∷ es) = ap (λ l. (e.serial, slot) ∷ l) (slot_part slot es)

pub stored_located : (image slots : List ℕ) → map (λ l. (l.0, l.1.1)) (located image slots) ≡ map stored_of (entries_in image slots)
stored_located image [] = refl
stored_located image (slot ∷ slots) =
    let es = entries_of image (slot_start slot) in
    map-append (λ (l : ℕ × (ℕ × Stored)). (l.0, l.1.1)) (located_of slot es) (located image slots) ∙ ap (λ l. l ++ map (λ l. (l.0, l.1.1)) (located image slots)) (stored_part slot es)
    ∙ ap (λ l. map stored_of es ++ l) (stored_located image slots) ∙ sym (map-append stored_of es (entries_in image slots))

pub slots_located : (image slots : List ℕ) → map (λ l. (l.0, l.1.0)) (located image slots) ≡ places_in image slots
slots_located image [] = refl
slots_located image (slot ∷ slots) =
    let es = entries_of image (slot_start slot) in
    map-append (λ (l : ℕ × (ℕ × Stored)). (l.0, l.1.0)) (located_of slot es) (located image slots) ∙ ap (λ l. l ++ map (λ l. (l.0, l.1.0)) (located image slots)) (slot_part slot es)
    ∙ ap (λ l. map {B = ℕ × ℕ} (λ e. (e.serial, slot)) es ++ l) (slots_located image slots)

filter_page : (p : ℕ → Bool) (slot : ℕ) (es : List Entry) (rest : List (ℕ × (ℕ × Stored))) (b : Bool) → p slot ≡ b → filter (λ l. p l.1.0) (located_of slot es ++ rest) ≡ cond b (located_of slot es) [] ++ filter (λ l. p l.1.0) rest
filter_page p slot [] rest true e = refl
filter_page p slot [] rest false e = refl
filter_page p slot (x ∷ es) rest true e =
    ap (λ b. cond b ((x.serial, (slot, (stored_of x).1)) ∷ filter (λ l. p l.1.0) (located_of slot es ++ rest)) (filter (λ l. p l.1.0) (located_of slot es ++ rest))) e
    ∙ ap (λ l. (x.serial, (slot, (stored_of x).1)) ∷ l) (filter_page p slot es rest true e)
filter_page p slot (x ∷ es) rest false e =
    ap (λ b. cond b ((x.serial, (slot, (stored_of x).1)) ∷ filter (λ l. p l.1.0) (located_of slot es ++ rest)) (filter (λ l. p l.1.0) (located_of slot es ++ rest))) e ∙ filter_page p slot es rest false e

pub located-filter : (p : ℕ → Bool) (image slots : List ℕ) → located image (filter p slots) ≡ filter (λ l. p l.1.0) (located image slots)
located-filter p image [] = refl
located-filter p image (slot ∷ slots) = by (p slot) refl (located-filter p image slots)
  where
    by : (b : Bool) → p slot ≡ b → located image (filter p slots) ≡ filter (λ l. p l.1.0) (located image slots) → located image (cond b (slot ∷ filter p slots) (filter p slots)) ≡ filter (λ l. p l.1.0) (located_of slot (entries_of image (slot_start slot)) ++ located image slots)
    by true e ih = ap (λ l. located_of slot (entries_of image (slot_start slot)) ++ l) ih ∙ sym (filter_page p slot (entries_of image (slot_start slot)) (located image slots) true e)
    by false e ih = ih ∙ sym (filter_page p slot (entries_of image (slot_start slot)) (located image slots) false e)

-- what changes leave
pub after_noted : (puts : List Put) (q : ℕ) (o p : Option Stored) → is_noted q puts ≡ true → after puts q o ≡ after puts q p
after_noted [] q o p noted = absurd (false≢true noted)
after_noted (put ∷ puts) q o p noted = by (q == put.serial) (ap (λ b. b || is_noted q puts) (eqb_turn q put.serial) ∙ noted) (λ o p more. after_noted puts q o p more)
  where
    by : (b : Bool) → (b || is_noted q puts) ≡ true → ((o p : Option Stored) → is_noted q puts ≡ true → after puts q o ≡ after puts q p) → after puts q (cond b (left_by put.home put.bytes) o) ≡ after puts q (cond b (left_by put.home put.bytes) p)
    by true e ih = refl
    by false e ih = ih o p e

pub after_other : (puts : List Put) (q : ℕ) (o : Option Stored) → is_noted q puts ≡ false → after puts q o ≡ o
after_other [] q o none = refl
after_other (put ∷ puts) q o none = by (q == put.serial) (ap (λ b. b || is_noted q puts) (eqb_turn q put.serial) ∙ none) (λ more. after_other puts q o more)
  where
    by : (b : Bool) → (b || is_noted q puts) ≡ false → (is_noted q puts ≡ false → after puts q o ≡ o) → after puts q (cond b (left_by put.home put.bytes) o) ≡ o
    by true e ih = absurd (true≢false e)
    by false e ih = ih e

after_rows : (es : List Entry) (q : ℕ) (o : Option Stored) → Apart (map stored_of es) → after (map put_of es) q o ≡ option_or (at q (map stored_of es)) o
after_rows [] q o apart = refl
after_rows (e ∷ es) q o apart = after_rows es q (cond (q == e.serial) (Some (stored_of e).1) o) apart.1 ∙ by (q == e.serial) refl
  where
    by : (b : Bool) → (q == e.serial) ≡ b → option_or (at q (map stored_of es)) (cond b (Some (stored_of e).1) o) ≡ option_or (cond b (Some (stored_of e).1) (at q (map stored_of es))) o
    by true same = ap (λ (x : Option Stored). option_or x (Some (stored_of e).1)) (none_alike q e.serial (map stored_of es) same apart.0)
    by false other = refl

or_nothing : (o : Option Stored) → option_or o None ≡ o
or_nothing None = refl
or_nothing (Some x) = refl

pub get_rows : (es : List Entry) (q : ℕ) → Apart (map stored_of es) → finite.get (over finite.empty (map put_of es)) q ≡ at q (map stored_of es)
get_rows es q apart = get-over finite.empty (map put_of es) q ∙ ap (after (map put_of es) q) (finite.get-empty nat_cmp q) ∙ after_rows es q None apart ∙ or_nothing (at q (map stored_of es))

-- a page that holds an object of which a change is noted is touched
pub touched_by : (places : finite.FinMap nat_cmp ℕ) (noted : List Put) (q s : ℕ) → finite.get places q ≡ Some s → is_noted q noted ≡ true → is_touched places noted s ≡ true
touched_by places [] q s there is = absurd (false≢true is)
touched_by places (put ∷ puts) q s there is = by (put.serial == q) refl is (touched_by places puts q s there)
  where
    either : (b c : Bool) → c ≡ true → (b || c) ≡ true
    either true c e = refl
    either false c e = e

    here : (b : Bool) → b ≡ true → (b || is_touched places puts s) ≡ true
    here true e = refl
    here false e = absurd (false≢true e)

    itself : (s == s) ≡ true
    itself = grind (arith, nat_tests)

    by : (b : Bool) → (put.serial == q) ≡ b → (b || is_noted q puts) ≡ true → (is_noted q puts ≡ true → is_touched places puts s ≡ true) → (is_in s (finite.get places put.serial) || is_touched places puts s) ≡ true
    by true same e ih = here (is_in s (finite.get places put.serial)) (ap (λ (n : ℕ). is_in s (finite.get places n)) (eqb-true put.serial q same) ∙ ap (is_in s) there ∙ itself)
    by false other e ih = either (is_in s (finite.get places put.serial)) (is_touched places puts s) (ih e)
