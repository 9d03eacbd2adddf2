-- One entry more.
use Rattle.std.proofs.Common.{ℕ, zero, suc, ◌≡◌, ◌+◌, ◌<◌, List, [], ◌∷◌, ◌++◌, map, inl, refl, sym, ap, ◌∙◌, subst, append_assoc, append-nil, arith, below_more}
use Rattle.std.specs.Map.{keys_of}
use Rattle.pss_base.specs.declared.damage.DamageKind.{DamageKind}
use Rattle.pss_base.specs.declared.put.Put.{Put}
use Rattle.pss_disk.specs.Parts.{number8}
use Rattle.page_format.specs.PageDamage.{AreRightEntries, AreWrongEntries, IsWrongEntry}
use Rattle.page_format.specs.Pages.{AllFit, AreGiven, Entry, Fits, IsGiven, behind_entry, entries_end, entries_from, entries_of, entry_at, entry_count, place_of, put_of, record_length, serials_of}
use Rattle.page_format.specs.inner.Gathering.{AreGathered}

pub place_step : (image : List ℕ) (k at : ℕ) → place_of (k + 1) image at ≡ behind_entry image (place_of k image at)
place_step image zero at = refl
place_step image (suc k) at = ap (λ n. place_of n image at) (let e : suc k + 1 ≡ suc (k + 1) = omega arith in e) ∙ place_step image k (behind_entry image at)

pub entries_step : (image : List ℕ) (k at : ℕ) → entries_from (k + 1) image at ≡ entries_from k image at ++ entry_at image (place_of k image at) ∷ []
entries_step image zero at = refl
entries_step image (suc k) at =
    ap (λ n. entries_from n image at) (let e : suc k + 1 ≡ suc (k + 1) = omega arith in e) ∙ ap (λ es. entry_at image at ∷ es) (entries_step image k (behind_entry image at))

pub map_push : {A B : Type 0} (f : A → B) (xs : List A) (y : A) → map f (xs ++ y ∷ []) ≡ map f xs ++ f y ∷ []
map_push f [] y = refl
map_push f (x ∷ xs) y = ap (λ l. f x ∷ l) (map_push f xs y)

pub given_step : (next : ℕ) (seen xs : List ℕ) (y : ℕ) → AreGiven next seen xs → IsGiven next (seen ++ xs) y → AreGiven next seen (xs ++ y ∷ [])
given_step next seen [] y all more = (subst (λ l. IsGiven next l y) (append-nil seen) more, tt)
given_step next seen (x ∷ xs) y all more = (all.0, given_step next (seen ++ x ∷ []) xs y all.1 (subst (λ l. IsGiven next l y) (sym (append_assoc seen (x ∷ []) xs)) more))

pub keys_placed : (places : List (ℕ × ℕ)) (slot : ℕ) (es : List Entry) → keys_of (places ++ map (λ e. (e.serial, slot)) es) ≡ keys_of places ++ serials_of es
keys_placed [] slot [] = refl
keys_placed [] slot (e ∷ es) = ap (λ l. e.serial ∷ l) (keys_placed [] slot es)
keys_placed (p ∷ places) slot es = ap (λ l. p.0 ∷ l) (keys_placed places slot es)

module _ (page : List ℕ) (end next slot : ℕ) (places_before : List (ℕ × ℕ)) (rows_before : List Put) (k at : ℕ) (places : List (ℕ × ℕ)) (rows : List Put) (so_far : AreGathered page end next slot places_before rows_before k at places rows) where
  seen : keys_of places ≡ keys_of places_before ++ serials_of (entries_from k page 40)
  seen = ap keys_of so_far.places_ ∙ keys_placed places_before slot (entries_from k page 40)

  here : entry_at page at ≡ entry_at page (place_of k page 40)
  here = ap (entry_at page) so_far.place

  pub gathered_more : (later : ℕ) (more : List (ℕ × ℕ)) (all : List Put) → Fits end at (record_length page at) → IsGiven next (keys_of places) (number8 page (at + 8)) → later ≡ behind_entry page at
      → more ≡ places ++ ((entry_at page at).serial, slot) ∷ [] → all ≡ rows ++ put_of (entry_at page at) ∷ [] → AreGathered page end next slot places_before rows_before (k + 1) later more all
  gathered_more later more all fits given behind placed put =
      let es = entries_from k page 40 in
      let step : entries_from (k + 1) page 40 ≡ es ++ entry_at page at ∷ [] = entries_step page k 40 ∙ ap (λ e. es ++ e ∷ []) (sym here) in
      record {
        place = behind ∙ ap (behind_entry page) so_far.place ∙ sym (place_step page k 40);
        within = omega (arith, behind, fits.within);
        fit = below_more (λ j. Fits end (place_of j page 40) (record_length page (place_of j page 40))) k so_far.fit (subst (λ p. Fits end p (record_length page p)) so_far.place fits);
        given = subst (AreGiven next (keys_of places_before)) (sym (ap serials_of step ∙ map_push (λ e. e.serial) es (entry_at page at))) (given_step next (keys_of places_before) (serials_of es) (number8 page (at + 8)) so_far.given (subst (λ l. IsGiven next l (number8 page (at + 8))) seen given));
        places_ = placed ∙ ap (λ l. l ++ ((entry_at page at).serial, slot) ∷ []) so_far.places_ ∙ append_assoc places_before (map (λ e. (e.serial, slot)) es) (((entry_at page at).serial, slot) ∷ [])
            ∙ ap (λ l. places_before ++ l) (sym (ap (map (λ e. (e.serial, slot))) step ∙ map_push (λ e. (e.serial, slot)) es (entry_at page at)));
        rows_ = put ∙ ap (λ l. l ++ put_of (entry_at page at) ∷ []) so_far.rows_ ∙ append_assoc rows_before (map put_of es) (put_of (entry_at page at) ∷ [])
            ∙ ap (λ l. rows_before ++ l) (sym (ap (map put_of) step ∙ map_push put_of es (entry_at page at)));
      }

  right_so_far : end ≡ entries_end page 0 → AreRightEntries page 0 next (keys_of places_before) k
  right_so_far is = record { fit = subst (λ n. AllFit n page 40 k) is so_far.fit; given = so_far.given }

  pub wrong_next : (place : ℕ) (what : DamageKind) → end ≡ entries_end page 0 → k < entry_count page 0 → place ≡ at → IsWrongEntry page end next (keys_of places) at what → AreWrongEntries page 0 next (keys_of places_before) place what
  wrong_next place what is lt same wrong =
      inl (record {
        count = k;
        more = lt;
        right = right_so_far is;
        place = same ∙ so_far.place;
        wrong = subst (λ n. IsWrongEntry page n next (keys_of places_before ++ serials_of (entries_from k page 40)) place what) is
            (subst (λ l. IsWrongEntry page end next l place what) seen (subst (λ p. IsWrongEntry page end next (keys_of places) p what) (sym same) wrong));
      })

  pub all_placed : k ≡ entry_count page 0 → places ≡ places_before ++ map (λ e. (e.serial, slot)) (entries_of page 0)
  all_placed all = so_far.places_ ∙ ap (λ n. places_before ++ map (λ e. (e.serial, slot)) (entries_from n page 40)) all
