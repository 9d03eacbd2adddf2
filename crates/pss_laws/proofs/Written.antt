-- Maps by number whose entries are written out.
use Rattle.std.proofs.Common.{◌≡◌, ℕ, Bool, true, false, cond, List, [], ◌∷◌, map, length, Option, Some, None, refl, sym, ap, ◌∙◌}
use Rattle.std.specs.Prelude.{T}
use Rattle.std.specs.Ordering.{nat_cmp, eq_by_cmp}
use Rattle.std.specs.Cmp.{nat_cmp_total}
use Rattle.std.specs.FinMap.{FinMap, get, insert, remove, empty, entries, same_entries_map, same_map, nat_cmp-IsAntisymmetric, get-empty, get-entries, get-remove, entries-insert, entries-from_sorted, from_sorted, from_entries, len, len-entries, is_sorted, put, find}
use Rattle.type_layout.specs.Schemas.{given}
use Rattle.pss_machine.specs.Maps.{each, with_at}
use Rattle.pss_machine.proofs.Maps.{tied}

module _ {A : Type 0} where
  -- the map that has just these entries, which stand in order
  abbrev pub written : List (ℕ × A) → FinMap nat_cmp A
  written = from_sorted {R = nat_cmp}

  abbrev pub InOrder : List (ℕ × A) → Type 0
  InOrder es = T (is_sorted nat_cmp es)

  pub entries_written : (es : List (ℕ × A)) → InOrder es → entries (written es) ≡ es
  entries_written es sorted = entries-from_sorted nat_cmp es sorted

  pub get_written : (es : List (ℕ × A)) → InOrder es → (q : ℕ) → get (written es) q ≡ find nat_cmp q es
  get_written es sorted q = get-entries (written es) q ∙ ap (find nat_cmp q) (entries_written es sorted)

  pub len_written : (es : List (ℕ × A)) → InOrder es → len (written es) ≡ length es
  len_written es sorted = len-entries (written es) ∙ ap length (entries_written es sorted)

  -- a map is known by its entries
  by_entries : (m : FinMap nat_cmp A) (es : List (ℕ × A)) → InOrder es → entries m ≡ es → m ≡ written es
  by_entries m es sorted e = same_entries_map m (written es) (e ∙ sym (entries_written es sorted))

  pub empty_written : empty {X = A} {R = nat_cmp} ≡ written []
  empty_written = same_map nat_cmp_total nat_cmp-IsAntisymmetric empty (written []) (λ q. get-empty nat_cmp q ∙ sym (get_written [] tt q))

  pub entries_empty : entries (empty {X = A} {R = nat_cmp}) ≡ []
  entries_empty = ap entries empty_written ∙ entries_written [] tt

  pub insert_written : (es : List (ℕ × A)) → InOrder es → (k : ℕ) (x : A) → InOrder (put nat_cmp k x es) → insert (written es) k x ≡ written (put nat_cmp k x es)
  insert_written es sorted k x after = by_entries (insert (written es) k x) (put nat_cmp k x es) after (entries-insert nat_cmp_total (written es) k x ∙ ap (put nat_cmp k x) (entries_written es sorted))

  pub with_at_written : (es : List (ℕ × A)) → InOrder es → (k : ℕ) (f : A → A) (x : A) → find nat_cmp k es ≡ Some x → InOrder (put nat_cmp k (f x) es) → with_at (written es) k f ≡ written (put nat_cmp k (f x) es)
  with_at_written es sorted k f x there after = ap (λ (o : Option A). given o (written es) (λ y. insert (written es) k (f y))) (get_written es sorted k ∙ there) ∙ insert_written es sorted k (f x) after

  from_entries_written : (es : List (ℕ × A)) → InOrder es → entries (from_entries {R = nat_cmp} es) ≡ es → from_entries {R = nat_cmp} es ≡ written es
  from_entries_written es sorted e = by_entries (from_entries es) es sorted e

  -- of one entry, and of two
  pub one_entry : (k : ℕ) (x : A) → entries (from_entries {R = nat_cmp} ((k, x) ∷ [])) ≡ (k, x) ∷ []
  one_entry k x = entries-insert nat_cmp_total empty k x ∙ ap (put nat_cmp k x) entries_empty

  two_entries : (k l : ℕ) (x y : A) → entries (from_entries {R = nat_cmp} ((k, x) ∷ (l, y) ∷ [])) ≡ put nat_cmp k x ((l, y) ∷ [])
  two_entries k l x y = entries-insert nat_cmp_total (insert empty l y) k x ∙ ap (put nat_cmp k x) (one_entry l y)

  pub remove_only : (k : ℕ) (x : A) → remove (written ((k, x) ∷ [])) k ≡ written []
  remove_only k x =
      same_map nat_cmp_total nat_cmp-IsAntisymmetric (remove (written ((k, x) ∷ [])) k) (written [])
      (λ q. get-remove nat_cmp_total (written ((k, x) ∷ [])) k q ∙ ap (cond (eq_by_cmp nat_cmp q k) None) (get_written ((k, x) ∷ []) tt q) ∙ swept (eq_by_cmp nat_cmp q k) ∙ sym (get_written [] tt q))
    where
      swept : (b : Bool) → cond b None (cond b (Some x) None) ≡ None
      swept true = refl
      swept false = refl

  pub remove_second : (k l : ℕ) (x y : A) → (k ≡ l → ⊥) → InOrder ((k, x) ∷ (l, y) ∷ []) → remove (written ((k, x) ∷ (l, y) ∷ [])) l ≡ written ((k, x) ∷ [])
  remove_second k l x y apart sorted =
      same_map nat_cmp_total nat_cmp-IsAntisymmetric (remove (written ((k, x) ∷ (l, y) ∷ [])) l) (written ((k, x) ∷ []))
      (λ q. get-remove nat_cmp_total (written ((k, x) ∷ (l, y) ∷ [])) l q ∙ ap (cond (eq_by_cmp nat_cmp q l) None) (get_written ((k, x) ∷ (l, y) ∷ []) sorted q)
      ∙ swept (eq_by_cmp nat_cmp q k) (eq_by_cmp nat_cmp q l) (λ e d. apart (sym (tied q k e) ∙ tied q l d)) ∙ sym (get_written ((k, x) ∷ []) tt q))
    where
      swept : (b c : Bool) → (b ≡ true → c ≡ true → ⊥) → cond c None (cond b (Some x) (cond c (Some y) None)) ≡ cond b (Some x) None
      swept true true never = absurd (never refl refl)
      swept true false never = refl
      swept false true never = refl
      swept false false never = refl

module _ {A B : Type 0} where
  pub each_two : (f : ℕ → A → B) (x y : A) → each f (written ((1, x) ∷ (2, y) ∷ [])) ≡ written ((1, f 1 x) ∷ (2, f 2 y) ∷ [])
  each_two f x y =
      ap (λ (es : List (ℕ × A)). from_entries {R = nat_cmp} (map (λ e. (e.0, f e.0 e.1)) es)) (entries_written ((1, x) ∷ (2, y) ∷ []) tt)
      ∙ from_entries_written ((1, f 1 x) ∷ (2, f 2 y) ∷ []) tt (two_entries 1 2 (f 1 x) (f 2 y))
