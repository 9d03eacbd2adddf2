-- The machine's titles, and how they follow.
use Rattle.std.proofs.Common.{ℕ, suc, ◌≡◌, ◌&&◌, List, [], ◌∷◌, length, map, filter, find, Option, Some, None, Bool, true, false, cond, not, refl, sym, ap, ◌∙◌}
use Rattle.std.specs.Prelude.{T}
use Rattle.std.specs.Option.{option_map}
use Rattle.std.specs.Str.{bytes_eq}
use Rattle.std.specs.Ordering.{nat_cmp, eq_by_cmp}
use Rattle.std.specs.FinMap as finite
use Rattle.std.specs.FinMap.{get, entries, get-entries, entries_sorted, is_sorted}
use Rattle.pss_base.specs.declared.owner.OwnerNo.{OwnerNo}
use Rattle.type_layout.specs.Schemas.{given}
use Rattle.pss_machine.specs.declared.level.Level.{Level}
use Rattle.pss_machine.specs.Owners.{Owner, is_basic}
use Rattle.pss_machine.specs.Kept as machine
use Rattle.pss_machine.specs.Kept.{Kept, Title}
use Rattle.pss_machine.proofs.Found.{first, second, below_missed}
use Rattle.pss_machine.proofs.Maps.{tied, tied_self}
use Rattle.recent_table.specs.Maps.{each}
use Rattle.recent_table.proofs.Maps.{no_value, alike_maps, get_each, entries_each}
use Rattle.owner_titles.specs.declared.called.Called.{Called}
use Rattle.owner_titles.specs.Meaning.{Meaning, AreTitles, title_of, is_transaction, transaction_named, transactions}
use Rattle.owner_titles.proofs.Tables.{nat_key}

-- ---- lists of entries

module _ {A : Type 0} (f g : ℕ × A → Bool) where
  find_alike : (es : List (ℕ × A)) → T (is_sorted nat_cmp es) → ((e : ℕ × A) → finite.find nat_cmp e.0 es ≡ Some e.1 → f e ≡ g e) → find f es ≡ find g es
  find_alike [] sorted same = refl
  find_alike (x ∷ es) sorted same =
      let here : f x ≡ g x = same x (ap (λ b. cond b (Some x.1) (finite.find nat_cmp x.0 es)) (tied_self x.0)) in
      (λ i. cond (here i) (Some x) (find_alike es (second _ _ sorted) (λ e at. same e (behind e at (eq_by_cmp nat_cmp e.0 x.0) refl)) i))
    where
      behind : (e : ℕ × A) → finite.find nat_cmp e.0 es ≡ Some e.1 → (b : Bool) → eq_by_cmp nat_cmp e.0 x.0 ≡ b → cond b (Some x.1) (finite.find nat_cmp e.0 es) ≡ Some e.1
      behind e at true tie = no_value e.1 (sym (below_missed x.0 e.0 es (tied e.0 x.0 tie) (first _ _ sorted)) ∙ at)
      behind e at false tie = at

find_map : {A B : Type 0} (f : A → B) (test : B → Bool) (xs : List A) → find test (map f xs) ≡ option_map f (find (λ x. test (f x)) xs)
find_map f test [] = refl
find_map f test (x ∷ xs) = by (test (f x)) (find_map f test xs)
  where
    by : (b : Bool) → find test (map f xs) ≡ option_map f (find (λ x. test (f x)) xs) → cond b (Some (f x)) (find test (map f xs)) ≡ option_map f (cond b (Some x) (find (λ x. test (f x)) xs))
    by true h = refl
    by false h = h

count_map : {A B : Type 0} (f : A → B) (test : B → Bool) (xs : List A) → length (filter test (map f xs)) ≡ length (filter (λ x. test (f x)) xs)
count_map f test [] = refl
count_map f test (x ∷ xs) = by (test (f x)) (count_map f test xs)
  where
    by : (b : Bool) → length (filter test (map f xs)) ≡ length (filter (λ x. test (f x)) xs) → length (cond b (f x ∷ filter test (map f xs)) (filter test (map f xs))) ≡ length (cond b (x ∷ filter (λ x. test (f x)) xs) (filter (λ x. test (f x)) xs))
    by true h = ap suc h
    by false h = h

-- ---- what is found

module _ (m : Meaning) (k : Kept) (are : AreTitles m k) where
  titles_are : entries k.titles ≡ map (λ e. (e.0, title_of e.1)) (entries m.called)
  titles_are = ap entries (alike_maps nat_key k.titles (each title_of m.called) (λ n. are.titles n ∙ sym (get_each title_of m.called n))) ∙ entries_each title_of m.called

  abbrev level_at : Option Level → Bool
  level_at o = given o false (λ level. not (is_basic level))

  of_owner : (o : Option Owner) → given o false (λ owner. not (is_basic owner.level)) ≡ level_at (option_map (λ owner. owner.level) o)
  of_owner None = refl
  of_owner (Some owner) = refl

  pub named_here : (name : List ℕ) → transaction_named m name ≡ machine.transaction_named k name
  named_here name =
      ap (option_map (λ e. record { 0 = e.0 }))
      (find_alike (λ e. bytes_eq e.1.name name && is_transaction e) (λ e. bytes_eq e.1.name name && machine.is_transaction k.owners e.0) (entries m.called) (entries_sorted m.called) alike)
      ∙ twice (find (λ e. bytes_eq e.1.name name && machine.is_transaction k.owners e.0) (entries m.called))
      ∙ ap (option_map (λ e. record { 0 = e.0 })) (sym (find_map (λ e. (e.0, title_of e.1)) (λ e. bytes_eq e.1.name name && machine.is_transaction k.owners e.0) (entries m.called)))
      ∙ ap (λ es. option_map (λ e. record { 0 = e.0 }) (find (λ e. bytes_eq e.1.name name && machine.is_transaction k.owners e.0) es)) (sym titles_are)
    where
      alike : (e : ℕ × Called) → finite.find nat_cmp e.0 (entries m.called) ≡ Some e.1 → (bytes_eq e.1.name name && is_transaction e) ≡ (bytes_eq e.1.name name && machine.is_transaction k.owners e.0)
      alike e at =
          ap (λ b. bytes_eq e.1.name name && b)
          (sym (of_owner (get k.owners e.0) ∙ ap level_at (are.levels e.0 ∙ ap (option_map (λ (c : Called). c.level)) (get-entries m.called e.0 ∙ at))))

      twice : (o : Option (ℕ × Called)) → option_map {U = OwnerNo} (λ (e : ℕ × Called). record { 0 = e.0 }) o ≡ option_map (λ (e : ℕ × Title). record { 0 = e.0 }) (option_map (λ (e : ℕ × Called). (e.0, title_of e.1)) o)
      twice None = refl
      twice (Some e) = refl

  pub counted_here : transactions m ≡ machine.transaction_count k
  counted_here =
      sym (count_map (λ (e : ℕ × Called). (e.0, e.1.level)) (λ e. not (is_basic e.1)) (entries m.called))
      ∙ ap (λ es. length (filter (λ (e : ℕ × Level). not (is_basic e.1)) es)) (sym (entries_each (λ c. c.level) m.called) ∙ ap entries (sym levels_are) ∙ entries_each (λ owner. owner.level) k.owners)
      ∙ count_map (λ (e : ℕ × Owner). (e.0, e.1.level)) (λ e. not (is_basic e.1)) (entries k.owners)
    where
      levels_are : each (λ (owner : Owner). owner.level) k.owners ≡ each (λ (c : Called). c.level) m.called
      levels_are = alike_maps nat_key _ _ (λ n. get_each (λ (owner : Owner). owner.level) k.owners n ∙ are.levels n ∙ sym (get_each (λ (c : Called). c.level) m.called n))
