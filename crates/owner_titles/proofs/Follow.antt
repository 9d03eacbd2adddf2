-- How titles follow the machine's owners.
use Rattle.std.proofs.Common.{ℕ, ◌≡◌, ⊎_elim, ◌+◌, Option, Some, None, Bool, ◌==◌, true, false, cond, refl, sym, ap, ◌∙◌}
use Rattle.std.specs.Option.{option_map}
use Rattle.std.specs.Ordering.{nat_cmp}
use Rattle.std.specs.FinMap.{FinMap, get, insert, remove, get-empty}
use Rattle.pss_base.specs.declared.owner.OwnerNo.{OwnerNo}
use Rattle.pss_machine.specs.declared.level.Level.{Level}
use Rattle.pss_machine.specs.Maps.{with_at}
use Rattle.pss_machine.specs.Owners.{Owner, new_owner}
use Rattle.pss_catalog.specs.Catalog.{Catalog}
use Rattle.pss_machine.specs.Kept.{Kept, Title, first_kept}
use Rattle.pss_machine.specs.Moving.{new_title}
use Rattle.pss_machine.proofs.Maps.{get_with_at}
use Rattle.recent_table.proofs.Maps.{same_or_apart, insert_here, insert_apart, remove_here, remove_apart}
use Rattle.owner_titles.specs.declared.called.Called.{Called}
use Rattle.owner_titles.specs.Meaning.{Meaning, AreTitles, title_of, nobody, newly, come, gone, changed}
use Rattle.owner_titles.proofs.Tables.{nat_key}

-- ---- two maps that tell the same

module _ {A B C : Type 0} (f : A → C) (g : B → C) (a : FinMap nat_cmp A) (b : FinMap nat_cmp B) (same : (n : ℕ) → option_map f (get a n) ≡ option_map g (get b n)) where
  same_insert : (p q : ℕ) (x : A) (y : B) → p ≡ q → f x ≡ g y → (n : ℕ) → option_map f (get (insert a p x) n) ≡ option_map g (get (insert b q y) n)
  same_insert p q x y at is n =
      ⊎_elim
      (λ e. ap (λ z. option_map f (get (insert a p x) z)) e ∙ ap (option_map f) (insert_here nat_key a p x) ∙ ap Some is ∙ ap (option_map g) (sym (insert_here nat_key b q y)) ∙ ap (λ z. option_map g (get (insert b q y) z)) (sym (e ∙ at)))
      (λ ne. ap (option_map f) (insert_apart nat_key a p x n ne) ∙ same n ∙ ap (option_map g) (sym (insert_apart nat_key b q y n (λ e. ne (e ∙ sym at)))))
      (same_or_apart nat_key n p)

  same_remove : (p n : ℕ) → option_map f (get (remove a p) n) ≡ option_map g (get (remove b p) n)
  same_remove p n =
      ⊎_elim
      (λ e. ap (λ z. option_map f (get (remove a p) z)) e ∙ ap (option_map f) (remove_here nat_key a p) ∙ ap (option_map g) (sym (remove_here nat_key b p)) ∙ ap (λ z. option_map g (get (remove b p) z)) (sym e))
      (λ ne. ap (option_map f) (remove_apart nat_key a p n ne) ∙ same n ∙ ap (option_map g) (sym (remove_apart nat_key b p n ne)))
      (same_or_apart nat_key n p)

  same_with_at : (u : A → A) (v : B → B) → ((x : A) (y : B) → f x ≡ g y → f (u x) ≡ g (v y)) → (p n : ℕ) → option_map f (get (with_at a p u) n) ≡ option_map g (get (with_at b p v) n)
  same_with_at u v keeps p n = ap (option_map f) (get_with_at a p u n) ∙ by (n == p) ∙ ap (option_map g) (sym (get_with_at b p v n))
    where
      both : (x : Option A) (y : Option B) → option_map f x ≡ option_map g y → option_map f (option_map u x) ≡ option_map g (option_map v y)
      both None None e = refl
      both None (Some y) e = absurd (cc)
      both (Some x) None e = absurd (cc)
      both (Some x) (Some y) e = let h : f x ≡ g y = cc in ap Some (keeps x y h)

      by : (t : Bool) → option_map f (cond t (option_map u (get a p)) (get a n)) ≡ option_map g (cond t (option_map v (get b p)) (get b n))
      by true = both (get a p) (get b p) (same p)
      by false = same n

-- ---- the machine's

itself : {A : Type 0} (o : Option A) → option_map (λ x. x) o ≡ o
itself None = refl
itself (Some x) = refl

abbrev same_title : Title → Title
same_title t = t

abbrev level_of : Owner → Level
level_of owner = owner.level

abbrev level_in : Called → Level
level_in c = c.level

module _ (m : Meaning) (k j : Kept) (are : AreTitles m k) where
  titles_are : (n : ℕ) → option_map same_title (get k.titles n) ≡ option_map title_of (get m.called n)
  titles_are n = itself (get k.titles n) ∙ are.titles n

  -- an owner comes
  pub come_follows : (name : _) (level : Level) → j.titles ≡ insert k.titles k.next_owner (new_title name) → j.owners ≡ insert k.owners k.next_owner (new_owner level) → j.next_owner ≡ k.next_owner + 1 → AreTitles (come m name level) j
  come_follows name level titles owners next = record {
    titles = λ n. ap (λ t. get t n) titles ∙ sym (itself (get (insert k.titles k.next_owner (new_title name)) n)) ∙ same_insert same_title title_of k.titles m.called titles_are k.next_owner m.next (new_title name) (newly name level) are.next refl n;
    levels = λ n. ap (λ t. option_map level_of (get t n)) owners ∙ same_insert level_of level_in k.owners m.called are.levels k.next_owner m.next (new_owner level) (newly name level) are.next refl n;
    next = next ∙ ap (λ n. n + 1) are.next;
  }

  -- an owner goes
  pub gone_follows : (p : OwnerNo) → j.titles ≡ remove k.titles p.0 → j.owners ≡ remove k.owners p.0 → j.next_owner ≡ k.next_owner → AreTitles (gone m p) j
  gone_follows p titles owners next = record {
    titles = λ n. ap (λ t. get t n) titles ∙ sym (itself (get (remove k.titles p.0) n)) ∙ same_remove same_title title_of k.titles m.called titles_are p.0 n;
    levels = λ n. ap (λ t. option_map level_of (get t n)) owners ∙ same_remove level_of level_in k.owners m.called are.levels p.0 n;
    next = next ∙ are.next;
  }

  -- an owner is another one at its level, and called otherwise
  pub changed_follows : (p : OwnerNo) (f : Called → Called) (t : Title → Title) (u : Owner → Owner) → ((c : Called) → t (title_of c) ≡ title_of (f c)) → ((c : Called) → (f c).level ≡ c.level) → ((x : Owner) → (u x).level ≡ x.level)
      → j.titles ≡ with_at k.titles p.0 t → j.owners ≡ with_at k.owners p.0 u → j.next_owner ≡ k.next_owner → AreTitles (changed f m p) j
  changed_follows p f t u same called_level owner_level titles owners next = record {
    titles = λ n. ap (λ x. get x n) titles ∙ sym (itself (get (with_at k.titles p.0 t) n)) ∙ same_with_at same_title title_of k.titles m.called titles_are t f (λ x y e. ap t e ∙ same y) p.0 n;
    levels = λ n. ap (λ x. option_map level_of (get x n)) owners ∙ same_with_at level_of level_in k.owners m.called are.levels u f (λ x y e. owner_level x ∙ e ∙ sym (called_level y)) p.0 n;
    next = next ∙ are.next;
  }

  -- nothing of it changes
  pub same_follows : j.titles ≡ k.titles → j.owners ≡ k.owners → j.next_owner ≡ k.next_owner → AreTitles m j
  same_follows titles owners next = record {
    titles = λ n. ap (λ t. get t n) titles ∙ are.titles n;
    levels = λ n. ap (λ t. option_map level_of (get t n)) owners ∙ are.levels n;
    next = next ∙ are.next;
  }

-- where nobody has come yet
pub first_titles : (M : Catalog) (next : ℕ) → AreTitles nobody (first_kept M next)
first_titles M next = record {
  titles = λ n. get-empty nat_cmp n ∙ ap (option_map title_of) (sym (get-empty nat_cmp n));
  levels = λ n. ap (option_map level_of) (get-empty nat_cmp n) ∙ ap (option_map level_in) (sym (get-empty nat_cmp n));
  next = refl;
}
