-- An image has one root, or none, or is damaged at one place.
use Rattle.std.proofs.Common.{ℕ, ◌≡◌, ◌⊎◌, ⊎_elim, inl, inr, ◌+◌, ◌-◌, ◌%◌, ◌^◌, ◌≤◌, List, length, sym, ap, ◌∙◌, subst, arith}
use Rattle.std.proofs.lemmas.Bool.{cases_eq, cases_order}
use Rattle.pss_disk.specs.Octets.{octets_in}
use Rattle.pss_disk.specs.Parts.{Stands}
use Rattle.pss_disk.proofs.Parts.{same_by_place}
use Rattle.page_format.specs.Laws.{AreRootsOneThing, AreSameRoots}
use Rattle.page_format.specs.Places.{area_start}
use Rattle.page_format.specs.Roots.{AreStrange, Follows, HasRoot, IsCurrent, IsNoStore, IsRoot, IsRootDamage, IsWrongField, IsWrongFirst, epoch_in, next_in, page_count_in, shape_length_in, slot_in}
use Rattle.page_format.specs.declared.root.Root.{Root}
use Rattle.page_format.proofs.FoundRoots.{root_found}

not_both_follow : (x y : ℕ) → x ≡ (y + 1) % 2 ^ 64 → y ≡ (x + 1) % 2 ^ 64 → ⊥
not_both_follow x y p q = omega (arith, p, q)

two_areas : (a b : ℕ) → a ≤ 1 → b ≤ 1 → (a ≡ b → ⊥) → b ≡ 1 - a
two_areas a b p q ne = omega (arith, p, q, ne)

pub current_once : (image : List ℕ) (a b : ℕ) → IsCurrent image a → IsCurrent image b → a ≡ b
current_once image a b p q = ⊎_elim (λ e. e) (λ ne. absurd (differ ne)) (cases_eq a b)
  where
    differ : (a ≡ b → ⊥) → ⊥
    differ ne =
        let there : b ≡ 1 - a = two_areas a b p.area_ q.area_ ne in
        let here : a ≡ 1 - b = two_areas b a q.area_ p.area_ (λ e. ne (sym e)) in
        let one : Follows image a b = subst (Follows image a) (sym there) (p.newer (subst (IsRoot image) there q.root)) in
        let two : Follows image b a = subst (Follows image b) (sym here) (q.newer (subst (IsRoot image) here p.root)) in
        not_both_follow _ _ one two

-- where a root is current, roots are not strange
not_strange : (image : List ℕ) (a : ℕ) → IsCurrent image a → AreStrange image → ⊥
not_strange image a p s = ⊎_elim zeroth first (by a p.area_)
  where
    by : (n : ℕ) → n ≤ 1 → (n ≡ 0) ⊎ (n ≡ 1)
    by n le = ⊎_elim (λ e. inl e) (λ ne. inr (omega (arith, le, ne))) (cases_eq n 0)

    zeroth : a ≡ 0 → ⊥
    zeroth e = s.neither.0 ((subst (λ n. IsCurrent image n) e p).newer s.second)

    first : a ≡ 1 → ⊥
    first e = s.neither.1 ((subst (λ n. IsCurrent image n) e p).newer s.first)

has_one : (image : List ℕ) (a : ℕ) → IsCurrent image a → (IsRoot image 0 → ⊥) × (IsRoot image 1 → ⊥) → ⊥
has_one image a p none = ⊎_elim (λ e. none.0 (subst (IsRoot image) e p.root)) (λ ne. let one : a ≡ 1 = omega (arith, ne, p.area_) in none.1 (subst (IsRoot image) one p.root)) (cases_eq a 0)

same_stands : (image xs ys : List ℕ) (at : ℕ) → length xs ≡ length ys → Stands image at xs → Stands image at ys → xs ≡ ys
same_stands image xs ys at len s t = sym s ∙ ap (λ n. octets_in (record { at = at; count = n }) image) len ∙ t

one_root : (root other : Root) (image : List ℕ) → HasRoot root image → HasRoot other image → AreSameRoots root other
one_root root other image r s =
    let area : root.area ≡ other.area = current_once image root.area other.area r.current s.current in
    let shape : length root.shape ≡ length other.shape = sym r.fields.shape_length ∙ ap (λ a. shape_length_in image a) area ∙ s.fields.shape_length in
    let count : length root.slots ≡ length other.slots = sym r.fields.page_count ∙ ap (λ a. page_count_in image a) area ∙ s.fields.page_count in
    record {
      area_ = area;
      epoch_ = sym r.fields.epoch ∙ ap (λ a. epoch_in image a) area ∙ s.fields.epoch;
      next_ = sym r.fields.next ∙ ap (λ a. next_in image a) area ∙ s.fields.next;
      shape_ = same_stands image root.shape other.shape (area_start root.area + 32) shape r.fields.shape (subst (λ a. Stands image (area_start a + 32) other.shape) (sym area) s.fields.shape);
      slots_ = same_by_place root.slots other.slots count (λ k lt. sym (r.fields.slots k lt) ∙ ap (λ a. slot_in image a k) area ∙ s.fields.slots k (omega (arith, lt, count)));
    }

not_damaged : (root : Root) (at : ℕ) (image : List ℕ) → HasRoot root image → IsRootDamage image at → ⊥
not_damaged root at image r d = ⊎_elim (λ s. not_strange image root.area r.current s.0) (λ f. r.right at (subst (λ a. IsWrongField image a at) (current_once image f.area root.area f.current r.current) f.wrong)) d.why

first_once : (image : List ℕ) (at other : ℕ) → IsWrongFirst image at → IsWrongFirst image other → at ≡ other
first_once image at other f g =
    let area : f.area ≡ g.area = current_once image f.area g.area f.current g.current in
    ⊎_elim (λ e. e) (λ o. absurd (⊎_elim (λ less. g.first at less (subst (λ a. IsWrongField image a at) area f.wrong)) (λ more. f.first other more (subst (λ a. IsWrongField image a other) (sym area) g.wrong)) o)) (cases_order at other)

one_place : (at other : ℕ) (image : List ℕ) → IsRootDamage image at → IsRootDamage image other → at ≡ other
one_place at other image d e =
    ⊎_elim (λ s. ⊎_elim (λ t. s.1 ∙ sym t.1) (λ g. absurd (not_strange image g.area g.current s.0)) e.why) (λ f. ⊎_elim (λ t. absurd (not_strange image f.area f.current t.0)) (λ g. first_once image at other f g) e.why) d.why

not_none : (root : Root) (image : List ℕ) → HasRoot root image → IsNoStore image → ⊥
not_none root image r n = ⊎_elim (λ short. omega (arith, short, r.long)) (λ none. has_one image root.area r.current none) n

not_both : (at : ℕ) (image : List ℕ) → IsRootDamage image at → IsNoStore image → ⊥
not_both at image d n = ⊎_elim (λ short. omega (arith, short, d.long)) (λ none. ⊎_elim (λ s. none.0 s.0.first) (λ f. has_one image f.area f.current none) d.why) n

pub roots_one_thing : AreRootsOneThing
roots_one_thing = record { either = root_found; one_root = one_root; one_place = one_place; not_damaged = not_damaged; not_none = not_none; not_both = not_both }
