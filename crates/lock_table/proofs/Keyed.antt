-- Keys and their rings, as rings come and go and nodes with them.
use Rattle.std.proofs.Common.{ℕ, zero, suc, ◌≡◌, ◌<◌, ◌⊎◌, ⊎_elim, get_or, inl, inr, List, ◌∷◌, length, Option, Some, None, Bool, true, false, refl, sym, ap, ◌∙◌, subst, arith}
use Rattle.std.specs.Prelude.{Contains}
use Rattle.link_pool.specs.declared.names.Node.{Node}
use Rattle.lock_table.specs.inner.Links.{IsKeyed, EmptyAt}
use Rattle.lock_table.proofs.Sames.{cases, differ}

pub one_value : {A : Type 0} {a b : A} → Some a ≡ Some b → a ≡ b
one_value e = cc

pub no_value : {A B : Type 0} (r : A) → None ≡ Some r → B
no_value r h = absurd (cc)

pub contains_first : {X : Type 0} (x : X) (xs : List X) → Contains (x ∷ xs) x
contains_first x xs = (0, omega arith, refl)

pub contains_rest : {X : Type 0} (y x : X) (xs : List X) → Contains xs x → Contains (y ∷ xs) x
contains_rest y x xs m = (suc m.0, omega (arith, m.1), m.2)

pub contains_cases : {X : Type 0} (y x : X) (xs : List X) → Contains (y ∷ xs) x → (y ≡ x) ⊎ Contains xs x
contains_cases {X} y x xs m = by_index m.0 m.1 m.2
  where
    by_index : (k : ℕ) → k < suc (length xs) → get_or (y ∷ xs) k x ≡ x → (y ≡ x) ⊎ Contains xs x
    by_index zero within found = inl found
    by_index (suc k) within found = inr (k, omega arith, found)

module _ {K R : Type 0} (same : K → K → Bool) (true_is : (a b : K) → same a b ≡ true → a ≡ b) (self : (a : K) → same a a ≡ true) where
  module _ (IsRing IsRing' : R → Type 0) (home home' : Node → Option R) (key_of key_of' : Node → Option K) (at at' : K → Option R) (keyed : IsKeyed IsRing home key_of at) (homes : (node : Node) → home' node ≡ home node)
      (keys : (node : Node) → key_of' node ≡ key_of node) (k : K) (r : R) (others : (q : K) → same q k ≡ false → at' q ≡ at q) where
    -- a key lost its ring, in which no node stood
    pub keyed_less : at k ≡ Some r → at' k ≡ None → ((node : Node) → home node ≡ Some r → ⊥) → ((s : R) → (s ≡ r → ⊥) → IsRing s → IsRing' s) → IsKeyed IsRing' home' key_of' at'
    keyed_less here gone empty stay = record {
      there = λ q s e. there q s e (cases same true_is q k);
      apart = λ a b s e f. apart a b s e f (cases same true_is a k) (cases same true_is b k);
      stands = λ node q e. stands node q e (cases same true_is q k);
    }
      where
        there : (q : K) (s : R) → at' q ≡ Some s → (q ≡ k) ⊎ (same q k ≡ false) → IsRing' s
        there q s e (inl is) = no_value s (sym gone ∙ ap at' (sym is) ∙ e)
        there q s e (inr ne) =
            let was : at q ≡ Some s = sym (others q ne) ∙ e in
            stay s (λ (o : s ≡ r). differ same self q k ne (keyed.apart q k r (was ∙ ap (λ x. Some x) o) here)) (keyed.there q s was)

        apart : (a b : K) (s : R) → at' a ≡ Some s → at' b ≡ Some s → (a ≡ k) ⊎ (same a k ≡ false) → (b ≡ k) ⊎ (same b k ≡ false) → a ≡ b
        apart a b s e f (inl is) other = no_value s (sym gone ∙ ap at' (sym is) ∙ e)
        apart a b s e f (inr ne) (inl is) = no_value s (sym gone ∙ ap at' (sym is) ∙ f)
        apart a b s e f (inr ne) (inr nf) = keyed.apart a b s (sym (others a ne) ∙ e) (sym (others b nf) ∙ f)

        stands : (node : Node) (q : K) → key_of' node ≡ Some q → (q ≡ k) ⊎ (same q k ≡ false) → at' q ≡ home' node
        stands node q e (inl is) = absurd (empty node (sym (keyed.stands node q (sym (keys node) ∙ e)) ∙ ap at is ∙ here))
        stands node q e (inr ne) = others q ne ∙ keyed.stands node q (sym (keys node) ∙ e) ∙ sym (homes node)

    -- a key got a ring
    pub keyed_more : at k ≡ None → at' k ≡ Some r → (IsRing r → ⊥) → IsRing' r → ((s : R) → IsRing s → IsRing' s) → ((node : Node) (q : K) → key_of node ≡ Some q → home node ≡ None → ⊥) → IsKeyed IsRing' home' key_of' at'
    keyed_more none here new is_ring stay seated = record {
      there = λ q s e. there q s e (cases same true_is q k);
      apart = λ a b s e f. apart a b s e f (cases same true_is a k) (cases same true_is b k);
      stands = λ node q e. stands node q e (cases same true_is q k);
    }
      where
        there : (q : K) (s : R) → at' q ≡ Some s → (q ≡ k) ⊎ (same q k ≡ false) → IsRing' s
        there q s e (inl is) = subst IsRing' (one_value (sym here ∙ ap at' (sym is) ∙ e)) is_ring
        there q s e (inr ne) = stay s (keyed.there q s (sym (others q ne) ∙ e))

        clear : (b : K) (s : R) → r ≡ s → same b k ≡ false → at' b ≡ Some s → ⊥
        clear b s e ne f = new (keyed.there b r (sym (others b ne) ∙ f ∙ ap (λ x. Some x) (sym e)))

        apart : (a b : K) (s : R) → at' a ≡ Some s → at' b ≡ Some s → (a ≡ k) ⊎ (same a k ≡ false) → (b ≡ k) ⊎ (same b k ≡ false) → a ≡ b
        apart a b s e f (inl is) (inl too) = is ∙ sym too
        apart a b s e f (inl is) (inr ne) = absurd (clear b s (one_value (sym here ∙ ap at' (sym is) ∙ e)) ne f)
        apart a b s e f (inr ne) (inl is) = absurd (clear a s (one_value (sym here ∙ ap at' (sym is) ∙ f)) ne e)
        apart a b s e f (inr ne) (inr nf) = keyed.apart a b s (sym (others a ne) ∙ e) (sym (others b nf) ∙ f)

        stands : (node : Node) (q : K) → key_of' node ≡ Some q → (q ≡ k) ⊎ (same q k ≡ false) → at' q ≡ home' node
        stands node q e (inl is) =
            let was : key_of node ≡ Some q = sym (keys node) ∙ e in
            absurd (seated node q was (sym (keyed.stands node q was) ∙ ap at is ∙ none))
        stands node q e (inr ne) = others q ne ∙ keyed.stands node q (sym (keys node) ∙ e) ∙ sym (homes node)

  module _ (IsEmpty IsEmpty' : R → Type 0) (at at' : K → Option R) (k : K) (others : (q : K) → same q k ≡ false → at' q ≡ at q) where
    -- the ring of a key is not empty any more, or gone
    pub empty_less : (keys : List K) → EmptyAt IsEmpty at (k ∷ keys) → ((s : R) → IsEmpty' s → IsEmpty s × (at k ≡ Some s → ⊥)) → EmptyAt IsEmpty' at' keys
    empty_less keys were now s e =
        let is = now s e in
        let w = were s is.0 in
        ⊎_elim
        (λ (h : k ≡ w.0). absurd (is.1 (ap at h ∙ w.2)))
        (λ (m : Contains keys w.0). (w.0, m, kept w.0 w.2 is.1))
        (contains_cases k w.0 keys w.1)
      where
        kept : (q : K) → at q ≡ Some s → (at k ≡ Some s → ⊥) → at' q ≡ Some s
        kept q was away = ⊎_elim (λ (h : q ≡ k). absurd (away (ap at (sym h) ∙ was))) (λ ne. others q ne ∙ was) (cases same true_is q k)

    -- the ring of a key may be empty now
    pub empty_more : (keys : List K) → EmptyAt IsEmpty at keys → ((q : K) (s : R) → at q ≡ Some s → at' q ≡ Some s) → ((s : R) → IsEmpty' s → IsEmpty s ⊎ (at' k ≡ Some s)) → EmptyAt IsEmpty' at' (k ∷ keys)
    empty_more keys were kept now s e =
        ⊎_elim
        (λ (h : IsEmpty s). let w = were s h in (w.0, contains_rest k w.0 keys w.1, kept w.0 s w.2))
        (λ (h : at' k ≡ Some s). (k, contains_first k keys, h))
        (now s e)

-- the same keys, of which one stands twice
pub empty_within : {K R : Type 0} (IsEmpty : R → Type 0) (at : K → Option R) (some all : List K) → ((k : K) → Contains some k → Contains all k) → EmptyAt IsEmpty at some → EmptyAt IsEmpty at all
empty_within IsEmpty at some all within were s e = let w = were s e in (w.0, within w.0 w.1, w.2)
