-- Whether objects hold keys in common is decided.
use Rattle.std.proofs.Common.{ℕ, suc, ◌≡◌, ◌+◌, ◌<◌, ◌==◌, ◌&&◌, ◌||◌, inl, inr, ⊎_elim, Bool, true, false, cond, IsTrue, List, [], ◌∷◌, Option, None, Some, refl, sym, ap, ◌∙◌, subst, arith}
use Rattle.std.specs.FinMap.{entries, find, get, get-entries}
use Rattle.std.specs.List.{list_any}
use Rattle.std.specs.Ordering.{eq_by_cmp, nat_cmp}
use Rattle.std.specs.Str.{bytes_eq}
use Rattle.std.proofs.lemmas.Bool.{cases_eq, false≢true}
use Rattle.std.proofs.lemmas.Slice.Eq.{bytes_eq-Decides}
use Rattle.type_layout.specs.declared.key.KeyNo.{KeyNo}
use Rattle.type_layout.specs.declared.schema.Home.{Home}
use Rattle.type_layout.specs.declared.schema.Schema.{Schema}
use Rattle.type_layout.specs.Keys.{key_bytes}
use Rattle.type_layout.specs.Schemas.{given, has_key, home_at}
use Rattle.pss_catalog.specs.Catalog.{Catalog, IsUnique, Object, holds}
use Rattle.pss_catalog.proofs.Listing.{tie}
use Rattle.storage_home.proofs.Places.{same_number}
use Rattle.page_format.proofs.Decisions.{IsDecided, both_of, some_below}
use Rattle.pss_recovery.specs.Loading.{IsFree}
use Rattle.pss_recovery.proofs.Givens.{and_is}

pub true_decided : (b : Bool) → IsDecided (b ≡ true)
true_decided true = inl refl
true_decided false = inr (λ e. false≢true e)

pub same_decided : (xs ys : List ℕ) → IsDecided (xs ≡ ys)
same_decided xs ys = ⊎_elim (λ same. inl ((bytes_eq-Decides xs ys).0 same)) (λ differ. inr (λ e. differ ((bytes_eq-Decides xs ys).1 e))) (true_decided (bytes_eq xs ys))

-- each of the numbers is below this one
abbrev above : List KeyNo → ℕ
above [] = 0
above (k ∷ ks) = suc k.0 + above ks

below_above : (ks : List KeyNo) (n : ℕ) → list_any (λ j. j.0 == n) ks ≡ true → n < above ks
below_above [] n e = absurd (false≢true e)
below_above (k ∷ ks) n e = by (k.0 == n) refl (λ (rest : list_any (λ j. j.0 == n) ks ≡ true). below_above ks n rest) e
  where
    by : (b : Bool) → (k.0 == n) ≡ b → (list_any (λ j. j.0 == n) ks ≡ true → n < above ks) → (b || list_any (λ j. j.0 == n) ks) ≡ true → n < above (k ∷ ks)
    by true here behind e = let same = same_number k.0 n here in omega (arith, same)
    by false here behind e = let less = behind e in omega (arith, less)

-- and so is each serial of a map
abbrev past : List (ℕ × Object) → ℕ
past [] = 0
past (e ∷ es) = suc e.0 + past es

below_past : (es : List (ℕ × Object)) (s : ℕ) (x : Object) → find nat_cmp s es ≡ Some x → s < past es
below_past [] s x e = absurd (let none : None ≡ Some x = e in cc)
below_past (e ∷ es) s x there = by (eq_by_cmp nat_cmp s e.0) refl (λ (rest : find nat_cmp s es ≡ Some x). below_past es s x rest) there
  where
    by : (b : Bool) → eq_by_cmp nat_cmp s e.0 ≡ b → (find nat_cmp s es ≡ Some x → s < past es) → cond b (Some e.1) (find nat_cmp s es) ≡ Some x → s < past (e ∷ es)
    by true here behind there = let same = same_number s e.0 (sym (tie s e.0) ∙ here) in omega (arith, same)
    by false here behind there = let less = behind there in omega (arith, less)

module _ (S : Schema) where
  -- the home of an object has a key
  abbrev has : KeyNo → Object → Bool
  has k x = given (home_at S x.home) false (λ home. has_key home k)

  -- two objects hold a key with the same bytes
  pub record Share (x y : Object) (k : KeyNo) : Type 0 where
    pub one : has k x ≡ true
    pub other : has k y ≡ true
    pub same : key_bytes S k x.values ≡ key_bytes S k y.values

  holds_own : (x : Object) (k : KeyNo) (bytes : List ℕ) → has k x ≡ true → key_bytes S k x.values ≡ bytes → IsTrue (holds S k bytes x)
  holds_own x k bytes has_it same = ap (λ b. b && bytes_eq (key_bytes S k x.values) bytes) has_it ∙ (bytes_eq-Decides (key_bytes S k x.values) bytes).1 same

  pub both_hold : (x y : Object) (k : KeyNo) → Share x y k → IsTrue (holds S k (key_bytes S k y.values) x) × IsTrue (holds S k (key_bytes S k y.values) y)
  both_hold x y k s = (holds_own x k (key_bytes S k y.values) s.one s.same, holds_own y k (key_bytes S k y.values) s.other refl)

  pub share : (x y : Object) (k : KeyNo) (bytes : List ℕ) → IsTrue (holds S k bytes x) → IsTrue (holds S k bytes y) → Share x y k
  share x y k bytes a b =
      let p = and_is (has k x) (bytes_eq (key_bytes S k x.values) bytes) a in
      let q = and_is (has k y) (bytes_eq (key_bytes S k y.values) bytes) b in
      record { one = p.0; other = q.0; same = (bytes_eq-Decides (key_bytes S k x.values) bytes).0 p.1 ∙ sym ((bytes_eq-Decides (key_bytes S k y.values) bytes).0 q.1) }

  keys_above : Option Home → ℕ
  keys_above home = given home 0 (λ h. above h.keys)

  below_keys : (home : Option Home) (k : KeyNo) → given home false (λ h. has_key h k) ≡ true → k.0 < keys_above home
  unfolding keys_above
  below_keys None k e = absurd (false≢true e)
  below_keys (Some home) k e = below_above home.keys k.0 e

  number : ℕ → KeyNo
  number n = record { 0 = n }

  pub share_decided : (x y : Object) → IsDecided ((k : KeyNo) × Share x y k)
  unfolding number
  share_decided x y =
      ⊎_elim (λ some. inl (number some.0, some.2)) (λ none. inr (λ some. none (some.0.0, below_keys (home_at S x.home) some.0 some.1.one, some.1))) (some_below (λ n. Share x y (number n)) decided (keys_above (home_at S x.home)))
    where
      decided : (n : ℕ) → IsDecided (Share x y (number n))
      decided n =
          let k = number n in
          ⊎_elim (λ all. inl (record { one = all.0; other = all.1.0; same = all.1.1 })) (λ never. inr (λ s. never (s.one, (s.other, s.same))))
          (both_of (has k x ≡ true) ((has k y ≡ true) × (key_bytes S k x.values ≡ key_bytes S k y.values)) (true_decided (has k x))
          (both_of (has k y ≡ true) (key_bytes S k x.values ≡ key_bytes S k y.values) (true_decided (has k y)) (same_decided (key_bytes S k x.values) (key_bytes S k y.values))))

module _ (M : Catalog) where
  -- an object with a serial, and something of it
  abbrev pub Stored : (ℕ → Object → Type 0) → ℕ → Type 0
  Stored P s = (x : Object) × (get M s ≡ Some x) × P s x

  stored_at : (P : ℕ → Object → Type 0) → ((s : ℕ) (x : Object) → IsDecided (P s x)) → (s : ℕ) (o : Option Object) → get M s ≡ o → IsDecided (Stored P s)
  stored_at P decided s None e = inr (λ some. let none : None ≡ Some some.0 = sym e ∙ some.1 in absurd (cc))
  stored_at P decided s (Some x) e = ⊎_elim (λ p. inl (x, e, p)) (λ never. inr (λ some. let same : Some x ≡ Some some.0 = sym e ∙ some.1 in never (subst (P s) (let is : some.0 ≡ x = cc in is) some.2))) (decided s x)

  -- of some object something holds, or of none
  pub stored_decided : (P : ℕ → Object → Type 0) → ((s : ℕ) (x : Object) → IsDecided (P s x)) → IsDecided ((s : ℕ) × Stored P s)
  stored_decided P decided =
      ⊎_elim (λ some. inl (some.0, some.2)) (λ none. inr (λ some. none (some.0, below_past (entries M) some.0 some.1.0 (sym (get-entries M some.0) ∙ some.1.1), some.1)))
      (some_below (Stored P) (λ s. stored_at P decided s (get M s) refl) (past (entries M)))

module _ (S : Schema) (M : Catalog) where
  pub free_decided : (object : Object) → IsDecided (IsFree S M object)
  free_decided object =
      ⊎_elim (λ some. let both = both_hold S some.1.0 object some.1.2.0 some.1.2.1 in inr (λ free. free some.1.2.0 (key_bytes S some.1.2.0 object.values) some.0 some.1.0 some.1.1 both.0 both.1))
      (λ none. inl (λ k bytes s x there other own. none (s, (x, there, (k, share S x object k bytes other own)))))
      (stored_decided M (λ s x. (k : KeyNo) × Share S x object k) (λ s x. share_decided S x object))

  -- another serial has an object that shares a key
  abbrev IsShared : ℕ → Object → Type 0
  IsShared s x = (t : ℕ) × Stored M (λ n y. (s ≡ n → ⊥) × ((k : KeyNo) × Share S x y k)) t

  shared_decided : (s : ℕ) (x : Object) → IsDecided (IsShared s x)
  shared_decided s x = stored_decided M (λ n y. (s ≡ n → ⊥) × ((k : KeyNo) × Share S x y k)) (λ n y. both_of (s ≡ n → ⊥) ((k : KeyNo) × Share S x y k) (apart n) (share_decided S x y))
    where
      apart : (n : ℕ) → IsDecided (s ≡ n → ⊥)
      apart n = ⊎_elim (λ e. inr (λ ne. ne e)) (λ ne. inl ne) (cases_eq s n)

  pub unique_decided : IsDecided (IsUnique S M)
  unique_decided = ⊎_elim twice once (stored_decided M IsShared shared_decided)
    where
      twice : ((s : ℕ) × Stored M IsShared s) → IsDecided (IsUnique S M)
      twice some =
          let x = some.1.0 in
          let y = some.1.2.1.0 in
          let k = some.1.2.1.2.1.0 in
          let both = both_hold S x y k some.1.2.1.2.1.1 in
          inr (λ unique. some.1.2.1.2.0 (unique k (key_bytes S k y.values) some.0 some.1.2.0 x y some.1.1 some.1.2.1.1 both.0 both.1))

      once : (((s : ℕ) × Stored M IsShared s) → ⊥) → IsDecided (IsUnique S M)
      once none = inl (λ k bytes s t x y there also one other. ⊎_elim (λ e. e) (λ ne. absurd (none (s, (x, there, (t, (y, also, (ne, (k, share S x y k bytes one other)))))))) (cases_eq s t))
