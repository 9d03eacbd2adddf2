-- What stands at a place of a table, and what turns there.
use Rattle.std.proofs.Common.{ℕ, zero, suc, ◌≡◌, List, [], ◌∷◌, Bool, true, cond, Option, Some, None, IsSome, slice_get, refl, sym, ap, ◌∙◌, subst}
use Rattle.std.specs.Prelude.{IsSomeAnd}
use Rattle.std.specs.Cmp.{IsEquivalence}
use Rattle.std.specs.Map.{lookup, lookup_key, values_of}
use Rattle.std.proofs.lemmas.Map.Made.{lookup_key_passes}
use Rattle.indexmap.specs.IndexMap.{IndexMap, IsUnique, values, with_value_at}
use Rattle.indexmap.proofs.CallerLemmas.{updates-with_value_at}
use Rattle.recent_table.specs.Turned.{IsTurned, StandsAt}

pub never_there : {A B : Type 0} {o : Option A} → None ≡ o → IsSome o → B
never_there {A = A} none some = (let no : IsSome {T = A} None = subst IsSome (sym none) some in absurd (cc))

module _ {K V : Type 0} (eq : K → K → Bool) where
  -- the key that was found stands there
  pub stands_found : (es : List (K × V)) (place : ℕ) (key there : K) (value : V) → Some there ≡ lookup_key (eq key) es → Some value ≡ lookup (eq key) es → slice_get es place ≡ Some (there, value) → StandsAt eq es place key
  stands_found es place key there value is got at = subst (λ o. IsSomeAnd o (λ e. (eq key e.0 ≡ true) × (lookup (eq key) es ≡ Some e.1))) (sym at) (lookup_key_passes (eq key) es there (sym is), sym got)

  -- what stands where a key stands
  record Found (es : List (K × V)) (place : ℕ) (key : K) : Type 0 where
    pub there : K × V
    pub at : slice_get es place ≡ Some there
    pub is : eq key there.0 ≡ true
    pub got : lookup (eq key) es ≡ Some there.1

  found : (es : List (K × V)) (place : ℕ) (key : K) → StandsAt eq es place key → Found es place key
  found es place key stands = by (slice_get es place) refl stands
    where
      by : (o : Option (K × V)) → slice_get es place ≡ o → IsSomeAnd o (λ e. (eq key e.0 ≡ true) × (lookup (eq key) es ≡ Some e.1)) → Found es place key
      by None at h = absurd h
      by (Some e) at h = record { there = e; at = at; is = h.0; got = h.1 }

  module _ (laws : IsEquivalence eq) where
    -- keys that are one find the same, and turn the same
    pub found_as : (es : List (K × V)) (key there : K) → eq key there ≡ true → lookup (eq key) es ≡ lookup (eq there) es
    found_as es key there is = λ i. lookup (λ q. laws.congr key there q is i) es

    turned_as : (old new : List (K × V)) (key there : K) (value : Option V) → eq key there ≡ true → IsTurned eq old new there value → IsTurned eq old new key value
    turned_as old new key there value is turned q = turned q ∙ ap (λ b. cond b value (lookup (eq q) old)) (sym (laws.congr key there q is))

    -- a key stands where one stands that is the same
    pub stands_as : (es : List (K × V)) (place : ℕ) (key there : K) (value : V) → slice_get es place ≡ Some (there, value) → lookup (eq there) es ≡ Some value → eq key there ≡ true → StandsAt eq es place key
    stands_as es place key there value at got is = subst (λ o. IsSomeAnd o (λ e. (eq key e.0 ≡ true) × (lookup (eq key) es ≡ Some e.1))) (sym at) (is, found_as es key there is ∙ got)

    -- the value that stands where a key stands is the key's
    value_at : (es : List (K × V)) (place : ℕ) (e : K × V) → slice_get es place ≡ Some e → slice_get (values_of es) place ≡ Some e.1
    value_at [] place e at = cc
    value_at (x ∷ es) zero e at = λ i. Some ((unwrapped x at i).1)
      where
        unwrapped : (x : K × V) {e : K × V} → Some x ≡ Some e → x ≡ e
        unwrapped x is = cc
    value_at (x ∷ es) (suc place) e at = value_at es place e at

    module _ {S : Type 0} (m : IndexMap K V S) (place : ℕ) (key : K) (at : StandsAt eq m.entries place key) where
      pub value_is : slice_get (values m) place ≡ lookup (eq key) m.entries
      value_is =
          let f = found m.entries place key at in
          value_at m.entries place f.there f.at ∙ sym f.got

      -- a value that is written where a key stands
      pub turned : IsUnique eq m → (value : V) → IsTurned eq m.entries (with_value_at m place value).entries key (Some value)
      turned unique value =
          let f = found m.entries place key at in
          turned_as m.entries _ key f.there.0 (Some value) f.is (updates-with_value_at m place value laws unique f.there.0 f.there.1 f.at).0
