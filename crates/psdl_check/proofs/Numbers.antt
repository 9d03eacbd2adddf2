-- The numbers of members by their names.
use Rattle.std.proofs.Common.{◌≡◌, ℕ, zero, suc, ◌+◌, ◌<◌, List, [], ◌∷◌, Bool, true, false, cond, length, take, get_or, Some, None, sym, ap, ◌∙◌, arith}
use Rattle.std.specs.List.{position_from}
use Rattle.std.specs.Str.{bytes_eq}
use Rattle.type_layout.specs.NamePlaces.{place_among}
use Rattle.psdl_check.specs.declared.members.TypedMember.{TypedMember}
use Rattle.psdl_check.specs.inner.TypedMembers.{typed_names}

module _ (name : List ℕ) where
  abbrev test : TypedMember → Bool
  test m = bytes_eq name m.name.now.name

  -- the first that is found
  at_from : (ms : List TypedMember) (i j : ℕ) (m : TypedMember) → i < length ms → m ≡ get_or ms i m → test m ≡ true → position_from (bytes_eq name) j (typed_names (take i ms)) ≡ None
      → Some (j + i) ≡ position_from (bytes_eq name) j (typed_names ms)
  at_from [] i j m lt is here none = absurd (omega (arith, lt))
  at_from (x ∷ ms) zero j m lt is here none =
      let same : j + 0 ≡ j = omega arith in
      ap (λ n. Some n) same ∙ ap (λ b. cond b (Some j) (position_from (bytes_eq name) (j + 1) (typed_names ms))) (sym here ∙ ap test is)
  at_from (x ∷ ms) (suc i) j m lt is here none = by (test x) none (λ h. at_from ms i (j + 1) m (omega (arith, lt)) is here h)
    where
      by : (b : Bool) → cond b (Some j) (position_from (bytes_eq name) (j + 1) (typed_names (take i ms))) ≡ None
          → (position_from (bytes_eq name) (j + 1) (typed_names (take i ms)) ≡ None → Some (j + 1 + i) ≡ position_from (bytes_eq name) (j + 1) (typed_names ms))
          → Some (j + suc i) ≡ cond b (Some j) (position_from (bytes_eq name) (j + 1) (typed_names ms))
      by true h rest = absurd (cc)
      by false h rest = ap (λ n. Some n) (omega arith) ∙ rest h

  pub found_here : (ms : List TypedMember) (i : ℕ) (m : TypedMember) → i < length ms → m ≡ get_or ms i m → bytes_eq name m.name.now.name ≡ true → place_among (typed_names (take i ms)) name ≡ None → Some i ≡ place_among (typed_names ms) name
  found_here ms i m lt is here none =
      let same : i ≡ 0 + i = omega arith in
      ap (λ n. Some n) same ∙ at_from ms i 0 m lt is here none

  none_from : (ms : List TypedMember) (i j : ℕ) (m : TypedMember) → i < length ms → m ≡ get_or ms i m → test m ≡ false → position_from (bytes_eq name) j (typed_names (take i ms)) ≡ None
      → position_from (bytes_eq name) j (typed_names (take (i + 1) ms)) ≡ None
  none_from [] i j m lt is off none = absurd (omega (arith, lt))
  none_from (x ∷ ms) zero j m lt is off none = ap (λ b. cond b (Some j) None) (ap test (sym is) ∙ off)
  none_from (x ∷ ms) (suc i) j m lt is off none =
      let next : suc i + 1 ≡ suc (i + 1) = omega arith in
      ap (λ k. position_from (bytes_eq name) j (typed_names (take k (x ∷ ms)))) next ∙ by (test x) none (λ h. none_from ms i (j + 1) m (omega (arith, lt)) is off h)
    where
      by : (b : Bool) → cond b (Some j) (position_from (bytes_eq name) (j + 1) (typed_names (take i ms))) ≡ None
          → (position_from (bytes_eq name) (j + 1) (typed_names (take i ms)) ≡ None → position_from (bytes_eq name) (j + 1) (typed_names (take (i + 1) ms)) ≡ None)
          → cond b (Some j) (position_from (bytes_eq name) (j + 1) (typed_names (take (i + 1) ms))) ≡ None
      by true h rest = absurd (cc)
      by false h rest = rest h

  pub none_more : (ms : List TypedMember) (i : ℕ) (m : TypedMember) → i < length ms → m ≡ get_or ms i m → bytes_eq name m.name.now.name ≡ false → place_among (typed_names (take i ms)) name ≡ None → place_among (typed_names (take (i + 1) ms)) name ≡ None
  none_more ms i m lt is off none = none_from ms i 0 m lt is off none
