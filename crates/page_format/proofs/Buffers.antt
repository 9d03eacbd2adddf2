-- Octets that were read of an image, as an image of their own.
use Rattle.std.proofs.Common.{ℕ, ◌≡◌, ◌↔◌, ◌<◌, ◌≤◌, ◌+◌, List, length, None, Some, IfSome, Result, Ok, Err, IfOk, IfErr, take, drop, replicate, sym, ap, ◌∙◌, subst, arith, length-drop}
use Rattle.std.proofs.lemmas.List.{take-append-le}
use Rattle.std.specs.Int.{from_be_bytes, w32, w64}
use Rattle.std.specs.declared.option.Option.{Option}
use Rattle.pss_disk.specs.Octets.{octets_in, range_of}
use Rattle.pss_disk.specs.Parts.{Stands, number4, number8, octet_at}
use Rattle.pss_disk.specs.inner.Writing.{length-octets_in}
use Rattle.pss_disk.proofs.Parts.{in_part, same_by_place}
use Rattle.page_format.specs.inner.Copies.{IsCopy}

-- what holds of a content that is told
pub some_weaker : {A : Type 0} (o : Option A) (P Q : A → Type 0) → ((a : A) → P a → Q a) → IfSome o P → IfSome o Q
some_weaker None P Q f h = tt
some_weaker (Some a) P Q f h = f a h

pub some_both : {A : Type 0} (o : Option A) (P Q R : A → Type 0) → ((a : A) → P a → Q a → R a) → IfSome o P → IfSome o Q → IfSome o R
some_both None P Q R f p q = tt
some_both (Some a) P Q R f p q = f a p q

pub copy_of : (base n : ℕ) (octets image : List ℕ) → length octets ≡ n → octets ≡ octets_in (range_of base octets) image → IsCopy base n octets image
copy_of base n octets image len is = record { is = is ∙ ap (λ k. octets_in (record { at = base; count = k }) image) len }

module _ (base n : ℕ) (octets image : List ℕ) (copy : IsCopy base n octets image) where
  pub octet_copied : (i : ℕ) → i < n → octet_at octets i ≡ octet_at image (base + i)
  octet_copied i lt = ap (λ l. octet_at l i) copy.is ∙ in_part (record { at = base; count = n }) image i lt

  pub part_copied : (at count : ℕ) → at + count ≤ n → octets_in (record { at = at; count = count }) octets ≡ octets_in (record { at = base + at; count = count }) image
  part_copied at count le =
      let here : length (octets_in (record { at = at; count = count }) octets) ≡ count = length-octets_in (record { at = at; count = count }) octets in
      let there : length (octets_in (record { at = base + at; count = count }) image) ≡ count = length-octets_in (record { at = base + at; count = count }) image in
      same_by_place (octets_in (record { at = at; count = count }) octets) (octets_in (record { at = base + at; count = count }) image) (here ∙ sym there)
      (λ i lt.
      let few : i < count = omega (arith, lt, here) in
      in_part (record { at = at; count = count }) octets i few ∙ octet_copied (at + i) (omega (arith, few, le)) ∙ ap (octet_at image) (let e : base + (at + i) ≡ base + at + i = omega arith in e)
      ∙ sym (in_part (record { at = base + at; count = count }) image i few))

  pub number4_copied : (at : ℕ) → at + 4 ≤ n → number4 octets at ≡ number4 image (base + at)
  number4_copied at le = ap (from_be_bytes w32) (part_copied at 4 le)

  pub number8_copied : (at : ℕ) → at + 8 ≤ n → number8 octets at ≡ number8 image (base + at)
  number8_copied at le = ap (from_be_bytes w64) (part_copied at 8 le)

  pub stands_copied : (at : ℕ) (xs : List ℕ) → at + length xs ≤ n → Stands octets at xs ↔ Stands image (base + at) xs
  stands_copied at xs le = (λ s. sym (part_copied at (length xs) le) ∙ s, λ s. part_copied at (length xs) le ∙ s)

-- an answer that is told of each image
pub ok_told : {T E : Type 0} (r : Result T E) (o p : Option (List ℕ)) (A B : List ℕ → Type 0) (P : T → List ℕ → Type 0) → p ≡ o → IfSome o A → IfSome p B → ((image : List ℕ) → A image → B image → IfOk r (λ t. P t image)) → IfOk r (λ t. IfSome o (P t))
ok_told (Ok t) None p A B P same a b f = tt
ok_told (Ok t) (Some c) p A B P same a b f = f c a (subst (λ (x : Option (List ℕ)). IfSome x B) same b)
ok_told (Err e) o p A B P same a b f = tt

pub err_told : {T E : Type 0} (r : Result T E) (o p : Option (List ℕ)) (A B : List ℕ → Type 0) (P : E → List ℕ → Type 0) → p ≡ o → IfSome o A → IfSome p B → ((image : List ℕ) → A image → B image → IfErr r (λ e. P e image)) → IfErr r (λ e. IfSome o (P e))
err_told (Ok t) o p A B P same a b f = tt
err_told (Err e) None p A B P same a b f = tt
err_told (Err e) (Some c) p A B P same a b f = f c a (subst (λ (x : Option (List ℕ)). IfSome x B) same b)

-- what holds of the value that there is
pub of_some : {A : Type 0} (o : Option A) (a : A) (P : A → Type 0) → o ≡ Some a → IfSome o P → P a
of_some o a P e h = subst (λ x. IfSome x P) e h

pub some_all : {A : Type 0} (o : Option A) (P : A → Type 0) → ((a : A) → P a) → IfSome o P
some_all None P f = tt
some_all (Some a) P f = f a

pub told_same : {A : Type 0} (o p : Option A) (P : A → Type 0) → p ≡ o → IfSome p P → IfSome o P
told_same o p P e h = subst (λ x. IfSome x P) e h

-- a part that lies inside
pub part_inside : (at count : ℕ) (image : List ℕ) → at + count ≤ length image → octets_in (record { at = at; count = count }) image ≡ take count (drop at image)
part_inside at count image le = take-append-le count (drop at image) (replicate count 0) (omega (arith, le, length-drop at image))
