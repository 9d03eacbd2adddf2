-- Which root is current, by the heads of both.
use Rattle.std.proofs.Common.{ℕ, ◌≡◌, ◌+◌, ◌%◌, ◌^◌, ◌≤◌, List, length, true, false, inl, inr, refl, sym, ap, ◌∙◌, arith}
use Rattle.std.proofs.lemmas.Bool.{true≢false}
use Rattle.redo_journal.specs.Journal.{journal_end}
use Rattle.page_format.specs.Roots.{IsNoStore, IsRoot, IsRootDamage, Follows}
use Rattle.page_format.specs.declared.current.Current.{Current}
use Rattle.page_format.specs.declared.head.Head.{Head}
use Rattle.page_format.specs.inner.Current.{IsCurrentHead}
use Rattle.page_format.specs.inner.Heads.{IsHead}

abbrev pub first_of : Head → Current
first_of head = record { area = 0; head = head }

abbrev pub second_of : Head → Current
second_of head = record { area = 1; head = head }

-- no root by a head that says so
pub no_root : (area : ℕ) (head : Head) (image : List ℕ) → IsHead area head image → head.is_root ≡ false → IsRoot image area → ⊥
no_root area head image is none r = true≢false (sym (is.root.1 r) ∙ none)

follows_by : (area other : ℕ) (head before : Head) (image : List ℕ) → IsHead area head image → IsHead other before image → head.epoch ≡ (before.epoch + 1) % 2 ^ 64 → Follows image area other
follows_by area other head before image is was e = is.epoch ∙ e ∙ ap (λ n. (n + 1) % 2 ^ 64) (sym was.epoch)

does_not_follow : (area other : ℕ) (head before : Head) (image : List ℕ) → IsHead area head image → IsHead other before image → (head.epoch ≡ (before.epoch + 1) % 2 ^ 64 → ⊥) → Follows image area other → ⊥
does_not_follow area other head before image is was differ f = differ (sym is.epoch ∙ f ∙ ap (λ n. (n + 1) % 2 ^ 64) was.epoch)

module _ (first second : Head) (image : List ℕ) (one : IsHead 0 first image) (two : IsHead 1 second image) where
  pub first_alone : first.is_root ≡ true → second.is_root ≡ false → IsCurrentHead (first_of first) image
  first_alone here none = record { current = record { area_ = omega arith; root = one.root.0 here; newer = λ r. absurd (no_root 1 second image two none r) }; head = one }

  pub second_alone : first.is_root ≡ false → second.is_root ≡ true → IsCurrentHead (second_of second) image
  second_alone none here = record { current = record { area_ = omega arith; root = two.root.0 here; newer = λ r. absurd (no_root 0 first image one none r) }; head = two }

  pub first_newer : first.is_root ≡ true → first.epoch ≡ (second.epoch + 1) % 2 ^ 64 → IsCurrentHead (first_of first) image
  first_newer here e = record { current = record { area_ = omega arith; root = one.root.0 here; newer = λ _. follows_by 0 1 first second image one two e }; head = one }

  pub second_newer : second.is_root ≡ true → second.epoch ≡ (first.epoch + 1) % 2 ^ 64 → IsCurrentHead (second_of second) image
  second_newer here e = record { current = record { area_ = omega arith; root = two.root.0 here; newer = λ _. follows_by 1 0 second first image two one e }; head = two }

  pub neither_root : first.is_root ≡ false → second.is_root ≡ false → IsNoStore image
  neither_root none none_ = inr (no_root 0 first image one none, no_root 1 second image two none_)

  pub strange_roots : journal_end ≤ length image → first.is_root ≡ true → second.is_root ≡ true → (first.epoch ≡ (second.epoch + 1) % 2 ^ 64 → ⊥) → (second.epoch ≡ (first.epoch + 1) % 2 ^ 64 → ⊥) → IsRootDamage image 131072
  strange_roots long here there differ differ_ =
      record { long = long; why = inl (record { first = one.root.0 here; second = two.root.0 there; neither = (does_not_follow 0 1 first second image one two differ, does_not_follow 1 0 second first image two one differ_) }, refl) }
