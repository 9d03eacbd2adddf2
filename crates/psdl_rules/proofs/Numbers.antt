-- The kinds of faults go in the order of their numbers, since they are declared in it.
use Rattle.std.proofs.Common.{◌≡◌, ◌∙◌, ℕ, suc, false, true, List, [], ◌∷◌, refl, nat_lt, arith, rules}
use Rattle.std.proofs.lemmas.Bool.Decides.{nat_tests}
use Rattle.std.specs.Ordering.{is_lt}
use Rattle.std.specs.declared.cmp.Ordering.{Ordering}
use Rattle.std.specs.declared.cmp.Ordering.TheVariants.{Less, Equal, Greater}
use mathlib.Core.Logic.{inl, inr}
use denote.Struct.Field.{Field}
use denote.Enum.Enum.{tag}
use denote.Enum.Declared.{Choice, rowss, intoss}
use denote.Enum.Compared.{Each, by}
use Rattle.psdl_directory.specs.Fault.{is_before}
use Rattle.psdl_directory.specs.declared.fault.CheckKind.{CheckKind}
use Rattle.psdl_directory.specs.contracts.fault.CheckKind.{enum}
use Rattle.psdl_rules.specs.Faults.{number}

-- two values of one variant are equal where it has no fields
abbrev tied : (Fss : List (List Field)) → Each Ordering Fss
tied [] = tt
tied (Fs ∷ Fss) = (λ _ _. Equal, tied Fss)

-- the position of a choice
abbrev place : (Fss : List (List Field)) → Choice Fss → ℕ
place Fss c = tag (rowss Fss) (intoss Fss c)

lt-none : (n : ℕ) → false ≡ nat_lt (suc n) 0
lt-none n = grind (arith, nat_tests)

lt-some : (n : ℕ) → true ≡ nat_lt 0 (suc n)
lt-some n = grind (arith, nat_tests)

lt-more : (m n : ℕ) → nat_lt m n ≡ nat_lt (suc m) (suc n)
lt-more m n = grind (arith, nat_tests)

by_place : (Fss : List (List Field)) (c d : Choice Fss) → is_lt (by Less Greater Fss (tied Fss) c d) ≡ nat_lt (place Fss c) (place Fss d)
by_place [] c d = absurd c
by_place (Fs ∷ Fss) (inl x) (inl y) = refl
by_place (Fs ∷ Fss) (inl x) (inr y) = lt-some (place Fss y)
by_place (Fs ∷ Fss) (inr x) (inl y) = lt-none (place Fss x)
by_place (Fs ∷ Fss) (inr x) (inr y) = by_place Fss x y ∙ lt-more (place Fss x) (place Fss y)

-- numbers begin at 1
from_place : (k : CheckKind) → suc (place enum.parts (enum.as_values k)) ≡ number k
from_place k = search rules

pub by_number : (a b : CheckKind) → is_before a b ≡ nat_lt (number a) (number b)
unfolding is_before
by_number a b =
    let i = place enum.parts (enum.as_values a) in
    let j = place enum.parts (enum.as_values b) in
    by_place enum.parts (enum.as_values a) (enum.as_values b) ∙ lt-more i j ∙ (λ t. nat_lt (from_place a t) (from_place b t))
