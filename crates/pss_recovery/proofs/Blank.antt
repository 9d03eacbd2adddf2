-- Images of zero octets.
use Rattle.std.proofs.Common.{ℕ, ◌≡◌, ◌≢◌, ⊎_elim, ◌+◌, ◌-◌, ◌<◌, ◌≤◌, List, [], ◌∷◌, length, get_or, slice_get, None, Some, IfSome, IsSome, Result, Ok, Err, OnOk, unwrap_or, refl, sym, ap, ◌∙◌, subst, arith}
use Rattle.std.proofs.lemmas.Bool.{cases_lt}
use Rattle.std.proofs.lemmas.Option.{unwrap_or-slice_get}
use Rattle.std.specs.declared.option.Option.{Option}
use Rattle.std.specs.Option.{option_map}
use Rattle.pss_disk.specs.Octets.{write}
use Rattle.pss_disk.specs.Parts.{octet_at}
use Rattle.pss_disk.proofs.Images.{agrees_write, misses_but}
use Rattle.pss_disk.proofs.Parts.{stands_at, stands_still, written_stands}
use Rattle.pss_disk.specs.inner.Writing.{length-write, write_before, write_behind, write_within}
use Rattle.pss_recovery.specs.inner.Blanks.{IsBlank, IsMade}

pub octet_from : (a b : List ℕ) (i j : ℕ) → slice_get a i ≡ slice_get b j → octet_at a i ≡ octet_at b j
octet_from a b i j e = sym (unwrap_or-slice_get a i 0) ∙ ap (λ o. unwrap_or o 0) e ∙ unwrap_or-slice_get b j 0

pub blank_write : (n at : ℕ) (piece content : List ℕ) → at ≡ n → ((i : ℕ) → i < length piece → get_or piece i 0 ≡ 0) → IsBlank n content → IsBlank (n + length piece) (write at piece content)
blank_write n at piece content e zeros b = record { count_ = long piece; zeros = λ i. octet i }
  where
    long : (p : List ℕ) → length (write at p content) ≡ n + length p
    long [] = b.count_ ∙ omega arith
    long (x ∷ xs) = length-write at (x ∷ xs) content ∙ omega (arith, b.count_, e)

    octet : (i : ℕ) → octet_at (write at piece content) i ≡ 0
    octet i =
        ⊎_elim
        (λ lt. octet_from (write at piece content) content i i (write_before at piece content i lt (omega (arith, lt, b.count_, e))) ∙ b.zeros i)
        (λ ge.
        ⊎_elim
        (λ lt. octet_from (write at piece content) piece i (i - at) (write_within at piece content (i - at) i (omega (arith, lt, ge)) (omega (arith, ge))) ∙ zeros (i - at) (omega (arith, lt, ge)))
        (λ far. octet_from (write at piece content) content i i (write_behind at piece content i far) ∙ b.zeros i) (cases_lt i (at + length piece))) (cases_lt i at)

-- the same where the content is told
pub blank_written : (n at : ℕ) (piece : List ℕ) (old new : Option (List ℕ)) → at ≡ n → ((i : ℕ) → i < length piece → get_or piece i 0 ≡ 0) → new ≡ option_map (write at piece) old → IfSome old (IsBlank n) → IfSome new (IsBlank (n + length piece))
blank_written n at piece None new e zeros is b = subst (λ o. IfSome o (IsBlank (n + length piece))) (sym is) tt
blank_written n at piece (Some content) new e zeros is b = subst (λ o. IfSome o (IsBlank (n + length piece))) (sym is) (blank_write n at piece content e zeros b)

-- what is written is told where it was told before
pub told_written : (at : ℕ) (piece : List ℕ) (old new : Option (List ℕ)) → new ≡ option_map (write at piece) old → IsSome old → IsSome new
told_written at piece old new is some = subst IsSome (sym is) (by old some)
  where
    by : (o : Option (List ℕ)) → IsSome o → IsSome (option_map (write at piece) o)
    by None some = some
    by (Some c) some = refl

-- a root is written behind its gate, and the gate opened
pub made_of : (n : ℕ) (root content : List ℕ) → 1 + length root ≤ n → IsBlank n content → IsMade n root (write 0 (165 ∷ []) (write 1 root content))
made_of n root content short b = record {
  long = length-write 0 (165 ∷ []) first ∙ omega (arith, long root short);
  gate = stands_at image (165 ∷ []) 0 0 (written_stands 0 (165 ∷ []) first) (omega arith);
  root_ = stands_still (λ i. i ≢ 0) first image root 1 (agrees_write (λ i. i ≢ 0) 0 (165 ∷ []) first (misses_but 0)) (λ i from to. λ e. omega (arith, e, from)) (omega (arith, long root short, short)) (written_stands 1 root content);
  rest = λ i ge. octet_from image first i i (write_behind 0 (165 ∷ []) first i (omega (arith, ge))) ∙ octet_from first content i i (write_behind 1 root content i ge) ∙ b.zeros i;
}
  where
    first : List ℕ
    first = write 1 root content

    image : List ℕ
    image = write 0 (165 ∷ []) first

    long : (r : List ℕ) → 1 + length r ≤ n → length (write 1 r content) ≡ n
    long [] le = b.count_
    long (x ∷ xs) le = length-write 1 (x ∷ xs) content ∙ omega (arith, b.count_, le)

pub made_written : (n : ℕ) (root : List ℕ) (old middle new : Option (List ℕ)) → 1 + length root ≤ n → middle ≡ option_map (write 1 root) old → new ≡ option_map (write 0 (165 ∷ [])) middle → IfSome old (IsBlank n) → IfSome new (IsMade n root)
made_written n root None middle new short e f b = subst (λ o. IfSome o (IsMade n root)) (sym (f ∙ ap (option_map (write 0 (165 ∷ []))) e)) tt
made_written n root (Some content) middle new short e f b = subst (λ o. IfSome o (IsMade n root)) (sym (f ∙ ap (option_map (write 0 (165 ∷ []))) e)) (made_of n root content short b)

-- what holds of each schema, where the content is told
pub made_stands : {T E A : Type 0} (r : Result T E) (o : Option (List ℕ)) (M : List ℕ → Type 0) (P : A → Type 0) (Q : A → List ℕ → Type 0) → ((image : List ℕ) → M image → (a : A) → P a → Q a image) → OnOk r (IfSome o M) → OnOk r ((a : A) → P a → IfSome o (Q a))
made_stands (Ok t) None M P Q f made = λ a p. tt
made_stands (Ok t) (Some c) M P Q f made = λ a p. f c made a p
made_stands (Err e) o M P Q f made = tt
