-- The word that the bytes of a number make, the lowest first.
use Rattle.std.proofs.Common.{◌≡◌, ℕ, zero, suc, ◌+◌, ◌-◌, ◌*◌, ◌/◌, ◌%◌, ◌^◌, ◌<◌, ◌≤◌, ap, ◌∙◌, arith}
use Rattle.std.specs.Hash.{le_bytes}
use Rattle.std.specs.Int.{byte_at, bytes_low_first}
use Rattle.std.specs.Int.Bits.{bit_or, or_shifted_r}
use Rattle.std.specs.Prelude.{fold}
use Rattle.table_hash.specs.Numbers.{shifted, word_of}

-- the lowest k bytes of x, at the high end of a word
abbrev top : ℕ → ℕ → ℕ
top k x = x % 2 ^ (8 * k) * 2 ^ (64 - 8 * k)

meeting : (a b z : ℕ) → a < 2 ^ 56 → b ≡ z * 2 ^ 56 → bit_or a b ≡ z * 2 ^ 56 + a
meeting a b z p e = ap (bit_or a) e ∙ or_shifted_r z 56 a p

shifts : (k x : ℕ) → k < 8 → shifted (top k x) (byte_at k x) ≡ top (suc k) x
shifts zero x p = meeting (top 0 x / 256) _ (x % 256) (omega arith) (omega arith) ∙ omega arith
shifts (suc zero) x p = meeting (top 1 x / 256) _ (x / 256 ^ 1 % 256) (omega arith) (omega arith) ∙ omega arith
shifts (suc (suc zero)) x p = meeting (top 2 x / 256) _ (x / 256 ^ 2 % 256) (omega arith) (omega arith) ∙ omega arith
shifts (suc (suc (suc zero))) x p = meeting (top 3 x / 256) _ (x / 256 ^ 3 % 256) (omega arith) (omega arith) ∙ omega arith
shifts (suc (suc (suc (suc zero)))) x p = meeting (top 4 x / 256) _ (x / 256 ^ 4 % 256) (omega arith) (omega arith) ∙ omega arith
shifts (suc (suc (suc (suc (suc zero))))) x p = meeting (top 5 x / 256) _ (x / 256 ^ 5 % 256) (omega arith) (omega arith) ∙ omega arith
shifts (suc (suc (suc (suc (suc (suc zero)))))) x p = meeting (top 6 x / 256) _ (x / 256 ^ 6 % 256) (omega arith) (omega arith) ∙ omega arith
shifts (suc (suc (suc (suc (suc (suc (suc zero))))))) x p = meeting (top 7 x / 256) _ (x / 256 ^ 7 % 256) (omega arith) (omega arith) ∙ omega arith
shifts (suc (suc (suc (suc (suc (suc (suc (suc k)))))))) x p = absurd (omega arith)

more : (m k x : ℕ) → k + m ≤ 8 → fold shifted (top k x) (bytes_low_first k m x) ≡ top (k + m) x
more zero k x p = ap (λ n. top n x) (omega arith)
more (suc m) k x p =
    ap (λ w. fold shifted w (bytes_low_first (suc k) m x)) (shifts k x (omega arith))
    ∙ more m (suc k) x (omega arith)
    ∙ ap (λ n. top n x) (omega arith)

joined : (m x : ℕ) → m ≤ 8 → word_of (le_bytes m x) ≡ top m x
unfolding le_bytes
joined m x p =
    let none : 0 ≡ top 0 x = omega arith in
    ap (λ w. fold shifted w (bytes_low_first 0 m x)) none ∙ more m 0 x (omega arith) ∙ ap (λ n. top n x) (omega arith)

pub eight : (x : ℕ) → x < 2 ^ 64 → word_of (le_bytes 8 x) ≡ x
eight x p = joined 8 x (omega arith) ∙ omega arith

pub four : (x : ℕ) → x < 2 ^ 32 → word_of (le_bytes 4 x) ≡ (x * 2 ^ 32) % 2 ^ 64
four x p = joined 4 x (omega arith) ∙ omega arith
