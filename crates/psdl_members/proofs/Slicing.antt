-- A piece of a list, where it is there.
use Rattle.std.proofs.Common.{◌≡◌, ℕ, ◌+◌, ◌≤◌, List, [], Bool, false, cond, ◌&&◌, nat_lt, length, get_or, sym, ap}
use Rattle.std.specs.Prelude.{nat_le}
use Rattle.std.proofs.lemmas.Bool.{le-ltb}
use Rattle.psdl_members.specs.inner.Flat.{piece, piece_of}

abbrev pub start_of : List ℕ → ℕ → ℕ
start_of starts n = get_or starts n 0

and_left : (a b : Bool) → a ≡ false → a && b ≡ false
and_left a b h = ap (λ (x : Bool). x && b) h

none_of : {A : Type 0} (starts : List ℕ) (items : List A) (n : ℕ)
    → nat_lt (n + 1) (length starts) && (nat_le (start_of starts n) (start_of starts (n + 1)) && nat_le (start_of starts (n + 1)) (length items)) ≡ false → [] ≡ piece_of starts n items
none_of starts items n h = sym (ap (λ (b : Bool). cond b (piece starts n items) []) h)

pub past_end : {A : Type 0} (starts : List ℕ) (items : List A) (n : ℕ) → length starts ≤ n + 1 → [] ≡ piece_of starts n items
past_end starts items n past =
    none_of starts items n
    (and_left (nat_lt (n + 1) (length starts)) (nat_le (start_of starts n) (start_of starts (n + 1)) && nat_le (start_of starts (n + 1)) (length items)) (le-ltb (n + 1) (length starts) past))
