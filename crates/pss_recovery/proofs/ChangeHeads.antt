-- The head of a change, and the change that octets begin with.
use Rattle.std.proofs.Common.{ℕ, ◌≡◌, ◌+◌, ◌^◌, ◌<◌, ◌≤◌, List, [], ◌∷◌, ◌++◌, length, take, drop, None, Some, IfSome, refl, sym, ap, ◌∙◌, subst, arith, append_assoc, length-append, length-take, length-drop}
use Rattle.std.proofs.lemmas.List.{drop-drop, take-append-drop}
use Rattle.std.proofs.lemmas.Nat.{from_be_bytes-to_be_bytes_4, from_be_bytes-to_be_bytes_8}
use Rattle.std.specs.declared.option.Option.{Option}
use Rattle.std.specs.Int.{from_be_bytes, to_be_bytes, w32, w64}
use Rattle.pss_base.specs.declared.put.Put.{Put}
use Rattle.page_format.specs.Objects.{octets_left}
use Rattle.pss_recovery.specs.Bodies.{IsSpellable, change_head, change_octets}
use Rattle.pss_recovery.specs.declared.head.ChangeHead.{ChangeHead}
use Rattle.pss_recovery.specs.inner.Changes.{Begins, BeginsNone, change_in, record_in}
use Rattle.pss_recovery.proofs.Splits.{cut_same, front_of}

pub length-change_head : (home serial len : ℕ) → length (change_head home serial len) ≡ 16
unfolding change_head
length-change_head home serial len = refl

pub length-change_octets : (put : Put) → length (change_octets put) ≡ 16 + length (octets_left put.bytes)
length-change_octets put = length-append (change_head put.home put.serial (length (octets_left put.bytes))) (octets_left put.bytes)
    ∙ ap (λ n. n + length (octets_left put.bytes)) (length-change_head put.home put.serial (length (octets_left put.bytes)))

pub record SameHead (home serial len h s l : ℕ) : Type 0 where
  pub home_ : home ≡ h
  pub serial_ : serial ≡ s
  pub len_ : len ≡ l

pub same4 : (m n : ℕ) → m < 2 ^ 32 → n < 2 ^ 32 → to_be_bytes w32 m ≡ to_be_bytes w32 n → m ≡ n
same4 m n a b e = sym (from_be_bytes-to_be_bytes_4 m a) ∙ ap (from_be_bytes w32) e ∙ from_be_bytes-to_be_bytes_4 n b

pub same8 : (m n : ℕ) → m < 2 ^ 64 → n < 2 ^ 64 → to_be_bytes w64 m ≡ to_be_bytes w64 n → m ≡ n
same8 m n a b e = sym (from_be_bytes-to_be_bytes_8 m a) ∙ ap (from_be_bytes w64) e ∙ from_be_bytes-to_be_bytes_8 n b

-- a head is spelled in one way
pub same_head : (home serial len h s l : ℕ) → home < 2 ^ 32 → serial < 2 ^ 64 → len < 2 ^ 32 → h < 2 ^ 32 → s < 2 ^ 64 → l < 2 ^ 32 → change_head home serial len ≡ change_head h s l → SameHead home serial len h s l
unfolding change_head
same_head home serial len h s l a b c d e f same =
    let first = cut_same (to_be_bytes w32 home) (to_be_bytes w32 h) (to_be_bytes w64 serial ++ to_be_bytes w32 len) (to_be_bytes w64 s ++ to_be_bytes w32 l) refl same in
    let second = cut_same (to_be_bytes w64 serial) (to_be_bytes w64 s) (to_be_bytes w32 len) (to_be_bytes w32 l) refl first.1 in
    record { home_ = same4 home h a d first.0; serial_ = same8 serial s b e second.0; len_ = same4 len l c f second.1 }

-- ---- octets that begin with a change

parts_of : (octets rest : List ℕ) (put : Put) → octets ≡ change_octets put ++ rest → octets ≡ change_head put.home put.serial (length (octets_left put.bytes)) ++ (octets_left put.bytes ++ rest)
parts_of octets rest put e = e ∙ append_assoc (change_head put.home put.serial (length (octets_left put.bytes))) (octets_left put.bytes) rest

pub long_of : (octets rest : List ℕ) (put : Put) → octets ≡ change_octets put ++ rest → 16 + length (octets_left put.bytes) ≤ length octets
long_of octets rest put e = omega (arith, ap length e, length-append (change_octets put) rest, length-change_octets put)

pub none_in_few : (octets : List ℕ) → length octets < 16 → BeginsNone octets
none_in_few octets few put rest fit e = omega (arith, few, long_of octets rest put e)

-- the head in front of a change is its own
pub head_is : (octets rest : List ℕ) (home serial len : ℕ) (put : Put) → home < 2 ^ 32 → serial < 2 ^ 64 → len < 2 ^ 32 → take 16 octets ≡ change_head home serial len → IsSpellable put → octets ≡ change_octets put ++ rest
    → SameHead home serial len put.home put.serial (length (octets_left put.bytes))
head_is octets rest home serial len put a b c head fit e =
    let n = length (octets_left put.bytes) in
    same_head home serial len put.home put.serial n a b c fit.home fit.serial fit.len
    (sym head ∙ ap (take 16) (parts_of octets rest put e) ∙ front_of 16 (change_head put.home put.serial n) (octets_left put.bytes ++ rest) (length-change_head put.home put.serial n))

pub none_where_short : (octets : List ℕ) (home serial len : ℕ) → home < 2 ^ 32 → serial < 2 ^ 64 → len < 2 ^ 32 → take 16 octets ≡ change_head home serial len → length octets < 16 + len → BeginsNone octets
none_where_short octets home serial len a b c head few put rest fit e = omega (arith, few, long_of octets rest put e, (head_is octets rest home serial len put a b c head fit e).len_)

-- ---- the change that is read

back : (octets : List ℕ) → octets_left (record_in octets) ≡ octets
back [] = refl
back (b ∷ octets) = refl

some_in : (octets : List ℕ) → IfSome (record_in octets) (λ r. 1 ≤ length r)
some_in [] = tt
some_in (b ∷ octets) = omega arith

pub record_taken : (head : ChangeHead) (octets : List ℕ) → Begins head octets → length (take head.len (drop 16 octets)) ≡ head.len
record_taken head octets b = length-take head.len (drop 16 octets) ∙ omega (arith, length-drop 16 octets, b.within)

pub is_spellable : (head : ChangeHead) (octets : List ℕ) → Begins head octets → IsSpellable (change_in head octets)
is_spellable head octets begins =
    let r = take head.len (drop 16 octets) in
    record { home = begins.numbers.home; serial = begins.numbers.serial; some = some_in r; len = subst (λ n. n < 2 ^ 32) (sym (ap length (back r) ∙ record_taken head octets begins)) begins.numbers.len }

pub change_read : (head : ChangeHead) (octets : List ℕ) → Begins head octets → octets ≡ change_octets (change_in head octets) ++ drop (16 + head.len) octets
change_read head octets begins =
    let r = take head.len (drop 16 octets) in
    let front : change_octets (change_in head octets) ≡ take 16 octets ++ r =
    ap (λ x. change_head head.home head.serial (length x) ++ x) (back r) ∙ ap (λ n. change_head head.home head.serial n ++ r) (record_taken head octets begins) ∙ ap (λ h. h ++ r) (sym begins.head_) in
    let behind : drop (16 + head.len) octets ≡ drop head.len (drop 16 octets) = sym (drop-drop head.len 16 octets) in
    sym (take-append-drop 16 octets) ∙ ap (λ x. take 16 octets ++ x) (sym (take-append-drop head.len (drop 16 octets)))
    ∙ sym (append_assoc (take 16 octets) r (drop head.len (drop 16 octets))) ∙ ap (λ x. x ++ drop head.len (drop 16 octets)) (sym front) ∙ ap (λ x. change_octets (change_in head octets) ++ x) (sym behind)

-- ---- a list of changes is spelled in one way

same_bytes : (a b : Option (List ℕ)) → IfSome a (λ r. 1 ≤ length r) → IfSome b (λ r. 1 ≤ length r) → octets_left a ≡ octets_left b → a ≡ b
same_bytes None None f g e = refl
same_bytes None (Some y) f g e = absurd (omega (arith, g, ap length e))
same_bytes (Some x) None f g e = absurd (omega (arith, f, ap length e))
same_bytes (Some x) (Some y) f g e = ap Some e

put_same : (p q : Put) → p.home ≡ q.home → p.serial ≡ q.serial → p.bytes ≡ q.bytes → p ≡ q
put_same p q h s b =
    ap (λ n. record { home = n; serial = p.serial; bytes = p.bytes }) h ∙ ap (λ n. record { home = q.home; serial = n; bytes = p.bytes }) s ∙ ap (λ o. record { home = q.home; serial = q.serial; bytes = o }) b

pub same_change : (p q : Put) (x y : List ℕ) → IsSpellable p → IsSpellable q → change_octets p ++ x ≡ change_octets q ++ y → (p ≡ q) × (x ≡ y)
same_change p q x y a b e =
    let m = length (octets_left p.bytes) in
    let n = length (octets_left q.bytes) in
    let front : take 16 (change_octets p ++ x) ≡ change_head p.home p.serial m =
    ap (take 16) (append_assoc (change_head p.home p.serial m) (octets_left p.bytes) x) ∙ front_of 16 (change_head p.home p.serial m) (octets_left p.bytes ++ x) (length-change_head p.home p.serial m) in
    let same = head_is (change_octets p ++ x) y p.home p.serial m q a.home a.serial a.len front b e in
    let whole = cut_same (change_octets p) (change_octets q) x y (length-change_octets p ∙ ap (λ k. 16 + k) same.len_ ∙ sym (length-change_octets q)) e in
    let inside = cut_same (change_head p.home p.serial m) (change_head q.home q.serial n) (octets_left p.bytes) (octets_left q.bytes) (length-change_head p.home p.serial m ∙ sym (length-change_head q.home q.serial n)) whole.0 in
    (put_same p q same.home_ same.serial_ (same_bytes p.bytes q.bytes a.some b.some inside.1), whole.1)
