-- The parts of a body, and that it is spelled in one way.
use Rattle.std.proofs.Common.{ℕ, ◌≡◌, ◌^◌, ◌<◌, List, ◌++◌, length, take, drop, refl, sym, ap, ◌∙◌}
use Rattle.std.proofs.lemmas.List.{drop-drop}
use Rattle.std.specs.Int.{to_be_bytes, w32, w64}
use Rattle.std.specs.List.{flat_map}
use Rattle.pss_recovery.specs.Bodies.{Spells, change_octets}
use Rattle.pss_recovery.specs.declared.body.Body.{Body}
use Rattle.pss_recovery.proofs.ChangeHeads.{same4, same8}
use Rattle.pss_recovery.proofs.ChangeLists.{same_changes}
use Rattle.pss_recovery.proofs.Splits.{front_of, rest_of}

-- the octets are a number of eight, a number of four and others
pub record AreParts (octets : List ℕ) (next count : ℕ) (rest : List ℕ) : Type 0 where
  pub next_ : take 8 octets ≡ to_be_bytes w64 next
  pub count_ : take 4 (drop 8 octets) ≡ to_be_bytes w32 count
  pub rest_ : drop 12 octets ≡ rest

pub parts : (octets : List ℕ) (body : Body) → Spells octets body → AreParts octets body.next (length body.puts) (flat_map change_octets body.puts)
parts octets body s =
    let a = to_be_bytes w64 body.next in
    let b = to_be_bytes w32 (length body.puts) in
    let rest = flat_map change_octets body.puts in
    let behind : drop 8 octets ≡ b ++ rest = ap (drop 8) s.spelled ∙ rest_of 8 a (b ++ rest) refl in
    record {
      next_ = ap (take 8) s.spelled ∙ front_of 8 a (b ++ rest) refl;
      count_ = ap (take 4) behind ∙ front_of 4 b rest refl;
      rest_ = sym (drop-drop 4 8 octets) ∙ ap (drop 4) behind ∙ rest_of 4 b rest refl;
    }

-- the number of changes is the one that stands there
pub count_of : (octets : List ℕ) (body : Body) (count : ℕ) → count < 2 ^ 32 → to_be_bytes w32 count ≡ take 4 (drop 8 octets) → Spells octets body → length body.puts ≡ count
count_of octets body count fits read s = same4 (length body.puts) count s.count fits (sym (parts octets body s).count_ ∙ sym read)

body_same : (a b : Body) → a.next ≡ b.next → a.puts ≡ b.puts → a ≡ b
body_same a b n p = ap (λ m. record { next = m; puts = a.puts }) n ∙ ap (λ l. record { next = b.next; puts = l }) p

-- octets spell one body
pub one_body : (octets : List ℕ) (a b : Body) → Spells octets a → Spells octets b → a ≡ b
one_body octets a b s t =
    let p = parts octets a s in
    let q = parts octets b t in
    let next = same8 a.next b.next s.next t.next (sym p.next_ ∙ q.next_) in
    let count = same4 (length a.puts) (length b.puts) s.count t.count (sym p.count_ ∙ q.count_) in
    body_same a b next (same_changes a.puts b.puts s.each t.each count (sym p.rest_ ∙ q.rest_))
