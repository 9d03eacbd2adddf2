-- The octets of a record, and the writes that lay them.
use Rattle.std.proofs.Common.{ℕ, ◌≡◌, ◌+◌, ◌≤◌, List, [], ◌∷◌, ◌++◌, length, None, Some, refl, ap, ◌∙◌, arith, length-append}
use Rattle.std.specs.declared.option.Option.{Option}
use Rattle.std.specs.Option.{option_map}
use Rattle.pss_disk.specs.Octets.{write}
use Rattle.redo_journal.specs.Journal.{framed, header, spelled}
use Rattle.redo_journal.specs.inner.Laying.{laid}
use Rattle.redo_journal.proofs.Writes.{write_in_front, write_then}

pub length-header : (epoch len : ℕ) → length (header epoch len) ≡ 12
unfolding header
length-header epoch len = refl

pub length-laid : (epoch : ℕ) (body : List ℕ) → length (laid epoch body) ≡ 13 + length body
length-laid epoch body = omega (arith, length-append (header epoch (length body) ++ body) (0 ∷ []), length-append (header epoch (length body)) body, length-header epoch (length body))

pub length-framed : (epoch : ℕ) (body : List ℕ) → length (framed epoch body) ≡ 14 + length body
length-framed epoch body = omega (arith, length-laid epoch body)

pub length-spelled : (epoch : ℕ) (body : List ℕ) → length (spelled epoch body) ≡ 13 + length body
length-spelled epoch body = omega (arith, length-append (header epoch (length body)) body, length-header epoch (length body))

-- header, body and gate, one after another
some_header : (at to : ℕ) (h ys content : List ℕ) → 1 ≤ length h → to ≡ at + length h → write to ys (write at h content) ≡ write at (h ++ ys) content
some_header at to [] ys content le e = absurd (omega (arith, le))
some_header at to (x ∷ xs) ys content le e = write_then at to x xs ys content e

three : (epoch at : ℕ) (body content : List ℕ) → write (at + 12 + length body) (0 ∷ []) (write (at + 12) body (write at (header epoch (length body)) content)) ≡ write at (laid epoch body) content
three epoch at body content =
    let h = header epoch (length body) in
    let lh : length h ≡ 12 = length-header epoch (length body) in
    ap (write (at + 12 + length body) (0 ∷ [])) (some_header at (at + 12) h body content (omega (arith, lh)) (omega (arith, lh)))
    ∙ some_header at (at + 12 + length body) (h ++ body) (0 ∷ []) content (omega (arith, lh, length-append h body)) (omega (arith, lh, length-append h body))

pub three_writes : (epoch gate : ℕ) (h body : List ℕ) (at to : ℕ) (a b c d : Option (List ℕ)) → at ≡ gate + 13 → to ≡ gate + 13 + length body → h ≡ header epoch (length body)
    → b ≡ option_map (write (gate + 1) h) a → c ≡ option_map (write at body) b → d ≡ option_map (write to (0 ∷ [])) c → d ≡ option_map (write (gate + 1) (laid epoch body)) a
three_writes epoch gate h body at to a b c d e f g one two last =
    last ∙ ap (option_map (write to (0 ∷ []))) (two ∙ ap (option_map (write at body)) (one ∙ ap (λ (x : List ℕ). option_map (write (gate + 1) x) a) g)) ∙ by a
  where
    by : (o : Option (List ℕ)) → option_map (write to (0 ∷ [])) (option_map (write at body) (option_map (write (gate + 1) (header epoch (length body))) o)) ≡ option_map (write (gate + 1) (laid epoch body)) o
    by None = refl
    by (Some x) =
        let here : at ≡ gate + 1 + 12 = omega (arith, e) in
        let last_ : to ≡ gate + 1 + 12 + length body = omega (arith, f) in
        ap Some
        (ap (λ k. write k (0 ∷ []) (write at body (write (gate + 1) (header epoch (length body)) x))) last_
        ∙ ap (λ k. write (gate + 1 + 12 + length body) (0 ∷ []) (write k body (write (gate + 1) (header epoch (length body)) x))) here
        ∙ three epoch (gate + 1) body x)

-- the gate in front of what was laid
pub gate_in_front : (epoch gate : ℕ) (body : List ℕ) (a b c : Option (List ℕ)) → b ≡ option_map (write (gate + 1) (laid epoch body)) a → c ≡ option_map (write gate (165 ∷ [])) b → c ≡ option_map (write gate (framed epoch body)) a
gate_in_front epoch gate body a b c one two = two ∙ ap (option_map (write gate (165 ∷ []))) one ∙ by a
  where
    opened : (l content : List ℕ) → 1 ≤ length l → write gate (165 ∷ []) (write (gate + 1) l content) ≡ write gate (165 ∷ l) content
    opened [] content le = absurd (omega (arith, le))
    opened (y ∷ ys) content le = write_in_front gate (gate + 1) 165 y [] ys content refl

    by : (o : Option (List ℕ)) → option_map (write gate (165 ∷ [])) (option_map (write (gate + 1) (laid epoch body)) o) ≡ option_map (write gate (framed epoch body)) o
    by None = refl
    by (Some x) = ap Some (opened (laid epoch body) x (omega (arith, length-laid epoch body)))
