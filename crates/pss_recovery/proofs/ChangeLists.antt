-- Octets that are changes, one behind the other.
use Rattle.std.proofs.Common.{ℕ, ◌≡◌, ◌+◌, ◌<◌, List, [], ◌∷◌, ◌++◌, length, drop, refl, sym, ap, ◌∙◌, subst, arith, append_assoc, append-nil, length-append, length-drop}
use Rattle.std.proofs.lemmas.List.{drop-drop}
use Rattle.std.specs.List.{AllByRecursion, flat_map}
use Rattle.pss_base.specs.declared.put.Put.{Put}
use Rattle.pss_recovery.specs.Bodies.{IsSpellable, change_octets}
use Rattle.pss_recovery.specs.declared.head.ChangeHead.{ChangeHead}
use Rattle.pss_recovery.specs.inner.Changes.{AreChanges, AreSoFar, Begins, BeginsNone, change_in}
use Rattle.pss_recovery.proofs.ChangeHeads.{change_read, is_spellable, same_change}

abbrev spelled : List Put → List ℕ
spelled puts = flat_map change_octets puts

-- one change less on both sides
step : (p q : Put) (ps qs : List Put) (rest : List ℕ) → IsSpellable p → IsSpellable q → spelled (p ∷ ps) ++ rest ≡ spelled (q ∷ qs) → (p ≡ q) × (spelled ps ++ rest ≡ spelled qs)
step p q ps qs rest a b e = same_change p q (spelled ps ++ rest) (spelled qs) a b (sym (append_assoc (change_octets p) (spelled ps) rest) ∙ e)

-- behind some changes there is one more
pub none_more : (ps qs : List Put) (rest : List ℕ) → AllByRecursion IsSpellable ps → AllByRecursion IsSpellable qs → length ps < length qs → spelled ps ++ rest ≡ spelled qs → BeginsNone rest → ⊥
none_more [] [] rest a b less e none = omega (arith, less)
none_more [] (q ∷ qs) rest a b less e none = none q (spelled qs) b.0 e
none_more (p ∷ ps) [] rest a b less e none = omega (arith, less)
none_more (p ∷ ps) (q ∷ qs) rest a b less e none = none_more ps qs rest a.1 b.1 (omega (arith, less)) (step p q ps qs rest a.0 b.0 e).1 none

-- behind all of them is nothing
pub none_left : (ps qs : List Put) (rest : List ℕ) → AllByRecursion IsSpellable ps → AllByRecursion IsSpellable qs → length ps ≡ length qs → spelled ps ++ rest ≡ spelled qs → rest ≡ []
none_left [] [] rest a b len e = e
none_left [] (q ∷ qs) rest a b len e = absurd (omega (arith, len))
none_left (p ∷ ps) [] rest a b len e = absurd (omega (arith, len))
none_left (p ∷ ps) (q ∷ qs) rest a b len e = none_left ps qs rest a.1 b.1 (omega (arith, len)) (step p q ps qs rest a.0 b.0 e).1

-- as many changes with the same octets
pub same_changes : (ps qs : List Put) → AllByRecursion IsSpellable ps → AllByRecursion IsSpellable qs → length ps ≡ length qs → spelled ps ≡ spelled qs → ps ≡ qs
same_changes [] [] a b len e = refl
same_changes [] (q ∷ qs) a b len e = absurd (omega (arith, len))
same_changes (p ∷ ps) [] a b len e = absurd (omega (arith, len))
same_changes (p ∷ ps) (q ∷ qs) a b len e =
    let one = step p q ps qs [] a.0 b.0 (append-nil (spelled (p ∷ ps)) ∙ e) in
    ap (λ x. x ∷ ps) one.0 ∙ ap (λ l. q ∷ l) (same_changes ps qs a.1 b.1 (omega (arith, len)) (sym (append-nil (spelled ps)) ∙ one.1))

module _ (octets : List ℕ) (k count : ℕ) (puts : List Put) (at : ℕ) (so_far : AreSoFar octets k puts at) where
  same_octets : (others : List Put) → AreChanges octets count others → spelled puts ++ drop at octets ≡ spelled others
  same_octets others are = so_far.read ∙ are.spelled

  pub never_these : k < count → BeginsNone (drop at octets) → (others : List Put) → AreChanges octets count others → ⊥
  never_these less none others are = none_more puts others (drop at octets) so_far.each are.each (omega (arith, less, so_far.count, are.count_)) (same_octets others are) none

  pub nothing_left : k ≡ count → (others : List Put) → AreChanges octets count others → at ≡ length octets
  nothing_left all others are =
      let none = none_left puts others (drop at octets) so_far.each are.each (so_far.count ∙ all ∙ sym are.count_) (same_octets others are) in
      omega (arith, length-drop at octets, ap length none, so_far.within)

  pub one_more : (head : ChangeHead) → Begins head (drop at octets) → (more : List Put) → more ≡ puts ++ change_in head (drop at octets) ∷ [] → AreSoFar octets (k + 1) more (at + (16 + head.len))
  one_more head begins more is =
      let here = drop at octets in
      let put = change_in head here in
      let left = drop (16 + head.len) here in
      record {
        within = omega (arith, begins.within, length-drop at octets, so_far.within);
        count = ap length is ∙ length-append puts (put ∷ []) ∙ ap (λ n. n + 1) so_far.count;
        each = subst (AllByRecursion IsSpellable) (sym is) (push puts put so_far.each (is_spellable head here begins));
        read = ap (λ l. spelled l ++ drop (at + (16 + head.len)) octets) is ∙ ap (λ l. spelled (puts ++ put ∷ []) ++ l) (sym (drop-drop (16 + head.len) at octets)) ∙ ap (λ l. l ++ left) (spelled_push puts put)
            ∙ append_assoc (spelled puts) (change_octets put) left ∙ ap (λ l. spelled puts ++ l) (sym (change_read head here begins)) ∙ so_far.read;
      }
    where
      push : (ps : List Put) (q : Put) → AllByRecursion IsSpellable ps → IsSpellable q → AllByRecursion IsSpellable (ps ++ q ∷ [])
      push [] q all one = (one, tt)
      push (p ∷ ps) q all one = (all.0, push ps q all.1 one)

      spelled_push : (ps : List Put) (q : Put) → spelled (ps ++ q ∷ []) ≡ spelled ps ++ change_octets q
      spelled_push [] q = append-nil (change_octets q)
      spelled_push (p ∷ ps) q = ap (λ l. change_octets p ++ l) (spelled_push ps q) ∙ sym (append_assoc (change_octets p) (spelled ps) (change_octets q))
