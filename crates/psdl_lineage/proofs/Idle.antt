-- A walk that has not begun.
use Rattle.std.proofs.Common.{◌≡◌, ℕ, zero, suc, List, [], ◌∷◌, Bool, false, map, length, refl, sym, ap, ◌∙◌, arith}
use Rattle.psdl_lineage.specs.declared.walk.Walk.{Walk}
use Rattle.psdl_lineage.specs.inner.Walking.{one_if, is_marked, count, IsWalk}
use Rattle.psdl_lineage.specs.inner.Walks.{IsIdle}
use Rattle.psdl_lineage.specs.inner.KeptSources.{AreJoined}

abbrev cleared : List Bool → List Bool
cleared marks = map (λ _. false) marks

pub length-cleared : (marks : List Bool) → length (cleared marks) ≡ length marks
length-cleared [] = refl
length-cleared (b ∷ marks) = omega (arith, length-cleared marks)

pub none_marked : (marks : List Bool) (n : ℕ) → is_marked (cleared marks) n ≡ false
none_marked [] n = refl
none_marked (b ∷ marks) zero = refl
none_marked (b ∷ marks) (suc n) = none_marked marks n

count_none : (marks : List Bool) → count (cleared marks) ≡ 0
count_none [] = refl
count_none (b ∷ marks) = omega (arith, count_none marks)

nothing_yet : (graph : List (List ℕ)) (marks : List Bool) → length marks ≡ length graph → IsWalk graph (cleared marks) [] []
nothing_yet graph marks sized =
    record {
      sized = length-cleared marks ∙ sized;
      marked = λ n. sym (ap one_if (none_marked marks n));
      counted = sym (count_none marks);
      behind = λ n h. absurd (cc);
      taken = tt;
    }

pub idle : (graph : List (List ℕ)) (old new : List Bool) (walk : Walk) → length old ≡ length graph → new ≡ map (λ _. false) old → walk.way.items ≡ [] → walk.found.items ≡ [] → IsIdle graph new walk
idle graph old new walk sized e way found = record { off = way; on = rw (e, found) (nothing_yet graph old sized) }

pub none_joined : (old new : List Bool) (joined : List ℕ) → new ≡ map (λ _. false) old → joined ≡ [] → AreJoined new joined
none_joined old new joined e none = rw (e, none) (record { distinct = refl; marked = λ n. none_marked old n })
