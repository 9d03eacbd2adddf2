-- Marks and numbers counted.
use Rattle.std.proofs.Common.{◌≡◌, ◌≢◌, ℕ, zero, suc, ◌+◌, ◌≤◌, ◌<◌, List, [], ◌∷◌, ◌++◌, Bool, true, false, cond, ◌==◌, length, get_or, ap, ◌∙◌, arith, ⊎_elim, get_or-set_same, get_or-set_other, length-set}
use Rattle.std.proofs.Math.ListN.{set}
use Rattle.std.proofs.lemmas.Bool.{eqb-true, eq-eqb, cases_Bool}
use Rattle.psdl_lineage.specs.inner.Walking.{one_if, occurs, is_marked, count, work_off}

pub occurs-append : (n : ℕ) (xs ys : List ℕ) → occurs n (xs ++ ys) ≡ occurs n xs + occurs n ys
occurs-append n [] ys = omega arith
occurs-append n (x ∷ xs) ys = omega (arith, occurs-append n xs ys)

pub marked_within : (marks : List Bool) (n : ℕ) → is_marked marks n ≡ true → n < length marks
marked_within [] n h = absurd (cc)
marked_within (b ∷ marks) zero h = omega arith
marked_within (b ∷ marks) (suc n) h = omega (arith, marked_within marks n h)

pub marked_here : (marks : List Bool) (p : ℕ) → p < length marks → is_marked (set marks p true) p ≡ true
marked_here marks p lt = get_or-set_same marks p true false lt

pub marked_other : (marks : List Bool) (p n : ℕ) → n ≢ p → is_marked (set marks p true) n ≡ is_marked marks n
marked_other marks p n ne = get_or-set_other marks p n true false ne

-- a mark stays when another comes
pub marked_still : (marks : List Bool) (p n : ℕ) → is_marked marks n ≡ true → is_marked (set marks p true) n ≡ true
marked_still marks p n h =
    ⊎_elim
    (λ t. let e : n ≡ p = eqb-true n p t in ap (λ m. is_marked (set marks p true) m) e ∙ marked_here marks p (rw e at (marked_within marks n h)))
    (λ f. marked_other marks p n (λ e. cc (eq-eqb n p e)) ∙ h)
    (cases_Bool (n == p))

pub count_set : (marks : List Bool) (p : ℕ) → p < length marks → is_marked marks p ≡ false → count (set marks p true) ≡ suc (count marks)
count_set [] p lt h = absurd (omega arith)
count_set (b ∷ marks) zero lt h =
    let e : one_if b ≡ 0 = ap one_if h in
    omega (arith, e)
count_set (b ∷ marks) (suc p) lt h = omega (arith, count_set marks p (omega arith) h)

pub count_within : (marks : List Bool) → count marks ≤ length marks
count_within [] = omega arith
count_within (true ∷ marks) = omega (arith, count_within marks)
count_within (false ∷ marks) = omega (arith, count_within marks)

-- one that is not marked is left
pub count_less : (marks : List Bool) (p : ℕ) → p < length marks → is_marked marks p ≡ false → count marks < length marks
count_less marks p lt h = omega (arith, count_within (set marks p true), count_set marks p lt h, length-set marks p true)

pub work_set : (graph : List (List ℕ)) (marks : List Bool) (p : ℕ) → length marks ≡ length graph → p < length marks → is_marked marks p ≡ false
    → work_off graph (set marks p true) + (length (get_or graph p []) + 1) ≡ work_off graph marks
work_set [] [] p sized lt h = absurd (omega arith)
work_set [] (b ∷ marks) p sized lt h = absurd (omega arith)
work_set (ps ∷ graph) [] p sized lt h = absurd (omega arith)
work_set (ps ∷ graph) (b ∷ marks) zero sized lt h =
    let left : Bool → ℕ = λ v. cond v 0 (length ps + 1) in
    let e : left b ≡ length ps + 1 = ap left h in
    omega (arith, e)
work_set (ps ∷ graph) (b ∷ marks) (suc p) sized lt h = omega (arith, work_set graph marks p (omega arith) (omega arith) h)
