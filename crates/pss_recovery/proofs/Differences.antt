-- Two shapes, home by home.
use Rattle.std.proofs.Common.{ℕ, zero, suc, ◌≡◌, ◌+◌, ◌<◌, ◌≤◌, if◌then◌else◌, List, [], ◌++◌, length, take, drop, refl, sym, ap, ◌∙◌, ⊎_elim, arith, length-drop, length-take}
use Rattle.std.proofs.lemmas.Bool.Decides.{eqb_tells}
use Rattle.std.proofs.lemmas.List.{drop-drop, drop_all}
use Rattle.std.proofs.Math.Seq.{take-add}
use Rattle.type_layout.specs.Schemas.{given, nth}
use Rattle.pss_recovery.specs.Shapes.{DifferAt, homes_of, lines_of}
use Rattle.pss_recovery.specs.inner.Lines.{AgreeUpTo, EndsAt}

-- of no octets no home has lines
none_of : (octets : List ℕ) → octets ≡ [] → (h : ℕ) → lines_of octets h ≡ []
none_of octets e h = ap (λ l. lines_of l h) e ∙ empty h
  where
    empty : (h : ℕ) → lines_of [] h ≡ []
    empty zero = refl
    empty (suc zero) = refl
    empty (suc (suc h)) = refl

-- the lines of the first home, and of those behind it
first_lines : (octets : List ℕ) (end : ℕ) → EndsAt octets end → lines_of octets 1 ≡ take end octets
first_lines octets end e = ap (λ l. given (nth l 1) [] (λ lines. lines)) e.cut

later_lines : (octets : List ℕ) (end : ℕ) → EndsAt octets end → (h : ℕ) → lines_of octets (suc (suc h)) ≡ lines_of (drop end octets) (suc h)
later_lines octets end e h =
    ap (λ l. given (nth l (suc (suc h))) [] (λ lines. lines)) e.cut ∙ ⊎_elim
    (λ q. ap (λ t. given (nth (if t then [] else homes_of (drop end octets)) (suc h)) [] (λ lines. lines)) q.0 ∙ sym (none_of (drop end octets) (drop_all end octets (omega (arith, q.1))) (suc h)))
    (λ q. ap (λ t. given (nth (if t then [] else homes_of (drop end octets)) (suc h)) [] (λ lines. lines)) q.0) (eqb_tells end (length octets))

-- where two fronts are the same, they are as long
as_long : (a b : List ℕ) (m n : ℕ) → m ≤ length a → n ≤ length b → take m a ≡ take n b → m ≡ n
as_long a b m n p q e = omega (arith, ap length e, length-take m a, length-take n b, p, q)

module _ (shape other : List ℕ) (at home end their_end : ℕ) (agree : AgreeUpTo shape other at home) (own : EndsAt (drop at shape) end) (their : EndsAt (drop at other) their_end) where
  here : lines_of shape home ≡ take end (drop at shape)
  here = ap (lines_of shape) (let e : home ≡ home + 0 = omega arith in e) ∙ agree.lines 0 ∙ first_lines (drop at shape) end own

  there : lines_of other home ≡ take their_end (drop at other)
  there = ap (lines_of other) (let e : home ≡ home + 0 = omega arith in e) ∙ agree.lines_other 0 ∙ first_lines (drop at other) their_end their

  pub differ_here : (take end (drop at shape) ≡ take their_end (drop at other) → ⊥) → DifferAt shape other home
  differ_here ne = record { some = agree.some; differ = λ e. ne (sym here ∙ e ∙ there); first = agree.before }

  same_end : take end (drop at shape) ≡ take their_end (drop at other) → end ≡ their_end
  same_end e = as_long (drop at shape) (drop at other) end their_end own.within their.within e

  -- one home more
  pub agree_on : take end (drop at shape) ≡ take their_end (drop at other) → 0 < end → AgreeUpTo shape other (at + end) (home + 1)
  agree_on e some =
      let same = same_end e in
      record {
        within = omega (arith, own.within, length-drop at shape, agree.within);
        within_other = omega (arith, their.within, length-drop at other, agree.within_other, same);
        some = omega arith;
        few = omega (arith, agree.few);
        front = take-add at end shape ∙ ap (λ l. l ++ take end (drop at shape)) agree.front ∙ ap (λ l. take at other ++ l) (e ∙ ap (λ n. take n (drop at other)) (sym same)) ∙ sym (take-add at end other);
        before = λ h lt. ⊎_elim (λ q. ap (lines_of shape) q.1 ∙ (here ∙ e ∙ sym there) ∙ ap (lines_of other) (sym q.1)) (λ q. agree.before h (omega (arith, lt, q.1))) (eqb_tells h home);
        lines = λ h. ap (lines_of shape) (let q : home + 1 + h ≡ home + suc h = omega arith in q) ∙ agree.lines (suc h) ∙ later_lines (drop at shape) end own h ∙ ap (λ l. lines_of l (suc h)) (drop-drop end at shape);
        lines_other = λ h. ap (lines_of other) (let q : home + 1 + h ≡ home + suc h = omega arith in q) ∙ agree.lines_other (suc h) ∙ later_lines (drop at other) their_end their h
            ∙ ap (λ l. lines_of l (suc h)) (ap (λ n. drop n (drop at other)) (sym same) ∙ drop-drop end at other);
      }
