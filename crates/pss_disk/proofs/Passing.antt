-- Moments pass.
use Rattle.std.proofs.Common.{◌≡◌, List, [], ◌∷◌, ◌++◌, sym, ◌∙◌, ap, subst, append_assoc, append-nil}
use Rattle.pss_disk.specs.Moments.{Moment, Through, Each}

each-append : (P : Moment → Type 0) (xs ys : List Moment) → Each P xs → Each P ys → Each P (xs ++ ys)
each-append P [] ys p q = q
each-append P (x ∷ xs) ys p q = (p.0, each-append P xs ys p.1 q)

each-weaker : (P Q : Moment → Type 0) (xs : List Moment) → ((m : Moment) → P m → Q m) → Each P xs → Each Q xs
each-weaker P Q [] f p = tt
each-weaker P Q (x ∷ xs) f p = (f x p.0, each-weaker P Q xs f p.1)

pub none_came : (a : List Moment) (P : Moment → Type 0) → Through a a P
none_came a P = record { came = []; grown = sym (append-nil a); each = tt }

pub then_come : (a b c : List Moment) (P : Moment → Type 0) → Through a b P → Through b c P → Through a c P
then_come a b c P p q = record {
  came = p.came ++ q.came;
  grown = q.grown ∙ ap (λ l. l ++ q.came) p.grown ∙ append_assoc a p.came q.came;
  each = each-append P p.came q.came p.each q.each;
}

pub weaker : (a b : List Moment) (P Q : Moment → Type 0) → ((m : Moment) → P m → Q m) → Through a b P → Through a b Q
weaker a b P Q f p = record { came = p.came; grown = p.grown; each = each-weaker P Q p.came f p.each }

cancel : (a b c : List Moment) → a ++ b ≡ a ++ c → b ≡ c
cancel [] b c e = e
cancel (x ∷ a) b c e = cancel a b c (let rest : a ++ b ≡ a ++ c = cc in rest)

each-both : (P Q : Moment → Type 0) (xs : List Moment) → Each P xs → Each Q xs → Each (λ m. P m × Q m) xs
each-both P Q [] p q = tt
each-both P Q (x ∷ xs) p q = ((p.0, q.0), each-both P Q xs p.1 q.1)

-- the same moments have both
pub both_have : (a b : List Moment) (P Q : Moment → Type 0) → Through a b P → Through a b Q → Through a b (λ m. P m × Q m)
both_have a b P Q p q = record {
  came = p.came;
  grown = p.grown;
  each = each-both P Q p.came p.each (subst (Each Q) (cancel a q.came p.came (sym q.grown ∙ p.grown)) q.each);
}
