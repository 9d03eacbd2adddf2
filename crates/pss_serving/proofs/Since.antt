-- Moments since the store's file was made sure of.
use Rattle.std.proofs.Common.{◌≡◌, ◌∙◌, ◌⊎◌, ⊎_elim, inl, inr, List, [], ◌∷◌, ◌++◌, sym, ap, subst, append_assoc, append-nil}
use Rattle.std.proofs.lemmas.List.{append_cancel_left}
use Rattle.pss_disk.specs.Moments.{Each, Moment, Through}
use Rattle.pss_recovery.specs.Mounts.{FromSync}

each_weaker : (P Q : Moment → Type 0) (ms : List Moment) → ((m : Moment) → P m → Q m) → Each P ms → Each Q ms
each_weaker P Q [] f is = tt
each_weaker P Q (m ∷ ms) f is = (f m is.0, each_weaker P Q ms f is.1)

each_both : (P Q : Moment → Type 0) (ms : List Moment) → Each P ms → Each Q ms → Each (λ m. P m × Q m) ms
each_both P Q [] p q = tt
each_both P Q (m ∷ ms) p q = ((p.0, q.0), each_both P Q ms p.1 q.1)

each_front : (P : Moment → Type 0) (xs ys : List Moment) → Each P (xs ++ ys) → Each P xs
each_front P [] ys is = tt
each_front P (x ∷ xs) ys is = (is.0, each_front P xs ys is.1)

each_back : (P : Moment → Type 0) (xs ys : List Moment) → Each P (xs ++ ys) → Each P ys
each_back P [] ys is = is
each_back P (x ∷ xs) ys is = each_back P xs ys is.1

each_append : (P : Moment → Type 0) (xs ys : List Moment) → Each P xs → Each P ys → Each P (xs ++ ys)
each_append P [] ys p q = q
each_append P (x ∷ xs) ys p q = (p.0, each_append P xs ys p.1 q)

-- no moment came
pub none_since : (a : List Moment) (now : Moment) (P : Moment → Type 0) → FromSync a a now P
none_since a now P = record { first = []; rest = []; grown = sym (append-nil (a ++ []) ∙ append-nil a); until = tt; from_ = tt }

-- all of them have Q, and those since then P: from both follows R
pub since_by : (a b : List Moment) (now : Moment) (P Q R : Moment → Type 0) → ((m : Moment) → P m → Q m → R m) → FromSync a b now P → Through a b Q → FromSync a b now R
since_by a b now P Q R by p q =
    let same : q.came ≡ p.first ++ p.rest = append_cancel_left a q.came (p.first ++ p.rest) (sym q.grown ∙ p.grown ∙ append_assoc a p.first p.rest) in
    let all : Each Q (p.first ++ p.rest) = subst (Each Q) same q.each in
    record {
      first = p.first;
      rest = p.rest;
      grown = p.grown;
      until = each_weaker (λ m. ((m ≡ now) ⊎ P m) × Q m) (λ m. (m ≡ now) ⊎ R m) p.first (λ m is. ⊎_elim (λ still. inl still) (λ has. inr (by m has is.1)) is.0)
          (each_both (λ m. (m ≡ now) ⊎ P m) Q p.first p.until (each_front Q p.first p.rest all));
      from_ = each_weaker (λ m. P m × Q m) R p.rest (λ m is. by m is.0 is.1) (each_both P Q p.rest p.from_ (each_back Q p.first p.rest all));
    }

-- and others come behind them
pub then_more : (a b c : List Moment) (now : Moment) (P : Moment → Type 0) → FromSync a b now P → Through b c P → FromSync a c now P
then_more a b c now P p q = record {
  first = p.first;
  rest = p.rest ++ q.came;
  grown = q.grown ∙ ap (λ l. l ++ q.came) p.grown ∙ append_assoc (a ++ p.first) p.rest q.came;
  until = p.until;
  from_ = each_append P p.rest q.came p.from_ q.each;
}
