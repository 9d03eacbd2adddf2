-- What changes leave of objects, in any order of the objects.
use Rattle.std.proofs.Common.{ℕ, suc, ◌≡◌, ◌==◌, ◌&&◌, not, Bool, true, false, cond, List, [], ◌∷◌, ◌++◌, Some, None, refl, sym, ap, ◌∙◌, arith}
use Rattle.std.proofs.lemmas.Bool.Decides.{nat_tests}
use Rattle.std.specs.Cmp.{nat_cmp_total}
use Rattle.std.specs.FinMap as finite
use Rattle.std.specs.List.{filter}
use Rattle.std.specs.List.Sorted.{IsNonDecreasingBy, ties}
use Rattle.std.specs.Ordering.{eq_by_cmp, is_lt, nat_cmp}
use Rattle.std.specs.declared.option.Option.{Option}
use Rattle.pss_base.specs.declared.put.Put.{Put}
use Rattle.page_format.specs.Objects.{Objects, after, left_by, over, with_record}
use Rattle.page_format.specs.declared.objects.Stored.{Stored}
use Rattle.page_format.specs.inner.Settling.{Climbs}

pub tie : (a b : ℕ) → eq_by_cmp nat_cmp a b ≡ (a == b)
tie a b = grind (arith, nat_tests)

get-with : (m : Objects) (serial home : ℕ) (bytes : Option (List ℕ)) (q : ℕ) → finite.get (with_record m serial home bytes) q ≡ cond (q == serial) (left_by home bytes) (finite.get m q)
get-with m serial home None q = finite.get-remove nat_cmp_total m serial q ∙ ap (λ b. cond b None (finite.get m q)) (tie q serial)
get-with m serial home (Some octets) q = finite.get-insert nat_cmp_total m serial (record { home = home; octets = octets }) q ∙ ap (λ b. cond b (Some (record { home = home; octets = octets })) (finite.get m q)) (tie q serial)

pub get-over : (m : Objects) (puts : List Put) (q : ℕ) → finite.get (over m puts) q ≡ after puts q (finite.get m q)
get-over m [] q = refl
get-over m (put ∷ puts) q = get-over (with_record m put.serial put.home put.bytes) puts q ∙ ap (after puts q) (get-with m put.serial put.home put.bytes q)

over_more : (m : Objects) (puts : List Put) (put : Put) → over m (puts ++ put ∷ []) ≡ with_record (over m puts) put.serial put.home put.bytes
over_more m [] put = refl
over_more m (p ∷ puts) put = over_more (with_record m p.serial p.home p.bytes) puts put

-- one more change
pub get-more : (puts : List Put) (put : Put) (q : ℕ) → finite.get (over finite.empty (puts ++ put ∷ [])) q ≡ cond (q == put.serial) (left_by put.home put.bytes) (finite.get (over finite.empty puts) q)
get-more puts put q = ap (λ (m : Objects). finite.get m q) (over_more finite.empty puts put) ∙ get-with (over finite.empty puts) put.serial put.home put.bytes q

-- changes behind changes
pub over-append : (m : Objects) (puts more : List Put) → over m (puts ++ more) ≡ over (over m puts) more
over-append m [] more = refl
over-append m (put ∷ puts) more = over-append (with_record m put.serial put.home put.bytes) puts more

-- of an object only its own changes leave something
after-filter : (puts : List Put) (q : ℕ) (o : Option Stored) → after puts q o ≡ after (filter (λ put. q == put.serial) puts) q o
after-filter [] q o = refl
after-filter (put ∷ puts) q o = by (q == put.serial) refl (λ p. after-filter puts q p)
  where
    by : (b : Bool) → (q == put.serial) ≡ b → ((p : Option Stored) → after puts q p ≡ after (filter (λ put. q == put.serial) puts) q p)
        → after puts q (cond b (left_by put.home put.bytes) o) ≡ after (cond b (put ∷ filter (λ put. q == put.serial) puts) (filter (λ put. q == put.serial) puts)) q o
    by true e ih = ih (left_by put.home put.bytes) ∙ ap (λ c. after (filter (λ put. q == put.serial) puts) q (cond c (left_by put.home put.bytes) o)) (sym e)
    by false e ih = ih o

tied : (a b : ℕ) → (not (is_lt (nat_cmp a b)) && not (is_lt (nat_cmp b a))) ≡ (a == b)
tied a b = grind (arith, nat_tests)

-- changes that were sorted, those of an object in their order, leave the same
pub same_objects : (xs ys : List Put) → ((x : Put) → filter (ties (λ (a b : Put). is_lt (nat_cmp a.serial b.serial)) x) ys ≡ filter (ties (λ (a b : Put). is_lt (nat_cmp a.serial b.serial)) x) xs) → over finite.empty ys ≡ over finite.empty xs
same_objects xs ys stable = finite.same_map nat_cmp_total finite.nat_cmp-IsAntisymmetric (over finite.empty ys) (over finite.empty xs) (λ q.
    get-over finite.empty ys q ∙ after-filter ys q (finite.get (finite.empty {R = nat_cmp}) q) ∙ ap (λ (l : List Put). after l q (finite.get (finite.empty {R = nat_cmp}) q)) (own q) ∙ sym (after-filter xs q (finite.get (finite.empty {R = nat_cmp}) q)) ∙ sym (get-over finite.empty xs q))
  where
    pass : (q : ℕ) (l : List Put) → filter (ties (λ (a b : Put). is_lt (nat_cmp a.serial b.serial)) (record { home = 0; serial = q; bytes = None })) l ≡ filter (λ put. q == put.serial) l
    pass q l = ap (λ (p : Put → Bool). filter p l) (λ i put. tied q put.serial i)

    own : (q : ℕ) → filter (λ put. q == put.serial) ys ≡ filter (λ put. q == put.serial) xs
    own q = sym (pass q ys) ∙ stable (record { home = 0; serial = q; bytes = None }) ∙ pass q xs

climbs_on : (put : Put) (puts : List Put) → IsNonDecreasingBy (λ (p : Put). p.serial) (put ∷ puts) → Climbs put.serial puts
climbs_on put [] rises = tt
climbs_on put (next ∷ puts) rises = (rises 0 1 put (omega arith) (omega arith), climbs_on next puts (λ i j d le lt. rises (suc i) (suc j) d (omega (arith, le)) (omega (arith, lt))))

pub climbs : (puts : List Put) → IsNonDecreasingBy (λ (p : Put). p.serial) puts → Climbs 0 puts
climbs [] rises = tt
climbs (put ∷ puts) rises = (omega arith, climbs_on put puts rises)
