-- Whether a declaration takes the name of an earlier one goes by the first of its name, the first other thing of it, and its definition.
use Rattle.std.proofs.Common.{◌≡◌, ℕ, ◌+◌, ◌<◌, List, [], ◌∷◌, ◌++◌, length, take, get_or, Bool, true, false, not, cond, Option, Some, None, is_none, refl, sym, ap, ◌∙◌, arith, nat_lt, ◌||◌, ◌&&◌, ◌==◌, ⊎_elim, slice_set}
use Rattle.std.specs.List.{position_from, list_any}
use Rattle.std.specs.Str.{bytes_eq}
use Rattle.std.proofs.lemmas.Bool.{and_parts, and_from, eqb-true, eq-eqb, cases_Bool}
use Rattle.std.proofs.lemmas.List.{get_or-take, length-take-le, get_or-set_same, get_or-set_other, take_more}
use Rattle.std.proofs.lemmas.List.Folds.{list_any_at}
use Rattle.std.proofs.lemmas.Slice.Eq.{bytes_eq-Decides}
use Rattle.type_layout.specs.Schemas.{given}
use Rattle.psdl_directory.specs.Declarations.{Path, Declaration}
use Rattle.psdl_directory.specs.Parts.{is_module, is_forward, same_kind, kind}
use Rattle.psdl_directory.specs.Lookup.{as_is, lower, same_path, at, nothing, first, is_named, defines, definition}
use Rattle.psdl_rules.specs.Faults.Redefined.{takes_name_of}
use Rattle.psdl_directory.specs.inner.Tables.{after}
use Rattle.psdl_rules.specs.inner.Others.{same_thing, first_alike, is_other, is_taken, is_below, AreOthers, noted}
use Rattle.psdl_directory.proofs.Agreeing.{same_path-Decides}
use Rattle.psdl_directory.proofs.Tabled.{position-append}
use Rattle.psdl_rules.proofs.Foremost.{front_of_first, first_passes, none_stronger, alike_where_none}

-- the same name but for case, in one scope
abbrev alike : Declaration → Declaration → Bool
alike d e = is_named lower d.path d.name e

parts : (d e : Declaration) → alike d e ≡ true → (d.path ≡ e.path) × (lower d.name ≡ lower e.name)
parts d e h =
    let p = and_parts (same_path d.path e.path) (bytes_eq (lower d.name) (lower e.name)) h in
    ((same_path-Decides d.path e.path).0 p.0, (bytes_eq-Decides (lower d.name) (lower e.name)).0 p.1)

from : (d e : Declaration) → d.path ≡ e.path → lower d.name ≡ lower e.name → alike d e ≡ true
from d e p n = and_from (same_path d.path e.path) (bytes_eq (lower d.name) (lower e.name)) ((same_path-Decides d.path e.path).1 p) ((bytes_eq-Decides (lower d.name) (lower e.name)).1 n)

swapped : (d e : Declaration) → alike d e ≡ true → alike e d ≡ true
swapped d e h = let p = parts d e h in from e d (sym p.0) (sym p.1)

same_for : (d e x : Declaration) → alike d e ≡ true → alike d x ≡ alike e x
same_for d e x h =
    let p = parts d e h in
    ap (λ (q : Path). same_path q x.path && bytes_eq (lower d.name) (lower x.name)) p.0 ∙ ap (λ (m : List ℕ). same_path e.path x.path && bytes_eq m (lower x.name)) p.1

same_first : (d e : Declaration) (all : List Declaration) → alike d e ≡ true → first lower all d.path d.name ≡ first lower all e.path e.name
same_first d e all h =
    let p = parts d e h in
    ap (λ (q : Path). position_from (λ (x : Declaration). same_path q x.path && bytes_eq (lower d.name) (lower x.name)) 0 all) p.0
    ∙ ap (λ (m : List ℕ). position_from (λ (x : Declaration). same_path e.path x.path && bytes_eq m (lower x.name)) 0 all) p.1

thing_parts : (d e : Declaration) → same_thing d e ≡ true → (d.name ≡ e.name) × (kind d.what ≡ kind e.what)
thing_parts d e h =
    let p = and_parts (bytes_eq d.name e.name) (same_kind d.what e.what) h in
    ((bytes_eq-Decides d.name e.name).0 p.0, eqb-true (kind d.what) (kind e.what) p.1)

thing_for : (d e x : Declaration) → same_thing d e ≡ true → same_thing d x ≡ same_thing e x
thing_for d e x h =
    let p = thing_parts d e h in
    ap (λ (m : List ℕ). bytes_eq m x.name && (kind d.what == kind x.what)) p.0 ∙ ap (λ (k : ℕ). bytes_eq e.name x.name && (k == kind x.what)) p.1

thing_from : (d e : Declaration) → d.name ≡ e.name → kind d.what ≡ kind e.what → same_thing d e ≡ true
thing_from d e n k = and_from (bytes_eq d.name e.name) (same_kind d.what e.what) ((bytes_eq-Decides d.name e.name).1 n) (eq-eqb (kind d.what) (kind e.what) k)

thing_swapped : (d e : Declaration) (b : Bool) → same_thing d e ≡ b → same_thing e d ≡ b
thing_swapped d e true h = let p = thing_parts d e h in thing_from e d (sym p.0) (sym p.1)
thing_swapped d e false h = ⊎_elim (λ t. let p = thing_parts e d t in let yes : same_thing d e ≡ true = thing_from d e (sym p.0) (sym p.1) in let both : true ≡ false = sym yes ∙ h in absurd (cc)) (λ f. f) (cases_Bool (same_thing e d))

-- ---- what each case says

takes : (d e : Declaration) → alike d e ≡ true → same_thing d e ≡ false → takes_name_of d e ≡ true
takes d e a t = rw (a, t) refl

spared : (m g f : Bool) → m || g ≡ true → not (m || g || f) ≡ false
spared m g f h = rw h refl

module _ (d F : Declaration) (are_alike : alike F d ≡ true) (are_one : same_thing F d ≡ true) where
  -- an alike one that is no other thing is the same thing
  same_again : (e : Declaration) → is_other F e ≡ false → alike d e ≡ true → same_thing d e ≡ true
  same_again e none a =
      let fa : alike F e ≡ true = same_for F d e are_alike ∙ a in
      let ft : same_thing F e ≡ true = ⊎_elim (λ t. t) (λ f. let yes : is_other F e ≡ true = and_from (alike F e) (not (same_thing F e)) fa (ap not f) in let both : true ≡ false = sym yes ∙ none in absurd (cc)) (cases_Bool (same_thing F e)) in
      sym (thing_for F d e are_one) ∙ ft

  -- a module, or a forward declaration, takes no name of the same thing
  free_of : is_module d.what || is_forward d.what ≡ true → (e : Declaration) → is_other F e ≡ false → takes_name_of d e ≡ false
  free_of free e none = by (alike d e) refl
    where
      by : (b : Bool) → alike d e ≡ b → takes_name_of d e ≡ false
      by false h = rw h refl
      by true h = rw (h, same_again e none h) (spared (is_module d.what) (is_forward d.what) (is_forward e.what) free)

  named_alike : (e : Declaration) → is_named as_is d.path d.name e ≡ true → alike d e ≡ true
  named_alike e h =
      let p = and_parts (same_path d.path e.path) (bytes_eq d.name e.name) h in
      from d e ((same_path-Decides d.path e.path).0 p.0) (ap lower ((bytes_eq-Decides d.name e.name).0 p.1))

  named_from : (e : Declaration) → alike d e ≡ true → same_thing d e ≡ true → is_named as_is d.path d.name e ≡ true
  named_from e a t = and_from (same_path d.path e.path) (bytes_eq d.name e.name) ((same_path-Decides d.path e.path).1 (parts d e a).0) ((bytes_eq-Decides d.name e.name).1 (thing_parts d e t).0)

  unnamed : (e : Declaration) → alike d e ≡ false → is_named as_is d.path d.name e ≡ false
  unnamed e h = ⊎_elim (λ t. let both : true ≡ false = sym (named_alike e t) ∙ h in absurd (cc)) (λ f. f) (cases_Bool (is_named as_is d.path d.name e))

  never : (b : Bool) → b && false ≡ false
  never true = refl
  never false = refl

  simply : (f : Bool) → true && not (true && (false || f)) ≡ not f && true && true
  simply true = refl
  simply false = refl

  -- else it takes the name of its definitions
  taken_by : is_module d.what || is_forward d.what ≡ false → (e : Declaration) → is_other F e ≡ false → takes_name_of d e ≡ defines d e
  taken_by bound e none = by (alike d e) refl
    where
      by : (b : Bool) → alike d e ≡ b → takes_name_of d e ≡ defines d e
      by false h = rw (h, unnamed e h) (sym (never (not (is_forward e.what) && same_kind d.what e.what)))
      by true h =
          let t : same_thing d e ≡ true = same_again e none h in
          let k : same_kind d.what e.what ≡ true = eq-eqb (kind d.what) (kind e.what) (thing_parts d e t).1 in
          rw (h, t, bound, k, named_from e h t) (simply (is_forward e.what))

-- ---- the decision

module _ (all : List Declaration) (n f : ℕ) (other : Option ℕ) (ln : n < length all) (lf : f < n) (is_first : first_alike all n ≡ Some f) (is_one : other ≡ position_from (is_other (at all f)) 0 all) where
  abbrev D : Declaration
  D = at all n

  abbrev F : Declaration
  F = at all f

  first_is_alike : alike D F ≡ true
  first_is_alike = first_passes (alike D) all f nothing (omega (arith, ln, lf)) is_first

  -- some declaration in front has its name
  by_one : (j : ℕ) → j < n → alike D (at all j) ≡ true → same_thing D (at all j) ≡ false → list_any (takes_name_of D) (take n all) ≡ true
  by_one j lt a t =
      let len : length (take n all) ≡ n = length-take-le n all (omega (arith, ln)) in
      let here : get_or (take n all) j nothing ≡ at all j = get_or-take n all j nothing lt in
      list_any_at (takes_name_of D) (take n all) j nothing (omega (arith, len, lt)) (rw here (takes D (at all j) a t))

  lower_from : (j : ℕ) → nat_lt j n ≡ true → j < n
  lower_from j h = grind arith

  by_other : (o : Option ℕ) → o ≡ position_from (is_other F) 0 all → is_below o n ≡ true → same_thing F D ≡ true → list_any (takes_name_of D) (take n all) ≡ true
  by_other None e h one = absurd (cc)
  by_other (Some j) e h one =
      let lt : j < n = lower_from j h in
      let is : is_other F (at all j) ≡ true = first_passes (is_other F) all j nothing (omega (arith, lt, ln)) (sym e) in
      let both = and_parts (alike F (at all j)) (not (same_thing F (at all j))) is in
      let t : same_thing F (at all j) ≡ false = ⊎_elim (λ t. let both_ways : not true ≡ true = sym (ap not t) ∙ both.1 in absurd (cc)) (λ g. g) (cases_Bool (same_thing F (at all j))) in
      by_one j lt (same_for D F (at all j) first_is_alike ∙ both.0) (sym (thing_for F D (at all j) one) ∙ t)

  by_same : is_below other n ≡ false → same_thing F D ≡ true → (free : Bool) → is_module D.what || is_forward D.what ≡ free
      → list_any (takes_name_of D) (take n all) ≡ cond free false (is_below (definition all n) n)
  by_same h one true e =
      let none : list_any (is_other F) (take n all) ≡ false = front_of_first (is_other F) all n ∙ ap (λ (o : Option ℕ). is_below o n) (sym is_one) ∙ h in
      none_stronger (is_other F) (takes_name_of D) (take n all) (free_of D F (swapped D F first_is_alike) one e) none
  by_same h one false e =
      let none : list_any (is_other F) (take n all) ≡ false = front_of_first (is_other F) all n ∙ ap (λ (o : Option ℕ). is_below o n) (sym is_one) ∙ h in
      alike_where_none (is_other F) (takes_name_of D) (defines D) (take n all) (taken_by D F (swapped D F first_is_alike) one e) none ∙ front_of_first (defines D) all n

  decided : (s b : Bool) → same_thing F D ≡ s → is_below other n ≡ b
      → list_any (takes_name_of D) (take n all) ≡ cond (not s || b) true (cond (is_module D.what || is_forward D.what) false (is_below (definition all n) n))
  decided false b t h = by_one f lf first_is_alike (thing_swapped F D false t)
  decided true true t h = by_other other is_one h t
  decided true false t h = by_same h t (is_module D.what || is_forward D.what) refl

  pub taken : list_any (takes_name_of D) (take n all) ≡ is_taken all f other n
  taken = decided (same_thing F D) (is_below other n) refl refl

-- the first of a name is the first of its own
pub first_is_own : (all : List Declaration) (n f : ℕ) → n < length all → f < n → first_alike all n ≡ Some f → first_alike all f ≡ Some f
first_is_own all n f ln lf is = sym (same_first (at all n) (at all f) all (first_passes (alike (at all n)) all f nothing (omega (arith, ln, lf)) is)) ∙ is

-- the first of its name takes no name
pub first_is_free : (all : List Declaration) (n : ℕ) → is_below (first_alike all n) n ≡ false → list_any (takes_name_of (at all n)) (take n all) ≡ false
first_is_free all n h =
    none_stronger (alike (at all n)) (takes_name_of (at all n)) (take n all) (λ e none. rw none refl) (front_of_first (alike (at all n)) all n ∙ h)

-- ---- what is kept

kept : (o : Option ℕ) (n : ℕ) → after o false n ≡ o
kept None n = refl
kept (Some i) n = refl

noted_here : (others : List (Option ℕ)) (f n : ℕ) (o : Option ℕ) (s : Bool) → f < length others → get_or others f None ≡ o → get_or (cond (is_none o && not s) (slice_set others f (Some n)) others) f None ≡ after o (not s) n
noted_here others f n None true lt e = e
noted_here others f n None false lt e = get_or-set_same others f (Some n) None lt
noted_here others f n (Some i) s lt e = e

noted_there : (others : List (Option ℕ)) (f g n : ℕ) (b : Bool) → (f ≡ g → ⊥) → get_or (cond b (slice_set others g (Some n)) others) f None ≡ get_or others f None
noted_there others f g n true ne = get_or-set_other others g f (Some n) None ne
noted_there others f g n false ne = refl

module _ (all : List Declaration) (others : List (Option ℕ)) (n : ℕ) (ln : n < length all) (sized : length others ≡ length all) (so_far : AreOthers all (take n all) others) where
  grown : (f : ℕ) → position_from (is_other (at all f)) 0 (take (n + 1) all) ≡ after (position_from (is_other (at all f)) 0 (take n all)) (is_other (at all f) (at all n)) n
  grown f =
      let more : take (n + 1) all ≡ take n all ++ at all n ∷ [] = take_more all n nothing ln in
      let len : n ≡ 0 + length (take n all) = rw (length-take-le n all (omega (arith, ln))) (omega arith) in
      rw more (position-append (is_other (at all f)) 0 n (take n all) (at all n) len)

  far : (f : ℕ) → f < length all → first_alike all f ≡ Some f → (first_alike all n ≡ Some f → ⊥) → is_other (at all f) (at all n) ≡ false
  far f lf is ne = ⊎_elim
      (λ a. absurd (ne (sym (same_first (at all f) (at all n) all a) ∙ is)))
      (λ a. rw a refl)
      (cases_Bool (alike (at all f) (at all n)))

  at_first : (o : Option ℕ) → first_alike all n ≡ o → (f : ℕ) → f < length all → first_alike all f ≡ Some f
      → get_or (given o others (λ g. cond (is_none (get_or others g None) && not (same_thing (at all g) (at all n))) (slice_set others g (Some n)) others)) f None
      ≡ after (position_from (is_other (at all f)) 0 (take n all)) (is_other (at all f) (at all n)) n
  at_first None e f lf is =
      let away : is_other (at all f) (at all n) ≡ false = far f lf is (λ s. let both : None ≡ Some f = sym e ∙ s in absurd (cc)) in
      rw away (so_far f lf is ∙ sym (kept (position_from (is_other (at all f)) 0 (take n all)) n))
  at_first (Some g) e f lf is = ⊎_elim
      (λ same. let eq : f ≡ g = eqb-true f g same in rw (← eq) (here (rw (← eq) at e)))
      (λ other. noted_there others f g n _ (λ eq. let both : true ≡ false = sym (eq-eqb f g eq) ∙ other in absurd (cc)) ∙ so_far f lf is ∙ sym (rw (away other) (kept (position_from (is_other (at all f)) 0 (take n all)) n)))
      (cases_Bool (f == g))
    where
      here : first_alike all n ≡ Some f → get_or (cond (is_none (get_or others f None) && not (same_thing (at all f) (at all n))) (slice_set others f (Some n)) others) f None
          ≡ after (position_from (is_other (at all f)) 0 (take n all)) (is_other (at all f) (at all n)) n
      here e =
          let a : alike (at all f) (at all n) ≡ true = swapped (at all n) (at all f) (first_passes (alike (at all n)) all f nothing lf e) in
          let test : is_other (at all f) (at all n) ≡ not (same_thing (at all f) (at all n)) = rw a refl in
          rw (test, ← (so_far f lf is)) (noted_here others f n (get_or others f None) (same_thing (at all f) (at all n)) (omega (arith, lf, sized)) refl)

      away : (f == g) ≡ false → is_other (at all f) (at all n) ≡ false
      away other = far f lf is (λ s. let same : Some g ≡ Some f = sym e ∙ s in let eq : f ≡ g = cc in let both : true ≡ false = sym (eq-eqb f g eq) ∙ other in absurd (cc))

  pub one_more : AreOthers all (take (n + 1) all) (noted all others n)
  one_more f lf is = at_first (first_alike all n) refl f lf is ∙ sym (grown f)
