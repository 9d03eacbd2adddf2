-- Lists of homes by the definitions that they are of.
use Rattle.std.proofs.Common.{◌≡◌, ◌∙◌, ℕ, zero, suc, ◌<◌, ◌≤◌, List, [], ◌∷◌, ◌++◌, Bool, true, false, cond, ◌==◌, ◌||◌, length, take, get_or, refl, sym, ap, arith, ⊎_elim}
use Rattle.std.specs.List.{list_any}
use Rattle.std.proofs.lemmas.Bool.{cases_Bool, eqb-true}
use Rattle.std.proofs.lemmas.List.{take_all}
use Rattle.type_layout.specs.declared.home.HomeNo.{HomeNo}
use Rattle.psdl_directory.specs.Declarations.{Declaration}
use Rattle.psdl_check.specs.Schemas.{referents}
use Rattle.psdl_check.specs.declared.referents.HomesOf.{HomesOf}
use Rattle.psdl_check.specs.inner.Lists.{lists_in, is_held, homes_in}
use Rattle.psdl_check.specs.inner.Referring.{AreTrue}

abbrev Lists : Type 0
Lists = List (ℕ × List HomeNo)

-- ---- one list more

pub held_more : (ls : Lists) (l : ℕ × List HomeNo) (n : ℕ) → is_held (ls ++ l ∷ []) n ≡ (is_held ls n || (l.0 == n))
held_more [] l n = by (l.0 == n)
  where
    by : (b : Bool) → (b || false) ≡ b
    by true = refl
    by false = refl
held_more (k ∷ ls) l n = ap (λ (b : Bool). (k.0 == n) || b) (held_more ls l n) ∙ by (k.0 == n) (is_held ls n) (l.0 == n)
  where
    by : (a b c : Bool) → (a || (b || c)) ≡ ((a || b) || c)
    by true b c = refl
    by false b c = refl

in_front : (ls more : Lists) (n : ℕ) → is_held ls n ≡ true → homes_in (ls ++ more) n ≡ homes_in ls n
in_front [] more n h = absurd (cc)
in_front (l ∷ ls) more n h = by (l.0 == n) refl (λ later. in_front ls more n later)
  where
    by : (b : Bool) → (l.0 == n) ≡ b → (is_held ls n ≡ true → homes_in (ls ++ more) n ≡ homes_in ls n) → cond (l.0 == n) l.1 (homes_in (ls ++ more) n) ≡ cond (l.0 == n) l.1 (homes_in ls n)
    by true e rest = ap (λ (b : Bool). cond b l.1 (homes_in (ls ++ more) n)) e ∙ sym (ap (λ (b : Bool). cond b l.1 (homes_in ls n)) e)
    by false e rest =
        let later : is_held ls n ≡ true = sym (ap (λ (b : Bool). b || is_held ls n) e) ∙ h in
        ap (λ (x : List HomeNo). cond (l.0 == n) l.1 x) (rest later)

behind : (ls more : Lists) (n : ℕ) → is_held ls n ≡ false → homes_in (ls ++ more) n ≡ homes_in more n
behind [] more n h = refl
behind (l ∷ ls) more n h = by (l.0 == n) refl (λ later. behind ls more n later)
  where
    by : (b : Bool) → (l.0 == n) ≡ b → (is_held ls n ≡ false → homes_in (ls ++ more) n ≡ homes_in more n) → cond (l.0 == n) l.1 (homes_in (ls ++ more) n) ≡ homes_in more n
    by true e rest = absurd (cc (sym (ap (λ (b : Bool). b || is_held ls n) e) ∙ h))
    by false e rest =
        let later : is_held ls n ≡ false = sym (ap (λ (b : Bool). b || is_held ls n) e) ∙ h in
        ap (λ (b : Bool). cond b l.1 (homes_in (ls ++ more) n)) e ∙ rest later

-- where all lists were right, they are with one more
pub one_more_right : (all : List Declaration) (ls : Lists) (d : ℕ) → AreTrue all ls → AreTrue all (ls ++ (d, referents all d) ∷ [])
one_more_right all ls d are n held = ⊎_elim
    (λ before. in_front ls ((d, referents all d) ∷ []) n before ∙ are n before)
    (λ new.
    let here : (d == n) ≡ true = sym (ap (λ (b : Bool). b || (d == n)) new) ∙ sym (held_more ls (d, referents all d) n) ∙ held in
    behind ls ((d, referents all d) ∷ []) n new
    ∙ ap (λ (b : Bool). cond b (referents all d) []) here
    ∙ ap (referents all) (eqb-true d n here))
    (cases_Bool (is_held ls n))

-- ---- what stands at a place

pub held_of : (lists : List HomesOf) (n : ℕ) → is_held (lists_in lists) n ≡ list_any (λ l. l.definition == n) lists
held_of [] n = refl
held_of (l ∷ lists) n = ap (λ (b : Bool). (l.definition == n) || b) (held_of lists n)

-- the first list of a definition stands at this place
pub record IsFirst (lists : List HomesOf) (i n : ℕ) (l : HomesOf) : Type 0 where
  pub within : i < length lists
  pub is : l ≡ get_or lists i l
  pub none : list_any (λ k. k.definition == n) (take i lists) ≡ false
  pub here : (l.definition == n) ≡ true

found_in : (lists : List HomesOf) (i n : ℕ) (d : HomesOf) → i < length lists → list_any (λ l. l.definition == n) (take i lists) ≡ false → ((get_or lists i d).definition == n) ≡ true
    → (is_held (lists_in lists) n ≡ true) × (homes_in (lists_in lists) n ≡ (get_or lists i d).homes.items)
found_in [] i n d lt before here = absurd (omega (arith, lt))
found_in (l ∷ lists) zero n d lt before here =
    (ap (λ (b : Bool). b || is_held (lists_in lists) n) here, ap (λ (b : Bool). cond b l.homes.items (homes_in (lists_in lists) n)) here)
found_in (l ∷ lists) (suc i) n d lt before here = by (l.definition == n) refl (λ none. found_in lists i n d (omega (arith, lt)) none here)
  where
    by : (b : Bool) → (l.definition == n) ≡ b → (list_any (λ k. k.definition == n) (take i lists) ≡ false → (is_held (lists_in lists) n ≡ true) × (homes_in (lists_in lists) n ≡ (get_or lists i d).homes.items)) → (((l.definition == n) || is_held (lists_in lists) n) ≡ true) × (cond (l.definition == n) l.homes.items (homes_in (lists_in lists) n) ≡ (get_or lists i d).homes.items)
    by true e rest = absurd (cc (sym (ap (λ (b : Bool). b || list_any (λ k. k.definition == n) (take i lists)) e) ∙ before))
    by false e rest =
        let later = rest (sym (ap (λ (b : Bool). b || list_any (λ k. k.definition == n) (take i lists)) e) ∙ before) in
        (ap (λ (b : Bool). b || is_held (lists_in lists) n) e ∙ later.0, ap (λ (b : Bool). cond b l.homes.items (homes_in (lists_in lists) n)) e ∙ later.1)

pub found : (lists : List HomesOf) (i n : ℕ) (l : HomesOf) → IsFirst lists i n l → (is_held (lists_in lists) n ≡ true) × (homes_in (lists_in lists) n ≡ l.homes.items)
found lists i n l f =
    let both = found_in lists i n l f.within f.none (ap (λ (k : HomesOf). k.definition == n) (sym f.is) ∙ f.here) in
    (both.0, both.1 ∙ ap (λ (k : HomesOf). k.homes.items) (sym f.is))

pub found_nowhere : (lists : List HomesOf) (n : ℕ) → list_any (λ l. l.definition == n) lists ≡ false → homes_in (lists_in lists) n ≡ []
found_nowhere [] n none = refl
found_nowhere (l ∷ lists) n none = by (l.definition == n) refl (λ later. found_nowhere lists n later)
  where
    by : (b : Bool) → (l.definition == n) ≡ b → (list_any (λ k. k.definition == n) lists ≡ false → homes_in (lists_in lists) n ≡ []) → cond (l.definition == n) l.homes.items (homes_in (lists_in lists) n) ≡ []
    by true e rest = absurd (cc (sym (ap (λ (b : Bool). b || list_any (λ k. k.definition == n) lists) e) ∙ none))
    by false e rest =
        ap (λ (b : Bool). cond b l.homes.items (homes_in (lists_in lists) n)) e
        ∙ rest (sym (ap (λ (b : Bool). b || list_any (λ k. k.definition == n) lists) e) ∙ none)

-- all of them
pub none_of_all : (lists : List HomesOf) (i n : ℕ) → length lists ≤ i → list_any (λ l. l.definition == n) (take i lists) ≡ false → list_any (λ l. l.definition == n) lists ≡ false
none_of_all lists i n past none = ap (λ (ls : List HomesOf). list_any (λ l. l.definition == n) ls) (sym (take_all i lists past)) ∙ none
