-- Where the lines of a home end.
use Rattle.std.proofs.Common.{ℕ, zero, suc, ◌≡◌, ◌+◌, ◌-◌, ◌<◌, ◌≤◌, ◌==◌, ◌&&◌, if◌then◌else◌, get_or, Bool, true, false, List, [], ◌∷◌, ◌++◌, length, take, drop, refl, sym, ap, ◌∙◌, subst, arith, append_assoc, append-nil, eq-eqb, ne_eqb, length-append, length-drop, length-take}
use Rattle.std.proofs.lemmas.List.{take_all, take-append-drop}
use Rattle.std.proofs.Math.Seq.{drop-cons}
use Rattle.pss_recovery.specs.Shapes.{Cut, begins_home, behind, cut_from, homes_of, joined}
use Rattle.pss_recovery.specs.inner.Lines.{EndsAt, IsNext, line_at, starts_at}
use Rattle.pss_recovery.proofs.Splits.{front_of, rest_of}

-- the line of a home begins where a line begins, and the octets from there on begin with a home
pub starts_is : (s : Bool) (octets : List ℕ) (i : ℕ) → i < length octets → starts_at s octets i ≡ (line_at s octets i && begins_home (drop i octets))
starts_is s octets zero lt = refl
starts_is s [] (suc i) lt = absurd (omega (arith, lt))
starts_is s (b ∷ octets) (suc i) lt = starts_is (b == 10) octets i (omega (arith, lt))

-- a line begins behind the end of another
pub line_is : (s : Bool) (octets : List ℕ) (i at : ℕ) → at ≡ suc i → i < length octets → line_at s octets at ≡ (get_or octets i 0 == 10)
line_is s octets i at e lt = ap (line_at s octets) e ∙ behind_octet s octets i lt
  where
    behind_octet : (s : Bool) (octets : List ℕ) (i : ℕ) → i < length octets → line_at s octets (suc i) ≡ (get_or octets i 0 == 10)
    behind_octet s [] i lt = absurd (omega (arith, lt))
    behind_octet s (b ∷ octets) zero lt = refl
    behind_octet s (b ∷ octets) (suc i) lt = behind_octet (b == 10) octets i (omega (arith, lt))

-- a line begins behind these octets
abbrev line_behind : Bool → List ℕ → Bool
line_behind starts [] = starts
line_behind starts (b ∷ octets) = line_behind (b == 10) octets

-- behind some octets the places go on
starts_behind : (s : Bool) (u w : List ℕ) (i : ℕ) → starts_at s (u ++ w) (length u + i) ≡ starts_at (line_behind s u) w i
starts_behind s [] w i = ap (starts_at s w) (let e : 0 + i ≡ i = omega arith in e)
starts_behind s (b ∷ u) w i = ap (starts_at s (b ∷ (u ++ w))) (let e : suc (length u) + i ≡ suc (length u + i) = omega arith in e) ∙ starts_behind (b == 10) u w i

-- octets in which no home begins stand in front
no_home : (s : Bool) (u w : List ℕ) → ((i : ℕ) → i < length u → starts_at s (u ++ w) i ≡ false)
    → cut_from s (u ++ w) ≡ record { front = u ++ (cut_from (line_behind s u) w).front; homes = (cut_from (line_behind s u) w).homes }
no_home s [] w h = refl
no_home s (b ∷ u) w h =
    ap (λ t. behind t b (cut_from (b == 10) (u ++ w))) (h 0 (omega arith)) ∙ ap (behind false b) (no_home (b == 10) u w (λ i lt. h (suc i) (omega (arith, lt))))

-- a home begins here
home_here : (s : Bool) (x : ℕ) (w : List ℕ) → starts_at s (x ∷ w) 0 ≡ true → cut_from s (x ∷ w) ≡ record { front = []; homes = (x ∷ (cut_from (x == 10) w).front) ∷ (cut_from (x == 10) w).homes }
home_here s x w h = ap (λ t. behind t x (cut_from (x == 10) w)) h

and_left : (a b : Bool) → (a && b) ≡ true → a ≡ true
and_left true b h = refl
and_left false b h = h

-- at the start of a home's lines
homes_there : (s : Bool) (y : ℕ) (w : List ℕ) → starts_at s (y ∷ w) 0 ≡ true → ((cut_from s (y ∷ w)).front ≡ []) × ((cut_from s (y ∷ w)).homes ≡ homes_of (y ∷ w))
homes_there s y w h =
    let e = home_here s y w h in
    let f = home_here true y w (ap (λ t. t && begins_home (y ∷ w)) (sym (and_left s (begins_home (y ∷ w)) h)) ∙ h) in
    (ap (λ (c : Cut). c.front) e, ap (λ (c : Cut). c.homes) e ∙ sym (ap (λ (c : Cut). joined c.front c.homes) f))

-- what a list of homes has behind the first one, which ends at a place
abbrev others : ℕ → List ℕ → List (List ℕ)
others end octets = if end == length octets then [] else homes_of (drop end octets)

at_end : (end : ℕ) (octets : List ℕ) → end ≡ length octets → others end octets ≡ []
at_end end octets e = ap (λ t. if t then [] else homes_of (drop end octets)) (eq-eqb end (length octets) e)

not_at_end : (end : ℕ) (octets : List ℕ) → end < length octets → others end octets ≡ homes_of (drop end octets)
not_at_end end octets lt = ap (λ t. if t then [] else homes_of (drop end octets)) (ne_eqb end (length octets) (λ e. omega (arith, e, lt)))

-- no home begins behind the first line of one
pub one_home : (octets : List ℕ) → ((i : ℕ) → 0 ≤ i → i < length octets → starts_at true octets i ≡ false) → EndsAt octets (length octets)
one_home octets none =
    let same : octets ++ [] ≡ octets = append-nil octets in
    let cut : cut_from true octets ≡ record { front = octets; homes = [] } =
    ap (cut_from true) (sym same) ∙ no_home true octets [] (λ i lt. ap (λ l. starts_at true l i) same ∙ none i (omega arith) lt)
    ∙ nothing (line_behind true octets) in
    record {
      within = omega arith;
      some = λ lt. lt;
      cut = ap (λ (c : Cut). joined c.front c.homes) cut ∙ ap (λ l. l ∷ []) (sym (take_all (length octets) octets (omega arith))) ∙ ap (λ l. take (length octets) octets ∷ l) (sym (at_end (length octets) octets refl));
    }
  where
    nothing : (s : Bool) → ◌≡◌ {A = Cut} (record { front = octets ++ (cut_from s []).front; homes = (cut_from s []).homes }) (record { front = octets; homes = [] })
    nothing s = ap (λ l. record { front = l; homes = [] }) (append-nil octets)

-- the homes of a shape whose first home begins behind u and has x and v behind it
module _ (u : List ℕ) (x : ℕ) (v w : List ℕ) where
  two : ((i : ℕ) → i < length u → starts_at true (u ++ x ∷ (v ++ w)) i ≡ false) → starts_at true (u ++ x ∷ (v ++ w)) (length u + 0) ≡ true
      → ((j : ℕ) → j < length v → starts_at (x == 10) (v ++ w) j ≡ false)
      → homes_of (u ++ x ∷ (v ++ w)) ≡ (u ++ x ∷ (v ++ (cut_from (line_behind (x == 10) v) w).front)) ∷ (cut_from (line_behind (x == 10) v) w).homes
  two front here back =
      let s = line_behind true u in
      let rest = cut_from (x == 10) (v ++ w) in
      let at : starts_at s (x ∷ (v ++ w)) 0 ≡ true = sym (starts_behind true u (x ∷ (v ++ w)) 0) ∙ here in
      ap (λ (c : Cut). joined c.front c.homes) (no_home true u (x ∷ (v ++ w)) front)
      ∙ ap (λ (c : Cut). joined (u ++ c.front) c.homes) (home_here s x (v ++ w) at)
      ∙ ap (λ l. (l ++ x ∷ rest.front) ∷ rest.homes) (append-nil u)
      ∙ ap (λ (c : Cut). (u ++ x ∷ c.front) ∷ c.homes) (no_home (x == 10) v w back)

  whole_length : length (u ++ x ∷ (v ++ w)) ≡ length u + suc (length v) + length w
  whole_length = length-append u (x ∷ (v ++ w)) ∙ ap (λ n. length u + suc n) (length-append v w) ∙ omega arith

  long : length (u ++ x ∷ v) ≡ length u + suc (length v)
  long = length-append u (x ∷ v)

  same : u ++ x ∷ (v ++ w) ≡ (u ++ x ∷ v) ++ w
  same = sym (append_assoc u (x ∷ v) w)

  pub front_is : take (length u + suc (length v)) (u ++ x ∷ (v ++ w)) ≡ u ++ x ∷ v
  front_is = ap (take (length u + suc (length v))) same ∙ front_of (length u + suc (length v)) (u ++ x ∷ v) w long

  pub rest_is : drop (length u + suc (length v)) (u ++ x ∷ (v ++ w)) ≡ w
  rest_is = ap (drop (length u + suc (length v))) same ∙ rest_of (length u + suc (length v)) (u ++ x ∷ v) w long

-- what is cut behind the lines of a home
behind_lines : (u : List ℕ) (x : ℕ) (v w : List ℕ) (s : Bool) → (0 < length w → starts_at s w 0 ≡ true)
    → ((cut_from s w).front ≡ []) × ((cut_from s w).homes ≡ others (length u + suc (length v)) (u ++ x ∷ (v ++ w)))
behind_lines u x v [] s next = (refl, sym (at_end (length u + suc (length v)) (u ++ x ∷ (v ++ [])) (omega (arith, whole_length u x v []))))
behind_lines u x v (y ∷ w) s next =
    let there = homes_there s y w (next (omega arith)) in
    (there.0, there.1 ∙ ap homes_of (sym (rest_is u x v (y ∷ w))) ∙ sym (not_at_end (length u + suc (length v)) (u ++ x ∷ (v ++ (y ∷ w))) (omega (arith, whole_length u x v (y ∷ w)))))

module _ (u : List ℕ) (x : ℕ) (v w : List ℕ) where
  pub two_homes : ((i : ℕ) → i < length u → starts_at true (u ++ x ∷ (v ++ w)) i ≡ false) → starts_at true (u ++ x ∷ (v ++ w)) (length u + 0) ≡ true
      → ((j : ℕ) → j < length v → starts_at (x == 10) (v ++ w) j ≡ false) → (0 < length w → starts_at (line_behind (x == 10) v) w 0 ≡ true)
      → EndsAt (u ++ x ∷ (v ++ w)) (length u + suc (length v))
  two_homes front here back next =
      let there = behind_lines u x v w (line_behind (x == 10) v) next in
      let all = others (length u + suc (length v)) (u ++ x ∷ (v ++ w)) in
      let homes = (cut_from (line_behind (x == 10) v) w).homes in
      record {
        within = omega (arith, whole_length u x v w);
        some = λ lt. omega arith;
        cut = two u x v w front here back ∙ ap (λ l. (u ++ x ∷ (v ++ l)) ∷ homes) there.0 ∙ ap (λ l. (u ++ x ∷ l) ∷ homes) (append-nil v) ∙ ap (λ l. l ∷ homes) (sym (front_is u x v w))
            ∙ ap (λ l. take (length u + suc (length v)) (u ++ x ∷ (v ++ w)) ∷ l) there.1;
      }

-- the same by places
pub between_homes : (octets : List ℕ) (p q : ℕ) → IsNext octets 0 p → p < length octets → IsNext octets (p + 1) q → EndsAt octets q
between_homes octets p q first more second =
    let u = take p octets in
    let x = get_or octets p 0 in
    let r = drop (p + 1) octets in
    let v = take (q - (p + 1)) r in
    let w = drop (q - (p + 1)) r in
    let lu : length u ≡ p = length-take p octets ∙ omega (arith, more) in
    let lr : length r ≡ length octets - (p + 1) = length-drop (p + 1) octets in
    let lv : length v ≡ q - (p + 1) = length-take (q - (p + 1)) r ∙ omega (arith, lr, second.within) in
    let next_octet : drop p octets ≡ x ∷ r = drop-cons octets p 0 more ∙ ap (λ n. x ∷ drop n octets) (let e : suc p ≡ p + 1 = omega arith in e) in
    let is : octets ≡ u ++ x ∷ (v ++ w) = sym (take-append-drop p octets) ∙ ap (λ l. u ++ l) (next_octet ∙ ap (λ l. x ∷ l) (sym (take-append-drop (q - (p + 1)) r))) in
    let at : length u + suc (length v) ≡ q = omega (arith, lu, lv, second.after) in
    let whole = u ++ x ∷ (v ++ w) in
    let front : (i : ℕ) → i < length u → starts_at true whole i ≡ false = λ i lt. ap (λ l. starts_at true l i) (sym is) ∙ first.before i (omega arith) (omega (arith, lt, lu)) in
    let here : starts_at true whole (length u + 0) ≡ true = ap (λ l. starts_at true l (length u + 0)) (sym is) ∙ ap (starts_at true octets) (let e : length u + 0 ≡ p = omega (arith, lu) in e) ∙ first.here more in
    let behind_first : (j : ℕ) → starts_at true whole (length (u ++ x ∷ []) + j) ≡ starts_at (x == 10) (v ++ w) j = λ j. ap (λ l. starts_at true l (length (u ++ x ∷ []) + j)) (sym (append_assoc u (x ∷ []) (v ++ w))) ∙ starts_behind true (u ++ x ∷ []) (v ++ w) j ∙ ap (λ s. starts_at s (v ++ w) j) (ends_with true u x) in
    let place : (j : ℕ) → length (u ++ x ∷ []) + j ≡ p + 1 + j = λ j. omega (arith, length-append u (x ∷ []), lu) in
    let back : (j : ℕ) → j < length v → starts_at (x == 10) (v ++ w) j ≡ false = λ j lt. sym (behind_first j) ∙ ap (λ l. starts_at true l (length (u ++ x ∷ []) + j)) (sym is) ∙ ap (starts_at true octets) (place j) ∙ second.before (p + 1 + j) (omega arith) (omega (arith, lt, lv)) in
    let next : 0 < length w → starts_at (line_behind (x == 10) v) w 0 ≡ true = λ lt. sym (starts_behind (x == 10) v w 0) ∙ sym (behind_first (length v + 0)) ∙ ap (λ l. starts_at true l (length (u ++ x ∷ []) + (length v + 0))) (sym is)
    ∙ ap (starts_at true octets) (let e : length (u ++ x ∷ []) + (length v + 0) ≡ q = omega (arith, place (length v + 0), lv, second.after) in e) ∙ second.here (omega (arith, lt, length-drop (q - (p + 1)) r, lr, second.after)) in
    subst (λ (l : List ℕ). EndsAt l q) (sym is) (subst (EndsAt whole) at (two_homes u x v w front here back next))
  where
    ends_with : (s : Bool) (u : List ℕ) (x : ℕ) → line_behind s (u ++ x ∷ []) ≡ (x == 10)
    ends_with s [] x = refl
    ends_with s (b ∷ u) x = ends_with (b == 10) u x
