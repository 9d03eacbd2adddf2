-- Laws of lines.
use Rattle.std.proofs.Common.{◌≡◌, ◌⊎◌, ⊎_elim, take, ℕ, zero, suc, ◌+◌, ◌-◌, ◌<◌, List, [], ◌∷◌, ◌++◌, length, map, filter, Bool, true, false, ◌==◌, ◌&&◌, nat_lt, nat_le, if◌then◌else◌, refl, sym, ◌∙◌, ap, arith, append_assoc, append-nil, length-append}
use Rattle.std.proofs.lemmas.Grind.{common_steps}
use Rattle.pss_base.specs.Lines.{has_lf, onto, raw_lines, bytes_of, within, is_over}

abbrev pub Raw : Type 0
Raw = List ℕ × Bool

abbrev pub all_bytes : List Raw → List ℕ
all_bytes [] = []
all_bytes (raw ∷ raws) = bytes_of raw ++ all_bytes raws

abbrev pub all_ended : List Raw → Bool
all_ended [] = true
all_ended (raw ∷ raws) = raw.1 && all_ended raws

-- one line each, and only the last may have no line feed
abbrev pub IsRun : List Raw → Type 0
IsRun [] = Unit {0}
IsRun (raw ∷ raws) = (has_lf raw.0 ≡ false) × (raw.1 ≡ false → (0 < length raw.0) × (raws ≡ [])) × IsRun raws

-- a line with its line feed comes first
pub first_line : (body rest : List ℕ) → has_lf body ≡ false → raw_lines (body ++ 10 ∷ rest) ≡ (body, true) ∷ raw_lines rest
first_line [] rest none = refl
first_line (b ∷ body) rest none = by_head (b == 10) b (raw_lines (body ++ 10 ∷ rest)) (raw_lines rest) body true none (λ n. first_line body rest n)
  where
    by_head : (t : Bool) (b : ℕ) (got more : List Raw) (body : List ℕ) (end : Bool) → (if t then true else has_lf body) ≡ false → (has_lf body ≡ false → got ≡ (body, end) ∷ more)
        → (let l : List Raw = (if t then ([], true) ∷ got else onto b got) in l) ≡ (b ∷ body, end) ∷ more
    by_head true b got more body end none is = cc
    by_head false b got more body end none is = ap (onto b) (is none)

-- bytes without a line feed are one line
pub only_line : (b : ℕ) (body : List ℕ) → has_lf (b ∷ body) ≡ false → raw_lines (b ∷ body) ≡ (b ∷ body, false) ∷ []
only_line b [] none = by_test (b == 10) b none
  where
    by_test : (t : Bool) (b : ℕ) → (if t then true else false) ≡ false → (let l : List Raw = (if t then ([], true) ∷ [] else onto b []) in l) ≡ (b ∷ [], false) ∷ []
    by_test true b none = cc
    by_test false b none = refl
only_line b (c ∷ body) none = by_rest (b == 10) b c body (raw_lines (c ∷ body)) none (λ n. only_line c body n)
  where
    by_rest : (t : Bool) (b c : ℕ) (body : List ℕ) (got : List Raw) → (if t then true else has_lf (c ∷ body)) ≡ false → (has_lf (c ∷ body) ≡ false → got ≡ (c ∷ body, false) ∷ [])
        → (let l : List Raw = (if t then ([], true) ∷ got else onto b got) in l) ≡ (b ∷ c ∷ body, false) ∷ []
    by_rest true b c body got none is = cc
    by_rest false b c body got none is = ap (onto b) (is none)

pub ended_first : (raws : List Raw) (rest : List ℕ) → IsRun raws → all_ended raws ≡ true → raw_lines (all_bytes raws ++ rest) ≡ raws ++ raw_lines rest
ended_first [] rest run ended = refl
ended_first ((body, true) ∷ raws) rest run ended =
    let shape : ((body ++ 10 ∷ []) ++ all_bytes raws) ++ rest ≡ body ++ 10 ∷ (all_bytes raws ++ rest) = simp append_assoc in
    ap raw_lines shape ∙ first_line body (all_bytes raws ++ rest) run.0 ∙ ap (λ l. (body, true) ∷ l) (ended_first raws rest run.2 ended)
ended_first ((body, false) ∷ raws) rest run ended = cc

pub run_whole : (raws : List Raw) → IsRun raws → raw_lines (all_bytes raws) ≡ raws
run_whole [] run = refl
run_whole ((body, true) ∷ raws) run =
    let shape : (body ++ 10 ∷ []) ++ all_bytes raws ≡ body ++ 10 ∷ all_bytes raws = simp append_assoc in
    ap raw_lines shape ∙ first_line body (all_bytes raws) run.0 ∙ ap (λ l. (body, true) ∷ l) (run_whole raws run.2)
run_whole (([], false) ∷ raws) run = absurd (omega (arith, (run.1 refl).0))
run_whole ((b ∷ body, false) ∷ raws) run =
    let none : raws ≡ [] = (run.1 refl).1 in
    rw none (ap raw_lines (append-nil (b ∷ body)) ∙ only_line b body run.0)

pub run-append : (raws : List Raw) (raw : Raw) → IsRun raws → all_ended raws ≡ true → has_lf raw.0 ≡ false → (raw.1 ≡ false → 0 < length raw.0) → IsRun (raws ++ raw ∷ [])
run-append [] raw run ended one some = (one, λ e. (some e, refl), tt)
run-append ((body, true) ∷ raws) raw run ended one some = (run.0, λ e. cc, run-append raws raw run.2 ended one some)
run-append ((body, false) ∷ raws) raw run ended one some = cc

pub all_ended-append : (raws : List Raw) (raw : Raw) → all_ended raws ≡ true → raw.1 ≡ true → all_ended (raws ++ raw ∷ []) ≡ true
all_ended-append [] raw ended e = rw e
all_ended-append ((body, true) ∷ raws) raw ended e = all_ended-append raws raw ended e
all_ended-append ((body, false) ∷ raws) raw ended e = cc

pub all_bytes-append : (raws : List Raw) (raw : Raw) → all_bytes (raws ++ raw ∷ []) ≡ all_bytes raws ++ bytes_of raw
all_bytes-append [] raw = append-nil (bytes_of raw)
all_bytes-append (r ∷ raws) raw = ap (λ l. bytes_of r ++ l) (all_bytes-append raws raw) ∙ sym (append_assoc (bytes_of r) (all_bytes raws) (bytes_of raw))

picked : {A : Type 0} (t : Bool) (x y : A) → t ≡ true → (if t then x else y) ≡ x
picked true x y e = refl
picked false x y e = cc

fits : (n b n' b' size len rest : ℕ) → n ≡ n' + (len + 1) → b ≡ b' + (size + rest) → (nat_lt 0 n && nat_le size b) ≡ true
fits n b n' b' size len rest en eb = grind (arith, common_steps)

-- what fits comes first, and the limit is then for the rest
pub within-append : (raws more : List Raw) (n b n' b' : ℕ) → n ≡ n' + length raws → b ≡ b' + length (all_bytes raws) → within n b (raws ++ more) ≡ raws ++ within n' b' more
within-append [] more n b n' b' en eb = let e : n ≡ n' = omega (arith, en) in let f : b ≡ b' = omega (arith, eb) in rw (e, f)
within-append (raw ∷ raws) more n b n' b' en eb =
    let size : length (all_bytes (raw ∷ raws)) ≡ length (bytes_of raw) + length (all_bytes raws) = length-append (bytes_of raw) (all_bytes raws) in
    picked _ _ _ (fits n b n' b' (length (bytes_of raw)) (length raws) (length (all_bytes raws)) (omega (arith, en)) (omega (arith, eb, size)))
    ∙ ap (λ l. raw ∷ l) (within-append raws more (n - 1) (b - length (bytes_of raw)) n' b' (omega (arith, en)) (omega (arith, eb, size)))

pub is_over-append : (raws more : List Raw) (n b n' b' : ℕ) → n ≡ n' + length raws → b ≡ b' + length (all_bytes raws) → is_over n b (raws ++ more) ≡ is_over n' b' more
is_over-append [] more n b n' b' en eb = let e : n ≡ n' = omega (arith, en) in let f : b ≡ b' = omega (arith, eb) in rw (e, f)
is_over-append (raw ∷ raws) more n b n' b' en eb =
    let size : length (all_bytes (raw ∷ raws)) ≡ length (bytes_of raw) + length (all_bytes raws) = length-append (bytes_of raw) (all_bytes raws) in
    picked _ _ _ (fits n b n' b' (length (bytes_of raw)) (length raws) (length (all_bytes raws)) (omega (arith, en)) (omega (arith, eb, size)))
    ∙ is_over-append raws more (n - 1) (b - length (bytes_of raw)) n' b' (omega (arith, en)) (omega (arith, eb, size))

pub map-append : {A B : Type 0} (f : A → B) (xs ys : List A) → map f (xs ++ ys) ≡ map f xs ++ map f ys
map-append f [] ys = refl
map-append f (x ∷ xs) ys = ap (λ l. f x ∷ l) (map-append f xs ys)

pub ended_all : (raws : List Raw) → all_ended raws ≡ true → filter (λ raw. raw.1) raws ≡ raws
ended_all [] e = refl
ended_all ((body, true) ∷ raws) e = ap (λ l. (body, true) ∷ l) (ended_all raws e)
ended_all ((body, false) ∷ raws) e = cc

-- a line that isn't ended is no ended line
pub ended-append : (raws : List Raw) (part : List ℕ) → IsRun raws → all_ended raws ≡ true → has_lf part ≡ false → filter (λ raw. raw.1) (raw_lines (all_bytes raws ++ part)) ≡ raws
ended-append raws [] run ended none = ap (filter (λ raw. raw.1)) (ended_first raws [] run ended ∙ append-nil raws) ∙ ended_all raws ended
ended-append raws (b ∷ part) run ended none =
    ap (filter (λ raw. raw.1)) (ended_first raws (b ∷ part) run ended ∙ ap (λ l. raws ++ l) (only_line b part none)) ∙ without raws ended
  where
    without : (raws : List Raw) → all_ended raws ≡ true → filter (λ raw. raw.1) (raws ++ (b ∷ part, false) ∷ []) ≡ raws
    without [] e = refl
    without ((body, true) ∷ raws) e = ap (λ l. (body, true) ∷ l) (without raws e)
    without ((body, false) ∷ raws) e = cc

-- the first line of bytes of which some have no line feed is longer than these
pub first_long : (part : List ℕ) (next : ℕ) (more : List ℕ) → has_lf part ≡ false → (raw : Raw) × (raws : List Raw) × (raw_lines (part ++ next ∷ more) ≡ raw ∷ raws) × (length part < length (bytes_of raw))
first_long [] next more none = by_test (next == 10) next (raw_lines more)
  where
    by_test : (t : Bool) (b : ℕ) (got : List Raw) → (raw : Raw) × (raws : List Raw) × ((let l : List Raw = (if t then ([], true) ∷ got else onto b got) in l) ≡ raw ∷ raws) × (0 < length (bytes_of raw))
    by_test true b got = (([], true), got, refl, omega arith)
    by_test false b [] = ((b ∷ [], false), [], refl, omega arith)
    by_test false b ((body, true) ∷ raws) = ((b ∷ body, true), raws, refl, omega arith)
    by_test false b ((body, false) ∷ raws) = ((b ∷ body, false), raws, refl, omega arith)
first_long (b ∷ part) next more none = by_head (b == 10) b (raw_lines (part ++ next ∷ more)) part none (λ n. first_long part next more n)
  where
    longer : (b : ℕ) (body : List ℕ) (end : Bool) (n : ℕ) → n < length (bytes_of (body, end)) → n + 1 < length (bytes_of (b ∷ body, end))
    longer b body true n lt = omega (arith, lt)
    longer b body false n lt = omega (arith, lt)

    by_head : (t : Bool) (b : ℕ) (got : List Raw) (part : List ℕ) → (if t then true else has_lf part) ≡ false
        → (has_lf part ≡ false → (raw : Raw) × (raws : List Raw) × (got ≡ raw ∷ raws) × (length part < length (bytes_of raw)))
        → (raw : Raw) × (raws : List Raw) × ((let l : List Raw = (if t then ([], true) ∷ got else onto b got) in l) ≡ raw ∷ raws) × (length (b ∷ part) < length (bytes_of raw))
    by_head true b got part none is = cc
    by_head false b got part none is =
        let found = is none in
        ((b ∷ found.0.0, found.0.1), found.1, ap (onto b) found.2, (let l = longer b found.0.0 found.0.1 (length part) found.3 in omega (arith, l)))

-- and so the limit stands before it
pub limit_here : (n b : ℕ) (part : List ℕ) (next : ℕ) (more : List ℕ) → has_lf part ≡ false → (n ≡ 0) ⊎ (length part ≡ b)
    → (is_over n b (raw_lines (part ++ next ∷ more)) ≡ true) × (within n b (raw_lines (part ++ next ∷ more)) ≡ [])
limit_here n b part next more none over =
    let found = first_long part next more none in
    let no : (nat_lt 0 n && nat_le (length (bytes_of found.0)) b) ≡ false = ⊎_elim (λ e. by_lines n b (length (bytes_of found.0)) e) (λ e. by_bytes n b (length (bytes_of found.0)) (length part) e found.3) over in
    (ap (is_over n b) found.2 ∙ unpicked _ _ _ no, ap (within n b) found.2 ∙ unpicked _ _ _ no)
  where
    unpicked : {A : Type 0} (t : Bool) (x y : A) → t ≡ false → (if t then x else y) ≡ y
    unpicked true x y e = cc
    unpicked false x y e = refl

    by_lines : (n b size : ℕ) → n ≡ 0 → (nat_lt 0 n && nat_le size b) ≡ false
    by_lines n b size e = grind (arith, common_steps)

    by_bytes : (n b size len : ℕ) → len ≡ b → len < size → (nat_lt 0 n && nat_le size b) ≡ false
    by_bytes n b size len e lt = grind (arith, common_steps)

pub take_front : {A : Type 0} (xs more : List A) → take (length xs) (xs ++ more) ≡ xs
take_front [] more = take_none more
  where
    take_none : {A : Type 0} (xs : List A) → take 0 xs ≡ []
    take_none xs = refl
take_front (x ∷ xs) more = ap (λ l. x ∷ l) (take_front xs more)

take-nothing : (k : ℕ) → take {A = ℕ} k [] ≡ []
take-nothing zero = refl
take-nothing (suc k) = refl

-- a first part of what comes next
pub take_into : (xs ys more : List ℕ) (k : ℕ) → (j : ℕ) × (take j (xs ++ (ys ++ more)) ≡ xs ++ take k ys)
take_into [] ys more k = within_first ys more k
  where
    within_first : (ys more : List ℕ) (k : ℕ) → (j : ℕ) × (take j (ys ++ more) ≡ take k ys)
    within_first [] more k = (0, sym (take-nothing k))
    within_first (y ∷ ys) more zero = (0, refl)
    within_first (y ∷ ys) more (suc k) = let rest = within_first ys more k in (suc rest.0, ap (λ l. y ∷ l) rest.1)
take_into (x ∷ xs) ys more k = let rest = take_into xs ys more k in (suc rest.0, ap (λ l. x ∷ l) rest.1)
