-- What each declaration stands for by those before it stays as it is as more follow.
use Rattle.std.proofs.Common.{◌≡◌, ℕ, ◌+◌, ◌<◌, ◌≤◌, List, [], ◌∷◌, ◌++◌, length, take, drop, refl, sym, ap, ◌∙◌, arith, length-append}
use Rattle.std.proofs.lemmas.List.{length-take, take_more, take_all, take-append-drop, get_or_append_left, get_or_push}
use Rattle.std.proofs.lemmas.List.{get_or_past}
use Rattle.psdl_directory.specs.Declarations.{Declaration}
use Rattle.psdl_directory.specs.Lookup.{at, nothing}
use Rattle.psdl_standings.specs.Standings.{Standing, Nothing, standing, standing_of, standings_after, standings}

pub as_many : (all : List Declaration) (done : List Standing) (ds : List Declaration) → length (standings_after all done ds) ≡ length done + length ds
as_many all done [] = omega arith
as_many all done (d ∷ ds) = omega (arith, as_many all (done ++ standing_of all done (length done) d.path d.what ∷ []) ds, length-append done (standing_of all done (length done) d.path d.what ∷ []))

after_append : (all : List Declaration) (done : List Standing) (xs ys : List Declaration) → standings_after all done (xs ++ ys) ≡ standings_after all (standings_after all done xs) ys
after_append all done [] ys = refl
after_append all done (x ∷ xs) ys = after_append all (done ++ standing_of all done (length done) x.path x.what ∷ []) xs ys

pub stays : (all : List Declaration) (done : List Standing) (ds : List Declaration) (n : ℕ) → n < length done → standing (standings_after all done ds) n ≡ standing done n
stays all done [] n lt = refl
stays all done (d ∷ ds) n lt =
    let one : Standing = standing_of all done (length done) d.path d.what in
    stays all (done ++ one ∷ []) ds n (omega (arith, lt, length-append done (one ∷ []))) ∙ get_or_append_left done (one ∷ []) Nothing n lt

pub as_many_before : (all : List Declaration) (i : ℕ) → i < length all → length (standings_after all [] (take i all)) ≡ i
as_many_before all i lt = as_many all [] (take i all) ∙ simp length-take (omega arith)

-- one more is told
pub one_behind : (all : List Declaration) (i : ℕ) → i < length all
    → standings_after all [] (take (i + 1) all) ≡ standings_after all [] (take i all) ++ standing_of all (standings_after all [] (take i all)) i (at all i).path (at all i).what ∷ []
one_behind all i lt =
    let done : List Standing = standings_after all [] (take i all) in
    let d : Declaration = at all i in
    ap (λ (ds : List Declaration). standings_after all [] ds) (take_more all i nothing lt)
    ∙ after_append all [] (take i all) (d ∷ [])
    ∙ ap (λ (n : ℕ). done ++ standing_of all done n d.path d.what ∷ []) (as_many_before all i lt)

pub standing_is : (all : List Declaration) (i : ℕ) → i < length all → standing (standings all) i ≡ standing_of all (standings_after all [] (take i all)) i (at all i).path (at all i).what
unfolding standings
standing_is all i lt =
    let done : List Standing = standings_after all [] (take i all) in
    let one : Standing = standing_of all done i (at all i).path (at all i).what in
    let number : length done ≡ i = as_many_before all i lt in
    ap (λ (ds : List Declaration). standing (standings_after all [] ds) i) (sym (take-append-drop (i + 1) all))
    ∙ ap (λ (ss : List Standing). standing ss i) (after_append all [] (take (i + 1) all) (drop (i + 1) all) ∙ ap (λ (ss : List Standing). standings_after all ss (drop (i + 1) all)) (one_behind all i lt))
    ∙ stays all (done ++ one ∷ []) (drop (i + 1) all) i (omega (arith, number, length-append done (one ∷ [])))
    ∙ get_or_push done one Nothing i number

-- those in front stay
pub standing_stays : (all : List Declaration) (i : ℕ) → i < length all → (j : ℕ) → j < i → standing (standings all) j ≡ standing (standings_after all [] (take i all)) j
unfolding standings
standing_stays all i lt j less =
    ap (λ (ds : List Declaration). standing (standings_after all [] ds) j) (sym (take-append-drop i all))
    ∙ ap (λ (ss : List Standing). standing ss j) (after_append all [] (take i all) (drop i all))
    ∙ stays all (standings_after all [] (take i all)) (drop i all) j (omega (arith, less, as_many_before all i lt))

pub none_yet : (all : List Declaration) (i : ℕ) → i < length all → standing (standings_after all [] (take i all)) i ≡ Nothing
none_yet all i lt = past (standings_after all [] (take i all)) i (as_many_before all i lt)
  where
    past : (ss : List Standing) (k : ℕ) → length ss ≡ k → standing ss k ≡ Nothing
    past ss k e = get_or_past ss k Nothing (omega (arith, e))

pub all_told : (all : List Declaration) (i : ℕ) → length all ≤ i → standings_after all [] (take i all) ≡ standings all
unfolding standings
all_told all i le = ap (λ (ds : List Declaration). standings_after all [] ds) (take_all i all le)
