-- What the packing of entries comes to: how full the pages are, and how many there are.
use Rattle.std.proofs.Common.{◌≡◌, ◌≢◌, ◌+◌, ◌*◌, ◌/◌, ◌<◌, ◌≤◌, List, [], ◌∷◌, ◌++◌, length, refl, sym, ap, subst, arith}
use Rattle.page_format.specs.Pages.{Entry}
use Rattle.page_format.specs.Packing.{AreClosed, AreFilled, HasNoRoom, IsFilled, IsPacking, OnlyLastIsSmall, entries_on, used_by}
use Rattle.page_format.specs.Written.{AreStorable}
use Rattle.page_format.proofs.Filling.{used_by-append}

storable_second : (es fs : List Entry) → AreStorable (es ++ fs) → AreStorable fs
storable_second [] fs are = are
storable_second (e ∷ es) fs are = storable_second es fs are.1

-- a page that has no room for an entry that may come has more than little in use
no_room : (page es : List Entry) → es ≢ [] → AreStorable es → HasNoRoom page es → 8328 < used_by page
no_room page [] some are full = absurd (some refl)
no_room page (e ∷ es) some are full = omega (arith, are.0.most, full)

page_first : (page : List Entry) (pages : List (List Entry)) → IsFilled page → entries_on (page ∷ pages) ≢ []
page_first [] pages is none = is.some refl
page_first (e ∷ es) pages is none = cc

-- only the last page may have little in use
pub rest_large : (page : List Entry) (pages : List (List Entry)) → AreStorable (entries_on (page ∷ pages)) → AreFilled (page ∷ pages) → AreClosed (page ∷ pages) → pages ≢ [] → 8328 < used_by page
rest_large page [] are filled closed some = absurd (some refl)
rest_large page (next ∷ pages) are filled closed some = no_room page (entries_on (next ∷ pages)) (page_first next pages filled.1.0) (storable_second page (entries_on (next ∷ pages)) are) closed.0

large_but_last : (pages : List (List Entry)) → AreStorable (entries_on pages) → AreFilled pages → AreClosed pages → OnlyLastIsSmall pages
large_but_last [] are filled closed = tt
large_but_last (page ∷ []) are filled closed = tt
large_but_last (page ∷ next ∷ pages) are filled closed = (
  rest_large page (next ∷ pages) are filled closed (λ no. cc),
  large_but_last (next ∷ pages) (storable_second page (entries_on (next ∷ pages)) are) filled.1 closed.1,
)

-- so pages are few
pub few_pages : (pages : List (List Entry)) → OnlyLastIsSmall pages → length pages * 8329 ≤ used_by (entries_on pages) + 8329
few_pages [] are = omega arith
few_pages (page ∷ []) are = omega arith
few_pages (page ∷ next ∷ pages) are =
    let h = few_pages (next ∷ pages) are.1 in
    let l = are.0 in
    let u = used_by-append page (entries_on (next ∷ pages)) in
    omega arith

pub only_last : (es : List Entry) (pages : List (List Entry)) → IsPacking es pages → AreStorable es → OnlyLastIsSmall pages
only_last es pages is are = large_but_last pages (subst AreStorable (sym is.all) are) is.filled is.closed

pub at_most : (es : List Entry) (pages : List (List Entry)) → IsPacking es pages → AreStorable es → length pages ≤ used_by es / 8328 + 1
at_most es pages is are =
    let h = few_pages pages (only_last es pages is are) in
    let u : used_by (entries_on pages) ≡ used_by es = ap used_by is.all in
    omega arith
