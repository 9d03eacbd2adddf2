-- A walk that goes on.
use Rattle.std.proofs.Common.{◌≡◌, ℕ, ◌+◌, ◌<◌, List, [], ◌∷◌, ◌++◌, length, get_or, take, map, Bool, true, false, ◌&&◌, Option, Some, None, refl, sym, ap, ◌∙◌, arith, length-append, add-one}
use Rattle.std.specs.Prelude.{is_none, is_some, not, OnOk, OnErr, Result, Ok, Err}
use Rattle.std.specs.List.{list_all, flat_map}
use Rattle.std.proofs.lemmas.Bool.{ltb-true, lt-ltb}
use Rattle.std.proofs.lemmas.Grind.{flat_map-append}
use Rattle.std.proofs.lemmas.List.{get_or_append_left}
use Rattle.std.proofs.Math.Seq.{take-suc}
use Rattle.psdl_tree.specs.Trees.{Name}
use Rattle.type_layout.specs.Schemas.{given}
use Rattle.type_layout.specs.Types.{PlainType, Char}
use Rattle.psdl_directory.specs.declared.fault.CheckFault.{CheckFault}
use Rattle.psdl_directory.specs.declared.fault.CheckKind.{CheckKind}
use Rattle.psdl_directory.specs.declared.fault.CheckKind.TheVariants.{Unknown, WrongCase, WrongKind}
use Rattle.psdl_directory.specs.declared.uses.Use.{Use as UseNode}
use Rattle.psdl_directory.specs.Declarations.{Path, Declaration}
use Rattle.psdl_directory.specs.Fault.{fault, fault_if}
use Rattle.psdl_directory.specs.Headers.{used}
use Rattle.psdl_directory.specs.Lookup.{as_is, lower, at, meaning, place_of}
use Rattle.psdl_directory.proofs.Noting.{noting-append}
use Rattle.psdl_standings.specs.declared.body_faults.BodyFaults.{BodyFaults}
use Rattle.psdl_standings.specs.declared.need.Need.{Need}
use Rattle.psdl_standings.specs.declared.spot.Spot.{Spot}
use Rattle.psdl_standings.specs.declared.numbered_standing.NumberedStanding.{NumberedStanding}
use Rattle.psdl_standings.specs.declared.numbered_standing.NumberedStanding.TheVariants as tellings
use Rattle.psdl_standings.specs.declared.walk.Walk.{Walk}
use Rattle.psdl_standings.specs.Naming.{of_use, of_texts}
use Rattle.psdl_standings.specs.Ranges.{of_bound}
use Rattle.psdl_standings.specs.Standings.{Standing, StandsForType, StandsForNumber, standing, sight}
use Rattle.psdl_standings.specs.Uses.{Use, Bound, use_of, meets}
use Rattle.psdl_standings.specs.inner.Sights.{unknown_by, of_own}
use Rattle.psdl_standings.specs.inner.Tellings.{stand, is_there, AreThere}
use Rattle.psdl_standings.specs.inner.TypeNodes.{type_at, Extends}
use Rattle.psdl_standings.specs.inner.Walks.{walked}
use Rattle.psdl_standings.specs.inner.Walked.{text_in, done_in, path_in, names_in, noted_in, with_names, use_faults, Goes, AddsType, Adds}
use Rattle.psdl_standings.proofs.Operands.{append_none}

both_true : (a b : Bool) → a && b ≡ true → (a ≡ true) × (b ≡ true)
both_true true true e = (refl, refl)
both_true true false e = cc
both_true false b e = cc

-- ---- types that are added

stands_on : (old new : List PlainType) → Extends old new → (t : NumberedStanding) → is_there (length old) t ≡ true → stand new t ≡ stand old t
stands_on old new x tellings.Nothing e = refl
stands_on old new x (tellings.OfType type) e = ap (λ (t : PlainType). StandsForType t) (x type.index (ltb-true type.index (length old) e)).1
stands_on old new x (tellings.OfNumber type value) e = ap (λ (t : PlainType). StandsForNumber t value) (x type.index (ltb-true type.index (length old) e)).1

stand_on : (old new : List PlainType) → Extends old new → (told : List NumberedStanding) → list_all (is_there (length old)) told ≡ true → map (stand new) told ≡ map (stand old) told
stand_on old new x [] e = refl
stand_on old new x (t ∷ ts) e =
    let both = both_true (is_there (length old) t) (list_all (is_there (length old)) ts) e in
    rw (stands_on old new x t both.0, stand_on old new x ts both.1) refl

pub done_same : (a b : Walk) → Goes a b → done_in b ≡ done_in a
done_same a b g = ap (λ (ts : List NumberedStanding). map (stand b.types) ts) g.told ∙ stand_on a.types b.types g.types a.told.items a.there

pub extends_trans : (a b c : List PlainType) → Extends a b → Extends b c → Extends a c
extends_trans a b c x y n lt =
    let there : n < length b = (x n lt).0 in
    ((y n there).0, (y n there).1 ∙ (x n lt).1)

pub goes_on : (a b c : Walk) → Goes a b → Goes b c → Goes a c
goes_on a b c x y = record { text = y.text ∙ x.text; told = y.told ∙ x.told; types = extends_trans a.types b.types c.types x.types y.types }

pub goes_nowhere : (a : Walk) → Goes a a
goes_nowhere a = record { text = refl; told = refl; types = λ n lt. (lt, refl) }

-- ---- what is noted

pub walked_on : (all : List Declaration) (done : List Standing) (path : Path) (own : Option ℕ) (f : BodyFaults) (us vs : List Use) (bs cs : List Bound) → walked all done path own (walked all done path own f us bs) vs cs ≡ walked all done path own f (us ++ vs) (bs ++ cs)
walked_on all done path own f us vs bs cs =
    rw (
      flat_map-append (of_use all done path) us vs,
      noting-append f.names (flat_map (of_use all done path) us) (flat_map (of_use all done path) vs),
      flat_map-append (λ (b : Bound). of_texts b.value) bs cs,
      noting-append f.strings (flat_map (λ (b : Bound). of_texts b.value) bs) (flat_map (λ (b : Bound). of_texts b.value) cs),
      flat_map-append (of_bound all done path) bs cs,
      noting-append f.values (flat_map (of_bound all done path) bs) (flat_map (of_bound all done path) cs),
      flat_map-append (of_own all own path) us vs,
      noting-append f.selves (flat_map (of_own all own path) us) (flat_map (of_own all own path) vs),
    ) refl

walked_at : (all others : List Declaration) (done told : List Standing) (spot : Spot) (f g : BodyFaults) (us : List Use) (bs : List Bound) → all ≡ others → done ≡ told → f ≡ g
    → walked all done (at all spot.number).path spot.own f us bs ≡ walked others told (at others spot.number).path spot.own g us bs
walked_at all others done told spot f g us bs p q r = rw (p, q, r) refl

pub noted_on : (a b : Walk) (spot : Spot) (us vs : List Use) (bs cs : List Bound) (f : BodyFaults) → Goes a b → b.faults ≡ noted_in a spot us bs → f ≡ noted_in b spot vs cs → f ≡ noted_in a spot (us ++ vs) (bs ++ cs)
noted_on a b spot us vs bs cs f g e h =
    h
    ∙ walked_at (text_in b) (text_in a) (done_in b) (done_in a) spot b.faults (noted_in a spot us bs) vs cs g.text (done_same a b g) e
    ∙ walked_on (text_in a) (done_in a) (path_in a spot) spot.own a.faults us vs bs cs

-- names stand for the same
pub names_same : (a b : Walk) (spot : Spot) → Goes a b → names_in b spot ≡ names_in a spot
names_same a b spot g = same (text_in b) (text_in a) (done_in b) (done_in a) g.text (done_same a b g)
  where
    same : (all others : List Declaration) (done told : List Standing) → all ≡ others → done ≡ told → sight all done spot.limit (at all spot.number).path ≡ sight others told spot.limit (at others spot.number).path
    same all others done told p q = rw (p, q) refl

-- what is told stays in the table
there_on : (old new : List PlainType) → Extends old new → (t : NumberedStanding) → is_there (length old) t ≡ true → is_there (length new) t ≡ true
there_on old new x tellings.Nothing e = refl
there_on old new x (tellings.OfType type) e = lt-ltb type.index (length new) (x type.index (ltb-true type.index (length old) e)).0
there_on old new x (tellings.OfNumber type value) e = lt-ltb type.index (length new) (x type.index (ltb-true type.index (length old) e)).0

pub all_there_on : (old new : List PlainType) → Extends old new → (told : List NumberedStanding) → AreThere (length old) told → AreThere (length new) told
all_there_on old new x [] e = refl
all_there_on old new x (t ∷ ts) e =
    let both = both_true (is_there (length old) t) (list_all (is_there (length old)) ts) e in
    rw (there_on old new x t both.0, all_there_on old new x ts both.1) refl

-- one type behind the others
pub one_more : (old new : List PlainType) (type : PlainType) → new ≡ old ++ type ∷ [] → Extends old new
one_more old new type e n lt =
    let there : n < length new = omega (arith, lt, ap (λ (l : List PlainType). length l) e, length-append old (type ∷ [])) in
    (there, ap (λ (l : List PlainType). type_at l n) e ∙ get_or_append_left old (type ∷ []) Char n lt)

alike_found : (o : Option ℕ) → given o Unknown (λ _. WrongCase) ≡ unknown_by (is_some o)
alike_found None = refl
alike_found (Some n) = refl

pub use_found : (w : Walk) (spot : Spot) (need : Need) (name : Name) → use_faults w need (used (text_in w) spot.limit spot.number name) ≡ of_use (text_in w) (done_in w) (path_in w spot) (use_of spot.limit need name)
use_found w spot need name = by (meaning as_is (text_in w) spot.limit (path_in w spot) name) (meaning lower (text_in w) spot.limit (path_in w spot) name)
  where
    by : (o a : Option ℕ)
        → given o (fault (unknown_by (is_none o && is_some a)) (place_of name) ∷ []) (λ n. fault_if (not (meets need (at (text_in w) n).what (standing (done_in w) n))) WrongKind (place_of name))
        ≡ given o (fault (given a Unknown (λ _. WrongCase)) (place_of name) ∷ []) (λ n. fault_if (not (meets need (at (text_in w) n).what (standing (done_in w) n))) WrongKind (place_of name))
    by None a = ap (λ (k : CheckKind). fault k (place_of name) ∷ []) (sym (alike_found a))
    by (Some n) a = refl

-- ---- results

pub there_after : {E : Type 0} (old new : List PlainType) (type : PlainType) (told : List NumberedStanding) (r : Result ℕ E) → OnOk r (new ≡ old ++ type ∷ []) → OnErr r (new ≡ old) → AreThere (length old) told → AreThere (length new) told
there_after old new type told (Ok n) ok err h = all_there_on old new (one_more old new type ok) told h
there_after old new type told (Err e) ok err h = rw err h

-- a type behind what was walked
pub adds_behind : (a b d : Walk) (spot : Spot) (us : List Use) (bs : List Bound) (type : Option PlainType) (n : Option ℕ) → Goes a b → b.faults ≡ noted_in a spot us bs → AddsType b d type n → Adds a d spot us bs type n
adds_behind a b d spot us bs type n g e h = record { goes = goes_on a b d g h.goes; noted = h.same ∙ e; there = h.there; is = h.is }

-- ---- names that were resolved

use_at : (all others : List Declaration) (done told : List Standing) (need : Need) (u : UseNode) → all ≡ others → done ≡ told
    → given u.meant (fault (unknown_by u.wrong_case) u.place ∷ []) (λ n. fault_if (not (meets need (at all n).what (standing done n))) WrongKind u.place)
    ≡ given u.meant (fault (unknown_by u.wrong_case) u.place ∷ []) (λ n. fault_if (not (meets need (at others n).what (standing told n))) WrongKind u.place)
use_at all others done told need u p q = rw (p, q) refl

pub use_same : (a b : Walk) (need : Need) (u : UseNode) → Goes a b → use_faults b need u ≡ use_faults a need u
use_same a b need u g = use_at (text_in b) (text_in a) (done_in b) (done_in a) need u g.text (done_same a b g)

pub take_one : {A : Type 0} (xs : List A) (i : ℕ) (x : A) → i < length xs → x ≡ get_or xs i x → take (i + 1) xs ≡ take i xs ++ x ∷ []
take_one {A} xs i x lt e = rw add-one (take-suc xs i x lt ∙ ap (λ (z : A). take i xs ++ z ∷ []) (sym e))

pub uses_more : (a b d : Walk) (need : Need) (us : List UseNode) (i : ℕ) (u : UseNode) → i < length us → u ≡ get_or us i u → Goes a b → b.faults ≡ with_names a.faults (flat_map (use_faults a need) (take i us))
    → d.faults ≡ with_names b.faults (use_faults b need u) → d.faults ≡ with_names a.faults (flat_map (use_faults a need) (take (i + 1) us))
uses_more a b d need us i u lt at g x y =
    let front : List CheckFault = flat_map (use_faults a need) (take i us) in
    let more : flat_map (use_faults a need) (take (i + 1) us) ≡ front ++ use_faults a need u =
    ap (λ (l : List UseNode). flat_map (use_faults a need) l) (take_one us i u lt at) ∙ flat_map-append (use_faults a need) (take i us) (u ∷ []) ∙ ap (λ (l : List CheckFault). front ++ l) (append_none (use_faults a need u)) in
    y
    ∙ ap (λ (f : BodyFaults). with_names f (use_faults b need u)) x
    ∙ ap (λ (l : List CheckFault). with_names (with_names a.faults front) l) (use_same a b need u g)
    ∙ ap (λ (o : Option CheckFault). record { names = o; strings = a.faults.strings; values = a.faults.values; selves = a.faults.selves }) (sym (noting-append a.faults.names front (use_faults a need u)))
    ∙ ap (λ (l : List CheckFault). with_names a.faults l) (sym more)
