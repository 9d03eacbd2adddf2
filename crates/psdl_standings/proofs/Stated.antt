-- The states of a body, one by one.
use Rattle.std.proofs.Common.{◌≡◌, ℕ, ◌+◌, ◌<◌, ◌≤◌, List, [], ◌∷◌, ◌++◌, length, get_or, map, take, Bool, true, false, ◌&&◌, nat_lt, Option, Some, None, refl, sym, ap, ◌∙◌, append_assoc, arith}
use Rattle.std.specs.List.{list_all, flat_map}
use Rattle.std.specs.Option.{option_map, option_and_then}
use Rattle.std.proofs.lemmas.Bool.{lt-ltb, ltb-true}
use Rattle.std.proofs.lemmas.Grind.{flat_map-append}
use Rattle.std.proofs.lemmas.List.{map-append, take_all, append-nil}
use Rattle.std.proofs.lemmas.List.Folds.{list_all-append}
use Rattle.psdl_tree.specs.declared.names.Identifier.{Identifier}
use Rattle.psdl_tree.specs.Trees.{Name, StateType, Reference}
use Rattle.type_layout.specs.Schemas.{given}
use Rattle.type_layout.specs.declared.home.HomeNo.{HomeNo}
use Rattle.type_layout.specs.Types.{PlainType, RefTo}
use Rattle.psdl_directory.specs.Declarations.{Declaration}
use Rattle.psdl_directory.specs.Lookup.{as_is, at, defines, definition, meaning}
use Rattle.psdl_directory.proofs.Within.{found-lower}
use Rattle.psdl_standings.specs.declared.spot.Spot.{Spot}
use Rattle.psdl_standings.specs.declared.state_entry.StateEntry.{StateEntry}
use Rattle.psdl_standings.specs.declared.state_entry.StateEntry.TheVariants as entries
use Rattle.psdl_standings.specs.declared.walk.Walk.{Walk}
use Rattle.psdl_standings.specs.Standings.{Standing}
use Rattle.psdl_standings.specs.States.{type_kept, is_kept_below, AreKeptBelow}
use Rattle.psdl_standings.specs.StateTypes.{state_type_by}
use Rattle.psdl_standings.specs.Uses.{Use, Bound}
use Rattle.psdl_standings.specs.inner.Entries.{type_there, IsEntry, Notes, AddsStates}
use Rattle.psdl_standings.specs.inner.TypeNodes.{Extends}
use Rattle.psdl_standings.specs.inner.Walked.{text_in, names_in, definition_in, noted_in, Goes, Finds}
use Rattle.psdl_standings.proofs.Bodied.{notes_then, list_more}
use Rattle.psdl_standings.proofs.Goings.{goes_nowhere, names_same}

-- ---- types that are added

kept_on : (old new : List PlainType) → Extends old new → (count : ℕ) (homes : ℕ → List HomeNo) (e : StateEntry) → is_kept_below (length old) count e ≡ true → type_kept new homes e ≡ type_kept old homes e
kept_on old new x count homes (entries.Plain None) e = refl
kept_on old new x count homes (entries.Plain (Some n)) e = ap (λ (t : PlainType). Some t) (x n (ltb-true n (length old) e)).1
kept_on old new x count homes (entries.Reference d) e = refl

below_on : (old new : List PlainType) → Extends old new → (count : ℕ) (e : StateEntry) → is_kept_below (length old) count e ≡ true → is_kept_below (length new) count e ≡ true
below_on old new x count (entries.Plain None) e = refl
below_on old new x count (entries.Plain (Some n)) e = lt-ltb n (length new) (x n (ltb-true n (length old) e)).0
below_on old new x count (entries.Reference d) e = e

both_true : (a b : Bool) → a && b ≡ true → (a ≡ true) × (b ≡ true)
both_true true true e = (refl, refl)
both_true true false e = cc
both_true false b e = cc

pub all_kept_on : (old new : List PlainType) → Extends old new → (count : ℕ) (homes : ℕ → List HomeNo) (kept : List StateEntry) → AreKeptBelow (length old) count kept → map (type_kept new homes) kept ≡ map (type_kept old homes) kept
all_kept_on old new x count homes [] e = refl
all_kept_on old new x count homes (k ∷ ks) e =
    let both = both_true (is_kept_below (length old) count k) (list_all (is_kept_below (length old) count) ks) e in
    rw (kept_on old new x count homes k both.0, all_kept_on old new x count homes ks both.1) refl

pub all_below_on : (old new : List PlainType) → Extends old new → (count : ℕ) (kept : List StateEntry) → AreKeptBelow (length old) count kept → AreKeptBelow (length new) count kept
all_below_on old new x count [] e = refl
all_below_on old new x count (k ∷ ks) e =
    let both = both_true (is_kept_below (length old) count k) (list_all (is_kept_below (length old) count) ks) e in
    rw (below_on old new x count k both.0, all_below_on old new x count ks both.1) refl

-- ---- a walk that goes on

pub kept_below_later : (a b : Walk) (kept : List StateEntry) → Goes a b → AreKeptBelow (length a.types) (length (text_in a)) kept → AreKeptBelow (length b.types) (length (text_in b)) kept
kept_below_later a b kept g h =
    let at_b : AreKeptBelow (length b.types) (length (text_in a)) kept = all_below_on a.types b.types g.types (length (text_in a)) kept h in
    ap (λ (all : List Declaration). list_all (is_kept_below (length b.types) (length all)) kept) g.text ∙ at_b

there_same : (a b : Walk) (spot : Spot) (homes : ℕ → List HomeNo) → Goes a b → type_there b spot homes ≡ type_there a spot homes
there_same a b spot homes g = same (text_in b) (text_in a) (names_in b spot) (names_in a spot) g.text (names_same a b spot g)
  where
    same : (all others : List Declaration) (names called : Name → Standing) → all ≡ others → names ≡ called
        → state_type_by names (λ name. option_map homes (option_and_then (definition all) (meaning as_is all spot.limit (at all spot.number).path name)))
        ≡ state_type_by called (λ name. option_map homes (option_and_then (definition others) (meaning as_is others spot.limit (at others spot.number).path name)))
    same all others names called p q = rw (p, q) refl

-- ---- behind one another

pub states_then : (a b d : Walk) (spot : Spot) (us vs : List Use) (bs cs : List Bound) (ts ss : List StateType) (front mid kept : List StateEntry) → AddsStates a b spot us bs ts front mid → AddsStates b d spot vs cs ss mid kept
    → AddsStates a d spot (us ++ vs) (bs ++ cs) (ts ++ ss) front kept
states_then a b d spot us vs bs cs ts ss front mid kept x y =
    record {
      notes = notes_then a b d spot us vs bs cs x.notes y.notes;
      below = y.below;
      are = λ homes.
          y.are homes
          ∙ ap (λ (l : List (Option PlainType)). l ++ map (type_there b spot homes) ss) (x.are homes)
          ∙ ap (λ (f : StateType → Option PlainType). (map (type_kept a.types homes) front ++ map (type_there a spot homes) ts) ++ map f ss) (there_same a b spot homes x.notes.goes)
          ∙ append_assoc (map (type_kept a.types homes) front) (map (type_there a spot homes) ts) (map (type_there a spot homes) ss)
          ∙ ap (λ (l : List (Option PlainType)). map (type_kept a.types homes) front ++ l) (sym (map-append (type_there a spot homes) ts ss));
    }

-- nothing more is kept
pub notes_behind : (a b d : Walk) (spot : Spot) (us vs : List Use) (bs cs : List Bound) (ts : List StateType) (front kept : List StateEntry) → AddsStates a b spot us bs ts front kept → Notes b d spot vs cs
    → AddsStates a d spot (us ++ vs) (bs ++ cs) ts front kept
notes_behind a b d spot us vs bs cs ts front kept x y =
    record {
      notes = notes_then a b d spot us vs bs cs x.notes y;
      below = kept_below_later b d kept y.goes x.below;
      are = λ homes. all_kept_on b.types d.types y.goes.types (length (text_in b)) homes kept x.below ∙ x.are homes;
    }

pub nothing_kept : (a b : Walk) (spot : Spot) (us : List Use) (bs : List Bound) (front : List StateEntry) → AreKeptBelow (length a.types) (length (text_in a)) front → Notes a b spot us bs → AddsStates a b spot us bs [] front front
nothing_kept a b spot us bs front below x =
    record {
      notes = x;
      below = kept_below_later a b front x.goes below;
      are = λ homes. all_kept_on a.types b.types x.goes.types (length (text_in a)) homes front below ∙ sym (append-nil (map (type_kept a.types homes) front));
    }

pub nothing_walked : (a : Walk) (spot : Spot) (front : List StateEntry) → AreKeptBelow (length a.types) (length (text_in a)) front → AddsStates a a spot [] [] [] front front
nothing_walked a spot front below = nothing_kept a a spot [] [] front below (record { goes = goes_nowhere a; noted = refl })

states_at : (a b : Walk) (spot : Spot) (us vs : List Use) (bs cs : List Bound) (ts ss : List StateType) (front kept : List StateEntry) → us ≡ vs → bs ≡ cs → ts ≡ ss → AddsStates a b spot us bs ts front kept → AddsStates a b spot vs cs ss front kept
states_at a b spot us vs bs cs ts ss front kept p q r x =
    record {
      notes = record { goes = x.notes.goes; noted = x.notes.noted ∙ ap (λ (l : List Use). noted_in a spot l bs) p ∙ ap (λ (l : List Bound). noted_in a spot vs l) q };
      below = x.below;
      are = λ homes. x.are homes ∙ ap (λ (l : List StateType). map (type_kept a.types homes) front ++ map (type_there a spot homes) l) r;
    }

-- ---- a state

kept_each : (types : List PlainType) (homes : ℕ → List HomeNo) (e : StateEntry) (ids : List Identifier) (f : StateType → Option PlainType) (type : StateType) → type_kept types homes e ≡ f type → map (type_kept types homes) (map (λ i. e) ids) ≡ map f (map (λ i. type) ids)
kept_each types homes e [] f type h = refl
kept_each types homes e (i ∷ is) f type h = rw (h, kept_each types homes e is f type h) refl

below_each : (types count : ℕ) (e : StateEntry) (ids : List Identifier) → is_kept_below types count e ≡ true → list_all (is_kept_below types count) (map (λ i. e) ids) ≡ true
below_each types count e [] h = refl
below_each types count e (i ∷ is) h = rw (h, below_each types count e is h) refl

pub one_state : (a b : Walk) (spot : Spot) (us : List Use) (bs : List Bound) (type : StateType) (ids : List Identifier) (e : StateEntry) (front kept : List StateEntry) → AreKeptBelow (length a.types) (length (text_in a)) front → Notes a b spot us bs
    → IsEntry a b spot type e → kept ≡ front ++ map (λ i. e) ids → AddsStates a b spot us bs (map (λ i. type) ids) front kept
one_state a b spot us bs type ids e front kept below x y pushed =
    let test : StateEntry → Bool = is_kept_below (length b.types) (length (text_in b)) in
    record {
      notes = x;
      below =
          ap (λ (l : List StateEntry). list_all test l) pushed
          ∙ list_all-append test front (map (λ i. e) ids)
          ∙ rw (kept_below_later a b front x.goes below, below_each (length b.types) (length (text_in b)) e ids y.below) refl;
      are = λ homes.
          ap (λ (l : List StateEntry). map (type_kept b.types homes) l) pushed
          ∙ map-append (type_kept b.types homes) front (map (λ i. e) ids)
          ∙ ap (λ (l : List (Option PlainType)). l ++ map (type_kept b.types homes) (map (λ i. e) ids)) (all_kept_on a.types b.types x.goes.types (length (text_in a)) homes front below)
          ∙ ap (λ (l : List (Option PlainType)). map (type_kept a.types homes) front ++ l) (kept_each b.types homes e ids (type_there a spot homes) type (y.is homes));
    }

-- ---- a reference

definition_less : (all : List Declaration) (k : ℕ) → given (definition all k) true (λ n. nat_lt n (length all)) ≡ true
definition_less all k = by (definition all k) (λ n e. let lt : n < 0 + length all = found-lower (defines (at all k)) 0 all n e in omega (arith, lt))
  where
    by : (o : Option ℕ) → ((n : ℕ) → o ≡ Some n → n < length all) → given o true (λ n. nat_lt n (length all)) ≡ true
    by None h = refl
    by (Some n) h = lt-ltb n (length all) (h n refl)

meant_less : (all : List Declaration) (o : Option ℕ) → given (option_and_then (definition all) o) true (λ n. nat_lt n (length all)) ≡ true
meant_less all None = refl
meant_less all (Some k) = definition_less all k

pub entry_defined : (a b : Walk) (spot : Spot) (us : List Use) (bs : List Bound) (name : Name) (d : Option ℕ) (type : StateType) → type ≡ Reference name → Finds a b spot us bs (definition_in a spot name) d → IsEntry a b spot type (entries.Reference d)
entry_defined a b spot us bs name d type is x =
    record {
      below =
          ap (λ (all : List Declaration). given d true (λ n. nat_lt n (length all))) x.goes.text
          ∙ ap (λ (o : Option ℕ). given o true (λ n. nat_lt n (length (text_in a)))) x.is
          ∙ meant_less (text_in a) (meaning as_is (text_in a) spot.limit (at (text_in a) spot.number).path name);
      is = λ homes. ap (λ (o : Option ℕ). option_map RefTo (option_map homes o)) x.is ∙ ap (type_there a spot homes) (sym is);
    }

-- ---- loops

pub states_begin : {N X : Type 0} (f : X → List Use) (g : X → List Bound) (h : X → List StateType) (view : N → X) (a : Walk) (spot : Spot) (xs : List N) (front : List StateEntry) → AreKeptBelow (length a.types) (length (text_in a)) front
    → AddsStates a a spot (flat_map f (map view (take 0 xs))) (flat_map g (map view (take 0 xs))) (flat_map h (map view (take 0 xs))) front front
states_begin f g h view a spot xs front below = nothing_walked a spot front below

pub states_more : {N X : Type 0} (f : X → List Use) (g : X → List Bound) (h : X → List StateType) (view : N → X) (a b d : Walk) (spot : Spot) (xs : List N) (i : ℕ) (x : N) (front mid kept : List StateEntry) → i < length xs → x ≡ get_or xs i x
    → AddsStates a b spot (flat_map f (map view (take i xs))) (flat_map g (map view (take i xs))) (flat_map h (map view (take i xs))) front mid → AddsStates b d spot (f (view x)) (g (view x)) (h (view x)) mid kept
    → AddsStates a d spot (flat_map f (map view (take (i + 1) xs))) (flat_map g (map view (take (i + 1) xs))) (flat_map h (map view (take (i + 1) xs))) front kept
states_more f g h view a b d spot xs i x front mid kept lt at p q =
    states_at a d spot (flat_map f (map view (take i xs)) ++ f (view x)) (flat_map f (map view (take (i + 1) xs))) (flat_map g (map view (take i xs)) ++ g (view x)) (flat_map g (map view (take (i + 1) xs))) (flat_map h (map view (take i xs)) ++ h (view x))
    (flat_map h (map view (take (i + 1) xs))) front kept (list_more f view xs i x lt at) (list_more g view xs i x lt at) (list_more h view xs i x lt at)
    (states_then a b d spot (flat_map f (map view (take i xs))) (f (view x)) (flat_map g (map view (take i xs))) (g (view x)) (flat_map h (map view (take i xs))) (h (view x)) front mid kept p q)

pub states_end : {N X : Type 0} (f : X → List Use) (g : X → List Bound) (h : X → List StateType) (view : N → X) (a b : Walk) (spot : Spot) (xs : List N) (i : ℕ) (front kept : List StateEntry) → length xs ≤ i
    → AddsStates a b spot (flat_map f (map view (take i xs))) (flat_map g (map view (take i xs))) (flat_map h (map view (take i xs))) front kept → AddsStates a b spot (flat_map f (map view xs)) (flat_map g (map view xs)) (flat_map h (map view xs)) front kept
states_end {N} f g h view a b spot xs i front kept past x =
    states_at a b spot (flat_map f (map view (take i xs))) (flat_map f (map view xs)) (flat_map g (map view (take i xs))) (flat_map g (map view xs)) (flat_map h (map view (take i xs))) (flat_map h (map view xs)) front kept
    (ap (λ (l : List N). flat_map f (map view l)) (take_all i xs past)) (ap (λ (l : List N). flat_map g (map view l)) (take_all i xs past)) (ap (λ (l : List N). flat_map h (map view l)) (take_all i xs past)) x

-- ---- members that are states

flat_flat : {M X Y : Type 0} (f : X → List Y) (g : M → List X) (ms : List M) → flat_map (λ m. flat_map f (g m)) ms ≡ flat_map f (flat_map g ms)
flat_flat f g [] = refl
flat_flat {M} {X} {Y} f g (m ∷ ms) = ap (λ (l : List Y). flat_map f (g m) ++ l) (flat_flat f g ms) ∙ sym (flat_map-append f (g m) (flat_map g ms))

pub states_of : {M X : Type 0} (f : X → List Use) (g : X → List Bound) (h : X → List StateType) (part : M → List X) (a b : Walk) (spot : Spot) (ms : List M) (front kept : List StateEntry)
    → AddsStates a b spot (flat_map (λ m. flat_map f (part m)) ms) (flat_map (λ m. flat_map g (part m)) ms) (flat_map (λ m. flat_map h (part m)) ms) front kept
    → AddsStates a b spot (flat_map f (flat_map part ms)) (flat_map g (flat_map part ms)) (flat_map h (flat_map part ms)) front kept
states_of f g h part a b spot ms front kept x =
    states_at a b spot (flat_map (λ m. flat_map f (part m)) ms) (flat_map f (flat_map part ms)) (flat_map (λ m. flat_map g (part m)) ms) (flat_map g (flat_map part ms)) (flat_map (λ m. flat_map h (part m)) ms) (flat_map h (flat_map part ms)) front kept
    (flat_flat f part ms) (flat_flat g part ms) (flat_flat h part ms) x

-- nothing behind
pub states_alone : (a b : Walk) (spot : Spot) (us : List Use) (bs : List Bound) (ts : List StateType) (front kept : List StateEntry) → AddsStates a b spot us bs ts front kept → AddsStates a b spot (us ++ []) (bs ++ []) ts front kept
states_alone a b spot us bs ts front kept x = states_at a b spot us (us ++ []) bs (bs ++ []) ts ts front kept (sym (append-nil us)) (sym (append-nil bs)) refl x
