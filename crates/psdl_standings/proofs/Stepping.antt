-- One declaration behind those that were walked.
use Rattle.std.proofs.Common.{◌≡◌, Vec, Global, ℕ, zero, suc, ◌+◌, ◌-◌, ◌<◌, List, [], ◌∷◌, ◌++◌, length, get_or, map, take, Option, None, refl, sym, ap, ◌∙◌, arith, length-append, append_assoc, false, ⊎_elim}
use mathlib.Core.Path.{fun_ext}
use Rattle.std.specs.List.{list_all, flat_map}
use Rattle.std.specs.Option.{option_map}
use Rattle.std.proofs.lemmas.Bool.{cases_lt}
use Rattle.std.proofs.lemmas.List.{append-nil, map-append, length-take, take_more, get_or_append_left, get_or_push}
use Rattle.psdl_tree.specs.Trees.{Name, StateType}
use Rattle.type_layout.specs.declared.home.HomeNo.{HomeNo}
use Rattle.type_layout.specs.Types.{PlainType}
use Rattle.psdl_directory.specs.declared.fault.CheckFault.{CheckFault}
use Rattle.psdl_directory.specs.Declarations.{Path, What, IsModule, IsConstant, IsAlias, IsStruct, IsEnumeration, IsEnumerator, IsAbstractType, IsConcreteType, IsAbstractHome, IsConcreteHome, IsCatalog, Declaration}
use Rattle.psdl_directory.specs.Fault.{each, each_from}
use Rattle.psdl_directory.specs.Lookup.{at, defined, nothing}
use Rattle.psdl_directory.specs.Noting.{noting}
use Rattle.psdl_directory.proofs.Noting.{noting-append}
use Rattle.psdl_standings.specs.declared.body_faults.BodyFaults.{BodyFaults}
use Rattle.psdl_standings.specs.declared.state_entry.StateEntry.{StateEntry}
use Rattle.psdl_standings.specs.declared.numbered_standing.NumberedStanding.{NumberedStanding}
use Rattle.psdl_standings.specs.declared.walk.Walk.{Walk}
use Rattle.psdl_standings.specs.Naming.{of_use, of_names, of_strings}
use Rattle.psdl_standings.specs.Ranges.{of_values}
use Rattle.psdl_standings.specs.Selves.{of_selves}
use Rattle.psdl_standings.specs.Standings.{Standing, Nothing, standing, sight, spec_by, standing_of, standings_after, standings}
use Rattle.psdl_standings.specs.StateTypes.{state_type_by}
use Rattle.psdl_standings.specs.States.{state_types, body_type, type_kept, is_kept_below, AreStates, AreKeptBelow}
use Rattle.psdl_standings.specs.Turns.{alias_type}
use Rattle.psdl_standings.specs.inner.Declared.{type_uses, type_bounds, own_of, own_uses, own_bounds, own_strings, own_values, own_noted, declared_noted, within, IsTold, AreStatesThere, IsLast, IsWalked}
use Rattle.psdl_standings.specs.inner.Entries.{type_there}
use Rattle.psdl_standings.specs.Uses.{is_number}
use Rattle.psdl_standings.specs.inner.Sights.{of_own}
use Rattle.psdl_standings.specs.inner.Tellings.{stand}
use Rattle.psdl_standings.specs.inner.TypeNodes.{Extends}
use Rattle.psdl_standings.specs.inner.TypeTables.{entry_type}
use Rattle.psdl_standings.specs.inner.Walked.{text_in, done_in, noted_in, Goes, Adds}
use Rattle.psdl_standings.specs.inner.Walks.{walked}
use Rattle.psdl_standings.proofs.Earlier.{as_many_before, one_behind, standing_is, standing_stays, none_yet}
use Rattle.psdl_standings.proofs.Goings.{done_same, goes_on, walked_on}
use Rattle.psdl_standings.proofs.Arrayed.{type_more, there_more}
use Rattle.psdl_standings.proofs.Below.{sight_more}
use Rattle.psdl_standings.proofs.Stated.{all_kept_on, all_below_on}
use Rattle.psdl_standings.proofs.Selfly.{selves_linked}
use Rattle.psdl_standings.proofs.Wholly.{IsNoConstant, no_number, sight_less, constant_same, others_same}

-- ---- the type of a typedef, and then the rest

-- what is noted of a declaration by what was noted in front
abbrev own_by : List Declaration → List Standing → BodyFaults → ℕ → Path → What → BodyFaults
own_by all done f n path what = record {
  names = noting f.names (flat_map (of_use all done path) (own_uses n what));
  strings = noting f.strings (own_strings all done n path what);
  values = noting f.values (own_values all done n path what);
  selves = noting f.selves (flat_map (of_own all (own_of all n what) path) (own_uses n what));
}

both_parts : (all : List Declaration) (done : List Standing) (f : BodyFaults) (n : ℕ) (path : Path) (what : What) → own_by all done (walked all done path None f (type_uses n what) (type_bounds n what)) n path what ≡ declared_noted all done f n path what
both_parts all done f n path (IsAlias zero spec dimensions) =
    walked_on all done path None f (type_uses n (IsAlias zero spec dimensions)) (own_uses n (IsAlias zero spec dimensions)) (type_bounds n (IsAlias zero spec dimensions)) (own_bounds n (IsAlias zero spec dimensions))
both_parts all done f n path (IsAlias (suc before) spec dimensions) = refl
both_parts all done f n path IsModule = refl
both_parts all done f n path (IsConstant c) = refl
both_parts all done f n path (IsStruct s) = refl
both_parts all done f n path (IsEnumeration e) = refl
both_parts all done f n path IsEnumerator = refl
both_parts all done f n path (IsAbstractType body) = refl
both_parts all done f n path (IsConcreteType body) = refl
both_parts all done f n path (IsAbstractHome body) = refl
both_parts all done f n path (IsConcreteHome home) = refl
both_parts all done f n path (IsCatalog provisions) = refl

own_at : (all others : List Declaration) (done told : List Standing) (f g : BodyFaults) (n : ℕ) (what : What) → all ≡ others → done ≡ told → f ≡ g → own_by all done f n (at all n).path what ≡ own_by others told g n (at others n).path what
own_at all others done told f g n what p q r = rw (p, q, r) refl

pub parts_noted : (w x y : Walk) (n : ℕ) (what : What) → Goes w x → x.faults ≡ noted_in w (record { limit = n; number = n; own = None }) (type_uses n what) (type_bounds n what) → y.faults ≡ own_noted x n what
    → y.faults ≡ declared_noted (text_in w) (done_in w) w.faults n (at (text_in w) n).path what
parts_noted w x y n what g p q =
    q
    ∙ own_at (text_in x) (text_in w) (done_in x) (done_in w) x.faults (noted_in w (record { limit = n; number = n; own = None }) (type_uses n what) (type_bounds n what)) n what g.text (done_same w x g) p
    ∙ both_parts (text_in w) (done_in w) w.faults n (at (text_in w) n).path what

-- ---- by all declarations

split : (all : List Declaration) (n : ℕ) (path : Path) (f : BodyFaults) (what : What) → n < length all → (at all n).what ≡ what
    → declared_noted all (standings_after all [] (take n all)) f n path what ≡ declared_noted all (standings all) f n path what
split all n path f what lt is = by what is
  where
    done : List Standing
    done = standings_after all [] (take n all)

    numberless : (what : What) → (at all n).what ≡ what → IsNoConstant what → is_number (standing (standings all) n) ≡ false
    numberless what is h = ap is_number (standing_is all n lt ∙ ap (λ (x : What). standing_of all done n (at all n).path x) is) ∙ no_number all done n (at all n).path what h

    other : (what : What) → (at all n).what ≡ what → IsNoConstant what → declared_noted all done f n path what ≡ declared_noted all (standings all) f n path what
    other what is h = sym (others_same all done (standings all) n (standing_stays all n lt) (numberless what is h) (none_yet all n lt) path f what h)

    by : (what : What) → (at all n).what ≡ what → declared_noted all done f n path what ≡ declared_noted all (standings all) f n path what
    by (IsConstant c) is = sym (constant_same all done (standings all) n (standing_stays all n lt) path f c)
    by IsModule is = other IsModule is tt
    by (IsAlias before spec dimensions) is = other (IsAlias before spec dimensions) is tt
    by (IsStruct s) is = other (IsStruct s) is tt
    by (IsEnumeration e) is = other (IsEnumeration e) is tt
    by IsEnumerator is = other IsEnumerator is tt
    by (IsAbstractType body) is = other (IsAbstractType body) is tt
    by (IsConcreteType body) is = other (IsConcreteType body) is tt
    by (IsAbstractHome body) is = other (IsAbstractHome body) is tt
    by (IsConcreteHome home) is = other (IsConcreteHome home) is tt
    by (IsCatalog provisions) is = other (IsCatalog provisions) is tt

each_append : (f : ℕ → Declaration → List CheckFault) (k : ℕ) (ds : List Declaration) (d : Declaration) → each_from f k (ds ++ d ∷ []) ≡ each_from f k ds ++ f (k + length ds) d
each_append f k [] d = let same : k ≡ k + 0 = omega arith in append-nil (f k d) ∙ ap (λ (j : ℕ). f j d) same
each_append f k (x ∷ xs) d =
    let same : (k + 1) + length xs ≡ k + suc (length xs) = omega arith in
    ap (λ (l : List CheckFault). f k x ++ l) (each_append f (k + 1) xs d ∙ ap (λ (j : ℕ). each_from f (k + 1) xs ++ f j d) same)
    ∙ sym (append_assoc (f k x) (each_from f (k + 1) xs) (f (k + suc (length xs)) d))

each_more : (f : ℕ → Declaration → List CheckFault) (all : List Declaration) (n : ℕ) → n < length all → each f (take (n + 1) all) ≡ each f (take n all) ++ f n (at all n)
each_more f all n lt =
    let many : length (take n all) ≡ n = simp length-take (omega (arith, lt)) in
    let plain : 0 + length (take n all) ≡ n = omega (arith, many) in
    ap (λ (ds : List Declaration). each f ds) (take_more all n nothing lt) ∙ each_append f 0 (take n all) (at all n) ∙ ap (λ (k : ℕ). each f (take n all) ++ f k (at all n)) plain

noted_more : (f : ℕ → Declaration → List CheckFault) (all : List Declaration) (n : ℕ) (old : Option CheckFault) → n < length all → old ≡ noting None (each f (take n all)) → noting old (f n (at all n)) ≡ noting None (each f (take (n + 1) all))
noted_more f all n old lt is =
    ap (λ (o : Option CheckFault). noting o (f n (at all n))) is ∙ sym (noting-append None (each f (take n all)) (f n (at all n))) ∙ ap (λ (l : List CheckFault). noting None l) (sym (each_more f all n lt))

-- what is noted of the first so many
pub record AreNoted (all : List Declaration) (f : BodyFaults) (count : ℕ) : Type 0 where
  pub names : f.names ≡ noting None (each (of_names all (standings all)) (take count all))
  pub strings : f.strings ≡ noting None (each (of_strings all (standings all)) (take count all))
  pub values : f.values ≡ noting None (each (of_values all (standings all)) (take count all))
  pub selves : f.selves ≡ noting None (each (of_selves all) (take count all))

pub all_noted : (all : List Declaration) (n : ℕ) (f g : BodyFaults) → n < length all → AreNoted all f n → g ≡ declared_noted all (standings_after all [] (take n all)) f n (at all n).path (at all n).what → AreNoted all g (n + 1)
all_noted all n f g lt x is =
    let d = at all n in
    let whole : g ≡ declared_noted all (standings all) f n d.path d.what = is ∙ split all n d.path f d.what lt refl in
    record {
      names = ap (λ (b : BodyFaults). b.names) whole ∙ noted_more (of_names all (standings all)) all n f.names lt x.names;
      strings = ap (λ (b : BodyFaults). b.strings) whole ∙ noted_more (of_strings all (standings all)) all n f.strings lt x.strings;
      values = ap (λ (b : BodyFaults). b.values) whole ∙ noted_more (of_values all (standings all)) all n f.values lt x.values;
      selves = ap (λ (b : BodyFaults). b.selves) whole ∙ ap (λ (l : List CheckFault). noting f.selves l) (selves_linked all n d.what) ∙ noted_more (of_selves all) all n f.selves lt x.selves;
    }

-- ---- what is told

pub told_more : (y : Walk) (all : List Declaration) (n : ℕ) (told : NumberedStanding) → n < length all → done_in y ≡ standings_after all [] (take n all) → stand y.types told ≡ standing_of all (standings_after all [] (take n all)) n (at all n).path (at all n).what
    → map (stand y.types) (y.told.items ++ told ∷ []) ≡ standings_after all [] (take (n + 1) all)
told_more y all n told lt so_far is =
    map-append (stand y.types) y.told.items (told ∷ []) ∙ ap (λ (ss : List Standing). ss ++ stand y.types told ∷ []) so_far ∙ ap (λ (s : Standing). standings_after all [] (take n all) ++ s ∷ []) is ∙ sym (one_behind all n lt)

-- ---- what is kept of states

-- types are added
kept_stays : (old new : List PlainType) (all : List Declaration) (states : List (Vec StateEntry Global)) (k : ℕ) (d : Vec StateEntry Global) → Extends old new → AreKeptBelow (length old) (length all) (get_or states k d).items → AreStates all old k (get_or states k d).items
    → AreKeptBelow (length new) (length all) (get_or states k d).items × AreStates all new k (get_or states k d).items
kept_stays old new all states k d x below are =
    let kept : List StateEntry = (get_or states k d).items in
    (all_below_on old new x (length all) kept below, λ homes. all_kept_on old new x (length all) homes kept below ∙ are homes)

-- the types of a declaration's states by those before it are those by all
own_stays : (all : List Declaration) (n : ℕ) → n < length all → (homes : ℕ → List HomeNo)
    → map (λ (type : StateType). body_type all (standings_after all [] (take n all)) homes n type) (state_types (at all n).what) ≡ map (body_type all (standings all) homes n) (state_types (at all n).what)
own_stays all n lt homes = by (at all n).what refl
  where
    done : List Standing
    done = standings_after all [] (take n all)

    same : standing (standings all) n ≡ Nothing → (j : ℕ) → j < n + 1 → standing (standings all) j ≡ standing done j
    same none j less =
        ⊎_elim (λ before. standing_stays all n lt j before) (λ past. let here : j ≡ n = omega (arith, less, past) in rw here (none ∙ sym (none_yet all n lt))) (cases_lt j n)

    nothing_told : (what : What) → (at all n).what ≡ what → standing_of all done n (at all n).path what ≡ Nothing → standing (standings all) n ≡ Nothing
    nothing_told what is none = standing_is all n lt ∙ ap (λ (x : What). standing_of all done n (at all n).path x) is ∙ none

    by_none : standing (standings all) n ≡ Nothing → (ts : List StateType) → map (λ (type : StateType). body_type all done homes n type) ts ≡ map (body_type all (standings all) homes n) ts
    by_none none ts =
        let names : sight all done (n + 1) (at all n).path ≡ sight all (standings all) (n + 1) (at all n).path = sym (sight_less all done (standings all) (n + 1) (same none) (at all n).path (n + 1) (omega arith)) in
        ap (λ (f : Name → Standing). map (λ (type : StateType). state_type_by f (λ name. option_map homes (defined all n name)) type) ts) names

    by : (what : What) → (at all n).what ≡ what → map (λ (type : StateType). body_type all done homes n type) (state_types what) ≡ map (body_type all (standings all) homes n) (state_types what)
    by (IsAbstractType body) is = by_none (nothing_told (IsAbstractType body) is refl) (state_types (IsAbstractType body))
    by (IsConcreteType body) is = by_none (nothing_told (IsConcreteType body) is refl) (state_types (IsConcreteType body))
    by IsModule is = refl
    by (IsConstant c) is = refl
    by (IsAlias before spec dimensions) is = refl
    by (IsStruct s) is = refl
    by (IsEnumeration e) is = refl
    by IsEnumerator is = refl
    by (IsAbstractHome body) is = refl
    by (IsConcreteHome home) is = refl
    by (IsCatalog provisions) is = refl

there_at : (w : Walk) (all : List Declaration) (n : ℕ) (homes : ℕ → List HomeNo) (ts : List StateType) → text_in w ≡ all → done_in w ≡ standings_after all [] (take n all)
    → map (type_there w (within n None) homes) ts ≡ map (λ (type : StateType). body_type all (standings_after all [] (take n all)) homes n type) ts
there_at w all n homes ts p q = same (text_in w) all (done_in w) (standings_after all [] (take n all)) p q
  where
    same : (text others : List Declaration) (done told : List Standing) → text ≡ others → done ≡ told → map (λ (type : StateType). body_type text done homes n type) ts ≡ map (λ (type : StateType). body_type others told homes n type) ts
    same text others done told p q = rw (p, q) refl

-- ---- the type of a typedef stays

alias_on : (all : List Declaration) (n : ℕ) → n < length all
    → alias_type all (standings_after all [] (take (n + 1) all)) n (at all n).path (at all n).what ≡ alias_type all (standings_after all [] (take n all)) n (at all n).path (at all n).what
alias_on all n lt = ap (λ (ss : List Standing). alias_type all ss n (at all n).path (at all n).what) (one_behind all n lt) ∙ by (at all n).what
  where
    done : List Standing
    done = standings_after all [] (take n all)

    one : Standing
    one = standing_of all done n (at all n).path (at all n).what

    by : (what : What) → alias_type all (done ++ one ∷ []) n (at all n).path what ≡ alias_type all done n (at all n).path what
    by (IsAlias before spec dimensions) =
        ap (λ (f : Name → Standing). spec_by f spec) (fun_ext (sight_more all done (one ∷ []) (n - before) (at all n).path (omega (arith, as_many_before all n lt))))
    by IsModule = refl
    by (IsConstant c) = refl
    by (IsStruct s) = refl
    by (IsEnumeration e) = refl
    by IsEnumerator = refl
    by (IsAbstractType body) = refl
    by (IsConcreteType body) = refl
    by (IsAbstractHome body) = refl
    by (IsConcreteHome home) = refl
    by (IsCatalog provisions) = refl

-- ---- the whole step

pub record HasStepped (w x y z : Walk) (n : ℕ) (last item : Option ℕ) (told : NumberedStanding) (states more : List (Vec StateEntry Global)) (kept : Vec StateEntry Global) : Type 0 where
  pub within_text : n < length (text_in w)
  pub before : IsWalked w states n
  pub typed : Adds w x (record { limit = n; number = n; own = None }) (type_uses n (at (text_in w) n).what) (type_bounds n (at (text_in w) n).what) (alias_type (text_in w) (done_in w) n (at (text_in w) n).path (at (text_in w) n).what) item
  pub is_told : IsTold x y n (at (text_in w) n).what told
  pub has_states : AreStatesThere x y n (at (text_in w) n).what kept.items
  pub text : text_in z ≡ text_in y
  pub types : z.types ≡ y.types
  pub faults : z.faults ≡ y.faults
  pub pushed : z.told.items ≡ y.told.items ++ told ∷ []
  pub stored : more ≡ states ++ kept ∷ []

module _ (w x y z : Walk) (n : ℕ) (last item : Option ℕ) (told : NumberedStanding) (states more : List (Vec StateEntry Global)) (kept : Vec StateEntry Global) (s : HasStepped w x y z n last item told states more kept) where
  abbrev all : List Declaration
  all = text_in w

  gone : Goes w y
  gone = goes_on w x y s.typed.goes s.is_told.goes

  text_there : text_in z ≡ all
  text_there = s.text ∙ gone.text

  done_here : done_in y ≡ standings_after all [] (take n all)
  done_here = done_same w y gone ∙ s.before.told

  told_here : stand y.types told ≡ standing_of all (standings_after all [] (take n all)) n (at all n).path (at all n).what
  told_here = s.is_told.is ∙ standing_at (text_in x) all (done_in x) (standings_after all [] (take n all)) s.typed.goes.text (done_same w x s.typed.goes ∙ s.before.told)
    where
      standing_at : (text others : List Declaration) (done so_far : List Standing) → text ≡ others → done ≡ so_far → standing_of text done n (at text n).path (at all n).what ≡ standing_of others so_far n (at others n).path (at all n).what
      standing_at text others done so_far p q = rw (p, q) refl

  done_there : done_in z ≡ standings_after all [] (take (n + 1) all)
  done_there =
      ap (λ (types : List PlainType). map (stand types) z.told.items) s.types ∙ ap (λ (ts : List NumberedStanding). map (stand y.types) ts) s.pushed ∙ told_more y all n told s.within_text done_here told_here

  noted_there : AreNoted all z.faults (n + 1)
  noted_there =
      all_noted all n w.faults z.faults s.within_text (record { names = s.before.names; strings = s.before.strings; values = s.before.values; selves = s.before.selves })
      (s.faults ∙ parts_noted w x y n (at all n).what s.typed.goes s.typed.noted s.is_told.noted ∙ ap (λ (done : List Standing). declared_noted all done w.faults n (at all n).path (at all n).what) s.before.told)

  extended : Extends w.types z.types
  extended = rw s.types gone.types

  kept_in : (k : ℕ) (d : Vec StateEntry Global) → k < n + 1 → AreKeptBelow (length z.types) (length all) (get_or more k d).items × AreStates all z.types k (get_or more k d).items
  kept_in k d lt =
      ⊎_elim
      (λ before.
      let there : k < length states = omega (arith, before, s.before.kept.0) in
      let old = s.before.kept.1 k d before in
      let moved = kept_stays w.types z.types all states k d extended old.0 old.1 in
      let same : get_or more k d ≡ get_or states k d = ap (λ (l : List (Vec StateEntry Global)). get_or l k d) s.stored ∙ get_or_append_left states (kept ∷ []) d k there in
      rw same moved)
      (λ past.
      let here : k ≡ n = omega (arith, lt, past) in
      let same : get_or more k d ≡ kept = ap (λ (l : List (Vec StateEntry Global)). get_or l k d) s.stored ∙ get_or_push states kept d k (s.before.kept.0 ∙ sym here) in
      rw (same, here) newest)
      (cases_lt k n)
    where
      newest : AreKeptBelow (length z.types) (length all) kept.items × AreStates all z.types n kept.items
      newest = (
        ap (λ (types : List PlainType). list_all (is_kept_below (length types) (length all)) kept.items) s.types
            ∙ ap (λ (text : List Declaration). list_all (is_kept_below (length y.types) (length text)) kept.items) (sym gone.text)
            ∙ s.has_states.below,
        λ homes.
            ap (λ (types : List PlainType). map (type_kept types homes) kept.items) s.types
            ∙ s.has_states.are homes
            ∙ there_at x all n homes (state_types (at all n).what) s.typed.goes.text (done_same w x s.typed.goes ∙ s.before.told)
            ∙ own_stays all n s.within_text homes,
      )

  pub walked_one : IsWalked z more (n + 1)
  walked_one = moved (text_in z) text_there
    where
      moved : (text : List Declaration) → text ≡ all → IsWalked z more (n + 1)
      moved text e =
          record {
            kept = (
              ap (λ (l : List (Vec StateEntry Global)). length l) s.stored ∙ length-append states (kept ∷ []) ∙ omega (arith, s.before.kept.0),
              λ k d lt. rw text_there (kept_in k d lt),
            );
            told = rw text_there done_there;
            names = rw text_there noted_there.names;
            strings = rw text_there noted_there.strings;
            values = rw text_there noted_there.values;
            selves = rw text_there noted_there.selves;
          }

  pub last_one : IsLast z (n + 1) item
  last_one =
      record {
        there = rw s.types (there_more x.types y.types item s.is_told.goes.types s.typed.there);
        is = λ k e.
            let here : k ≡ n = omega (arith, e) in
            rw here
            (ap (λ (types : List PlainType). entry_type types item) s.types
            ∙ type_more x.types y.types item s.is_told.goes.types s.typed.there
            ∙ s.typed.is
            ∙ ap (λ (done : List Standing). alias_type all done n (at all n).path (at all n).what) s.before.told
            ∙ sym (alias_on all n s.within_text)
            ∙ sym (alias_at (text_in z) all (done_in z) (standings_after all [] (take (n + 1) all)) text_there done_there));
      }
    where
      alias_at : (text others : List Declaration) (done so_far : List Standing) → text ≡ others → done ≡ so_far → alias_type text done n (at text n).path (at text n).what ≡ alias_type others so_far n (at others n).path (at others n).what
      alias_at text others done so_far p q = rw (p, q) refl
