-- Declarations one by one in the walk of bodies.
use Rattle.std.specs.Prelude.{◌≡◌, ℕ, zero, ◌+◌, ◌<◌, List, [], ◌++◌, length, map, take, true, Option, None, IfSome}
use Rattle.std.specs.List.{flat_map}
use Rattle.std.specs.Option.{option_to_list}
use Rattle.std.proofs.Common.{Vec, Global, get_or}
use Rattle.type_layout.specs.declared.home.HomeNo.{HomeNo}
use Rattle.psdl_directory.specs.declared.fault.CheckFault.{CheckFault}
use Rattle.psdl_directory.specs.Declarations.{Path, What, IsConstant, IsAlias, IsStruct, Declaration}
use Rattle.psdl_directory.specs.Fault.{each}
use Rattle.psdl_directory.specs.Headers.{Header}
use Rattle.psdl_directory.specs.Lookup.{at, origin}
use Rattle.psdl_directory.specs.Noting.{noting}
use Rattle.psdl_directory.specs.Parts.{bases, implemented, managed, provided, states, operations}
use Rattle.psdl_standings.specs.declared.body_faults.BodyFaults.{BodyFaults}
use Rattle.psdl_standings.specs.declared.need.Need.TheVariants as needs
use Rattle.psdl_standings.specs.declared.spot.Spot.{Spot}
use Rattle.psdl_standings.specs.declared.state_entry.StateEntry.{StateEntry}
use Rattle.psdl_standings.specs.declared.numbered_standing.NumberedStanding.{NumberedStanding}
use Rattle.psdl_standings.specs.declared.walk.Walk.{Walk}
use Rattle.psdl_standings.specs.Naming.{of_use, of_names, of_texts, of_strings_in, of_strings}
use Rattle.psdl_standings.specs.Ranges.{of_bound, of_values_in, of_values}
use Rattle.psdl_standings.specs.Selves.{of_selves}
use Rattle.psdl_standings.specs.Standings.{Standing, standing_of, standings_after, standings}
use Rattle.psdl_standings.specs.States.{state_types, type_kept, AreStates, AreKeptBelow}
use Rattle.psdl_standings.specs.Turns.{alias_type}
use Rattle.psdl_standings.specs.Uses.{Use, Bound, use_of, in_spec, in_expressions, in_state_type, in_operation, uses, base_need, implements_need, spec_bounds, bounds_of, most_elements, state_bounds, operation_bounds, bounds}
use Rattle.psdl_standings.specs.inner.Entries.{type_there}
use Rattle.psdl_standings.specs.inner.Sights.{of_own}
use Rattle.psdl_standings.specs.inner.Tellings.{stand, is_there}
use Rattle.psdl_standings.specs.inner.TypeTables.{entry_type}
use Rattle.psdl_standings.specs.inner.Walked.{text_in, done_in, noted_in, use_faults, Goes}

-- ---- what is noted

-- the type of a typedef is walked with its first declarator
abbrev pub type_uses : ℕ → What → List Use
type_uses n (IsAlias zero spec dimensions) = in_spec n spec
type_uses n _ = []

abbrev pub type_bounds : ℕ → What → List Bound
type_bounds n (IsAlias zero spec dimensions) = spec_bounds n spec
type_bounds n _ = []

-- the first declaration of a struct
abbrev pub own_of : List Declaration → ℕ → What → Option ℕ
own_of all n (IsStruct struct) = origin all n
own_of all n what = None

-- without the type of a typedef
abbrev pub own_uses : ℕ → What → List Use
own_uses n (IsAlias before spec dimensions) = in_expressions (n + 1) dimensions
own_uses n what = uses n what

abbrev pub own_bounds : ℕ → What → List Bound
own_bounds n (IsAlias before spec dimensions) = bounds_of (n + 1) most_elements dimensions
own_bounds n what = bounds n what

-- without the type of a typedef; a constant has no bounds, but a value
abbrev pub own_strings : List Declaration → List Standing → ℕ → Path → What → List CheckFault
own_strings all done n path (IsConstant c) = of_strings_in all done n path (IsConstant c)
own_strings all done n path what = flat_map (λ b. of_texts b.value) (own_bounds n what)

abbrev pub own_values : List Declaration → List Standing → ℕ → Path → What → List CheckFault
own_values all done n path (IsConstant c) = of_values_in all done n path (IsConstant c)
own_values all done n path what = flat_map (of_bound all done path) (own_bounds n what)

abbrev pub own_noted : Walk → ℕ → What → BodyFaults
own_noted w n what = record {
  names = noting w.faults.names (flat_map (of_use (text_in w) (done_in w) (at (text_in w) n).path) (own_uses n what));
  strings = noting w.faults.strings (own_strings (text_in w) (done_in w) n (at (text_in w) n).path what);
  values = noting w.faults.values (own_values (text_in w) (done_in w) n (at (text_in w) n).path what);
  selves = noting w.faults.selves (flat_map (of_own (text_in w) (own_of (text_in w) n what) (at (text_in w) n).path) (own_uses n what));
}

-- the names in a header
abbrev pub header_faults : Walk → What → Header → List CheckFault
header_faults w what h =
    flat_map (use_faults w (base_need what)) h.bases ++ (flat_map (use_faults w (implements_need what)) h.implemented
    ++ (flat_map (use_faults w needs.OfStorageType) (option_to_list h.managed) ++ flat_map (use_faults w needs.OfAbstractHome) h.provided))

abbrev pub header_uses : ℕ → What → List Use
header_uses n what =
    map (use_of (n + 1) (base_need what)) (bases what) ++ (map (use_of (n + 1) (implements_need what)) (implemented what)
    ++ (map (use_of (n + 1) needs.OfStorageType) (option_to_list (managed what)) ++ map (λ p. use_of (n + 1) needs.OfAbstractHome p.home) (provided what)))

-- the names in a body
abbrev pub in_body : ℕ → What → List Use
in_body limit what = flat_map (λ s. in_state_type limit s.state_type) (states what) ++ flat_map (in_operation limit) (operations what)

abbrev pub body_bounds : ℕ → What → List Bound
body_bounds limit what = flat_map (λ s. state_bounds limit s.state_type) (states what) ++ flat_map (operation_bounds limit) (operations what)

-- in a storage type, home or catalog
abbrev pub store_uses : ℕ → What → List Use
store_uses n what = header_uses n what ++ in_body (n + 1) what

-- in the body of a declaration
abbrev pub within : ℕ → Option ℕ → Spot
within n own = record { limit = n + 1; number = n; own = own }

-- ---- one declaration

-- these names and bounds were walked, and this is what is told
pub record Tells (old new : Walk) (spot : Spot) (us : List Use) (bs : List Bound) (standing : Standing) (told : NumberedStanding) : Type 0 where
  pub goes : Goes old new
  pub noted : new.faults ≡ noted_in old spot us bs
  pub there : is_there (length new.types) told ≡ true
  pub is : stand new.types told ≡ standing

-- a declaration was walked but for the type of its typedef, and this is what is told of it
pub record IsTold (old new : Walk) (n : ℕ) (what : What) (told : NumberedStanding) : Type 0 where
  pub goes : Goes old new
  pub noted : new.faults ≡ own_noted old n what
  pub there : is_there (length new.types) told ≡ true
  pub is : stand new.types told ≡ standing_of (text_in old) (done_in old) n (at (text_in old) n).path what

-- these are the types of its states
pub record AreStatesThere (old new : Walk) (n : ℕ) (what : What) (kept : List StateEntry) : Type 0 where
  pub below : AreKeptBelow (length new.types) (length (text_in new)) kept
  pub are : (homes : ℕ → List HomeNo) → map (type_kept new.types homes) kept ≡ map (type_there old (within n None) homes) (state_types what)

-- with what is wrong with a declaration, by what the declarations stand for
abbrev pub declared_noted : List Declaration → List Standing → BodyFaults → ℕ → Path → What → BodyFaults
declared_noted all done f n path what = record {
  names = noting f.names (flat_map (of_use all done path) (uses n what));
  strings = noting f.strings (of_strings_in all done n path what);
  values = noting f.values (of_values_in all done n path what);
  selves = noting f.selves (flat_map (of_own all (own_of all n what) path) (uses n what));
}

-- ---- all so far

-- of the last declaration the type of its typedef
pub record IsLast (w : Walk) (count : ℕ) (last : Option ℕ) : Type 0 where
  pub there : IfSome last (λ n. n < length w.types)
  pub is : (n : ℕ) → count ≡ n + 1 → entry_type w.types last ≡ alias_type (text_in w) (done_in w) n (at (text_in w) n).path (at (text_in w) n).what

-- of each of the first so many declarations
abbrev pub AreKept : Walk → List (Vec StateEntry Global) → ℕ → Type 0
AreKept w states count =
    (length states ≡ count)
    × ((n : ℕ) (d : Vec StateEntry Global) → n < count → AreKeptBelow (length w.types) (length (text_in w)) (get_or states n d).items × AreStates (text_in w) w.types n (get_or states n d).items)

-- of the first so many declarations
pub record IsWalked (w : Walk) (states : List (Vec StateEntry Global)) (count : ℕ) : Type 0 where
  pub kept : AreKept w states count
  pub told : done_in w ≡ standings_after (text_in w) [] (take count (text_in w))
  pub names : w.faults.names ≡ noting None (each (of_names (text_in w) (standings (text_in w))) (take count (text_in w)))
  pub strings : w.faults.strings ≡ noting None (each (of_strings (text_in w) (standings (text_in w))) (take count (text_in w)))
  pub selves : w.faults.selves ≡ noting None (each (of_selves (text_in w)) (take count (text_in w)))
  pub values : w.faults.values ≡ noting None (each (of_values (text_in w) (standings (text_in w))) (take count (text_in w)))
