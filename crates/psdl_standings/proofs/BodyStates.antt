-- What is kept of the states of several bodies.
use Rattle.std.proofs.Common.{◌≡◌, ℕ, zero, suc, ◌+◌, ◌<◌, List, [], ◌∷◌, ◌++◌, Bool, not, ◌==◌, length, map, take, get_or, nat_lt, sym, ap, ◌∙◌, arith}
use Rattle.std.proofs.Math.ListN.{length-map}
use Rattle.std.specs.List.{flat_map, list_all}
use Rattle.std.proofs.lemmas.Bool.{and_from}
use Rattle.std.proofs.lemmas.Grind.{flat_map-append}
use Rattle.std.proofs.lemmas.List.{append-nil, map-append, take_more}
use Rattle.std.proofs.lemmas.List.Folds.{list_all-append}
use Rattle.std.proofs.lemmas.List.FromFn.{map-range_with_len_more}
use Rattle.type_layout.specs.declared.home.HomeNo.{HomeNo}
use Rattle.type_layout.specs.Types.{PlainType}
use Rattle.psdl_directory.specs.Declarations.{Declaration}
use Rattle.psdl_directory.specs.Lookup.{at}
use Rattle.psdl_standings.specs.Standings.{standings}
use Rattle.psdl_standings.specs.States.{state_types, body_type, type_kept, is_kept_below, AreKeptBelow, AreStates, has_states, flags, own_types}
use Rattle.psdl_standings.specs.declared.state_entry.StateEntry.{StateEntry}

-- ---- whether there are states

-- as many entries as states
pub as_many : (all : List Declaration) (types : List PlainType) (n : ℕ) (kept : List StateEntry) → AreStates all types n kept → length kept ≡ length (state_types (at all n).what)
as_many all types n kept are =
    sym (length-map kept (type_kept types (λ _. []))) ∙ ap length (are (λ _. [])) ∙ length-map (state_types (at all n).what) (body_type all (standings all) (λ _. []) n)

pub one_flag_more : (all : List Declaration) (i : ℕ) (old new : List Bool) (flag : Bool) → old ≡ flags all i → new ≡ old ++ flag ∷ [] → flag ≡ has_states all i → new ≡ flags all (i + 1)
one_flag_more all i old new flag so_far push is =
    push ∙ ap (λ l. l ++ flag ∷ []) so_far ∙ ap (λ b. flags all i ++ b ∷ []) is ∙ sym (map-range_with_len_more (has_states all) 0 i i (omega arith))

flag_of : (n : ℕ) (e : Bool) → e ≡ (n == 0) → not e ≡ nat_lt 0 n
flag_of zero e is = ap not is
flag_of (suc n) e is = ap not is ∙ grind arith

pub has_some : (all : List Declaration) (types : List PlainType) (n : ℕ) (kept : List StateEntry) (e flag : Bool) → AreStates all types n kept → e ≡ (length kept == 0) → flag ≡ not e → flag ≡ has_states all n
has_some all types n kept e flag are is f = f ∙ flag_of (length kept) e is ∙ ap (nat_lt 0) (as_many all types n kept are)

-- ---- what is kept of their types

flat_one : {Y : Type 0} (f : ℕ → List Y) (ns : List ℕ) (n : ℕ) → flat_map f (ns ++ n ∷ []) ≡ flat_map f ns ++ f n
flat_one f ns n = flat_map-append f ns (n ∷ []) ∙ ap (λ l. flat_map f ns ++ l) (append-nil (f n))

module _ (all : List Declaration) (types : List PlainType) (bodies : List ℕ) (i n d : ℕ) (lt : i < length bodies) (is : n ≡ get_or bodies i d) (kept more new : List StateEntry) (push : new ≡ kept ++ more) where
  pub one_body_more : AreStates all types n more → ((homes : ℕ → List HomeNo) → map (type_kept types homes) kept ≡ flat_map (own_types all homes) (take i bodies))
      → (homes : ℕ → List HomeNo) → map (type_kept types homes) new ≡ flat_map (own_types all homes) (take (i + 1) bodies)
  one_body_more are so_far homes =
      ap (map (type_kept types homes)) push ∙ map-append (type_kept types homes) kept more ∙ ap (λ l. l ++ map (type_kept types homes) more) (so_far homes)
      ∙ ap (λ l. flat_map (own_types all homes) (take i bodies) ++ l) (are homes)
      ∙ sym (flat_one (own_types all homes) (take i bodies) n) ∙ ap (λ m. flat_map (own_types all homes) (take i bodies ++ m ∷ [])) is ∙ ap (flat_map (own_types all homes)) (sym (take_more bodies i d lt))

  pub below_more : (count : ℕ) → AreKeptBelow (length types) count more → AreKeptBelow (length types) count kept → AreKeptBelow (length types) count new
  below_more count here so_far =
      ap (list_all (is_kept_below (length types) count)) push ∙ list_all-append (is_kept_below (length types) count) kept more
      ∙ and_from (list_all (is_kept_below (length types) count) kept) (list_all (is_kept_below (length types) count) more) so_far here
