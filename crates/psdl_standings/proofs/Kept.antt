-- What is kept of a text in which all declarations were walked.
use Rattle.std.proofs.Common.{◌≡◌, Vec, Global, ℕ, ◌<◌, ◌≤◌, List, length, get_or, map, take, Bool, true, false, nat_lt, ltb-true, ltb-false, Option, None, sym, ap, ◌∙◌, arith}
use Rattle.std.specs.List.{range_with_len}
use Rattle.std.proofs.lemmas.List.{take_all, get_or_past}
use Rattle.std.proofs.lemmas.List.FromFn.{get_or-map-range_with_len, length-map-range_with_len}
use Rattle.type_layout.specs.Schemas.{given}
use Rattle.type_layout.specs.Types.{PlainType}
use Rattle.psdl_directory.specs.declared.fault.CheckFault.{CheckFault}
use Rattle.psdl_directory.specs.Declarations.{Declaration}
use Rattle.psdl_directory.specs.Fault.{least, each}
use Rattle.psdl_directory.specs.Lookup.{at, nothing}
use Rattle.psdl_directory.specs.Noting.{noting}
use Rattle.psdl_directory.proofs.Noting.{noting-least}
use Rattle.psdl_standings.specs.declared.extent.Extent.{Extent as ExtentNode}
use Rattle.psdl_standings.specs.declared.state_entry.StateEntry.{StateEntry}
use Rattle.psdl_standings.specs.declared.walk.Walk.{Walk}
use Rattle.psdl_standings.specs.Depths.{is_deep}
use Rattle.psdl_standings.specs.Extents.{extent, extent_view}
use Rattle.psdl_standings.specs.Nesting.{nesting_of}
use Rattle.psdl_standings.specs.Standings.{Standing, standings}
use Rattle.psdl_standings.specs.inner.Declared.{IsWalked}
use Rattle.psdl_standings.specs.inner.Levels.{depth}
use Rattle.psdl_standings.specs.inner.Measured.{IsMeasured, IsLevelled}
use Rattle.psdl_standings.specs.inner.Stood.{HasStood}
use Rattle.psdl_standings.specs.inner.Tellings.{stand}
use Rattle.psdl_standings.specs.inner.TypeNodes.{type_at}
use Rattle.psdl_standings.specs.inner.Walked.{text_in, done_in}
use Rattle.psdl_standings.proofs.Earlier.{all_told}

least_of : (f : ℕ → Declaration → List CheckFault) (all : List Declaration) (o : Option CheckFault) → o ≡ noting None (each f (take (length all) all)) → o ≡ least (each f all)
least_of f all o e = e ∙ ap (λ (ds : List Declaration). noting None (each f ds)) (take_all (length all) all (omega arith)) ∙ noting-least (each f all)

pub stood : (w : Walk) (states : List (Vec StateEntry Global)) (extents : List ExtentNode) (levels nested : List ℕ) (deep : List Bool) → IsWalked w states (length (text_in w)) → IsMeasured w.types extents → IsLevelled w.types levels
    → ((types : List PlainType) → IsLevelled types levels → nested ≡ map depth (map (stand types) w.told.items)) → ((done : List Standing) → nested ≡ map depth done → deep ≡ map (is_deep (text_in w) done) (range_with_len 0 (length (text_in w))))
    → HasStood (text_in w) w.types states extents deep w.faults
stood w states extents levels nested deep x m l n d =
    let all : List Declaration = text_in w in
    let told : done_in w ≡ standings all = x.told ∙ all_told all (length all) (omega arith) in
    record {
      states_of = record { many = x.kept.0; below = λ k v lt. (x.kept.1 k v lt).0; are = λ k v lt. (x.kept.1 k v lt).1 };
      extents_of = m;
      deep_of = d (standings all) (n w.types l ∙ ap (λ (ss : List Standing). map depth ss) told);
      names = least_of _ all w.faults.names x.names;
      strings = least_of _ all w.faults.strings x.strings;
      values = least_of _ all w.faults.values x.values;
      selves = least_of _ all w.faults.selves x.selves;
    }

-- ---- what is asked

past_text : (all : List Declaration) (n : ℕ) → length all ≤ n → at all n ≡ nothing
past_text all n past = get_or_past all n nothing past

pub no_deep_past : (all : List Declaration) (n : ℕ) → length all ≤ n → false ≡ is_deep all (standings all) n
no_deep_past all n past = sym (ap (λ (d : Declaration). given (nesting_of all (standings all) n d.path d.what) false (λ k. nat_lt 32 k)) (past_text all n past))

pub deep_at : (all : List Declaration) (deep : List Bool) (n : ℕ) (d : Bool) → deep ≡ map (is_deep all (standings all)) (range_with_len 0 (length all)) → n < length deep → get_or deep n d ≡ is_deep all (standings all) n
deep_at all deep n d e lt =
    let many : length deep ≡ length all = ap (λ (l : List Bool). length l) e ∙ length-map-range_with_len (is_deep all (standings all)) 0 (length all) in
    ap (λ (l : List Bool). get_or l n d) e ∙ get_or-map-range_with_len (is_deep all (standings all)) 0 (length all) n n d (omega (arith, many, lt)) (omega arith)

-- ---- what is found

pub extent_found : (types : List PlainType) (extents : List ExtentNode) (n : ℕ) (e : ExtentNode) → IsMeasured types extents → true ≡ nat_lt n (length extents) → e ≡ get_or extents n e → extent_view e ≡ extent (type_at types n)
extent_found types extents n e x lt at = ap extent_view at ∙ x.are n e (ltb-true n (length extents) (sym lt))

pub deep_found : (all : List Declaration) (deep : List Bool) (n : ℕ) (d : Bool) → deep ≡ map (is_deep all (standings all)) (range_with_len 0 (length all)) → true ≡ nat_lt n (length deep) → d ≡ get_or deep n d → d ≡ is_deep all (standings all) n
deep_found all deep n d e lt at = at ∙ deep_at all deep n d e (ltb-true n (length deep) (sym lt))

pub deep_missed : (all : List Declaration) (deep : List Bool) (n : ℕ) → deep ≡ map (is_deep all (standings all)) (range_with_len 0 (length all)) → false ≡ nat_lt n (length deep) → false ≡ is_deep all (standings all) n
deep_missed all deep n e lt =
    let many : length deep ≡ length all = ap (λ (l : List Bool). length l) e ∙ length-map-range_with_len (is_deep all (standings all)) 0 (length all) in
    no_deep_past all n (omega (arith, ltb-false n (length deep) (sym lt), many))
