-- Concrete homes in the order of the text, and the homes that provide others.
use Rattle.std.proofs.Common.{◌≡◌, ℕ, ◌+◌, ◌<◌, List, [], ◌∷◌, ◌++◌, Bool, cond, Option, None, length, filter, get_or, sym, ap, ◌∙◌, arith}
use Rattle.std.specs.List.{range_with_len}
use Rattle.std.proofs.lemmas.List.Elements.{filter-append}
use Rattle.psdl_directory.specs.Declarations.{Declaration}
use Rattle.psdl_directory.specs.Parts.{is_concrete_home}
use Rattle.psdl_directory.specs.Lookup.{at}
use Rattle.psdl_lineage.specs.Descent.{concrete_homes}
use Rattle.psdl_lineage.specs.Graph.{graph_of, first_descendant}
use Rattle.psdl_lineage.specs.inner.Providing.{AreProviders}
use Rattle.psdl_lineage.proofs.Texts.{length-graph_of, range_more}
use Rattle.psdl_lineage.proofs.Inherited.{provider_is}

abbrev pub homes_before : List Declaration → ℕ → List ℕ
homes_before all i = filter (λ n. is_concrete_home (at all n).what) (range_with_len 0 i)

pub homes_more : (all : List Declaration) (i : ℕ) → homes_before all (i + 1) ≡ homes_before all i ++ cond (is_concrete_home (at all i).what) (i ∷ []) []
homes_more all i =
    let test : ℕ → Bool = λ n. is_concrete_home (at all n).what in
    let e : 0 + i ≡ i = omega arith in
    ap (λ l. filter test l) (range_more 0 i) ∙ filter-append test (range_with_len 0 i) ((0 + i) ∷ []) ∙ ap (λ n. filter test (range_with_len 0 i) ++ cond (test n) (n ∷ []) []) e

pub all_homes : (all : List Declaration) (i : ℕ) (homes : List ℕ) → i ≡ length all → homes ≡ homes_before all i → homes ≡ concrete_homes all
unfolding concrete_homes
all_homes all i homes end e = e ∙ ap (λ n. homes_before all n) end

pub are_providers : (all : List Declaration) (graph : List (List ℕ)) (homes : List ℕ) (firsts : List (Option ℕ)) → graph ≡ graph_of all → homes ≡ concrete_homes all → length firsts ≡ length graph
    → ((n : ℕ) → n < length graph → get_or firsts n None ≡ first_descendant graph homes n) → AreProviders all firsts
are_providers all graph homes firsts g h sized first =
    let same : length graph ≡ length all = ap (λ l. length l) g ∙ length-graph_of all in
    record {
      sized = sized ∙ same;
      each = λ n lt. first n (omega (arith, same, lt)) ∙ ap (λ l. first_descendant l homes n) g ∙ ap (λ l. first_descendant (graph_of all) l n) h ∙ sym (provider_is all n);
    }
