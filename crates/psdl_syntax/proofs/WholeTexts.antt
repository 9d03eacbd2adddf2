-- What reading a whole text says.
use Rattle.std.proofs.Common.{false, ◌≡◌, ℕ, ◌+◌, ◌-◌, List, [], ◌∷◌, ◌++◌, length, take, Result, Ok, Err, Some, None, refl, sym, ap, subst, ◌∙◌, append_assoc, length-append, arith, ◌⊎◌, inl, inr}
use Rattle.std.specs.Prelude.{IfOk, OnOk, IsSome}
use Rattle.part_readers.specs.declared.refusal.Refusal.{Refusal}
use Rattle.part_readers.specs.declared.refusal.Refusal.TheVariants as refusals
use Rattle.part_readers.specs.Reading.{Gives, starts, whole}
use Rattle.part_readers.specs.Sentences.{IsFirstFault, joined}
use Rattle.part_readers.proofs.Law.{Stops}
use Rattle.part_readers.proofs.Steps.{run_append}
use Rattle.part_readers.proofs.Wholes.{found, given_again, excused_stops, first_fault, level_before, front_is, front_plus}
use Rattle.psdl_syntax.specs.declared.fault.Fault.{Fault}
use Rattle.psdl_syntax.specs.declared.fault.Fault.TheVariants.{Unexpected, TooDeep}
use Rattle.psdl_syntax.specs.Seen.{Seen}
use Rattle.psdl_syntax.specs.Depth.{room, room_behind, IsFirstDeep, FitsBefore}
use Rattle.psdl_tree.specs.Trees.{Definition, Definitions}
use Rattle.psdl_syntax.specs.Grammar.{definition, definitions}
use Rattle.psdl_tree.specs.Views.{definitions_of}
use Rattle.psdl_syntax.specs.Answers.{IsGiven, IfTooDeep, IfUnexpected}
use Rattle.psdl_syntax.specs.Productions.{is_any, text_at}
use Rattle.psdl_syntax.proofs.Psdl.{psdl, left_of, IsTooDeep}
use Rattle.psdl_syntax.proofs.Parts.{anything}
use Rattle.psdl_syntax.proofs.DefinitionLaws.{list_of, list_onto, definitions_joined, text_at_keeps}

abbrev TextEnds : List Seen → Type 0
TextEnds rest = (starts is_any rest ≡ false) × anything rest

kept : (f : Fault) (n : ℕ) → IsTooDeep (psdl.moved f n) → IsTooDeep f
kept (Unexpected left) n h = h
kept (TooDeep left) n h = tt

-- the spelling of a list of definitions, and of the same as a tree
as_list : (ds : Definitions) → definitions ds ≡ joined definition (list_of ds)
as_list ds = ap definitions (sym (list_onto ds)) ∙ definitions_joined (list_of ds)

as_tree : (toks : List Seen) (left : ℕ) → IsFirstFault (joined definition) toks left → IsFirstFault definitions toks left
as_tree toks left f = record {
  within = f.within;
  before = (f.before.0, definitions_of f.before.1, f.before.2 ∙ sym (definitions_joined f.before.1));
  element = λ some begins. f.element some (begins.0, list_of begins.1, begins.2 ∙ as_list begins.1);
  no_sentence = λ tree same. f.no_sentence (list_of tree) (same ∙ as_list tree);
}

module _ (d : ℕ) where
  abbrev read_all : List Seen → Result (List Definition) Fault
  read_all = whole Unexpected (text_at d)

  found_text : (toks : List Seen) (ds : List Definition) → read_all toks ≡ Ok ds → (toks ≡ joined definition ds) × (room d toks ≡ Some d)
  found_text = found psdl Unexpected (λ n. refl) kept (λ n h. h) d d (text_at d) (joined definition) TextEnds (text_at_keeps d) (refl, tt)

  given_text : (ds : List Definition) → (read_all (joined definition ds) ≡ Ok ds) ⊎ ((f : Fault) × (read_all (joined definition ds) ≡ Err f) × IsTooDeep f)
  given_text = given_again psdl Unexpected (λ n. refl) kept (λ n h. h) d d (text_at d) (joined definition) TextEnds (text_at_keeps d) (refl, tt)

  stops_text : (toks : List Seen) (f : Fault) → IsTooDeep f → read_all toks ≡ Err f → Stops psdl d (text_at d) (joined definition) toks f
  stops_text = excused_stops psdl Unexpected (λ n. refl) kept (λ n h. h) d d (text_at d) (joined definition) TextEnds (text_at_keeps d) (refl, tt)

  first_of_text : (toks : List Seen) (f : Fault) → (IsTooDeep f → ⊥) → read_all toks ≡ Err f → IsFirstFault (joined definition) toks (left_of f)
  first_of_text = first_fault psdl Unexpected (λ n. refl) kept (λ n h. h) d d (text_at d) (joined definition) TextEnds (text_at_keeps d) (refl, tt)

  level_of_text : (toks : List Seen) (f : Fault) → read_all toks ≡ Err f → (state : ℕ) × (room d (take (length toks - left_of f) toks) ≡ Some state)
  level_of_text = level_before psdl Unexpected (λ n. refl) kept (λ n h. h) d d (text_at d) (joined definition) TextEnds (text_at_keeps d) (refl, tt)

  deep_of : (toks : List Seen) (left : ℕ) → Stops psdl d (text_at d) (joined definition) toks (TooDeep left) → IsFirstDeep d definitions toks left
  deep_of toks left p =
      let m = p.meets in
      let is_left : left ≡ length (m.0 ∷ m.1) = p.left_is ∙ ap length m.3 in
      let cut : toks ≡ p.used ++ m.0 ∷ m.1 = p.spelled ∙ ap (λ (k : List Seen). p.used ++ k) m.3 in
      let front : take (length toks - left) toks ≡ p.used = front_is toks p.used (m.0 ∷ m.1) left cut is_left in
      let plus : take (length toks - left + 1) toks ≡ p.used ++ m.0 ∷ [] = front_plus toks p.used m.0 m.1 left cut is_left in
      let here : room d p.used ≡ Some 0 = p.level ∙ ap Some m.5 in
      record {
        within = omega (arith, ap length cut, is_left, length-append p.used (m.0 ∷ m.1));
        before = ap (room d) front ∙ here;
        expected = (m.2, definitions_of p.tree, ap (λ (k : List Seen). k ++ m.2) plus ∙ append_assoc p.used (m.0 ∷ []) m.2 ∙ ap (λ (k : List Seen). p.used ++ k) (sym m.4) ∙ p.begun ∙ sym (definitions_joined p.tree));
        too_deep = ap (room d) plus ∙ run_append psdl d 0 p.used (m.0 ∷ []) here ∙ refused m.0 m.6;
      }
    where
      refused : (t : Seen) → room_behind 0 t ≡ None → room 0 (t ∷ []) ≡ None
      refused t h = rw h refl

  module _ {X : Type 0} (view : X → List Definition) where
    abbrev tree : X → Definitions
    tree x = definitions_of (view x)

    pub is_found : (toks : List Seen) (result : Result X (Refusal Fault)) → Gives view result (read_all toks) → IfOk result (λ x. toks ≡ definitions (tree x))
    is_found toks (Ok x) gives = (found_text toks (view x) gives).0 ∙ sym (definitions_joined (view x))
    is_found toks (Err refusal) gives = tt

    pub is_level : (toks : List Seen) (result : Result X (Refusal Fault)) → Gives view result (read_all toks) → OnOk result (room d toks ≡ Some d)
    is_level toks (Ok x) gives = (found_text toks (view x) gives).1
    is_level toks (Err refusal) gives = tt

    gives_it : (ds : Definitions) (result : Result X (Refusal Fault)) → Gives view result (Ok (list_of ds)) → IsGiven tree result ds
    gives_it ds (Ok x) gives = (let same : view x ≡ list_of ds = cc in ap definitions_of same ∙ list_onto ds)
    gives_it ds (Err refusals.Memory) gives = tt
    gives_it ds (Err (refusals.Fault (TooDeep left))) gives = tt
    gives_it ds (Err (refusals.Fault (Unexpected left))) gives = absurd cc

    gives_deep : (ds : Definitions) (result : Result X (Refusal Fault)) (f : Fault) → IsTooDeep f → Gives view result (Err f) → IsGiven tree result ds
    gives_deep ds (Ok x) f deep gives = absurd cc
    gives_deep ds (Err refusals.Memory) f deep gives = tt
    gives_deep ds (Err (refusals.Fault (TooDeep left))) f deep gives = tt
    gives_deep ds (Err (refusals.Fault (Unexpected left))) f deep gives = subst IsTooDeep (let same : f ≡ Unexpected left = cc in same) deep

    pub is_given : (toks : List Seen) (result : Result X (Refusal Fault)) → Gives view result (read_all toks) → (ds : Definitions) → toks ≡ definitions ds → IsGiven tree result ds
    is_given toks result gives ds same =
        let g : Gives view result (read_all (joined definition (list_of ds))) = subst (λ (l : List Seen). Gives view result (read_all l)) (same ∙ as_list ds) gives in
        elim (given_text (list_of ds)) [
          | inl ok ↦ gives_it ds result (subst (Gives view result) ok g)
          | inr late ↦ gives_deep ds result late.0 late.2 (subst (Gives view result) late.1 g)
        ]

    pub is_first : (toks : List Seen) (result : Result X (Refusal Fault)) → Gives view result (read_all toks) → IfUnexpected result (λ left. IsFirstFault definitions toks left)
    is_first toks (Ok x) gives = tt
    is_first toks (Err refusals.Memory) gives = tt
    is_first toks (Err (refusals.Fault (TooDeep left))) gives = tt
    is_first toks (Err (refusals.Fault (Unexpected left))) gives = as_tree toks left (first_of_text toks (Unexpected left) (λ h. h) gives)

    pub fits_before : (toks : List Seen) (result : Result X (Refusal Fault)) → Gives view result (read_all toks) → IfUnexpected result (λ left. FitsBefore d toks left)
    fits_before toks (Ok x) gives = tt
    fits_before toks (Err refusals.Memory) gives = tt
    fits_before toks (Err (refusals.Fault (TooDeep left))) gives = tt
    fits_before toks (Err (refusals.Fault (Unexpected left))) gives = (let l = level_of_text toks (Unexpected left) gives in subst IsSome (sym l.1) refl)

    pub is_deep : (toks : List Seen) (result : Result X (Refusal Fault)) → Gives view result (read_all toks) → IfTooDeep result (λ left. IsFirstDeep d definitions toks left)
    is_deep toks (Ok x) gives = tt
    is_deep toks (Err refusals.Memory) gives = tt
    is_deep toks (Err (refusals.Fault (Unexpected left))) gives = tt
    is_deep toks (Err (refusals.Fault (TooDeep left))) gives = deep_of toks left (stops_text toks (TooDeep left) tt gives)
