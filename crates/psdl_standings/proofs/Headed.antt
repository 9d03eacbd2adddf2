-- What is noted of headers, and then of bodies.
use Rattle.std.proofs.Common.{◌≡◌, ℕ, ◌+◌, List, [], ◌∷◌, ◌++◌, length, map, Option, Some, None, refl, sym, ap, ◌∙◌, append_assoc}
use Rattle.std.specs.List.{flat_map}
use Rattle.std.specs.Option.{option_map, option_to_list}
use Rattle.std.proofs.lemmas.Grind.{flat_map-append}
use Rattle.psdl_tree.specs.Trees.{Name, Provision, StateType}
use Rattle.psdl_directory.specs.declared.fault.CheckFault.{CheckFault}
use Rattle.psdl_directory.specs.declared.uses.Use.{Use as UseNode}
use Rattle.psdl_directory.specs.Declarations.{Path, What, Declaration}
use Rattle.psdl_directory.specs.Headers.{used, Header, header_of}
use Rattle.psdl_directory.specs.Lookup.{at}
use Rattle.psdl_directory.specs.Noting.{noting}
use Rattle.psdl_directory.specs.Parts.{bases, implemented, managed, provided}
use Rattle.psdl_directory.proofs.Noting.{noting-append}
use Rattle.psdl_standings.specs.declared.body_faults.BodyFaults.{BodyFaults}
use Rattle.psdl_standings.specs.declared.need.Need.{Need}
use Rattle.psdl_standings.specs.declared.need.Need.TheVariants as needs
use Rattle.psdl_standings.specs.declared.state_entry.StateEntry.{StateEntry}
use Rattle.psdl_standings.specs.declared.walk.Walk.{Walk}
use Rattle.psdl_standings.specs.Naming.{of_use}
use Rattle.psdl_standings.specs.States.{AreKeptBelow}
use Rattle.psdl_standings.specs.Uses.{Use, use_of, base_need, implements_need}
use Rattle.psdl_standings.specs.inner.Declared.{header_faults, header_uses, in_body, body_bounds, store_uses, within}
use Rattle.psdl_standings.specs.inner.Entries.{Notes, AddsStates}
use Rattle.psdl_standings.specs.inner.Sights.{of_own}
use Rattle.psdl_standings.specs.inner.Walked.{text_in, done_in, with_names, use_faults, Goes}
use Rattle.psdl_standings.proofs.Goings.{goes_on, use_found, use_same}
use Rattle.psdl_standings.proofs.Stated.{states_then, nothing_kept}

-- ---- parts of a header

with_names_on : (f : BodyFaults) (fs gs : List CheckFault) → with_names (with_names f fs) gs ≡ with_names f (fs ++ gs)
with_names_on f fs gs = ap (λ (o : Option CheckFault). record { names = o; strings = f.strings; values = f.values; selves = f.selves }) (sym (noting-append f.names fs gs))

uses_same : (a b : Walk) (need : Need) (us : List UseNode) → Goes a b → flat_map (use_faults b need) us ≡ flat_map (use_faults a need) us
uses_same a b need [] g = refl
uses_same a b need (u ∷ us) g = rw (use_same a b need u g, uses_same a b need us g) refl

pub uses_then : (a b d : Walk) (fs : List CheckFault) (need : Need) (us : List UseNode) → Goes a b → b.faults ≡ with_names a.faults fs → d.faults ≡ with_names b.faults (flat_map (use_faults b need) us)
    → d.faults ≡ with_names a.faults (fs ++ flat_map (use_faults a need) us)
uses_then a b d fs need us g x y =
    y
    ∙ ap (λ (f : BodyFaults). with_names f (flat_map (use_faults b need) us)) x
    ∙ ap (λ (l : List CheckFault). with_names (with_names a.faults fs) l) (uses_same a b need us g)
    ∙ with_names_on a.faults fs (flat_map (use_faults a need) us)

pub header_noted : (a b d e f : Walk) (what : What) (h : Header) → Goes a b → Goes b d → Goes d e → b.faults ≡ with_names a.faults (flat_map (use_faults a (base_need what)) h.bases) → d.faults ≡ with_names b.faults (flat_map (use_faults b (implements_need what)) h.implemented)
    → e.faults ≡ with_names d.faults (flat_map (use_faults d needs.OfStorageType) (option_to_list h.managed)) → f.faults ≡ with_names e.faults (flat_map (use_faults e needs.OfAbstractHome) h.provided) → f.faults ≡ with_names a.faults (header_faults a what h)
header_noted a b d e f what h g1 g2 g3 x1 x2 x3 x4 =
    let f1 = flat_map (use_faults a (base_need what)) h.bases in
    let f2 = flat_map (use_faults a (implements_need what)) h.implemented in
    let f3 = flat_map (use_faults a needs.OfStorageType) (option_to_list h.managed) in
    let f4 = flat_map (use_faults a needs.OfAbstractHome) h.provided in
    let g12 : Goes a d = goes_on a b d g1 g2 in
    let two = uses_then a b d f1 (implements_need what) h.implemented g1 x1 x2 in
    let three = uses_then a d e (f1 ++ f2) needs.OfStorageType (option_to_list h.managed) g12 two x3 in
    let four = uses_then a e f ((f1 ++ f2) ++ f3) needs.OfAbstractHome h.provided (goes_on a d e g12 g3) three x4 in
    four ∙ ap (λ (l : List CheckFault). with_names a.faults l) (append_assoc (f1 ++ f2) f3 f4 ∙ append_assoc f1 f2 (f3 ++ f4))

-- ---- what names mean is what is noted of uses

module _ (w : Walk) (n : ℕ) where
  abbrev faults_of : List Use → List CheckFault
  faults_of us = flat_map (of_use (text_in w) (done_in w) (at (text_in w) n).path) us

  names_linked : (need : Need) (names : List Name) → flat_map (use_faults w need) (map (used (text_in w) (n + 1) n) names) ≡ faults_of (map (use_of (n + 1) need) names)
  names_linked need [] = refl
  names_linked need (x ∷ xs) = rw (use_found w (within n None) need x, names_linked need xs) refl

  name_linked : (need : Need) (name : Option Name) → flat_map (use_faults w need) (option_to_list (option_map (used (text_in w) (n + 1) n) name)) ≡ faults_of (map (use_of (n + 1) need) (option_to_list name))
  name_linked need None = refl
  name_linked need (Some x) = names_linked need (x ∷ [])

  provisions_linked : (ps : List Provision) → flat_map (use_faults w needs.OfAbstractHome) (map (λ p. used (text_in w) (n + 1) n p.home) ps) ≡ faults_of (map (λ p. use_of (n + 1) needs.OfAbstractHome p.home) ps)
  provisions_linked [] = refl
  provisions_linked (p ∷ ps) = rw (use_found w (within n None) needs.OfAbstractHome p.home, provisions_linked ps) refl

  header_linked : (what : What) → header_faults w what (header_of (text_in w) n what) ≡ faults_of (header_uses n what)
  header_linked what =
      let of : Use → List CheckFault = of_use (text_in w) (done_in w) (at (text_in w) n).path in
      let a = map (use_of (n + 1) (base_need what)) (bases what) in
      let b = map (use_of (n + 1) (implements_need what)) (implemented what) in
      let c = map (use_of (n + 1) needs.OfStorageType) (option_to_list (managed what)) in
      let d = map (λ (p : Provision). use_of (n + 1) needs.OfAbstractHome p.home) (provided what) in
      rw (names_linked (base_need what) (bases what), names_linked (implements_need what) (implemented what), name_linked needs.OfStorageType (managed what), provisions_linked (provided what))
      (sym (flat_map-append of a (b ++ (c ++ d)) ∙ ap (λ (l : List CheckFault). flat_map of a ++ l) (flat_map-append of b (c ++ d) ∙ ap (λ (l : List CheckFault). flat_map of b ++ l) (flat_map-append of c d))))

-- outside of structs nothing names itself
pub no_owns : (all : List Declaration) (path : Path) (us : List Use) → flat_map (of_own all None path) us ≡ []
no_owns all path [] = refl
no_owns all path (u ∷ us) = no_owns all path us

pub header_notes : (a b : Walk) (n : ℕ) (what : What) (h : Header) → h ≡ header_of (text_in a) n what → Goes a b → b.faults ≡ with_names a.faults (header_faults a what h) → Notes a b (within n None) (header_uses n what) []
header_notes a b n what h is g x =
    record {
      goes = g;
      noted =
          x
          ∙ ap (λ (l : List CheckFault). with_names a.faults l) (ap (λ (k : Header). header_faults a what k) is ∙ header_linked a n what)
          ∙ ap (λ (l : List CheckFault). record { names = noting a.faults.names (faults_of a n (header_uses n what)); strings = a.faults.strings; values = a.faults.values; selves = noting a.faults.selves l }) (sym (no_owns (text_in a) (at (text_in a) n).path (header_uses n what)));
    }

pub store_walked : (a b d : Walk) (n : ℕ) (what : What) (h : Header) (ts : List StateType) (front kept : List StateEntry) → AreKeptBelow (length a.types) (length (text_in a)) front → h ≡ header_of (text_in a) n what → Goes a b → b.faults ≡ with_names a.faults (header_faults a what h)
    → AddsStates b d (within n None) (in_body (n + 1) what) (body_bounds (n + 1) what) ts front kept → AddsStates a d (within n None) (store_uses n what) (body_bounds (n + 1) what) ts front kept
store_walked a b d n what h ts front kept below is g x y =
    states_then a b d (within n None) (header_uses n what) (in_body (n + 1) what) [] (body_bounds (n + 1) what) [] ts front front kept (nothing_kept a b (within n None) (header_uses n what) [] front below (header_notes a b n what h is g x)) y
