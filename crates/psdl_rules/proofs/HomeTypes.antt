-- What is wrong in the lists of a home, by its type.
use Rattle.std.proofs.Common.{◌≡◌, ℕ, List, [], ◌++◌, map, Option, Some, ap, ◌∙◌}
use Rattle.std.specs.List.{flat_map}
use Rattle.std.proofs.lemmas.List.Folds.{flat_map-map}
use Rattle.psdl_tree.specs.Trees.{Key}
use Rattle.type_layout.specs.Schemas.{given}
use Rattle.psdl_directory.specs.declared.fault.CheckFault.{CheckFault}
use Rattle.psdl_directory.specs.declared.fault.CheckKind.TheVariants.{KeyMember, FactoryMember}
use Rattle.psdl_directory.specs.Declarations.{Declaration}
use Rattle.psdl_directory.specs.Lookup.{at}
use Rattle.psdl_directory.specs.Parts.{keys, factories, key_list, factory_list}
use Rattle.psdl_lineage.specs.Descent.{members, type_of_home}
use Rattle.psdl_members.specs.Listings.{identifiers_of}
use Rattle.psdl_members.specs.declared.list_kind.ListKind.TheVariants as kinds
use Rattle.psdl_standings.specs.Standings.{Standing}
use Rattle.psdl_rules.specs.Faults as faults
use Rattle.psdl_rules.specs.Words.{listed_wrong}
use Rattle.psdl_rules.specs.Faults.KeyType.{keyed_wrong}
use Rattle.psdl_rules.specs.inner.Listing.{listed_faults}

module _ (all : List Declaration) (done : List Standing) (n : ℕ) where
  abbrev by_type : Option ℕ → List CheckFault
  by_type o =
      given o [] (λ t. flat_map (λ k. listed_wrong KeyMember (members all t) [] (key_list k)) (keys (at all n).what))
      ++ given o [] (λ t. flat_map (λ k. flat_map (keyed_wrong all done (members all t)) (key_list k)) (keys (at all n).what))
      ++ given o [] (λ t. flat_map (λ f. listed_wrong FactoryMember (members all t) [] (factory_list f)) (factories (at all n).what))

  by_lists : (t : ℕ) → listed_faults all done (members all t) (map key_list (keys (at all n).what)) (map factory_list (factories (at all n).what)) ≡ by_type (Some t)
  by_lists t =
      let ms = members all t in
      let ks = keys (at all n).what in
      let fs = factories (at all n).what in
      let first : List Key → List CheckFault = flat_map (λ k. listed_wrong KeyMember ms [] (key_list k)) in
      let second : List Key → List CheckFault = flat_map (λ k. flat_map (keyed_wrong all done ms) (key_list k)) in
      ap (λ (l : List CheckFault). l ++ flat_map (flat_map (keyed_wrong all done ms)) (map key_list ks) ++ flat_map (listed_wrong FactoryMember ms []) (map factory_list fs)) (flat_map-map (listed_wrong KeyMember ms []) key_list ks)
      ∙ ap (λ (l : List CheckFault). first ks ++ l ++ flat_map (listed_wrong FactoryMember ms []) (map factory_list fs)) (flat_map-map (flat_map (keyed_wrong all done ms)) key_list ks)
      ∙ ap (λ (l : List CheckFault). first ks ++ second ks ++ l) (flat_map-map (listed_wrong FactoryMember ms []) factory_list fs)

  pub of_type : (t : ℕ) → Some t ≡ type_of_home all n
      → listed_faults all done (members all t) (identifiers_of kinds.Key (at all n).what) (identifiers_of kinds.Factory (at all n).what) ≡ faults.listed_wrong all done n (at all n)
  of_type t e = by_lists t ∙ ap by_type e
