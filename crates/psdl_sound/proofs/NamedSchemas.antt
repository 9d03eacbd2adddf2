-- The schema of a text whose identifiers are names has identifiers for names.
use Rattle.std.proofs.Common.{◌≡◌, ℕ, ◌<◌, List, [], ◌∷◌, length, map, true, Some, IsTrue, refl, sym, ap, subst, ◌∙◌, append-nil, append_assoc}
use Rattle.std.specs.Prelude.{codes}
use Rattle.std.specs.List.{slice_get, list_all, flat_map, enumerate_from}
use Rattle.std.proofs.lemmas.Bool.{and_parts, and_from}
use Rattle.psdl_tree.specs.Trees.{Definitions}
use Rattle.type_layout.specs.declared.schema.Factory.{Factory}
use Rattle.type_layout.specs.Scopes.{Provided}
use Rattle.type_layout.specs.Names.{scoped as behind_scopes, IsScopedName, IsNamedSchema}
use Rattle.type_layout.specs.Sound.{is_name}
use Rattle.type_layout.specs.Types.{PlainMember}
use Rattle.psdl_directory.specs.Declarations.{Path, Declaration, all_declarations}
use Rattle.psdl_lineage.specs.Descent.{ancestry, Listed, same_listed, listed_factory, home_factories, home_keys}
use Rattle.psdl_directory.specs.Lookup.{at}
use Rattle.psdl_directory.specs.Parts.{provided, factories}
use Rattle.psdl_standings.specs.Standings.{standings}
use Rattle.psdl_check.specs.Schemas.{scoped, scoped_name, factory_of, home_layout, provided_homes, schema}
use Rattle.psdl_check.specs.TextNames.{AreNames}
use Rattle.psdl_sound.proofs.Among.{Among, at_among, among_from, among_map, among_fresh}
use Rattle.psdl_sound.proofs.Catalogs.{provided_of, is_provided, numbered}
use Rattle.psdl_sound.proofs.Homes.{each_home}
use Rattle.psdl_sound.proofs.ScopedNames.{in_names, each_passes, paths_named, name_named}
use Rattle.psdl_sound.proofs.NamedBodies.{AreNamedInside, key_inside, factory_inside, provision_inside}
use Rattle.psdl_sound.proofs.KeyNames.{each_key}
use Rattle.psdl_sound.proofs.MemberLists.{key_told}
use Rattle.psdl_sound.proofs.MemberNames.{body_named, layout_named}
use Rattle.psdl_sound.proofs.StandingNames.{all_stand_named}

-- ---- names with scopes

-- names behind the modules round them, from the innermost outwards
behind_path : (path : Path) (first : List ℕ) (others : List (List ℕ)) → list_all is_name path ≡ true → list_all is_name (first ∷ others) ≡ true → IsScopedName (scoped path (behind_scopes first others))
behind_path [] first others in_path named = (first, others, refl, named)
behind_path (outer ∷ path) first others in_path named =
    let both = and_parts (is_name outer) (list_all is_name path) in_path in
    subst IsScopedName (sym (ap (scoped path) (append_assoc outer (codes "::") (behind_scopes first others))))
    (behind_path path outer (first ∷ others) both.1 (and_from (is_name outer) (list_all is_name (first ∷ others)) both.0 named))

-- one name
scoped_named : (path : Path) (name : List ℕ) → list_all is_name path ≡ true → is_name name ≡ true → IsScopedName (scoped path name)
scoped_named path name in_path named = subst (λ (w : List ℕ). IsScopedName (scoped path w)) (append-nil name) (behind_path path name [] in_path (and_from (is_name name) true named refl))

-- ---- the schema

module _ (tree : Definitions) (all : List Declaration) (is : all ≡ all_declarations tree) (names : AreNames all) (inside : AreNamedInside all) where
  declaration_named : (n : ℕ) → n < length all → IsScopedName (scoped_name (at all n))
  declaration_named n lt = scoped_named (at all n).path (at all n).name (each_passes in_names all (paths_named tree all is names) n lt) (name_named all names n lt)

  key_named : (n : ℕ) (k : Listed) → Among k (home_keys all n) → is_name k.name ≡ true
  key_named n k a =
      let told = key_told all n k a in
      subst (λ (l : Listed). is_name l.name ≡ true) told.one_list (body_named all inside told.owner told.key.name (key_inside (at all told.owner).what told.key told.is_owned))

  listed_factory_named : (n : ℕ) (f : Listed) → Among f (home_factories all n) → is_name f.name ≡ true
  listed_factory_named n f a =
      let g : ℕ → List Listed = λ a. map listed_factory (factories (at all a).what) in
      let r = among_from g (ancestry all n) f (among_fresh same_listed [] (flat_map g (ancestry all n)) f a) in
      let s = among_map listed_factory (factories (at all r.0).what) f r.2 in
      subst (λ (l : Listed). is_name l.name ≡ true) s.2 (body_named all inside r.0 s.0.name (factory_inside (at all r.0).what s.0 s.1))

  factory_named : (n j : ℕ) (f : Factory) → slice_get (map (factory_of (home_layout all (standings all) n)) (home_factories all n)) j ≡ Some f → is_name f.name ≡ true
  factory_named n j f there =
      let ms : List PlainMember = home_layout all (standings all) n in
      let r = among_map (factory_of ms) (home_factories all n) f (at_among (map (factory_of ms) (home_factories all n)) j f there) in
      subst (λ (x : Factory). is_name x.name ≡ true) r.2 (listed_factory_named n r.0 r.1)

  provided_named : (j : ℕ) (p : Provided) → slice_get (schema all).provided j ≡ Some p → IsScopedName p.catalog × IsTrue (is_name p.name)
  provided_named j p there =
      let a : Among p (flat_map (provided_homes all) (enumerate_from 0 all)) = subst (λ (l : List Provided). Among p l) (provided_of all) (at_among (schema all).provided j p there) in
      let r = among_from (provided_homes all) (enumerate_from 0 all) p a in
      let one = is_provided all r.0.0 r.0.1 p r.2 in
      let number = numbered all 0 r.0 r.1 in
      let catalog : scoped_name (at all number.0) ≡ p.catalog = ap scoped_name number.3 ∙ one.one_catalog in
      let what : Among one.provision (provided (at all number.0).what) = subst (λ (d : Declaration). Among one.provision (provided d.what)) (sym number.3) one.of_catalog in (
        subst IsScopedName catalog (declaration_named number.0 number.2),
        subst (λ (w : List ℕ). is_name w ≡ true) one.one_name (body_named all inside number.0 one.provision.name (provision_inside (at all number.0).what one.provision what)),
      )

  -- homes and catalogs have scoped names, all else has identifiers
  pub named_schema : IsNamedSchema (schema all)
  named_schema = record {
    homes = each_home all _ (λ k n home. declaration_named n home.is_declared);
    members = each_home all _ (λ k n home. layout_named all inside (all_stand_named all names inside) n);
    factories = each_home all _ (λ k n home j f there. factory_named n j f there);
    keys = each_key all _ (λ n i key. key_named i.home i.listed key.is_listed);
    provided = provided_named;
  }
