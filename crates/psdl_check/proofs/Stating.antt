-- The layouts of types, by the bodies that have their members.
use Rattle.std.proofs.Common.{◌≡◌, ℕ, List, [], ◌∷◌, map, Option, Some, None, refl, ap, ◌∙◌, subst}
use Rattle.std.specs.List.{flat_map}
use Rattle.std.specs.Option.{IfSome}
use Rattle.type_layout.specs.declared.home.HomeNo.{HomeNo}
use Rattle.type_layout.specs.Schemas.{given}
use Rattle.type_layout.specs.Types.{PlainType, PlainMember}
use Rattle.psdl_directory.specs.Declarations.{Declaration}
use Rattle.psdl_lineage.specs.Descent.{StateMember}
use Rattle.psdl_lineage.specs.Sources.{Inheritance, sources_in}
use Rattle.psdl_members.specs.Bodies.{own_members}
use Rattle.psdl_members.proofs.Numbering.{members_by}
use Rattle.psdl_rules.specs.Layouts.{member_type, layout_member, layout}
use Rattle.psdl_rules.specs.inner.Typed.{HaveMembers}
use Rattle.psdl_rules.proofs.Typing.{bodies_are}
use Rattle.psdl_standings.specs.Standings.{standings, all_there}
use Rattle.psdl_standings.specs.States.{own_types}
use Rattle.psdl_check.specs.inner.TypedMembers.{laid}

module _ (all : List Declaration) (homes : ℕ → List HomeNo) where
  laid_as : (ms : List StateMember) → laid ms (map (member_type all (standings all) homes) ms) ≡ map (layout_member all (standings all) homes) ms
  laid_as [] = refl
  laid_as (m ∷ ms) = ap (λ l. layout_member all (standings all) homes m ∷ l) (laid_as ms)

  -- the layout of a type, by the bodies that have its members
  pub layout_is : (s : Inheritance) (n : ℕ) (bodies : List ℕ) → HaveMembers all s → bodies ≡ sources_in s.graph s.own n
      → all_there (laid (flat_map (own_members all) bodies) (flat_map (own_types all homes) bodies)) ≡ layout all (standings all) homes n
  layout_is s n bodies have is =
      let ms = flat_map (own_members all) bodies in
      ap (λ (os : List (Option PlainType)). all_there (laid ms os)) (bodies_are all homes bodies)
      ∙ ap all_there (laid_as ms ∙ ap (map (layout_member all (standings all) homes)) (members_by all s.graph s.own n bodies have.graphed have.owned is))

given_some : (o p : Option (List PlainMember)) (vs : List PlainMember) → o ≡ p → Some vs ≡ o → vs ≡ given p [] (λ ms. ms)
given_some None p vs e h = absurd (cc)
given_some (Some ws) p vs e h = let same : vs ≡ ws = cc in same ∙ ap (λ (q : Option (List PlainMember)). given q [] (λ ms. ms)) e

pub with_types : (o p r : Option (List PlainMember)) (vs : List PlainMember) → r ≡ o → o ≡ p → Some vs ≡ r → vs ≡ given p [] (λ ms. ms)
with_types o p r vs a b c = given_some o p vs b (c ∙ a)

pub without_types : (o p : Option (List PlainMember)) (vs : List PlainMember) → None ≡ o → o ≡ p → vs ≡ [] → vs ≡ given p [] (λ ms. ms)
without_types o p vs a b e = e ∙ ap (λ (q : Option (List PlainMember)). given q [] (λ ms. ms)) (a ∙ b)

-- what holds of what is there
pub some_of : {A : Type 0} (P : A → Type 0) (o : Option A) (x : A) → IfSome o P → o ≡ Some x → P x
some_of P None x h e = absurd (cc)
some_of P (Some y) x h e = let same : y ≡ x = cc in subst P same h
