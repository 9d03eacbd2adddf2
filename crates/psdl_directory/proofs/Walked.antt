-- Declarations in a row, one definition behind the other.
use Rattle.std.proofs.Math.ListN.{get_or-append}
use Rattle.std.proofs.Math.Seq.{get_or-append_seam}
use Rattle.std.proofs.lemmas.Bool.{cases_eq}
use Rattle.std.proofs.Common.{Bool, if◌then◌else◌, true, false, subst, ⊎_elim, length-append, ◌≡◌, ℕ, suc, ◌+◌, ◌<◌, List, [], ◌∷◌, ◌++◌, length, get_or, map, drop, refl, sym, ap, ◌∙◌, arith, append_assoc, add-one, drop-cons}
use Rattle.psdl_tree.specs.declared.definitions.Definition.{Definition as DefinitionNode}
use Rattle.psdl_tree.specs.declared.definitions.Module.{Module as ModuleNode}
use Rattle.psdl_tree.specs.declared.definitions.Definition.TheViews.{out-Module}
use Rattle.psdl_tree.specs.declared.definitions.Definition.TheFolds.{fold_out-Module}
use Rattle.psdl_tree.specs.Trees.{Definition, ModuleDefinition}
use Rattle.psdl_tree.specs.Views.{definition_view, module_view, definitions_of, definition_step, module_step}
use Rattle.psdl_directory.specs.declared.declaration.Declaration.{Declaration as DeclarationNode}
use Rattle.psdl_directory.specs.Declarations.{Path, Declaration, declared_by, declarations}
use Rattle.psdl_directory.specs.inner.Nodes.{declaration_view}
use Rattle.psdl_directory.specs.inner.Placed.{IsPlaced, ArePlaced}
use Rattle.psdl_directory.specs.inner.Scopes.{Grows}

pub module_seen : (x : ModuleNode) → module_view x ≡ ModuleDefinition (out-Module x).name (definitions_of (map definition_view (out-Module x).definitions.items))
module_seen x = fold_out-Module Definition Definition definition_step module_step x

pub views_kept : (old new : List Path) (ds : List DeclarationNode) → ArePlaced old ds → Grows old new → map (declaration_view new) ds ≡ map (declaration_view old) ds
views_kept old new [] inside grows = refl
views_kept old new (d ∷ ds) inside grows =
    let rest : map (declaration_view new) ds ≡ map (declaration_view old) ds = views_kept old new ds (λ i x l. inside (suc i) x (omega (arith, l))) grows in
    rw ((grows d.scope (inside 0 d (omega arith)).within).1, rest) refl

pub one_then : (start a b end : List Declaration) (d : Declaration) (xs : List Declaration) → a ≡ start ++ d ∷ [] → b ≡ a → end ≡ b ++ xs → end ≡ start ++ (d ∷ xs)
one_then start a b end d xs p q r = r ∙ rw (q, p) (append_assoc start (d ∷ []) xs)

pub definition_more : (path : Path) (ds : List DefinitionNode) (i : ℕ) (d : DefinitionNode) (so_far now total : List Declaration) → i < length ds → d ≡ get_or ds i d
    → so_far ++ declarations path (definitions_of (map definition_view (drop i ds))) ≡ total → now ≡ so_far ++ declared_by path (definition_view d)
    → now ++ declarations path (definitions_of (map definition_view (drop (i + 1) ds))) ≡ total
definition_more path ds i d so_far now total lt at h e =
    let rest : List Declaration = declarations path (definitions_of (map definition_view (drop (i + 1) ds))) in
    let cut : drop i ds ≡ d ∷ drop (i + 1) ds = rw (add-one, drop-cons ds i d) (ap (λ (x : DefinitionNode). x ∷ drop (suc i) ds) (sym at)) in
    let here : declarations path (definitions_of (map definition_view (drop i ds))) ≡ declared_by path (definition_view d) ++ rest = rw cut refl in
    ap (λ (l : List Declaration). l ++ rest) e ∙ append_assoc so_far (declared_by path (definition_view d)) rest ∙ ap (λ (l : List Declaration). so_far ++ l) (sym here) ∙ h

pub placed_kept : (old new : List Path) (d : DeclarationNode) → IsPlaced old d → Grows old new → IsPlaced new d
placed_kept old new d placed grows = record {
  within = (grows d.scope placed.within).0;
  inside = λ n is. let was = placed.inside n is in ((grows n was.0).0, (grows n was.0).1 ∙ was.1 ∙ ap (λ (p : Path). d.name.now ∷ p) (sym (grows d.scope placed.within).1));
}

pub all_kept : (old new : List Path) (ds : List DeclarationNode) → ArePlaced old ds → Grows old new → ArePlaced new ds
all_kept old new ds placed grows i d lt = placed_kept old new (get_or ds i d) (placed i d lt) grows

pub one_more : (paths : List Path) (ds : List DeclarationNode) (x : DeclarationNode) → ArePlaced paths ds → IsPlaced paths x → ArePlaced paths (ds ++ x ∷ [])
one_more paths ds x placed here i d lt = ⊎_elim
    (λ e. subst (λ (k : ℕ). IsPlaced paths (get_or (ds ++ x ∷ []) k d)) (sym e) (subst (λ (y : DeclarationNode). IsPlaced paths y) (sym (get_or-append_seam ds x [] d)) here))
    (λ ne. let l : i < length ds = omega (arith, ne, lt, length-append ds (x ∷ [])) in subst (λ (y : DeclarationNode). IsPlaced paths y) (sym (get_or-append ds (x ∷ []) d i l)) (placed i d l))
    (cases_eq i (length ds))

-- whatever a push answers
pub placed_after : (paths : List Path) (old new : List DeclarationNode) (x : DeclarationNode) (b : Bool) → new ≡ (if b then old ++ x ∷ [] else old) → ArePlaced paths old → IsPlaced paths x → ArePlaced paths new
placed_after paths old new x true is placed here = subst (λ (ds : List DeclarationNode). ArePlaced paths ds) (sym is) (one_more paths old x placed here)
placed_after paths old new x false is placed here = subst (λ (ds : List DeclarationNode). ArePlaced paths ds) (sym is) placed
