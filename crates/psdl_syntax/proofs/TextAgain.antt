-- A printed text is read again, and printed as it is.
use Rattle.std.proofs.Common.{◌≡◌, ℕ, ◌++◌, List, [], ◌∷◌, map, refl, sym, ap, ◌∙◌, subst}
use Rattle.std.specs.Prelude.{IsSome}
use Rattle.pss_base.specs.declared.place.Place.{Place}
use Rattle.psdl_syntax.specs.declared.printing.printer.Edge.{Edge}
use Rattle.psdl_syntax.specs.declared.printing.printer.Edge.TheVariants as edges
use Rattle.psdl_tree.specs.Trees.{Definitions}
use Rattle.psdl_syntax.specs.Seen.{Seen, Word, Sign, Placed, Named, Number, Quoted, Stray}
use Rattle.psdl_syntax.specs.Grammar.{definitions}
use Rattle.psdl_syntax.specs.Moved.{moved}
use Rattle.psdl_syntax.specs.Canonical.{gap_before, token_text, edge_behind, depth_behind, text_behind, text_of, canonical}
use Rattle.psdl_syntax.specs.Syntax.{most_open}
use Rattle.psdl_syntax.specs.Again.{KeepsTexts}
use Rattle.psdl_syntax.proofs.Moving.{moved_seen}
use Rattle.psdl_syntax.proofs.Moving as moving
use Rattle.psdl_syntax.proofs.ReadAgain.{canonical_keeps}

-- a token is written alike wherever it stood
pub record SameText (move : Place → Place) (t : Seen) : Type 0 where
  pub gap : (edge : Edge) (depth : ℕ) → gap_before edge depth (moved_seen move t) ≡ gap_before edge depth t
  pub text : token_text (moved_seen move t) ≡ token_text t
  pub edge : (edge : Edge) → edge_behind edge (moved_seen move t) ≡ edge_behind edge t
  pub depth : (depth : ℕ) → depth_behind depth (moved_seen move t) ≡ depth_behind depth t

same_token : (move : Place → Place) (t : Seen) → SameText move t
same_token move (Word k) = record { gap = λ e d. refl; text = refl; edge = λ e. refl; depth = λ d. refl }
same_token move (Sign m) = record { gap = λ e d. refl; text = refl; edge = λ e. refl; depth = λ d. refl }
same_token move (Placed m p) = record { gap = λ e d. refl; text = refl; edge = λ e. refl; depth = λ d. refl }
same_token move (Named i) = record { gap = λ e d. refl; text = refl; edge = λ e. refl; depth = λ d. refl }
same_token move (Number l) = record { gap = λ e d. refl; text = refl; edge = λ e. refl; depth = λ d. refl }
same_token move (Quoted l) = record { gap = λ e d. refl; text = refl; edge = λ e. refl; depth = λ d. refl }
same_token move Stray = record { gap = λ e d. refl; text = refl; edge = λ e. refl; depth = λ d. refl }

same_behind : (move : Place → Place) (edge : Edge) (depth : ℕ) (ts : List Seen) → text_behind edge depth (map (moved_seen move) ts) ≡ text_behind edge depth ts
same_behind move edge depth [] = refl
same_behind move edge depth (t ∷ ts) =
    let same = same_token move t in
    rw (same.gap edge depth, same.text, same.edge edge, same.depth depth) (
    ap (λ l. gap_before edge depth t ++ (token_text t ++ l)) (same_behind move (edge_behind edge t) (depth_behind depth t) ts))

same_canonical : (move : Place → Place) (tree : Definitions) → canonical (moved move tree) ≡ canonical tree
unfolding canonical
same_canonical move tree = ap text_of (moving.definitions move tree) ∙ same_behind move edges.Line 0 (definitions tree)

pub texts_kept : KeepsTexts
texts_kept text tree bytes is within =
    let again = canonical_keeps tree text bytes is.spelled in
    record {
      move = again.same_tree.0;
      is_text = record { within = within; clean = again.no_fault; spelled = again.same_tree.1; fits = subst IsSome (sym (again.same_depth most_open)) is.fits };
      same_text = same_canonical again.same_tree.0 tree;
    }
