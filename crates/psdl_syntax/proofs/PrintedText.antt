-- The text of a printer behind tokens.
use Rattle.std.proofs.Common.{◌≡◌, ℕ, List, [], ◌∷◌, ◌++◌, sym, ◌∙◌, append_assoc, append-nil}
use Rattle.psdl_syntax.specs.declared.printing.printer.Printer.{Printer}
use Rattle.psdl_syntax.specs.Seen.{Seen, Word, Sign, Placed, Named, Number, Quoted, Stray}
use Rattle.psdl_syntax.specs.Canonical.{text_behind, gap_before, token_text, edge_behind, depth_behind}
use Rattle.psdl_syntax.specs.Printing.{put, put_mark, put_text, printed}

regroup : (a b c d : List ℕ) → (a ++ (b ++ c)) ++ d ≡ a ++ (b ++ (c ++ d))
regroup a b c d = simp append_assoc

-- the text of a printer behind tokens
pub printed_text : (p : Printer) (xs : List Seen) → (printed p xs).text ≡ p.text ++ text_behind p.edge p.depth xs
unfolding put_mark put_text
printed_text p [] = sym (simp (append-nil))
printed_text p (Word k ∷ xs) = printed_text (put p (Word k)) xs ∙ regroup p.text (gap_before p.edge p.depth (Word k)) (token_text (Word k)) (text_behind (edge_behind p.edge (Word k)) (depth_behind p.depth (Word k)) xs)
printed_text p (Sign m ∷ xs) = printed_text (put p (Sign m)) xs ∙ regroup p.text (gap_before p.edge p.depth (Sign m)) (token_text (Sign m)) (text_behind (edge_behind p.edge (Sign m)) (depth_behind p.depth (Sign m)) xs)
printed_text p (Placed m place ∷ xs) = printed_text (put p (Placed m place)) xs ∙ regroup p.text (gap_before p.edge p.depth (Placed m place)) (token_text (Placed m place)) (text_behind (edge_behind p.edge (Placed m place)) (depth_behind p.depth (Placed m place)) xs)
printed_text p (Named i ∷ xs) = printed_text (put p (Named i)) xs ∙ regroup p.text (gap_before p.edge p.depth (Named i)) (token_text (Named i)) (text_behind (edge_behind p.edge (Named i)) (depth_behind p.depth (Named i)) xs)
printed_text p (Number l ∷ xs) = printed_text (put p (Number l)) xs ∙ regroup p.text (gap_before p.edge p.depth (Number l)) (token_text (Number l)) (text_behind (edge_behind p.edge (Number l)) (depth_behind p.depth (Number l)) xs)
printed_text p (Quoted l ∷ xs) = printed_text (put p (Quoted l)) xs ∙ regroup p.text (gap_before p.edge p.depth (Quoted l)) (token_text (Quoted l)) (text_behind (edge_behind p.edge (Quoted l)) (depth_behind p.depth (Quoted l)) xs)
printed_text p (Stray ∷ xs) = printed_text (put p Stray) xs ∙ regroup p.text (gap_before p.edge p.depth Stray) (token_text Stray) (text_behind (edge_behind p.edge Stray) (depth_behind p.depth Stray) xs)
