use Rattle.std.proofs.Common.{◌≡◌, ◌++◌, List, ℕ, [], Some, Option, ap, ◌∙◌, sym, refl, length, get_or}
use Rattle.std.specs.Prelude.{unwrap_or}
use Rattle.std.specs.List.{slice_get}
use Rattle.std.proofs.lemmas.Option.{slice_get_read}
use Rattle.value_text.proofs.print.put_name.Goals as goal

pub returns : goal.returns
returns c =
    let names = c.args.names.now in
    let n = c.args.ordinal in
    let word = c.index-as_slice-ordinal.result in
    let at : word ≡ get_or names n word = c.index-as_slice-ordinal.is ∙ ap (λ (l : List (List ℕ)). get_or l n word) c.as_slice.ensures in
    let named : slice_get names n ≡ Some word = slice_get_read names (length names) n word refl c.requires at in
    c.in_ok-extend.ensures.ok ∙ ap (λ (l : List ℕ). c.args.out.now ++ l) (c.as_slice-2.ensures ∙ sym (ap (λ (o : Option (List ℕ)). unwrap_or o []) named))
