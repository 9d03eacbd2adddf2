use Rattle.std.proofs.Common.{◌≡◌, ◌∙◌, List, sym, ap, refl, length, None, Some}
use Rattle.std.specs.List.{slice_get}
use Rattle.std.proofs.lemmas.Option.{slice_get_read, slice_get_past}
use Rattle.type_layout.specs.declared.key.Key.{Key}
use Rattle.psdl_check.proofs.KeyLines.{key_added, no_key}
use Rattle.psdl_check.proofs.key_lines.with_key.Goals as goal

pub returns-in-Some : goal.returns-in-Some
returns-in-Some c =
    let key = c.in-Some.key.now in
    let list = c.as_slice.result.now in
    let found = c.in-Some.ensures.lookup in
    let there : slice_get c.args.keys.now c.args.number.0 ≡ Some key =
    ap (λ (l : List Key). slice_get l c.args.number.0) (sym c.as_slice.ensures) ∙ slice_get_read list (length list) c.args.number.0 key refl found.3.0 found.1 in
    c.followed_by.ensures
    ∙ key_added c.args.front.0 c.key_line_length-line.result.0 c.args.keys.now c.args.number.0 key there
    (c.key_line_length-line.ensures ∙ rw c.as_slice-in-Some.ensures (rw c.as_slice-in-Some-2.ensures refl))

pub returns-in-None : goal.returns-in-None
returns-in-None c =
    let list = c.as_slice.result.now in
    let missing : slice_get c.args.keys.now c.args.number.0 ≡ None =
    ap (λ (l : List Key). slice_get l c.args.number.0) (sym c.as_slice.ensures) ∙ slice_get_past list c.args.number.0 c.in-None.ensures.lookup.3 in
    c.with.ensures ∙ no_key c.args.front.0 c.args.keys.now c.args.number.0 missing
