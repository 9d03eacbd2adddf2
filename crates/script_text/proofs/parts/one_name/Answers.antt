use Rattle.std.proofs.Common.{sym, ap, ◌∙◌, take, drop}
use Rattle.std.specs.List.{list_all}
use Rattle.script_text.specs.Parts.{is_name, is_name_byte}
use Rattle.script_text.proofs.WordLaws.{one_found}
use Rattle.script_text.proofs.FrontLaws.{front_all, names_end, named_some}
use Rattle.script_text.proofs.parts.one_name.Goals as goal

pub is_name_of-requires : goal.is_name_of-requires
is_name_of-requires c =
    let behind = c.in_ok-behind.behind.now in
    ap (list_all is_name_byte) (c.split_at.ensures.front ∙ ap (λ n. take n behind) c.count_name-len.ensures.count) ∙ front_all behind

pub returns-in-Some-clause-word : goal.returns-in-Some-clause-word
returns-in-Some-clause-word c =
    let behind = c.in_ok-behind.behind.now in
    let counted = c.count_name-len.ensures.count in
    let at = counted ∙ names_end behind _ (ap (λ n. drop n behind) (sym counted) ∙ sym c.split_at.ensures.back ∙ c.in-Some.ensures) in
    let named = ap is_name (sym c.split_at.ensures.front) ∙ sym c.is_name_of.ensures ∙ c.if-not-is_name_of.false in
    let found = one_found c.args.tail.column c.args.tail.text.now behind c.count_name-len.result c.in_ok-behind.ensures at (named_some c.count_name-len.result behind named) in
    rw (c.split_at.ensures.front, c.split_at.ensures.back) found
