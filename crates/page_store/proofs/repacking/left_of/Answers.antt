use Rattle.std.proofs.Common.{rules, ◌≡◌, ◌∙◌, [], ◌∷◌, ◌++◌, All, IfOk, List, arith, length, refl, sym, ap, subst}
use Rattle.std.specs.FinMap.{empty, entries}
use Rattle.pss_base.specs.declared.put.Put.{Put}
use Rattle.page_format.specs.Objects.{IsRightPut, Objects, entries_left, entries_of, over}
use Rattle.page_format.proofs.Leaving.{over-append}
use Rattle.page_format.proofs.Settled.{objects_are}
use Rattle.page_store.proofs.Anew.{right_both}
use Rattle.page_store.proofs.repacking.left_of.Goals as goal

pub settle-requires : goal.settle-requires
settle-requires c =
    subst (All IsRightPut) (sym (c.in-Ok.ensures ∙ ap (λ (ps : List Put). ps ++ c.args.noted.puts.items) c.into_vec-rows.ensures)) (right_both c.args.rows c.args.noted.puts.items c.requires.rows c.requires.noted)

pub returns-in-Ok-clause-left : goal.returns-in-Ok-clause-left
returns-in-Ok-clause-left c =
    let all = c.in-Ok.ensures ∙ ap (λ (ps : List Put). ps ++ c.args.noted.puts.items) c.into_vec-rows.ensures in
    let same = ap (λ (ps : List Put). over empty ps) all ∙ over-append empty c.args.rows c.args.noted.puts.items in
    subst (λ (m : Objects). IfOk c.settle.result (λ puts. entries_left puts.items ≡ entries_of (entries m))) same c.settle.ensures.settled

no_rows : (rows : List Put) → length rows ≡ 0 → rows ≡ []
no_rows [] long = refl
no_rows (put ∷ rows) long = absurd (omega (arith, long))

pub returns-then-noted-clause-left : goal.returns-then-noted-clause-left
returns-then-noted-clause-left c =
    let long : length c.into_vec-rows.result.items ≡ 0 = search rules in
    let none = sym c.into_vec-rows.ensures ∙ no_rows c.into_vec-rows.result.items long in
    let are = c.requires.settled c.if-noted.true in
    objects_are c.args.noted.puts.items are.0 c.args.noted.puts.items are.1 ∙ ap (λ (rows : List Put). entries_of (entries (over (over empty rows) c.args.noted.puts.items))) (sym none)
