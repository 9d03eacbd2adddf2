use Rattle.std.proofs.Common.{◌≡◌, ◌∙◌, ◌<◌, ℕ, Option, None, length, sym, ap, subst}
use Rattle.std.specs.Option.{IfSome}
use Rattle.std.specs.Result.{IfOk}
use Rattle.psdl_tree.specs.Views.{name_view}
use Rattle.type_layout.specs.Schemas.{given}
use Rattle.psdl_directory.specs.Directories.{all_of}
use Rattle.psdl_directory.specs.Lookup.{at, inwards, meaning}
use Rattle.psdl_directory.specs.Spelled.{spelled_by}
use Rattle.psdl_directory.proofs.Indexed.{if_ok}
use Rattle.psdl_directory.proofs.Within.{beginning-within, meaning-within}
use Rattle.psdl_directory.proofs.directory.Directory.meaning.Goals as goal

pub inwards-requires : goal.inwards-requires
inwards-requires c =
    let all = all_of c.args.self.now in
    subst (λ (o : Option ℕ). IfSome o (λ n. n < length all)) (sym c.in_ok-beginning.ensures ∙ c.in-Some.is) (beginning-within (spelled_by c.args.spelling) all c.args.limit (at all c.args.number).path (name_view c.args.name.now))

pub returns-in-None-clause-meaning : goal.returns-in-None-clause-meaning
unfolding meaning
returns-in-None-clause-meaning c =
    let onwards = inwards (spelled_by c.args.spelling) (all_of c.args.self.now) c.args.limit in
    sym (ap (λ (o : Option ℕ). given o None (λ n. onwards n c.args.name.now.others.items)) (sym c.in_ok-beginning.ensures ∙ c.in-None.is))

whole : (c : goal.After-inwards) → IfOk c.inwards.result (λ r. r ≡ meaning (spelled_by c.args.spelling) (all_of c.args.self.now) c.args.limit (at (all_of c.args.self.now) c.args.number).path (name_view c.args.name.now))
unfolding meaning
whole c =
    let onwards = inwards (spelled_by c.args.spelling) (all_of c.args.self.now) c.args.limit in
    subst (λ (o : Option ℕ). IfOk c.inwards.result (λ r. r ≡ o))
    (sym (ap (λ (o : Option ℕ). given o None (λ n. onwards n c.args.name.now.others.items)) (sym c.in_ok-beginning.ensures ∙ c.in-Some.is)))
    (rw c.deref.ensures.value at c.inwards.ensures)

pub returns-in-Some-clause-meaning : goal.returns-in-Some-clause-meaning
returns-in-Some-clause-meaning c = whole c

pub returns-in-Some-clause-there : goal.returns-in-Some-clause-there
returns-in-Some-clause-there c =
    let all = all_of c.args.self.now in
    if_ok c.inwards.result _ _ (λ r is. subst (λ (o : Option ℕ). IfSome o (λ n. n < length all)) (sym is) (meaning-within (spelled_by c.args.spelling) all c.args.limit (at all c.args.number).path (name_view c.args.name.now))) (whole c)
