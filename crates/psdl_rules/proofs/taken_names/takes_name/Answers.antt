use Rattle.std.proofs.Common.{◌≡◌, ◌∙◌, ◌<◌, ℕ, Option, sym, ap, Some, None, ltb-true, length, arith}
use Rattle.std.proofs.lemmas.List.{get_or_default}
use Rattle.psdl_directory.specs.Directories.{all_of}
use Rattle.psdl_rules.specs.inner.Others.{first_alike, is_below}
use Rattle.psdl_rules.proofs.Redefining.{taken, first_is_free, first_is_own}
use Rattle.psdl_rules.proofs.taken_names.takes_name.Goals as goal

pub returns-in-None : goal.returns-in-None
returns-in-None c =
    let all = all_of c.args.directory.now in
    let is : first_alike all c.args.number ≡ None = sym c.first_alike.ensures.first ∙ c.in-None.is in
    sym (first_is_free all c.args.number (ap (λ (o : Option ℕ). is_below o c.args.number) is))

pub returns-then-not-is_below : goal.returns-then-not-is_below
returns-then-not-is_below c =
    let all = all_of c.args.directory.now in
    let is : first_alike all c.args.number ≡ Some c.in-Some.first = sym c.first_alike.ensures.first ∙ c.in-Some.is in
    sym (first_is_free all c.args.number (ap (λ (o : Option ℕ). is_below o c.args.number) is ∙ sym c.is_below.ensures ∙ c.if-not-is_below.true))

pub returns-else-not-is_below : goal.returns-else-not-is_below
returns-else-not-is_below c =
    let all = all_of c.args.directory.now in
    let n = c.args.number in
    let f = c.in-Some.first in
    let lf : f < n = ltb-true f n (sym c.is_below.ensures ∙ c.if-not-is_below.false) in
    let is : first_alike all n ≡ Some f = sym c.first_alike.ensures.first ∙ c.in-Some.is in
    let fits : f < length c.args.others.now = omega (arith, c.requires.number, c.requires.sized, lf) in
    let kept = (rw c.index.ensures at c.index-others-index.is) ∙ get_or_default c.args.others.now f c.index-others-index.result None fits in
    c.is_taken.ensures ∙ sym (taken all n f _ c.requires.number lf is (kept ∙ c.requires.others f (omega (arith, c.requires.number, lf)) (first_is_own all n f c.requires.number lf is)))
