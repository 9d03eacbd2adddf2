use Rattle.std.proofs.Common.{◌≡◌, ◌∙◌, sym, ap, subst, length, arith}
use Rattle.std.proofs.lemmas.List.{length-drop}
use Rattle.std.proofs.lemmas.Result.{err_from_is_err_and}
use Rattle.type_layout.specs.Views.{plain_type, plain_value}
use Rattle.value_text.specs.declared.fault.ValueFault.TheVariants.{BadValue, NoMemory}
use Rattle.value_text.specs.Reading.{Fails}
use Rattle.value_text.specs.Line.{one_value}
use Rattle.value_text.proofs.Standing.{stands_there, only_memory, same_there, same_end, from_place}
use Rattle.value_text.proofs.read.read_value.Goals as goal

pub returns-in_err-value-clause-only : goal.returns-in_err-value-clause-only
returns-in_err-value-clause-only c = λ sound v end stands.
    (let t = plain_type c.args.ty.now in
    let p = err_from_is_err_and c.from_residual.result c.from_residual.ensures.1 in
    let fails = subst (λ l. Fails c.in_err-value.field-0.0 (one_value t l)) (from_place c.args.text.now c.args.at) c.in_err-value.ensures.value in
    rw (p.1, p.2) (only_memory c.in_err-value.field-0.0 t sound c.args.text.now c.args.at v end stands fails))

pub returns-in_err-value-clause-refused : goal.returns-in_err-value-clause-refused
returns-in_err-value-clause-refused c = λ sound bad v end stands.
    (let only = returns-in_err-value-clause-only c sound v end stands in
    let memory : BadValue ≡ NoMemory = rw bad at only in
    cc)

pub overflow_sub-result : goal.overflow_sub-result
overflow_sub-result c =
    omega (arith, c.in_ok-value.ensures.within, ap length (from_place c.args.text.now c.args.at), length-drop c.args.at c.args.text.now)

pub returns-clause-found : goal.returns-clause-found
returns-clause-found c =
    let t = plain_type c.args.ty.now in
    let e = ap (one_value t) (sym (from_place c.args.text.now c.args.at)) ∙ c.in_ok-value.ensures.value in
    stands_there t c.args.text.now c.args.at (plain_value c.in_ok-value.value) c.in_ok-value.rest.now c.requires e

pub returns-clause-only : goal.returns-clause-only
returns-clause-only c = λ sound v end stands.
    (let t = plain_type c.args.ty.now in
    let e = ap (one_value t) (sym (from_place c.args.text.now c.args.at)) ∙ c.in_ok-value.ensures.value in
    let same = same_there t sound c.args.text.now c.args.at v end stands (plain_value c.in_ok-value.value) c.in_ok-value.rest.now e in
    (same.0, same_end c.args.text.now end c.in_ok-value.rest.now stands.within same.1))
