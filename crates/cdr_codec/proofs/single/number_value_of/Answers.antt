use Rattle.std.proofs.Common.{subst, sym, ◌∙◌, arith}
use Rattle.std.proofs.lemmas.Result.{err_from_is_err_and}
use Rattle.type_layout.specs.Views.{plain_type, plain_value}
use Rattle.cdr_codec.specs.Reading.{Fails, found_at}
use Rattle.cdr_codec.specs.Widths.{octets_in}
use Rattle.cdr_codec.proofs.NumberValues.{number_reads, number_takes, number_is, value_gives, value_fails, found_fails, took_one}
use Rattle.cdr_codec.proofs.single.number_value_of.Goals as goal

pub value_from-requires : goal.value_from-requires
value_from-requires g c = number_is (plain_type c.args.ty.now) c.args.width c.requires.width c.in_ok-found.found.number c.in_ok-found.ensures.small

pub returns-in_err-found-clause-given : goal.returns-in_err-found-clause-given
returns-in_err-found-clause-given g c =
    let p = err_from_is_err_and c.from_residual.result c.from_residual.ensures.1 in
    let t = plain_type c.args.ty.now in
    rw (p.1, p.2) (subst (Fails c.in_err-found.field-0.0) (sym (number_reads t c.args.width c.requires.width c.args.bytes.now c.args.at)) (found_fails t c.in_err-found.field-0.0 (found_at (octets_in c.args.width) c.args.bytes.now c.args.at) c.in_err-found.ensures.given))

pub returns-in_err-found-clause-taken : goal.returns-in_err-found-clause-taken
returns-in_err-found-clause-taken g c =
    let p = err_from_is_err_and c.from_residual.result c.from_residual.ensures.1 in
    rw (p.1, p.2) (took_one c.in_err-found.field-0.0 c.args.steps.now c.number_of.new.steps _ c.number_of.ensures.steps (number_takes (plain_type c.args.ty.now) c.args.width c.requires.width c.args.bytes.now c.args.at))

pub returns-in_err-value-clause-given : goal.returns-in_err-value-clause-given
returns-in_err-value-clause-given g c =
    let p = err_from_is_err_and c.from_residual-in_err-value.result c.from_residual-in_err-value.ensures.1 in
    let t = plain_type c.args.ty.now in
    rw (p.1, p.2) (subst (Fails c.in_err-value.field-0.0) (sym (number_reads t c.args.width c.requires.width c.args.bytes.now c.args.at)) (value_fails t c.in_err-value.field-0.0 (found_at (octets_in c.args.width) c.args.bytes.now c.args.at) c.in_ok-found.found c.in_ok-found.ensures.given c.in_err-value.ensures))

pub returns-in_err-value-clause-taken : goal.returns-in_err-value-clause-taken
returns-in_err-value-clause-taken g c =
    let p = err_from_is_err_and c.from_residual-in_err-value.result c.from_residual-in_err-value.ensures.1 in
    rw (p.1, p.2) (took_one c.in_err-value.field-0.0 c.args.steps.now c.number_of.new.steps _ c.number_of.ensures.steps (number_takes (plain_type c.args.ty.now) c.args.width c.requires.width c.args.bytes.now c.args.at))

pub returns-clause-given : goal.returns-clause-given
returns-clause-given g c =
    let t = plain_type c.args.ty.now in
    number_reads t c.args.width c.requires.width c.args.bytes.now c.args.at ∙ value_gives t (found_at (octets_in c.args.width) c.args.bytes.now c.args.at) c.in_ok-found.found (plain_value c.in_ok-value.value) c.in_ok-found.ensures.given c.in_ok-value.ensures

pub returns-clause-taken : goal.returns-clause-taken
returns-clause-taken g c = (let one = number_takes (plain_type c.args.ty.now) c.args.width c.requires.width c.args.bytes.now c.args.at in omega (arith, one, c.number_of.ensures.steps))
