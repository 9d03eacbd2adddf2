use Rattle.std.proofs.Common.{◌≡◌, List, length, set, ap, sym, subst, ◌∙◌, arith}
use Rattle.type_layout.specs.Types.{PlainValue}
use Rattle.type_layout.specs.Views.{plain_value}
use Rattle.owner_view.specs.Seen.{Fits}
use Rattle.owner_view.proofs.Showing.{as_many}
use Rattle.owner_view.proofs.Setting.{member_there, set_fits, set_made}
use Rattle.owner_view.proofs.set.changed.Goals as goal

pub put_value-requires : goal.put_value-requires
put_value-requires c =
    let s = c.requires.shown in
    let many = as_many c.args.schema.now s.object s.fits in
    let same : length c.in_ok-values.values ≡ length s.object.values = ap length (c.in_ok-values.ensures s) in
    let within = member_there c.args.schema.now c.args.setting.now.pid c.args.setting.now.member (plain_value c.args.setting.now.value.now) c.requires.fits c.args.seen c.requires.home s in
    omega (arith, many, same, within)

pub sized-requires : goal.sized-requires
sized-requires c =
    let s = c.requires.shown in
    let S = c.args.schema.now in
    let value = plain_value c.args.setting.now.value.now in
    let values : c.put_value.new.values ≡ set s.object.values c.args.setting.now.member value = c.in_ok-put_value.ensures ∙ ap (λ (vs : List PlainValue). set vs c.args.setting.now.member value) (c.in_ok-values.ensures s) in
    subst (Fits S) (sym (set_made S c.args.setting.now.pid c.args.setting.now.member value c.requires.fits c.args.seen c.requires.home s c.home_of.result c.put_value.new.values c.home_of.ensures values))
    (set_fits S c.args.setting.now.pid c.args.setting.now.member value c.requires.fits c.args.seen c.requires.home s)

pub returns-clause-object : goal.returns-clause-object
returns-clause-object c s =
    let value = plain_value c.args.setting.now.value.now in
    let values : c.put_value.new.values ≡ set s.object.values c.args.setting.now.member value = c.in_ok-put_value.ensures ∙ ap (λ (vs : List PlainValue). set vs c.args.setting.now.member value) (c.in_ok-values.ensures s) in
    c.sized.ensures.object ∙ set_made c.args.schema.now c.args.setting.now.pid c.args.setting.now.member value c.requires.fits c.args.seen c.requires.home s c.home_of.result c.put_value.new.values c.home_of.ensures values
