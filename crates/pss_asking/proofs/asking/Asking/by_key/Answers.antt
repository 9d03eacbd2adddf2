use Rattle.std.proofs.Common.{sym, subst, map}
use Rattle.type_layout.specs.Views.{plain_value, plain_values}
use Rattle.type_layout.specs.Keys.{key_members}
use Rattle.type_layout.specs.Values.{IsRecord}
use Rattle.pss_asking.proofs.Telling.{key_fits}
use Rattle.pss_asking.proofs.asking.Asking.by_key.Goals as goal

pub key_of_values-requires : goal.key_of_values-requires
key_of_values-requires c =
    let S = c.args.self.now.names.now in
    let fits = key_fits S c.in_ok-key.key c.args.values.now (plain_values c.in_ok-values.values) c.in_ok-values.ensures in
    subst (λ T. IsRecord (key_members T c.in_ok-key.key) (map plain_value c.as_slice.result.now)) (sym c.schema.ensures) (subst (IsRecord (key_members S c.in_ok-key.key)) (sym c.as_slice.ensures) fits)
