use Rattle.std.proofs.Common.{◌≡◌, ◌+◌, ◌∙◌, length, take, position, cond, Some, None, ap, arith, length-take-le, rules}
use Rattle.std.specs.Option.{option_map, option_or}
use Rattle.std.specs.Str.{bytes_eq}
use Rattle.type_layout.specs.declared.schema.Home.{Home}
use Rattle.schema_names.specs.Found.{home_called}
use Rattle.schema_names.proofs.Finding.{next, position-push, made}
use Rattle.schema_names.proofs.roots.homes_by_name.Goals as goal

pub loop-i-preserved : goal.loop-i-preserved
loop-i-preserved c =
    let home = c.index-homes-i.result in
    let front = take c.loop-i.i c.args.homes.now in
    let here : length front ≡ c.loop-i.i = length-take-le c.loop-i.i c.args.homes.now (omega (arith, c.loop-i-test.true)) in
    next (λ (home : Home). home.name) home_called _ _ c.args.homes.now c.loop-i.i home c.as_slice.result.now (record { 0 = c.loop-i.i + 1 }) c.loop-i-test.true (search rules) (search rules)
    (λ q. ap (option_map (λ n. record { 0 = n + 1 })) (position-push (λ (h : Home). bytes_eq q h.name) front home) ∙ made (λ n. record { 0 = n + 1 }) (position (λ (h : Home). bytes_eq q h.name) front) (bytes_eq q home.name) (length front)
    ∙ ap (λ n. option_or (home_called front q) (cond (bytes_eq q home.name) (Some (record { 0 = n + 1 })) None)) here)
    c.loop-i.invariant c.in_ok-enter.ensures
