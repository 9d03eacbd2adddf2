use Rattle.std.proofs.Common.{Some, refl, sym, ap, ◌∙◌, subst}
use Rattle.std.specs.Map.{lookup}
use Rattle.indexmap.specs.IndexMap.{with_value_at}
use Rattle.recent_table.specs.Turned.{IsTurned}
use Rattle.recent_table.proofs.Standing.{turned, value_is, never_there}
use Rattle.recent_table.proofs.table.RecentTable.get_mut.Goals as goal

pub returns-in-Some : goal.returns-in-Some
returns-in-Some g c =
    let eq = g.K.PartialEq.eq in
    let table = c.self.inside.table in
    let place = c.in-Some.place in
    let key = c.args.key in
    let turned_to = turned eq g.met.K.Eq.laws table place key c.in-Some.ensures.some c.get_index_mut.ensures.unique in
    let value_there = value_is eq g.met.K.Eq.laws table place key c.in-Some.ensures.some in (
      (refl, λ w _. subst (λ old. IsTurned eq old (with_value_at table place w).entries key (Some w)) c.self.view_is (turned_to w), c.self.view_is),
      record { writes_back = tt; value = c.get_index_mut.ensures.value ∙ value_there ∙ ap (lookup (eq key)) c.self.view_is },
    )

pub returns-in-None : goal.returns-in-None
returns-in-None g c =
    let none = sym c.in-None.ensures.none ∙ ap (lookup (g.K.PartialEq.eq c.args.key)) c.self.view_is in (
      (refl, λ w some. never_there none some, c.self.view_is),
      record { writes_back = tt; value = none },
    )
