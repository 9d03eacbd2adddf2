use Rattle.std.proofs.Common.{eqb, inl, refl, sym, ◌∙◌}
use Rattle.indexmap.proofs.CallerLemmas.{insert_entry-new}
use Rattle.schema_names.proofs.Leading.{absent}
use Rattle.schema_names.proofs.provided.put.Goals as goal

pub returns-in_ok-insert : goal.returns-in_ok-insert
returns-in_ok-insert c =
    let new = absent (eqb c.args.hash) c.args.places.now.firsts.entries (sym c.contains_key.ensures ∙ c.if-contains_key.false) in
    inl (new, c.in_ok-insert.ensures.entries ∙ insert_entry-new eqb c.args.places.now.firsts c.args.hash c.args.place new, refl)
