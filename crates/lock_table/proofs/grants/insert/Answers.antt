use Rattle.std.proofs.Common.{IsSome, refl, sym, ap, ◌∙◌, subst, ◌+◌, arith}
use Rattle.std.specs.Option.{option_map}
use Rattle.std.specs.FinMap as map
use Rattle.link_pool.specs.Meaning.{inserted}
use Rattle.lock_table.proofs.Linking.{link_linked, link_links, room_to_count}
use Rattle.lock_table.proofs.grants.insert.Goals as goal

pub insert_reserved-requires-clause-row : goal.insert_reserved-requires-clause-row
insert_reserved-requires-clause-row c = subst (λ p. IsSome (map.get p.rows c.args.at.found.place.row)) (sym (c.count_up.ensures c.args.lock.resource c.requires.at.found).pool) (c.requires.linked.rows.there c.args.lock.resource c.args.at.found.place.row (ap (option_map (λ place. place.row)) c.requires.at.found.place))

pub insert_reserved-requires-clause-col : goal.insert_reserved-requires-clause-col
insert_reserved-requires-clause-col c = subst (λ p. IsSome (map.get p.cols c.args.at.col)) (sym (c.count_up.ensures c.args.lock.resource c.requires.at.found).pool) (c.requires.linked.cols.there c.args.lock.owner c.args.at.col c.requires.at.col)

pub overflow_add-links : goal.overflow_add-links
overflow_add-links c =
    omega (
      arith,
      room_to_count c.count_up.new.links.pool c.insert_reserved.new.self c.insert_reserved.result (record { row = c.args.at.found.place.row; col = c.args.at.col; item = c.args.lock }) c.count_up.new.links.held
          ((c.count_up.ensures c.args.lock.resource c.requires.at.found).held ∙ c.requires.linked.held ∙ ap (λ p. map.len p.nodes) (sym (c.count_up.ensures c.args.lock.resource c.requires.at.found).pool)) c.insert_reserved.ensures.new c.insert_reserved.ensures.inserted c.rings_hold.ensures.counted,
    )

pub returns-clause-linked : goal.returns-clause-linked
returns-clause-linked c =
    link_linked c.args.links.now c.count_up.new.links (record c.count_up.new.links { pool = c.insert_reserved.new.self; held = c.count_up.new.links.held + 1 }) c.requires.linked c.args.lock
    c.args.at.found.place.row c.args.at.col c.insert_reserved.result (ap (option_map (λ place. place.row)) c.requires.at.found.place) c.requires.at.col (c.count_up.ensures c.args.lock.resource c.requires.at.found) c.requires.new
    (ap (λ p. map.get p.nodes c.insert_reserved.result) (sym (c.count_up.ensures c.args.lock.resource c.requires.at.found).pool) ∙ c.insert_reserved.ensures.new)
    (c.insert_reserved.ensures.inserted ∙ ap (λ p. inserted p c.insert_reserved.result (record { row = c.args.at.found.place.row; col = c.args.at.col; item = c.args.lock })) (c.count_up.ensures c.args.lock.resource c.requires.at.found).pool)
    refl (c.count_up.ensures c.args.lock.resource c.requires.at.found).columns (ap (λ n. n + 1) (c.count_up.ensures c.args.lock.resource c.requires.at.found).held) c.rings_hold.ensures.rings c.rings_hold.ensures.counted

pub returns-clause-links : goal.returns-clause-links
returns-clause-links c =
    link_links c.args.links.now c.count_up.new.links (record c.count_up.new.links { pool = c.insert_reserved.new.self; held = c.count_up.new.links.held + 1 }) c.requires.linked c.args.lock
    c.args.at.found.place.row c.args.at.col c.insert_reserved.result (ap (option_map (λ place. place.row)) c.requires.at.found.place) c.requires.at.col (c.count_up.ensures c.args.lock.resource c.requires.at.found) c.requires.new
    (ap (λ p. map.get p.nodes c.insert_reserved.result) (sym (c.count_up.ensures c.args.lock.resource c.requires.at.found).pool) ∙ c.insert_reserved.ensures.new)
    (c.insert_reserved.ensures.inserted ∙ ap (λ p. inserted p c.insert_reserved.result (record { row = c.args.at.found.place.row; col = c.args.at.col; item = c.args.lock })) (c.count_up.ensures c.args.lock.resource c.requires.at.found).pool)
    refl (c.count_up.ensures c.args.lock.resource c.requires.at.found).columns (ap (λ n. n + 1) (c.count_up.ensures c.args.lock.resource c.requires.at.found).held) c.rings_hold.ensures.rings c.rings_hold.ensures.counted
