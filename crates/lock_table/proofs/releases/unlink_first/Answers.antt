use Rattle.std.proofs.Common.{refl, sym, ◌∙◌, ◌-◌}
use Rattle.link_pool.specs.Meaning.{row_and_item}
use Rattle.link_pool.proofs.RingChanges.{takes_first, takes_nothing}
use Rattle.lock_table.proofs.Unlinking.{took_place, took_some, took_linked, took_unlinks, took_nothing}
use Rattle.lock_table.proofs.releases.unlink_first.Goals as goal

pub returns-in_err-lock-clause-unlinks : goal.returns-in_err-lock-clause-unlinks
returns-in_err-lock-clause-unlinks g c =
    took_nothing c.args.links.now c.take_first_of_col.new.self c.args.col c.from_residual.result c.from_residual.ensures c.requires.col
    (takes_nothing c.args.links.now.pool c.take_first_of_col.new.self c.args.links.now.pool.cols c.args.col (λ s. s.col) row_and_item c.requires.linked.rings.cols c.take_first_of_col.ensures.unlinked (sym c.in_err-lock.was ∙ c.take_first_of_col.ensures.answer))

pub count_down-left-requires : goal.count_down-left-requires
count_down-left-requires g c =
    took_place c.args.links.now (record c.args.links.now { pool = c.take_first_of_col.new.self }) c.requires.linked c.args.col c.in_ok-lock.field-0-0 c.in_ok-lock.lock
    (takes_first c.args.links.now.pool c.take_first_of_col.new.self c.args.links.now.pool.cols c.args.col (λ s. s.col) row_and_item c.requires.linked.rings.cols c.take_first_of_col.ensures.unlinked (c.in_ok-lock.field-0-0, c.in_ok-lock.lock) (sym c.in_ok-lock.was ∙ c.take_first_of_col.ensures.answer))
    refl refl refl

pub overflow_sub-links : goal.overflow_sub-links
overflow_sub-links g c =
    took_some c.args.links.now (record c.args.links.now { pool = c.take_first_of_col.new.self }) c.requires.linked c.args.col c.in_ok-lock.field-0-0 c.in_ok-lock.lock
    (takes_first c.args.links.now.pool c.take_first_of_col.new.self c.args.links.now.pool.cols c.args.col (λ s. s.col) row_and_item c.requires.linked.rings.cols c.take_first_of_col.ensures.unlinked (c.in_ok-lock.field-0-0, c.in_ok-lock.lock) (sym c.in_ok-lock.was ∙ c.take_first_of_col.ensures.answer))
    refl refl refl c.count_down-left.new.links c.args.links.now c.count_down-left.result c.count_down-left.ensures.recounts c.count_down-left.ensures.found

pub returns-clause-linked : goal.returns-clause-linked
returns-clause-linked g c =
    took_linked c.args.links.now (record c.args.links.now { pool = c.take_first_of_col.new.self }) c.requires.linked c.args.col c.in_ok-lock.field-0-0 c.in_ok-lock.lock
    (takes_first c.args.links.now.pool c.take_first_of_col.new.self c.args.links.now.pool.cols c.args.col (λ s. s.col) row_and_item c.requires.linked.rings.cols c.take_first_of_col.ensures.unlinked (c.in_ok-lock.field-0-0, c.in_ok-lock.lock) (sym c.in_ok-lock.was ∙ c.take_first_of_col.ensures.answer))
    refl refl refl c.count_down-left.new.links (record c.count_down-left.new.links { held = c.count_down-left.new.links.held - 1 }) c.count_down-left.result c.count_down-left.ensures.recounts c.count_down-left.ensures.found
    refl refl refl refl c.take_first_of_col.ensures.rings

pub returns-clause-unlinks : goal.returns-clause-unlinks
returns-clause-unlinks g c =
    took_unlinks c.args.links.now (record c.args.links.now { pool = c.take_first_of_col.new.self }) c.requires.linked c.args.col c.in_ok-lock.field-0-0 c.in_ok-lock.lock
    (takes_first c.args.links.now.pool c.take_first_of_col.new.self c.args.links.now.pool.cols c.args.col (λ s. s.col) row_and_item c.requires.linked.rings.cols c.take_first_of_col.ensures.unlinked (c.in_ok-lock.field-0-0, c.in_ok-lock.lock) (sym c.in_ok-lock.was ∙ c.take_first_of_col.ensures.answer))
    refl refl refl c.count_down-left.new.links (record c.count_down-left.new.links { held = c.count_down-left.new.links.held - 1 }) c.count_down-left.result c.count_down-left.ensures.recounts c.count_down-left.ensures.found
    refl refl refl refl c.take_first_of_col.ensures.rings
