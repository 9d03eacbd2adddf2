use Rattle.std.proofs.Common.{ℕ, ◌≡◌, ◌==◌, ◌∙◌, ◌+◌, ◌++◌, ◌∷◌, ◌||◌, [], Bool, List, None, cond, false, get_or, take, ap, sym, rules}
use Rattle.std.specs.declared.option.Option.{Option}
use Rattle.pss_base.specs.declared.put.Put.{Put}
use Rattle.page_store.specs.Placed.{is_noted, slot_under}
use Rattle.page_store.specs.Touched.{is_in, is_touched, under_serials}
use Rattle.page_store.proofs.Touching.{noted_more, touched_more}
use Rattle.page_store.proofs.Turned.{take_more}
use Rattle.page_store.proofs.parting.mark_places.Goals as goal

pub loop-put-preserved : goal.loop-put-preserved
loop-put-preserved c =
    let put : Put = c.put-item.result in
    let noted = c.args.noted.now in
    let i = c.loop-put.put-index in
    let old = c.args.places.now.entries in
    let more : take (i + 1) noted ≡ take i noted ++ put ∷ [] = take_more noted i put c.loop-put-test.true ∙ ap (λ (p : Put). take i noted ++ p ∷ []) (sym c.put-item.is) in
    record {
      len = search rules;
      marked = λ s lt.
          c.mark_place.ensures.marked s lt ∙ ap (λ (m : Bool). is_in s (slot_under put.serial c.loop-put.places.entries) || m) (c.loop-put.invariant.marked s lt)
          ∙ touched_more old (take i noted) put s (slot_under put.serial c.loop-put.places.entries) (get_or c.args.marks.now s false) (c.loop-put.invariant.places put.serial)
          ∙ ap (λ (ps : List Put). is_touched (under_serials old) ps s || get_or c.args.marks.now s false) (sym more);
      places = λ q.
          c.mark_place.ensures.places q ∙ ap (λ (o : Option ℕ). cond (put.serial == q) None o) (c.loop-put.invariant.places q) ∙ noted_more (take i noted) put q (slot_under q old)
          ∙ ap (λ (ps : List Put). cond (is_noted q ps) None (slot_under q old)) (sym more);
    }
