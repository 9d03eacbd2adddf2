use Rattle.std.proofs.Common.{◌≡◌, ◌+◌, ◌<◌, ◌++◌, ◌∷◌, [], length, take, map, sym, ap, ◌∙◌, arith}
use Rattle.owner_titles.specs.History.{History}
use Rattle.owner_titles.specs.Telling.{told_text}
use Rattle.owner_titles.proofs.Telling.{one_spelled}
use Rattle.owner_titles.proofs.history.History.recent.Goals as goal
use Rattle.owner_titles.proofs.history.History.recent.Goals.{in-Some+in_ok-told_text+in_ok-push, in_default}

pub loop-at-preserved : goal.loop-at-preserved
loop-at-preserved c =
    let commits = c.self.inside.recent.items in
    let at = c.loop-at.at in
    let texts : map told_text commits ≡ c.args.self.now.recent = ap (λ (h : History). h.recent) c.self.view_is in
    let less : at < length commits = omega (arith, c.loop-at-test.true, c.len-at-end.ensures) in
    elim c.match-get.branch [
      | in-Some+in_ok-told_text+in_ok-push w ↦
          w.texts-is ∙ w.in_ok-push.ensures.ok ∙ (λ i. (c.loop-at.invariant ∙ ap (take at) (sym texts)) i ++ w.in_ok-told_text.ensures i ∷ []) ∙ one_spelled commits at w.in-Some.told.now less w.in-Some.ensures.lookup ∙ ap (take (at + 1)) texts
      | in_default w ↦ let past = w.in_default.ensures.item.3 in absurd (omega (arith, less, past))
    ]
