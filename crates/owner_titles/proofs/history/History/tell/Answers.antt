use Rattle.std.proofs.Common.{◌+◌, map, ap, ◌∙◌}
use Rattle.owner_titles.specs.History.{History, told}
use Rattle.owner_titles.specs.Telling.{told_text}
use Rattle.owner_titles.proofs.Telling.{one_told}
use Rattle.owner_titles.proofs.history.History.tell.Goals as goal

pub returns : goal.returns
returns c =
    let text = told_text c.args.commit in
    (λ i. record { commits = c.self.inside.commits + 1; recent = (ap (map told_text) c.push_last.ensures.last ∙ one_told c.self.inside.recent.items c.args.commit) i }) ∙ ap (λ (h : History). told h text) c.self.view_is
