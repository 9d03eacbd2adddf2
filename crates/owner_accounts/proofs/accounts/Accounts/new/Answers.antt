use Rattle.std.proofs.Common.{refl, sym, ap, subst}
use Rattle.owner_titles.specs.Meaning.{AreTitles}
use Rattle.owner_titles.specs.History.{History}
use Rattle.owner_titles.proofs.Follow.{first_titles}
use Rattle.pss_machine.specs.Kept.{first_kept}
use Rattle.owner_accounts.proofs.accounts.Accounts.new.Goals as goal

pub returns : goal.returns
returns c S M kept = record {
  catalog = kept;
  owners = c.new-2.ensures.owners;
  under = c.new-2.ensures.under S;
  titles = subst (λ m. AreTitles m (first_kept M c.args.next)) (sym c.new-3.ensures) (first_titles M c.args.next);
  next = refl;
  history = record { commits = ap (λ (h : History). h.commits) c.in_ok-history.ensures; recent = ap (λ (h : History). h.recent) c.in_ok-history.ensures };
}
