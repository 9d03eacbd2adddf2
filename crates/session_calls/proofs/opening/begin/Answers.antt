use Rattle.std.proofs.Common.{List, ℕ, ◌≡◌, false, refl, sym, ap, ◌∙◌, subst}
use Rattle.std.specs.Prelude.{nat_le}
use Rattle.pss_machine.specs.declared.level.Level.{Level}
use Rattle.pss_machine.specs.Owners.{is_basic}
use Rattle.pss_machine.specs.Kept.{is_in_use, transaction_named, transaction_count}
use Rattle.pss_machine.specs.Moving.{with_owner}
use Rattle.owner_accounts.specs.Accounts.{AreAccounts}
use Rattle.connector_parts.proofs.Bounds.{owners_left}
use Rattle.session_calls.proofs.Comings.{unused, is_level, begins, not_le}
use Rattle.session_calls.proofs.opening.begin.Goals as goal

pub begin-requires : goal.begin-requires
begin-requires c = record {
  come = record { schema = c.args.parts.now.schema; kept = c.requires.kept; are = c.requires.at.stands.accounts; number = owners_left c.args.parts.now c.requires.kept c.requires.at };
  level_is = ap is_basic c.level_of.ensures ∙ is_level c.args.serializable;
  free =
      ap (transaction_named c.requires.kept) c.in_ok-to_bytes.ensures
      ∙ (unused c.requires.kept c.args.name.now (ap (is_in_use c.requires.kept) (sym c.as_slice.ensures) ∙ sym (c.is_in_use.ensures c.requires.kept c.requires.at.stands) ∙ c.if-is_in_use.false)).1;
}

pub returns : goal.returns
returns c k at =
    let free : is_in_use k c.args.name.now ≡ false = ap (is_in_use k) (sym c.as_slice.ensures) ∙ sym (c.is_in_use.ensures k at.stands) ∙ c.if-is_in_use.false in
    let counted : c.transactions.result ≡ transaction_count k = c.transactions.ensures.machine k (c.titles.ensures c.args.parts.now.schema k at.stands.accounts) in
    let few : nat_le c.args.parts.now.limits.transactions (transaction_count k) ≡ false = ap (nat_le c.args.parts.now.limits.transactions) (sym counted) ∙ not_le c.transactions.result c.args.parts.now.limits.transactions c.if-transactions-parts.false in
    let accounts = c.in_ok-begin.ensures.begun c.args.parts.now.schema k at.stands.accounts in
    begins c.args.parts.now _ k at refl refl refl c.args.name.now c.args.serializable free few
    (subst (λ (l : Level). AreAccounts c.args.parts.now.schema c.begin.new.self (with_owner k c.args.name.now l)) c.level_of.ensures (subst (λ (n : List ℕ). AreAccounts c.args.parts.now.schema c.begin.new.self (with_owner k n c.level_of.result)) c.in_ok-to_bytes.ensures accounts))
