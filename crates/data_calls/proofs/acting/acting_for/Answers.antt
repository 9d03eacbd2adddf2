use Rattle.std.proofs.Common.{◌≡◌, Option, None, refl, ap, sym, ◌∙◌, subst}
use Rattle.std.specs.Prelude.{MatchOption}
use Rattle.pss_machine.specs.Sessions.{acts_for, active_in}
use Rattle.data_calls.specs.declared.acting.Acting.{Acting}
use Rattle.data_calls.specs.Acting.{ActsFor}
use Rattle.data_calls.proofs.Actors.{basic_acts, other_acts, basic_is, other_is}
use Rattle.data_calls.proofs.acting.acting_for.Goals as goal

pub returns-in-Basic : goal.returns-in-Basic
returns-in-Basic c session kind association = record {
  number = refl;
  access_is = refl;
  acts = basic_acts session c.in-Basic.owner (kind ∙ c.in-Basic.is);
  basic_is = basic_is session c.in-Basic.owner (kind ∙ c.in-Basic.is);
}

pub returns-in_err-owner-in-Transactional : goal.returns-in_err-owner-in-Transactional
returns-in_err-owner-in-Transactional c session kind association =
    subst (λ (o : Option Acting). MatchOption o (acts_for session ≡ None) (ActsFor session c.args.found)) (sym c.from_residual.ensures)
    (other_acts session (kind ∙ c.in-Transactional.is) ∙ ap active_in association ∙ sym c.in_err-owner-in-Transactional.ensures)

pub returns-in_ok-owner-in-Transactional : goal.returns-in_ok-owner-in-Transactional
returns-in_ok-owner-in-Transactional c session kind association = record {
  number = refl;
  access_is = refl;
  acts = other_acts session (kind ∙ c.in-Transactional.is) ∙ ap active_in association ∙ sym c.in_ok-owner-in-Transactional.ensures;
  basic_is = other_is session (kind ∙ c.in-Transactional.is);
}
