use Rattle.std.proofs.Common.{◌≡◌, Bool, true, false, refl, sym}
use Rattle.std.specs.Prelude.{not}
use Rattle.data_calls.proofs.telling.look.Goals as goal

is_true : (b : Bool) → not b ≡ false → b ≡ true
is_true true e = refl
is_true false e = absurd (cc)

pub returns : goal.returns
returns c k at = record {
  named = c.in_ok-acting.ensures k at;
  basic = is_true c.in_ok-acting.acting.basic c.if-not-acting.false;
  object = c.in_ok-shown.ensures.pid k at;
  member_is = sym c.in_ok-member.ensures;
  are = c.in_ok-shown.ensures.hold;
  values = c.in_ok-shown.shown.value.now;
  stands = c.in_ok-shown.ensures.value;
  has = sym c.in_ok-value.ensures;
}
