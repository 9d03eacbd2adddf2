use Rattle.std.proofs.Common.{◌≡◌, ℕ, true, take}
use Rattle.psdl_check.specs.inner.Lists.{is_held}
use Rattle.psdl_check.specs.inner.Masks.{AreGroups}
use Rattle.psdl_check.specs.inner.Referring.{AreTrue, refer_to}
use Rattle.psdl_check.specs.inner.Texts.{text_in}
use Rattle.psdl_check.proofs.referents.Referents.new.Given as goal

abbrev pub invariant-loop-member : goal.invariant-loop-member
invariant-loop-member l =
    record {
      groups : AreGroups (text_in l.text) l.heirs;
      right : AreTrue (text_in l.text) l.referents;
      held : (n : ℕ) → refer_to (take l.member-index l.members) n ≡ true → is_held l.referents n ≡ true;
    }
