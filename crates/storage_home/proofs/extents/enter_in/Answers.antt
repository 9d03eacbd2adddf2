use Rattle.std.proofs.Common.{ℕ, true, ap, arith}
use Rattle.std.specs.BTreeMap.{BTreeMap}
use Rattle.std.proofs.lemmas.Result.{on_ok_weaker, on_err_weaker}
use Rattle.storage_home.specs.declared.extents.Block.{Block}
use Rattle.storage_home.specs.Blocks.{Blocks}
use Rattle.storage_home.specs.Extents.{is_held_at, is_entered_at}
use Rattle.storage_home.proofs.Entering.{home_turned, home_kept}
use Rattle.storage_home.proofs.extents.enter_in.Goals as goal

pub returns-clause-held : goal.returns-clause-held
returns-clause-held c =
    home_kept (λ (e : BTreeMap ℕ Block) s. is_held_at s e.entries) c.args.extents.now c.args.home.0 (omega (arith, c.requires.some)) c.requires.there c.index-extents-home.result c.enter.new.extent c.enter.ensures.held

pub returns-clause-ok : goal.returns-clause-ok
returns-clause-ok c =
    on_ok_weaker c.enter.result
    (λ turns. home_turned (λ (e : BTreeMap ℕ Block) s. is_entered_at s e.entries) c.args.extents.now c.args.home.0 (omega (arith, c.requires.some)) c.requires.there c.index-extents-home.result c.enter.new.extent c.args.serial true turns)
    c.enter.ensures.ok

pub returns-clause-err : goal.returns-clause-err
returns-clause-err c =
    on_err_weaker c.enter.result
    (λ same. home_kept (λ (e : BTreeMap ℕ Block) s. is_entered_at s e.entries) c.args.extents.now c.args.home.0 (omega (arith, c.requires.some)) c.requires.there c.index-extents-home.result c.enter.new.extent (λ s. ap (λ (l : Blocks). is_entered_at s l) same))
    c.enter.ensures.err
