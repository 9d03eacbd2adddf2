use Rattle.std.proofs.Common.{rules, refl, subst}
use Rattle.pss_machine.specs.declared.command.Command.{Command}
use Rattle.pss_machine.specs.Deciding.{decision}
use Rattle.commit_saving.specs.Saving.{StoresNothing}
use Rattle.connector.specs.Storing.{IsInMemory}
use Rattle.connector.proofs.Performed.{performs}
use Rattle.connector.proofs.Storings.{checkpoint_saved, checkpoint_images, memory_saved, memory_images, memory_next}
use Rattle.connector.proofs.performing.perform.Goals as goal

pub returns-in-Commit-clause-comes : goal.returns-in-Commit-clause-comes
returns-in-Commit-clause-comes g c = performs c.args.parts.now c.commit.new.parts c.args.command.now _ c.commit.result c.in-Commit.is c.commit.ensures.comes

pub returns-in-Flush-clause-comes : goal.returns-in-Flush-clause-comes
returns-in-Flush-clause-comes g c = performs c.args.parts.now c.flush.new.parts c.args.command.now _ c.flush.result c.in-Flush.is c.flush.ensures.comes

pub returns-in-Commit-clause-still : goal.returns-in-Commit-clause-still
returns-in-Commit-clause-still g c other k at nothing = c.commit.ensures.still k at (subst (λ (x : Command). StoresNothing k (decision c.args.parts.now.schema c.args.parts.now.limits k x).effect) c.in-Commit.is nothing)

pub returns-in-Flush-clause-still : goal.returns-in-Flush-clause-still
returns-in-Flush-clause-still g c other k at nothing = c.flush.ensures.still k at (subst (λ (x : Command). StoresNothing k (decision c.args.parts.now.schema c.args.parts.now.limits k x).effect) c.in-Flush.is nothing)

pub returns-in-Ok-clause-saved : goal.returns-in-Ok-clause-saved
returns-in-Ok-clause-saved g c k at = checkpoint_saved c.args.parts.now c.args.command.now c.in-Checkpoint.is c.args.store.now c.checkpoint.new.self _ _ k c.in-Ok.ensures.told c.in-Ok.ensures.made

pub returns-in-Ok-clause-images : goal.returns-in-Ok-clause-images
returns-in-Ok-clause-images g c k at = checkpoint_images c.args.parts.now c.args.command.now c.args.store.now _ _ _ c.checkpoint.ensures.images k

pub returns-in-Err-clause-images : goal.returns-in-Err-clause-images
returns-in-Err-clause-images g c k at = checkpoint_images c.args.parts.now c.args.command.now c.args.store.now _ _ _ c.checkpoint.ensures.images k

pub returns-in-Ok-perform_in_memory : goal.returns-in-Ok-perform_in_memory
returns-in-Ok-perform_in_memory g c =
    let memory : IsInMemory c.args.command.now = search rules in
    record {
      comes = c.in-Ok-perform_in_memory.ensures;
      saved = λ k at. memory_saved c.args.parts.now c.args.command.now memory k c.args.store.now _;
      images = λ k at. memory_images c.args.parts.now c.args.command.now memory k c.args.store.now _ _;
      memory = tt;
      next = λ k at. memory_next c.args.parts.now c.args.command.now memory k c.args.store.now;
      still = λ other k at nothing. refl;
      emptied = search rules;
      settled = c.requires.settled;
      silent = search rules;
      cause = search rules;
    }
