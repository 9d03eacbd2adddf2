use Rattle.pss_machine.specs.declared.command.Command.TheVariants as command
use Rattle.connector.proofs.InMemory.{in_memory_nothing}
use Rattle.connector.proofs.laws.gets_store_nothing.Goals as goal

pub returns : goal.returns
returns c S limits k s entry member =
    let nothing = in_memory_nothing S limits k (command.Get s entry member) tt in
    record { catalog = nothing.catalog; saved = nothing.saved }
