-- Values that are given for members.
use Rattle.std.specs.Prelude.{ℕ, List, Option, Result, Ok, ok_or, slice_set}
use Rattle.type_layout.specs.declared.home.HomeNo.{HomeNo}
use Rattle.type_layout.specs.declared.schema.Factory.{Factory}
use Rattle.type_layout.specs.declared.schema.Schema.{Schema}
use Rattle.type_layout.specs.Keys.{chosen}
use Rattle.type_layout.specs.Schemas.{given, members_at}
use Rattle.type_layout.specs.Types.{PlainValue}
use Rattle.pss_machine.specs.declared.command.Rest.{Rest}
use Rattle.pss_machine.specs.declared.reply.Reply.{Reply}
use Rattle.pss_machine.specs.declared.reply.Reply.TheVariants as reply
use Rattle.pss_machine.specs.Asking.{Asked, ◌>>=◌, as_writer, obtaining, read_values}
use Rattle.pss_machine.specs.Operations.{Create}
use Rattle.pss_machine.specs.Sessions.{Session}
use Rattle.pss_machine.specs.Values.{types_of, made_of}

-- the member with a number has the value, where one is given
abbrev pub put_in : List PlainValue → ℕ → Option PlainValue → List PlainValue
put_in values number value = given value values (slice_set values number)

-- the numbers of the members that the caller of a factory gives
abbrev pub members_given : Option Factory → Result (List ℕ) Reply
members_given factory = ok_or factory reply.NoFactory >>= λ f. Ok f.members

-- an object with values for the members with these numbers
abbrev pub making_of : Schema → ℕ → Session → HomeNo → List ℕ → Rest → Result Asked Reply
making_of S next session h numbers rest =
    read_values (types_of (chosen (members_at S h) numbers)) rest
    >>= λ vs. as_writer session (Ok (obtaining (Create next (record { home = h; values = made_of (members_at S h) numbers vs }))))
