-- What a member of the program stands for.
use Rattle.type_layout.specs.declared.member.Member.{Member}
use Rattle.type_layout.specs.Types.{PlainMember}
use Rattle.type_layout.specs.Views.{plain_type}

abbrev pub plain_member : Member → PlainMember
plain_member m = record { name = m.name; type = plain_type m.ty; readonly = m.readonly }
