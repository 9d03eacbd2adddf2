use Rattle.cdr_codec.proofs.member.read_member.Given as goal

abbrev pub ghosts-value_at_place : goal.ghosts-value_at_place
ghosts-value_at_place a = record { name = a.blank.name; parts = a.blank.parts }
