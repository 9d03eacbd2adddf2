use Rattle.cdr_codec.proofs.decoding.decode.Given as goal

abbrev pub ghosts-decode_from : goal.ghosts-decode_from
ghosts-decode_from a = record { name = a.blank.name; parts = a.blank.parts }
