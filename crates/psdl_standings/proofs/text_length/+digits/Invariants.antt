use Rattle.psdl_standings.proofs.text_length.+digits.Given as goal

abbrev pub decreases-digits : goal.decreases-digits
decreases-digits l = l.number
