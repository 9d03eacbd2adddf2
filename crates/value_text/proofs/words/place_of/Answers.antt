use Rattle.std.proofs.Common.{◌∙◌, sym}
use Rattle.value_text.proofs.Places.{place_is}
use Rattle.value_text.proofs.words.place_of.Goals as goal

pub returns : goal.returns
returns c = c.place.ensures ∙ sym (place_is c.args.names.now c.args.word.now)
