use Rattle.std.proofs.Common.{◌≡◌, drop}
use Rattle.std.specs.List.{find}
use Rattle.std.specs.Str.{bytes_eq}
use Rattle.psdl_tokens.specs.Spellings.{keyword_spelling}
use Rattle.psdl_tokens.proofs.spelling.keyword_among.Given as goal

abbrev pub invariant-loop-keyword : goal.invariant-loop-keyword
invariant-loop-keyword l =
    find (λ keyword. bytes_eq l.word (keyword_spelling keyword)) (drop l.keyword-index l.table)
    ≡ find (λ keyword. bytes_eq l.word (keyword_spelling keyword)) l.table
