use Rattle.std.proofs.Common.{◌≡◌, ◌++◌, drop}
use Rattle.script_text.specs.Replies.{each_word}
use Rattle.script_text.proofs.reply.append_words.Given as goal

abbrev pub invariant-loop-word : goal.invariant-loop-word
invariant-loop-word l = l.out ++ each_word (drop l.word-index l.words) ≡ l.initial.out ++ each_word l.words
