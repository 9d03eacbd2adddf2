use Rattle.std.proofs.Common.{◌≡◌, ◌++◌, drop, map}
use Rattle.script_text.specs.Replies.{each_number}
use Rattle.script_text.proofs.reply.append_numbers.Given as goal

abbrev pub invariant-loop-word : goal.invariant-loop-word
invariant-loop-word l =
    l.out ++ each_number (map (λ count. (count.0.now, count.1)) (drop l.word-index l.counts)) ≡ l.initial.out ++ each_number (map (λ count. (count.0.now, count.1)) l.counts)
