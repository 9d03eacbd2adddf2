use Rattle.std.proofs.Common.{◌-◌, length, drop, length-drop, ap, sym, ◌∙◌, arith}
use Rattle.std.proofs.lemmas.List.{length-take}
use Rattle.psdl_tokens.specs.declared.lexeme.Lexeme.TheVariants.{Gap, Found}
use Rattle.psdl_tokens.proofs.Lexing.{lexed_start, lexed_gap, lexed_token}
use Rattle.psdl_tokens.proofs.lexis.scan.Goals as goal
use Rattle.psdl_tokens.proofs.lexis.scan.Goals.{in-Gap, in-Found+in_ok-push-in-Found}

pub loop-place-init : goal.loop-place-init
loop-place-init c = rw c.new-tokens.ensures.items (lexed_start c.args.text.now)

pub loop-place-preserved : goal.loop-place-preserved
loop-place-preserved c =
    let text = c.args.text.now in
    let at = c.loop-place.place.offset in
    elim c.match-branch-2.branch [
      | in-Gap w ↦
          let sized = rw w.in-Gap.is at c.in_ok-size.ensures.size in
          rw w.tokens-is
          (lexed_gap text c.loop-place.tokens.items c.loop-place.place c.place_behind-place.result c.match-branch-2.size
          c.loop-place.invariant c.loop-place-test.true (ap Gap w.size-is ∙ sym w.in-Gap.is ∙ c.in_ok-size.ensures.lexeme)
          (omega (arith, sized)) (omega (arith, sized, length-take (length text - at) (drop at text), length-drop at text)) c.place_behind-place.ensures)
      | in-Found+in_ok-push-in-Found w ↦
          let sized = rw w.in-Found.is at c.in_ok-size.ensures.size in
          rw (w.tokens-is, w.in_ok-push-in-Found.ensures.items)
          (lexed_token text c.loop-place.tokens.items c.loop-place.place c.place_behind-place.result w.in-Found.kind c.match-branch-2.size
          c.loop-place.invariant c.loop-place-test.true (ap (Found w.in-Found.kind) w.size-is ∙ sym w.in-Found.is ∙ c.in_ok-size.ensures.lexeme)
          (omega (arith, sized)) (omega (arith, sized, length-take (length text - at) (drop at text), length-drop at text)) c.place_behind-place.ensures)
    ]
