use Rattle.std.proofs.Common.{◌≡◌, ◌+◌, ℕ, Err, arith, get_or, subst, take}
use Rattle.page_format.specs.inner.Gathering.{AreGatheredOf, AreRowsSoFar}
use Rattle.page_format.proofs.Growing.{bad_next, next_page, page_refused}
use Rattle.page_format.proofs.Runs.{page_of_run}
use Rattle.page_format.proofs.gathering.add_pages.Goals as goal

pub returns-in-Err-clause-refused : goal.returns-in-Err-clause-refused
returns-in-Err-clause-refused c = λ image copy before.
    let slots = c.args.ahead.now.slots.now in
    let i = c.pages.i in
    let k = c.args.ahead.now.k in
    let old = c.pages.gathered in
    page_refused {T = Unit {0}} (Err c.in-Err.fault) c.args.ahead.now.next slots image
    (λ at what same.
    bad_next c.args.ahead.now.next image slots (k + i) old.places.entries old.rows old.small at what (omega (arith, c.requires.within, c.pages-test.true)) (c.pages.invariant.gathered image copy before)
    (c.in-Err.ensures.damaged image (page_of_run (get_or slots k 0) (get_or slots (k + i) 0) i c.args.count _ _ c.args.octets.now image copy c.pages-test.true (c.requires.run i c.pages-test.true) (omega arith) (omega arith)) at what same))

pub pages-preserved : goal.pages-preserved
pages-preserved c =
    let slots = c.args.ahead.now.slots.now in
    let i = c.pages.i in
    let k = c.args.ahead.now.k in
    let old = c.pages.gathered in
    let new = c.gather_page.new.gathered in
    let e : k + i + 1 ≡ k + (i + 1) = omega arith in
    record {
      alone = λ before. subst (λ (n : ℕ). AreRowsSoFar c.args.ahead.now.next n new.places.entries new.rows) e (c.in-Ok.ensures.alone (k + i) (c.pages.invariant.alone before));
      gathered = λ image copy before.
          subst (λ (n : ℕ). AreGatheredOf c.args.ahead.now.next (take n slots) new.places.entries new.rows new.small image) e
          (next_page c.args.ahead.now.next image slots (k + i) old.places.entries new.places.entries old.rows new.rows old.small new.small (omega (arith, c.requires.within, c.pages-test.true)) (c.pages.invariant.gathered image copy before)
          (c.in-Ok.ensures.added image (page_of_run (get_or slots k 0) (get_or slots (k + i) 0) i c.args.count _ _ c.args.octets.now image copy c.pages-test.true (c.requires.run i c.pages-test.true) (omega arith) (omega arith))));
    }

pub returns-clause-alone : goal.returns-clause-alone
returns-clause-alone c = λ before.
    let all = c.pages.gathered in
    subst (λ (n : ℕ). AreRowsSoFar c.args.ahead.now.next (c.args.ahead.now.k + n) all.places.entries all.rows) (let e : c.pages.i ≡ c.args.count = omega arith in e) (c.pages.invariant.alone before)

pub returns-clause-gathered : goal.returns-clause-gathered
returns-clause-gathered c = λ image copy before.
    let all = c.pages.gathered in
    subst (λ (n : ℕ). AreGatheredOf c.args.ahead.now.next (take (c.args.ahead.now.k + n) c.args.ahead.now.slots.now) all.places.entries all.rows all.small image) (let e : c.pages.i ≡ c.args.count = omega arith in e) (c.pages.invariant.gathered image copy before)
