use Rattle.std.proofs.Common.{◌+◌, ◌*◌, ◌++◌, ◌∙◌, ap, arith, inr, length}
use Rattle.page_format.specs.Written.{list_octets, root_octets}
use Rattle.page_store.specs.inner.Laying.{IsLeft}
use Rattle.page_store.proofs.PageRuns.{misses_root}
use Rattle.page_format.proofs.Spelled.{length_list, length_root}
use Rattle.pss_disk.specs.Octets.{range_of}
use Rattle.pss_disk.proofs.Stretches.{stretch_write}
use Rattle.page_store.proofs.laying.write_root.Goals as goal

pub write_at-requires : goal.write_at-requires
write_at-requires g c =
    let is = c.as_slice.ensures ∙ ap (λ b. b.octets) c.put_root.ensures.put ∙ ap (λ b. b.octets ++ root_octets c.args.root.now) c.clear.ensures in
    record { within = omega (arith, ap length is, length_root c.args.root.now, c.requires.area, c.requires.shape) }

pub returns-in_err-write_at-clause-stretch : goal.returns-in_err-write_at-clause-stretch
returns-in_err-write_at-clause-stretch g c = λ pages content first before s.
    let root = c.args.root.now in
    let at = root.area * 131072 + 1 in
    let out = c.as_slice.result.now in
    let is = c.as_slice.ensures ∙ ap (λ b. b.octets) c.put_root.ensures.put ∙ ap (λ b. b.octets ++ root_octets root) c.clear.ensures in
    stretch_write (IsLeft root.area pages) content first before (g.W.Station.history c.args.w.now) (g.W.Station.history c.write_at.new.self) (g.W.Station.now c.args.w.now) s (range_of at out) (g.W.Station.now c.write_at.new.self)
    (misses_root root.area at pages out (omega arith) (omega (arith, ap length is, length_root root, c.requires.shape))) c.write_at.ensures.time c.in_err-write_at.ensures.maybe

pub write_at-requires-2 : goal.write_at-requires-2
write_at-requires-2 g c =
    let is = c.as_slice-3.ensures ∙ ap (λ b. b.octets) c.put_slots.ensures ∙ ap (λ b. b.octets ++ list_octets c.as_slice-2.result.now) c.clear-2.ensures ∙ ap list_octets c.as_slice-2.ensures in
    record { within = omega (arith, ap length is, length_list c.args.root.now.slots, c.requires.area, c.requires.slots) }

pub returns-in_err-write_at-2-clause-stretch : goal.returns-in_err-write_at-2-clause-stretch
returns-in_err-write_at-2-clause-stretch g c = λ pages content first before s.
    let root = c.args.root.now in
    let one = c.as_slice.result.now in
    let two = c.as_slice-3.result.now in
    let is = c.as_slice.ensures ∙ ap (λ b. b.octets) c.put_root.ensures.put ∙ ap (λ b. b.octets ++ root_octets root) c.clear.ensures in
    let also = c.as_slice-3.ensures ∙ ap (λ b. b.octets) c.put_slots.ensures ∙ ap (λ b. b.octets ++ list_octets c.as_slice-2.result.now) c.clear-2.ensures ∙ ap list_octets c.as_slice-2.ensures in
    let s1 = stretch_write (IsLeft root.area pages) content first before (g.W.Station.history c.args.w.now) (g.W.Station.history c.write_at.new.self) (g.W.Station.now c.args.w.now) s (range_of (root.area * 131072 + 1) one) (g.W.Station.now c.write_at.new.self)
    (misses_root root.area (root.area * 131072 + 1) pages one (omega arith) (omega (arith, ap length is, length_root root, c.requires.shape))) c.write_at.ensures.time (inr c.in_ok-write_at.ensures.now) in
    stretch_write (IsLeft root.area pages) content first before (g.W.Station.history c.write_at.new.self) (g.W.Station.history c.write_at-2.new.self) (g.W.Station.now c.write_at.new.self) s1 (range_of (root.area * 131072 + 65568) two) (g.W.Station.now c.write_at-2.new.self)
    (misses_root root.area (root.area * 131072 + 65568) pages two (omega arith) (omega (arith, ap length also, length_list root.slots, c.requires.slots))) c.write_at-2.ensures.time c.in_err-write_at-2.ensures.maybe

pub returns-clause-stretch : goal.returns-clause-stretch
returns-clause-stretch g c = λ pages content first before s.
    let root = c.args.root.now in
    let one = c.as_slice.result.now in
    let two = c.as_slice-3.result.now in
    let is = c.as_slice.ensures ∙ ap (λ b. b.octets) c.put_root.ensures.put ∙ ap (λ b. b.octets ++ root_octets root) c.clear.ensures in
    let also = c.as_slice-3.ensures ∙ ap (λ b. b.octets) c.put_slots.ensures ∙ ap (λ b. b.octets ++ list_octets c.as_slice-2.result.now) c.clear-2.ensures ∙ ap list_octets c.as_slice-2.ensures in
    let s1 = stretch_write (IsLeft root.area pages) content first before (g.W.Station.history c.args.w.now) (g.W.Station.history c.write_at.new.self) (g.W.Station.now c.args.w.now) s (range_of (root.area * 131072 + 1) one) (g.W.Station.now c.write_at.new.self)
    (misses_root root.area (root.area * 131072 + 1) pages one (omega arith) (omega (arith, ap length is, length_root root, c.requires.shape))) c.write_at.ensures.time (inr c.in_ok-write_at.ensures.now) in
    stretch_write (IsLeft root.area pages) content first before (g.W.Station.history c.write_at.new.self) (g.W.Station.history c.write_at-2.new.self) (g.W.Station.now c.write_at.new.self) s1 (range_of (root.area * 131072 + 65568) two) (g.W.Station.now c.write_at-2.new.self)
    (misses_root root.area (root.area * 131072 + 65568) pages two (omega arith) (omega (arith, ap length also, length_list root.slots, c.requires.slots))) c.write_at-2.ensures.time (inr c.in_ok-write_at-2.ensures.now)
