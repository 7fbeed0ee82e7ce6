use Rattle.std.proofs.Common.{◌/◌, ◌%◌, ◌<◌, ◌≡◌, ◌∙◌, length, get_or, arith, eq-eqb, ne_eqb}
use Rattle.std.specs.Int.{w8}
use Rattle.std.proofs.lemmas.Grind.{get_or_default_zero}
use Rattle.std.proofs.lemmas.Nat.Bits.{bit_at_set_same, bit_at_set_other, bit_at_clear_same, bit_at_clear_other}
use Rattle.rr_disk.proofs.Ranges.{bit_here, bit_elsewhere}
use Rattle.rr_disk.proofs.loose.put_bit.Goals as goal
use Rattle.rr_disk.proofs.loose.put_bit.Goals.{then-on, else-on}

pub returns-clause-here : goal.returns-clause-here
returns-clause-here c =
    let bits = c.args.bits.now.items in
    let k = c.args.k in
    let byte = c.index-byte.result.now in
    let within : k / 8 < length bits = omega (arith, c.requires, c.args.bits.now.ok) in
    let low : k % 8 < 8 = omega arith in
    elim c.if-on.branch [
      | then-on w ↦ rw (w.t-15-is, w.if-on.true) (bit_here bits k within _ ∙ eq-eqb _ 1 (bit_at_set_same w8 byte (k % 8) low))
      | else-on w ↦ rw (w.t-15-is, w.if-on.false) (bit_here bits k within _ ∙ ne_eqb _ 1 (omega (arith, bit_at_clear_same w8 byte (k % 8) low)))
    ]

pub returns-clause-elsewhere : goal.returns-clause-elsewhere
returns-clause-elsewhere c j apart =
    let bits = c.args.bits.now.items in
    let k = c.args.k in
    let byte = c.index-byte.result.now in
    let within : k / 8 < length bits = omega (arith, c.requires, c.args.bits.now.ok) in
    let low : k % 8 < 8 = omega arith in
    let read : byte ≡ get_or bits (k / 8) 0 = c.index-byte.ensures ∙ get_or_default_zero bits (k / 8) byte within in
    elim c.if-on.branch [
      | then-on w ↦ rw w.t-15-is (bit_elsewhere bits k within _ (λ i small differs. rw read (bit_at_set_other w8 (get_or bits (k / 8) 0) (k % 8) low i differs)) j apart)
      | else-on w ↦ rw w.t-15-is (bit_elsewhere bits k within _ (λ i small differs. rw read (bit_at_clear_other w8 (get_or bits (k / 8) 0) (k % 8) low i small differs)) j apart)
    ]
