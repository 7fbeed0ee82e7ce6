use Rattle.std.proofs.Common.{rules, ◌≡◌, ◌*◌, vec_len, inl, inr, ⊎_elim, ℕ, ◌+◌, ◌<◌, ◌≤◌, ◌++◌, List, length, take, drop, All, arith, ◌∙◌, ap, refl, sym, subst}
use Rattle.std.proofs.lemmas.List.{length-append, length-take, length-drop}
use Rattle.std.proofs.lemmas.List.Elements.{All-from_get_or, All-append, All-take, All-drop}
use Rattle.rr_disk.specs.Areas.{Extent, written, loosened}
use Rattle.rr_disk.specs.Strips.{cells_from, is_loose}
use Rattle.rr_disk.proofs.Torn.{loosened_past, torn_to}
use Rattle.rr_disk.proofs.Strips.{same_extent, length-cells, cells_written, cells_loosened}
use Rattle.rr_disk.proofs.strip.Strip.write.Goals as goal

pub returns-then-at-len-clause-err : goal.returns-then-at-len-clause-err
returns-then-at-len-clause-err c =
    let old = c.args.self.now in
    let bytes = c.self.inside.bytes.items in
    let here : length old.cells ≡ length bytes = ap (λ (e : Extent). length e.cells) (sym c.self.view_is) ∙ length-cells (is_loose c.self.inside.loose) 0 bytes in
    let past : length old.cells < c.args.at = omega (arith, here, c.self.inside.bytes.ok) in
    (omega (arith, past), loosened_past c.args.at (length c.args.bytes.now) old (omega (arith, past)))

pub returns-then-at-len-clause-torn : goal.returns-then-at-len-clause-torn
returns-then-at-len-clause-torn c =
    let old = c.args.self.now in
    let bytes = c.self.inside.bytes.items in
    let here : length old.cells ≡ length bytes = ap (λ (e : Extent). length e.cells) (sym c.self.view_is) ∙ length-cells (is_loose c.self.inside.loose) 0 bytes in
    let past : length old.cells < c.args.at = omega (arith, here, c.self.inside.bytes.ok) in
    torn_to c.args.at (length c.args.bytes.now) old old (omega (arith, past)) (loosened_past c.args.at (length c.args.bytes.now) old (omega (arith, past)))

pub returns-then-is_err-clause-err : goal.returns-then-is_err-clause-err
returns-then-is_err-clause-err c =
    let old = c.args.self.now in
    let at = c.args.at in
    let n = length c.args.bytes.now in
    let f = is_loose c.self.inside.loose in
    let g = is_loose c.spread.new.self in
    let bytes = c.self.inside.bytes.items in
    let here : length old.cells ≡ length bytes = ap (λ (e : Extent). length e.cells) (sym c.self.view_is) ∙ length-cells f 0 bytes in
    let long : c.len-len.result ≡ length bytes = omega (arith, c.self.inside.bytes.ok) in
    let le : at ≤ length bytes = omega (arith, long) in
    let grown : 0 < c.saturating_sub-growth.result = search rules in
    let past : length bytes < at + n = omega (arith, long, grown) in
    let cells =
    cells_loosened f g at n bytes le past (λ j from to. c.spread.ensures.inside j from (omega (arith, long)))
    (λ j apart. c.spread.ensures.outside j (⊎_elim (λ lt. inl lt) (λ more. inr (omega (arith, long))) apart) ∙ c.make_room.ensures.same j) in (
      omega (arith, here, past),
      same_extent (cells_from g 0 c.make_room.new.bytes.items) (loosened at n (record { cells = cells_from f 0 bytes; safe = c.self.inside.safe })).cells c.self.inside.safe c.self.inside.safe (ap (cells_from g 0) c.make_room.ensures.items ∙ cells) refl
          ∙ ap (loosened at n) c.self.view_is,
    )

pub returns-then-is_err-clause-torn : goal.returns-then-is_err-clause-torn
returns-then-is_err-clause-torn c =
    let err = returns-then-is_err-clause-err c in
    torn_to c.args.at (length c.args.bytes.now) c.args.self.now _ err.0 err.1

pub invariant_of-self-2 : goal.invariant_of-self-2
invariant_of-self-2 c =
    let at = c.args.at in
    let bytes = c.args.bytes.now in
    let n = length bytes in
    let items = c.make_room.new.bytes.items in
    let same : items ≡ c.self.inside.bytes.items = c.make_room.ensures.items in
    let was : length items ≡ length c.self.inside.bytes.items = ap length same in
    let fits : All (λ b. b < 256) items = subst (λ (zs : List ℕ). All (λ b. b < 256) zs) (sym same) c.self.invariant.bytes_fit in
    let new : length c.write_over.new.row.items ≡ length (take at items) + n + length (drop (at + n) items) =
    ap length c.write_over.ensures.items ∙ length-append (take at items ++ bytes) (drop (at + n) items) ∙ ap (λ m. m + length (drop (at + n) items)) (length-append (take at items) bytes) in
    let bits : vec_len c.self.inside.bytes + c.saturating_sub-growth.result ≤ 8 * length c.make_room.new.loose.bits.items = search rules in
    let front = length-take at items in
    let back = length-drop (at + n) items in record {
      safe_there = omega (arith, new, front, back, was, c.self.invariant.safe_there, c.self.inside.bytes.ok);
      ranged = c.spread-2.ensures.ranged;
      high_there = ⊎_elim (λ (kept : c.spread-2.new.self.high ≡ c.make_room.new.loose.high). omega (arith, kept, new, front, back, was, c.make_room.ensures.high, c.self.invariant.high_there, c.self.inside.bytes.ok)) (λ at_end. omega (arith, at_end, new, front, back, was, c.self.inside.bytes.ok)) c.spread-2.ensures.high;
      room = omega (arith, bits, new, front, back, was, c.self.invariant.room, c.spread-2.ensures.bits, c.self.inside.bytes.ok);
      bytes_fit = subst (λ (zs : List ℕ). All (λ b. b < 256) zs) (sym c.write_over.ensures.items)
          (All-append (λ b. b < 256) (take at items ++ bytes) (drop (at + n) items)
          (All-append (λ b. b < 256) (take at items) bytes (All-take (λ b. b < 256) at items fits) (All-from_get_or (λ b. b < 256) bytes 0 (λ i lt. omega (arith, c.type_inv.bytes i))))
          (All-drop (λ b. b < 256) (at + n) items fits));
    }

pub returns-clause-ok : goal.returns-clause-ok
returns-clause-ok c =
    let old = c.args.self.now in
    let at = c.args.at in
    let bytes = c.args.bytes.now in
    let n = length bytes in
    let f = is_loose c.self.inside.loose in
    let g = is_loose c.spread-2.new.self in
    let items = c.self.inside.bytes.items in
    let here : length old.cells ≡ length items = ap (λ (e : Extent). length e.cells) (sym c.self.view_is) ∙ length-cells f 0 items in
    let long : c.len-len.result ≡ length items = omega (arith, c.self.inside.bytes.ok) in
    let le : at ≤ length items = omega (arith, long) in
    let cells =
    cells_written f g at items bytes le (λ j from to. c.spread-2.ensures.inside j from (omega arith))
    (λ j apart. c.spread-2.ensures.outside j (⊎_elim (λ lt. inl lt) (λ more. inr (omega arith)) apart) ∙ c.make_room.ensures.same j) in (
      omega (arith, here, le),
      same_extent (cells_from g 0 c.write_over.new.row.items) (written at bytes (record { cells = cells_from f 0 items; safe = c.self.inside.safe })).cells c.self.inside.safe c.self.inside.safe
          (ap (cells_from g 0) (c.write_over.ensures.items ∙ ap (λ (zs : List ℕ). take at zs ++ bytes ++ drop (at + n) zs) c.make_room.ensures.items) ∙ cells) refl
          ∙ ap (written at bytes) c.self.view_is,
    )
