use Rattle.std.proofs.Common.{List, ℕ, ap, sym, subst, ◌∙◌, arith}
use Rattle.std.specs.Io.KnownBytes.{Appends}
use Rattle.std.specs.List.{flat_map}
use Rattle.std.proofs.KnownBytes.{Appends-nil, Appends-trans}
use Rattle.std.proofs.lemmas.List.{take_all}
use Rattle.rr_explain.specs.Faults.{shown_byte}
use Rattle.rr_explain.proofs.PrintLemmas.{printed_so, shown_printable, shown_more}
use Rattle.rr_explain.proofs.fault.print_bytes.Goals as goal

pub returns-then-are_printable : goal.returns-then-are_printable
returns-then-are_printable g c = printed_so c.write_all.result _ _ _ _ (sym (shown_printable c.args.bytes.now (sym c.are_printable.ensures ∙ c.if-are_printable.true))) c.write_all.ensures.bytes

pub loop-byte-init : goal.loop-byte-init
loop-byte-init g c = Appends-nil _

pub loop-byte-preserved : goal.loop-byte-preserved
loop-byte-preserved g c =
    let bytes = c.args.bytes.now in
    subst (λ (t : List ℕ). Appends (g.W.Write.contents c.args.err.now) (g.W.Write.contents c.print_byte.new.err) t) (sym (shown_more bytes c.loop-byte.byte-index (omega arith)))
    (Appends-trans _ _ _ _ _ c.loop-byte.invariant c.in_ok-print_byte.ensures)

pub returns : goal.returns
returns g c =
    let bytes = c.args.bytes.now in
    subst (λ (t : List ℕ). Appends (g.W.Write.contents c.args.err.now) (g.W.Write.contents c.loop-byte.err) t) (ap (flat_map shown_byte) (take_all c.loop-byte.byte-index bytes (omega arith))) c.loop-byte.invariant
