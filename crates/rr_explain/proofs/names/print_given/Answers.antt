use Rattle.std.proofs.Common.{List, ℕ, ap, sym, subst, ◌∙◌, arith}
use Rattle.std.specs.Io.KnownBytes.{Appends}
use Rattle.std.specs.List.{flat_map}
use Rattle.std.proofs.KnownBytes.{Appends-nil, Appends-trans}
use Rattle.std.proofs.lemmas.List.{take_all}
use Rattle.rr_explain.specs.Names.{given_byte}
use Rattle.rr_explain.proofs.PrintLemmas.{printed_so, given_clean, given_more}
use Rattle.rr_explain.proofs.names.print_given.Goals as goal

pub returns-then-are_clean : goal.returns-then-are_clean
returns-then-are_clean g c = printed_so c.write_all.result _ _ _ _ (sym (given_clean c.args.bytes.now (sym c.are_clean.ensures ∙ c.if-are_clean.true))) c.write_all.ensures.bytes

pub loop-byte-init : goal.loop-byte-init
loop-byte-init g c = Appends-nil _

pub loop-byte-preserved : goal.loop-byte-preserved
loop-byte-preserved g c =
    let bytes = c.args.bytes.now in
    subst (λ (t : List ℕ). Appends (g.W.Write.contents c.args.out.now) (g.W.Write.contents c.print_given_byte.new.out) t) (sym (given_more bytes c.loop-byte.byte-index (omega arith)))
    (Appends-trans _ _ _ _ _ c.loop-byte.invariant c.in_ok-print_given_byte.ensures)

pub returns : goal.returns
returns g c =
    let bytes = c.args.bytes.now in
    subst (λ (t : List ℕ). Appends (g.W.Write.contents c.args.out.now) (g.W.Write.contents c.loop-byte.out) t) (ap (flat_map given_byte) (take_all c.loop-byte.byte-index bytes (omega arith))) c.loop-byte.invariant
