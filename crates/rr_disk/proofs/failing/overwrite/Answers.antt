use Rattle.std.proofs.Common.{◌≡◌, ◌+◌, List, ℕ, [], ◌∷◌, true, false, arith, ◌∙◌, sym, subst}
use Rattle.std.specs.Result.{is_err}
use Rattle.rr_disk.proofs.OneByOne.{one_more, one_stop, torn_again, torn_either}
use Rattle.rr_disk.proofs.failing.overwrite.Goals as goal

pub returns-then-is_err-clause-exact : goal.returns-then-is_err-clause-exact
returns-then-is_err-clause-exact g c =
    let k = c.loop-k.k in
    let gives = g.D.Disk.write_gives in
    let gave = subst (λ (b : ℕ). gives c.loop-k.disk c.args.area (c.args.at + k) (b ∷ []) c.write_at.result c.write_at.new.self) c.fill_byte-byte.ensures c.write_at.ensures.exact in
    let failed : is_err c.write_at.result ≡ true = sym c.is_err.ensures.value ∙ c.if-is_err.true in
    c.loop-k.invariant.0 c.write_at.new.self (one_stop gives c.args.area c.args.fill.now c.args.at k c.args.count c.loop-k.disk c.write_at.new.self c.write_at.result (omega arith) failed gave)

pub returns-then-is_err-clause-torn : goal.returns-then-is_err-clause-torn
returns-then-is_err-clause-torn g c tells start torn =
    let k = c.loop-k.k in
    let bytes : List ℕ = c.fill_byte-byte.result ∷ [] in
    let still = c.loop-k.invariant.1 tells in
    let one = torn_either c.args.area (c.args.at + k) bytes (g.D.Disk.areas c.loop-k.disk) (g.D.Disk.areas c.write_at.new.self) c.write_at.result (c.write_at.ensures.ok still) (c.write_at.ensures.err still) in
    torn_again c.args.area c.args.at c.args.count k start (g.D.Disk.areas c.loop-k.disk) (g.D.Disk.areas c.write_at.new.self) (omega arith) (c.loop-k.invariant.2 tells start torn) one

pub loop-k-preserved : goal.loop-k-preserved
loop-k-preserved g c =
    let k = c.loop-k.k in
    let gives = g.D.Disk.write_gives in
    let bytes : List ℕ = c.fill_byte-byte.result ∷ [] in
    let gave = subst (λ (b : ℕ). gives c.loop-k.disk c.args.area (c.args.at + k) (b ∷ []) c.write_at.result c.write_at.new.self) c.fill_byte-byte.ensures c.write_at.ensures.exact in
    let fine : is_err c.write_at.result ≡ false = sym c.is_err.ensures.value ∙ c.if-is_err.false in (
      λ final rest. c.loop-k.invariant.0 final (one_more gives c.args.area c.args.fill.now c.args.at k c.args.count c.loop-k.disk c.write_at.new.self final c.write_at.result (omega arith) fine gave rest),
      λ tells. c.write_at.ensures.tells (c.loop-k.invariant.1 tells),
      λ tells start torn. torn_again c.args.area c.args.at c.args.count k start (g.D.Disk.areas c.loop-k.disk) (g.D.Disk.areas c.write_at.new.self) (omega arith) (c.loop-k.invariant.2 tells start torn)
          (torn_either c.args.area (c.args.at + k) bytes (g.D.Disk.areas c.loop-k.disk) (g.D.Disk.areas c.write_at.new.self) c.write_at.result (c.write_at.ensures.ok (c.loop-k.invariant.1 tells)) (c.write_at.ensures.err (c.loop-k.invariant.1 tells))),
    )
