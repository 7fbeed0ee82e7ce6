use Rattle.std.proofs.Common.{rules, ◌≡◌, ◌≤◌, true, false, length, ◌+◌, arith, subst, sym}
use Rattle.std.proofs.lemmas.Result.{err_from_is_err_and}
use Rattle.rr_disk.specs.Asked.{WritesBack, done, block, unread, unwritten}
use Rattle.rr_disk.proofs.held.write_back.Goals as goal

pub returns-in_err-read_at : goal.returns-in_err-read_at
returns-in_err-read_at g c =
    let p = err_from_is_err_and c.from_residual.result c.from_residual.ensures.1 in
    rw p.1 (c.loop-at.invariant.0 false c.read_at.new.self (unread c.loop-at.at c.read_at.new.bytes c.loop-at.file c.read_at.new.self (c.in_err-read_at.ensures)))

pub returns-in_err-write_at : goal.returns-in_err-write_at
returns-in_err-write_at g c =
    let p = err_from_is_err_and c.from_residual-in_err-write_at.result c.from_residual-in_err-write_at.ensures.1 in
    rw p.1 (c.loop-at.invariant.0 false c.write_at.new.self (unwritten c.loop-at.at c.read_at.new.bytes c.loop-at.file c.read_at.new.self c.write_at.new.self (c.in_ok-read_at.ensures) (c.in_err-write_at.ensures)))

pub loop-at-preserved : goal.loop-at-preserved
loop-at-preserved g c =
    let long : length c.read_at.new.bytes ≡ c.min-count.result = search rules in
    let fits : c.loop-at.at + c.min-count.result ≤ c.args.len = search rules in
    let within : c.loop-at.at + length c.read_at.new.bytes ≤ c.args.len = omega (arith, long, fits) in (
      λ whole final rest. c.loop-at.invariant.0 whole final (block whole c.loop-at.at c.read_at.new.bytes c.loop-at.file c.read_at.new.self c.write_at.new.self final within (c.in_ok-read_at.ensures) (c.in_ok-write_at.ensures)
          (subst (λ n. WritesBack g.F.AreaFile.gives c.args.len whole (c.loop-at.at + n) c.write_at.new.self final) (sym long) rest)),
      fits,
    )

pub returns : goal.returns
returns g c = c.loop-at.invariant.0 true c.loop-at.file (done c.loop-at.at c.loop-at.file (omega arith))
