use Rattle.std.proofs.Common.{rules, ◌≡◌, ◌∙◌, true, false, is_ok, sym, subst}
use Rattle.std.specs.Result.{is_err}
use Rattle.rr_disk.specs.Files.{Held, HeldSync}
use Rattle.rr_disk.proofs.Syncs.{stops, is_behind}
use Rattle.rr_disk.proofs.held.HeldArea.sync_behind.Goals as goal

pub returns-then-is_err : goal.returns-then-is_err
returns-then-is_err g c =
    let gives = g.F.AreaFile.gives in
    let back = c.write_back-written.result in
    let old : Held g.row.F.Denot = record { file = c.self.inside.file; len = c.self.inside.len; unsynced = c.self.inside.unsynced } in
    let here : old ≡ c.args.self.now = search rules in
    let failed : is_err back ≡ true = sym c.is_err.ensures.value ∙ c.if-is_err.true in
    subst (λ (o : Held g.row.F.Denot). HeldSync gives true (is_ok back) o (record old { file = c.write_back-written.new.file })) here
    (stops gives old c.write_back-written.new.file back failed c.write_back-written.ensures)

pub returns : goal.returns
returns g c =
    let gives = g.F.AreaFile.gives in
    let back = c.write_back-written.result in
    let old : Held g.row.F.Denot = record { file = c.self.inside.file; len = c.self.inside.len; unsynced = c.self.inside.unsynced } in
    let here : old ≡ c.args.self.now = search rules in
    let fine : is_err back ≡ false = sym c.is_err.ensures.value ∙ c.if-is_err.false in
    subst (λ (o : Held g.row.F.Denot). HeldSync gives true (is_ok c.sync_file.result) o c.sync_file.new.self) here
    (is_behind gives old c.sync_file.new.self c.write_back-written.new.file back c.sync_file.result fine c.write_back-written.ensures c.sync_file.ensures.asked c.sync_file.ensures.ok c.sync_file.ensures.err)
