use Rattle.rr_folders.proofs.NumberLaws.{cut_at_write, cut_at_sync, cut_at_rename, cut_at_folder, ends_well}
use Rattle.rr_folders.proofs.requests.replace.Goals as goal

pub returns-in_err-write_fresh-clause-err : goal.returns-in_err-write_fresh-clause-err
returns-in_err-write_fresh-clause-err g c bad =
    cut_at_write g.N.NumberFile.gives c.args.text.now c.args.file.now c.write_fresh.new.self c.in_err-write_fresh.ensures

pub returns-in_err-sync_fresh-clause-err : goal.returns-in_err-sync_fresh-clause-err
returns-in_err-sync_fresh-clause-err g c bad =
    cut_at_sync g.N.NumberFile.gives c.args.text.now c.args.file.now c.write_fresh.new.self c.sync_fresh.new.self
    c.in_ok-write_fresh.ensures c.in_err-sync_fresh.ensures

pub returns-in_err-rename_fresh-clause-err : goal.returns-in_err-rename_fresh-clause-err
returns-in_err-rename_fresh-clause-err g c bad =
    cut_at_rename g.N.NumberFile.gives c.args.text.now c.args.file.now c.write_fresh.new.self c.sync_fresh.new.self c.rename_fresh.new.self
    c.in_ok-write_fresh.ensures c.in_ok-sync_fresh.ensures c.in_err-rename_fresh.ensures

pub returns-clause-ok : goal.returns-clause-ok
returns-clause-ok g c ok =
    ends_well g.N.NumberFile.gives c.args.text.now c.sync_folder.result c.args.file.now c.write_fresh.new.self c.sync_fresh.new.self c.rename_fresh.new.self
    c.sync_folder.new.self c.in_ok-write_fresh.ensures c.in_ok-sync_fresh.ensures c.in_ok-rename_fresh.ensures c.sync_folder.ensures ok

pub returns-clause-err : goal.returns-clause-err
returns-clause-err g c bad =
    cut_at_folder g.N.NumberFile.gives c.args.text.now c.sync_folder.result c.args.file.now c.write_fresh.new.self c.sync_fresh.new.self c.rename_fresh.new.self
    c.sync_folder.new.self c.in_ok-write_fresh.ensures c.in_ok-sync_fresh.ensures c.in_ok-rename_fresh.ensures c.sync_folder.ensures bad
