use Rattle.std.proofs.Common.{map, ◌∙◌}
use Rattle.clap.specs.Words.{app_of, found_of, rows_of}
use Rattle.rr_words.specs.Tasks.{faults_of}
use Rattle.rr_words.proofs.WordLemmas.{asks_by, asks_for_none, found_by, has_fault, lacks_faults, refused_by}
use Rattle.rr_words.proofs.reading.read_words.Goals as goal

pub returns-in-Some-clause-task : goal.returns-in-Some-clause-task
returns-in-Some-clause-task g c =
    let words = map g.S.AsStr.text c.args.words.now in
    let m = c.in_ok-matches.matches in
    c.in_ok-task_by-in-Some.ensures
    ∙ asks_by words m c.in-Some.name.now (rows_of (found_of c.in-Some.below.now)) (found_by (app_of c.in_ok-command_line.field-0) words m c.in_ok-command_line.ensures c.in_ok-matches.ensures.matches)
    c.in-Some.ensures.name c.in-Some.ensures.rows

pub returns-in-Some-clause-faults : goal.returns-in-Some-clause-faults
returns-in-Some-clause-faults g c = lacks_faults (app_of c.in_ok-command_line.field-0) (map g.S.AsStr.text c.args.words.now) c.in_ok-command_line.ensures c.in_ok-matches.ensures.kinds

pub returns-clause-faults : goal.returns-clause-faults
returns-clause-faults g c = lacks_faults (app_of c.in_ok-command_line.field-0) (map g.S.AsStr.text c.args.words.now) c.in_ok-command_line.ensures c.in_ok-matches.ensures.kinds

pub returns-in_err-matches-clause-faults : goal.returns-in_err-matches-clause-faults
returns-in_err-matches-clause-faults g c =
    let words = map g.S.AsStr.text c.args.words.now in
    refused_by (faults_of words) c.from_residual-in_err-matches.result c.in_err-matches.field-0.0 c.from_residual-in_err-matches.ensures.1
    (has_fault (app_of c.in_ok-command_line.field-0) words c.in_err-matches.field-0.0 c.in_ok-command_line.ensures c.in_err-matches.ensures.kinds)

pub returns-clause-task : goal.returns-clause-task
returns-clause-task g c =
    let words = map g.S.AsStr.text c.args.words.now in
    let m = c.in_ok-matches.matches in
    asks_for_none words m (found_by (app_of c.in_ok-command_line.field-0) words m c.in_ok-command_line.ensures c.in_ok-matches.ensures.matches) c.in-None.ensures.rows
