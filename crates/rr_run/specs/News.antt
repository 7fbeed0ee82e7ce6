-- What was told of a watch.
use Rattle.std.specs.Prelude.{List}
use Rattle.std.specs.List.{flat_map}
use Rattle.rr_window.specs.declared.change.Change.{Change}
use Rattle.rr_run.specs.declared.news.News.{News}

-- the changes that news have told, one after another
abbrev pub told_by : List News → List Change
told_by news = flat_map (λ n. n.changes.items) news
