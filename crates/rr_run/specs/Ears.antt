-- What a shell has heard of a watch.
use Rattle.std.specs.Prelude.{List, [], Option, None, Some}
use Rattle.rtrb.specs.Ring.{received}
use Rattle.rr_window.specs.declared.change.Change.{Change}
use Rattle.rr_run.specs.declared.news.Ear.{Ear}
use Rattle.rr_run.specs.News.{told_by}

-- the changes that it has heard, where it watches
abbrev pub heard_by : Option Ear → List Change
heard_by None = []
heard_by (Some ear) = told_by (received ear.news)
