use Rattle.rr_cli.proofs.random_objects.drawn_objects.Goals as goal

pub returns-clause-ok : goal.returns-clause-ok
returns-clause-ok g c =
    record {
      schedule = c.in_ok-schedule.schedule;
      report = c.in_ok-report.report;
      drawn = c.in_ok-schedule.ensures.ok;
      world = c.in_ok-report.ensures.world;
      one_list = c.in_ok-report.ensures.one_list;
      real_time = c.in_ok-report.ensures.real_time;
      clean = c.in_ok-report.ensures.clean;
      told = c.in_ok-text.ensures;
    }
